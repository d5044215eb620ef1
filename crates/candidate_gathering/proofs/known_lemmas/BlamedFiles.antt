-- A slot that is blamed, with the file of the layout in which it lies.
use Rattle.std.proofs.Common.{◌≡◌, ap, sym, ◌∙◌, refl, subst, ℕ, zero, suc, ◌+◌, ◌-◌, ◌<◌, ◌≤◌, Bool, true, false, not, ◌||◌, inl, inr, List, [], ◌∷◌, ◌++◌, drop, slice_get, Some, None, is_some, arith}
use Rattle.std.specs.Prelude.{◌⊎◌, ◌==◌, if◌then◌else◌, Contains}
use Rattle.std.specs.List.{list_any}
use Rattle.std.proofs.lemmas.Bool.{eq-eqb}
use Rattle.std.proofs.lemmas.List.FromFn.{length-range_with_len, get_or-range_with_len}
use Rattle.std.proofs.lemmas.List.Elements.{Contains-append_cases}
use Rattle.std.proofs.lemmas.Option.{slice_get_within}
use Rattle.ghost_model.specs.core.Channel.{Catalog}
use Rattle.ghost_model.specs.core.Query.{Query}
use Rattle.ghost_model.specs.laws.LayoutLaws.{FilesLieAsSummed, LieAsSummed}
use Rattle.ghost_model.specs.forms.Layout.{above_of, count_of, descendants_of, levels_of, File, Cells, Subtrees, IndexHeader, IndexDirectory, IndexLevel, IdDirectory, IdLevel, subtree_table}
use Rattle.ghost_model.specs.forms.Runs.{Run, found_in, number_in, page_of, record_at, slot_of}
use Rattle.ghost_model.specs.forms.Slots.{IsDamagedIn, are_rows}
use Rattle.ghost_base.specs.declared.runs.ListRef.{ListRef}
use Rattle.ghost_base.specs.Runs.{run_of}
use Rattle.flash_pages.specs.declared.fault.PageFault.TheVariants.{Damaged}
use Rattle.climbing_index.specs.declared.directory.Directory.{Directory}
use Rattle.climbing_index.specs.declared.index.ClimbingIndex.{ClimbingIndex}
use Rattle.climbing_index.specs.declared.index.IdIndex.{IdIndex}
use Rattle.climbing_index.specs.declared.search.Group.{Group}
use Rattle.climbing_index.specs.Directories.{HasDamage, entry_stands}
use Rattle.climbing_index.specs.Searches.{FailsIn, header_count, header_stands, rows_of}
use Rattle.climbing_index.specs.Laws.{BrokenCodesAreDamaged}
use Rattle.climbing_index.proofs.HeldIndexes.{same_entry, same_id_entry}
use Rattle.hidden_columns.specs.declared.file.ColumnFile.{ColumnFile}
use Rattle.hidden_columns.specs.Files as columns
use Rattle.hidden_columns.specs.Laws.{FilesAreOfColumns}
use Rattle.subtree_keys.specs.Tables as subtrees
use Rattle.subtree_keys.specs.Tables.{identifiers}
use Rattle.subtree_keys.specs.Laws.{TablesAreOfSlots}
use Rattle.spill_pass.specs.Lists.{OutOfRowsIn}
use Rattle.entry_lists.specs.declared.entries.EntryLists.{EntryLists}
use Rattle.entry_lists.specs.declared.replies.ReplyLists.{ReplyLists}
use Rattle.entry_lists.specs.Entries.{IsListOfEntry, entries_in}
use Rattle.entry_lists.specs.Entries as of_entries
use Rattle.entry_lists.specs.Replied as of_replies
use Rattle.entry_lists.specs.Laws.{rows_at}
use Rattle.entry_lists.proofs.DamagedLists.{code_damage, directory_damage, id_code_is_damaged}
use Rattle.candidate_rows.specs.declared.plan.SubtreeFile.{SubtreeFile}
use Rattle.candidate_rows.specs.Plans.{IsFile, IsSubtreeFile}
use Rattle.candidate_rows.specs.Laws.{wants_below}
use Rattle.flash_layout.specs.Ranges.{IsRowOf}
use Rattle.condition_lists.specs.Terms.{IsIndexAt, IsIdIndexAt}
use Rattle.candidate_gathering.specs.searching.Begun.{AreListsAt, AreRepliesAt, EndsBy}
use Rattle.candidate_gathering.proofs.searching_lemmas.Places.{indexed, indexed_above, some_above, within_above}
use Rattle.candidate_gathering.specs.known.Known.{IsLevelOf, IsListFile, IsReadByIndexes, compares, needs_value, seeks_ids}

-- a damaged slot of a file that is read
pub record IsDamagedFor (page : ℕ → List ℕ) (cat : Catalog) (read : File → Type 0) (number slot found : ℕ) : Type 0 where
  pub file : File
  pub place : ℕ
  pub read_for : read file
  pub damaged : IsDamagedIn cat page file place number slot found

-- an entry of one of two groups is one of so many
in_group : (group : Group) (entries entry : ℕ) → EndsBy entries group → Contains (entries_in group) entry → entry < entries
in_group group entries entry within has =
    let low : has.0 < group.count = omega (arith, has.1, length-range_with_len group.first group.count) in
    omega (arith, within, low, get_or-range_with_len group.first group.count has.0 entry low, has.2)

comes_within : (first second : Group) (entries entry : ℕ) → EndsBy entries first → EndsBy entries second → Contains (entries_in first ++ entries_in second) entry → entry < entries
comes_within first second entries entry low high comes =
    elim (Contains-append_cases (entries_in first) (entries_in second) entry comes) [
      | inl one ↦ in_group first entries entry low one
      | inr one ↦ in_group second entries entry high one
    ]

-- so is one before the end of one of the groups that lists have
before_ends : (lists : EntryLists) (first second : Group) (entries entry : ℕ) → lists.first ≡ first → lists.second ≡ second → EndsBy entries first → EndsBy entries second
    → (entry < lists.first.first + lists.first.count) ⊎ (entry < lists.second.first + lists.second.count) → entry < entries
before_ends lists first second entries entry first_is second_is low high before =
    let one = ap (λ (g : Group). g.first + g.count) first_is in
    let two = ap (λ (g : Group). g.first + g.count) second_is in
    elim before [
      | inl less ↦ omega (arith, one, low, less)
      | inr less ↦ omega (arith, two, high, less)
    ]

none_spelled : (t : Bool) (rows : List ℕ) → (if t then Some rows else None) ≡ None → t ≡ false
none_spelled true rows e = absurd (cc e)
none_spelled false rows e = refl

-- a table of the levels but the first is one of those above
pub above_first : (levels : List ℕ) (level top : ℕ) → 1 ≤ level → slice_get levels level ≡ Some top → list_any (λ above. above == top) (drop 1 levels) ≡ true
above_first levels zero top low e = absurd (omega (arith, low))
above_first [] (suc level) top low e = absurd (cc (e))
above_first (first ∷ later) (suc level) top low e = any_at later level e
  where
    any_at : (tables : List ℕ) (at : ℕ) → slice_get tables at ≡ Some top → list_any (λ above. above == top) tables ≡ true
    any_at [] at e = absurd (cc (e))
    any_at (table ∷ tables) zero e =
        let same : table ≡ top = cc in
        ap (λ b. b || list_any (λ above. above == top) tables) (eq-eqb table top same)
    any_at (table ∷ tables) (suc at) e = ap (λ b. (table == top) || b) (any_at tables at e) ∙ either (table == top)
      where
        either : (b : Bool) → (b || true) ≡ true
        either true = refl
        either false = refl

module _ (summed : FilesLieAsSummed) (broken : BrokenCodesAreDamaged) (page : ℕ → List ℕ) (cat : Catalog) (asked : Query) (top : ℕ) where
  abbrev laid : LieAsSummed cat
  laid = summed cat

  -- ---- the index of a column
  module _ (table column : ℕ) (index : ClimbingIndex) (level : ℕ) (at : IsIndexAt cat top table column index level) (compared : compares cat.schema asked table column ≡ true) where
    header_is : (number slot found : ℕ) → HasDamage page (run_of index.header) (header_stands (rows_of index)) 0 number slot found → IsDamagedFor page cat (IsListFile cat asked top) number slot found
    header_is number slot found bad =
        let is = at.index_is in
        record {
          file = IndexHeader table column;
          place = 0;
          read_for = compared;
          damaged = record {
            has = at.hidden;
            within = omega arith;
            page_is = bad.page_is ∙ ap (λ r. page_of r 0) is.header_is;
            slot_is = bad.slot_is ∙ ap (λ r. slot_of r 0) is.header_is;
            damaged = inl ((λ i. header_stands (sym is.run_is i).count (record_at page (sym is.header_is i) 0)) ∙ bad.wrong);
            found_is = bad.found_is ∙ ap (λ r. found_in (record_at page r 0)) is.header_is;
          };
        }

    entry_is : (entry : ℕ) → entry < rows_of index → entry < header_count page index → (number slot found : ℕ)
        → HasDamage page (run_of index.directory.run) (entry_stands index.directory) entry number slot found → IsDamagedFor page cat (IsListFile cat asked top) number slot found
    entry_is entry low room number slot found bad =
        let is = at.index_is in
        let rows : rows_of index ≡ count_of cat table = ap (λ (r : Run). r.count) is.run_is in
        let count = ap (λ r. number_in (record_at page r 0) 0) is.header_is in
        record {
          file = IndexDirectory table column;
          place = entry;
          read_for = compared;
          damaged = record {
            has = at.hidden;
            within = omega (arith, rows, count, low, room);
            page_is = bad.page_is ∙ ap (λ r. page_of r entry) is.run_is;
            slot_is = bad.slot_is ∙ ap (λ r. slot_of r entry) is.run_is;
            damaged =
                inl
                (sym (ap (λ r. entry_stands index.directory (record_at page r entry)) is.run_is
                ∙ same_entry cat laid table column at.hidden index is (record_at page _ entry))
                ∙ bad.wrong);
            found_is = bad.found_is ∙ ap (λ r. found_in (record_at page r entry)) is.run_is;
          };
        }

    pub search_is : (number slot found : ℕ) → FailsIn page index (Damaged number slot found) → IsDamagedFor page cat (IsListFile cat asked top) number slot found
    search_is number slot found fails =
        elim fails [
          | inl bad ↦ header_is number slot found bad
          | inr bad ↦ entry_is bad.place bad.room bad.within number slot found bad.damage
        ]

    -- reading the list of an entry gets to a code that is broken
    code_is : (directory : Directory) (other : ℕ) → directory ≡ index.directory → other ≡ level → (entry : ℕ) → entry < rows_of index → entry < header_count page index
        → (list : ListRef) → IsListOfEntry page directory other entry list
        → (number slot found : ℕ) → OutOfRowsIn page list (count_of cat top) number slot found → IsDamagedFor page cat (IsListFile cat asked top) number slot found
    code_is directory other same here entry low room list of number slot found out =
        let levels = levels_of cat.schema table in
        let near = slice_get_within levels level top at.level_is in
        let rows : rows_at cat levels level ≡ count_of cat top = ap (count_of cat) (indexed levels level top at.level_is) in
        let L : ℕ → Type 0 = λ l. IsListOfEntry page directory l entry list in
        let O : ℕ → Type 0 = λ n. OutOfRowsIn page list n number slot found in
        let own : OutOfRowsIn page list (rows_at cat levels level) number slot found = subst O (sym rows) out in
        record {
          file = IndexLevel table column level;
          place = own.place;
          read_for = (compared, at.level_is);
          damaged = code_damage broken page cat table column at.hidden index at.index_is directory same level near entry low room list (subst L here of) number slot found own;
        }

    pub entries_is : (first second : Group) → EndsBy (rows_of index) first → EndsBy (rows_of index) second → EndsBy (header_count page index) first → EndsBy (header_count page index) second
        → (lists : EntryLists) → AreListsAt index.directory level first second (count_of cat top) lists
        → (number slot found : ℕ) → of_entries.IsDamaged page (count_of cat top) lists number slot found → IsDamagedFor page cat (IsListFile cat asked top) number slot found
    entries_is first second a b d e lists are number slot found damaged =
        elim damaged [
          | inl one ↦ (
              let G : Group → Type 0 = λ g. Contains (entries_in g ++ entries_in lists.second) one.entry in
              let H : Group → Type 0 = λ g. Contains (entries_in first ++ entries_in g) one.entry in
              let comes = subst H are.second_is (subst G are.first_is one.comes) in
              entry_is one.entry (comes_within first second (rows_of index) one.entry a b comes) (comes_within first second (header_count page index) one.entry d e comes)
              number slot found (directory_damage page lists.directory index.directory are.directory_is one.entry number slot found one.damage))
          | inr code ↦ code_is lists.directory lists.level are.directory_is are.level_is code.may.entry
              (before_ends lists first second (rows_of index) code.may.entry are.first_is are.second_is a b code.may.before)
              (before_ends lists first second (header_count page index) code.may.entry are.first_is are.second_is d e code.may.before)
              code.list code.may.is number slot found code.out
        ]

  -- ---- the index of identifiers
  module _ (table : ℕ) (index : IdIndex) (level : ℕ) (at : IsIdIndexAt cat top table index level) (sought : seeks_ids cat.schema asked table ≡ true) where
    id_entry_is : (entry : ℕ) → entry < count_of cat table → (number slot found : ℕ)
        → HasDamage page (run_of index.directory.run) (entry_stands index.directory) entry number slot found → IsDamagedFor page cat (IsListFile cat asked top) number slot found
    id_entry_is entry low number slot found bad =
        let is = at.index_is in
        record {
          file = IdDirectory table;
          place = entry;
          read_for = (sought, above_first (levels_of cat.schema table) level top at.above at.level_is);
          damaged = record {
            has = ap not (some_above (levels_of cat.schema table) level top at.above at.level_is);
            within = low;
            page_is = bad.page_is ∙ ap (λ r. page_of r entry) is.run_is;
            slot_is = bad.slot_is ∙ ap (λ r. slot_of r entry) is.run_is;
            damaged =
                inl
                (sym (ap (λ r. entry_stands index.directory (record_at page r entry)) is.run_is
                ∙ same_id_entry cat laid table at.there index is (record_at page _ entry))
                ∙ bad.wrong);
            found_is = bad.found_is ∙ ap (λ r. found_in (record_at page r entry)) is.run_is;
          };
        }

    -- reading the list of an entry gets to a code that is broken
    id_code_is : (directory : Directory) (other : ℕ) → directory ≡ index.directory → other ≡ level - 1 → (entry : ℕ) → entry < count_of cat table
        → (list : ListRef) → IsListOfEntry page directory other entry list
        → (number slot found : ℕ) → OutOfRowsIn page list (count_of cat top) number slot found → IsDamagedFor page cat (IsListFile cat asked top) number slot found
    id_code_is directory other same here entry low list of number slot found out =
        let levels = levels_of cat.schema table in
        let above = above_of cat.schema table in
        let near = within_above levels level top at.above at.level_is in
        let rows : rows_at cat above (level - 1) ≡ count_of cat top = ap (count_of cat) (indexed_above levels level top at.above at.level_is) in
        let next : level ≡ level - 1 + 1 = let some = at.above in omega (arith, some) in
        let L : ℕ → Type 0 = λ l. IsListOfEntry page directory l entry list in
        let O : ℕ → Type 0 = λ n. OutOfRowsIn page list n number slot found in
        let own : OutOfRowsIn page list (rows_at cat above (level - 1)) number slot found = subst O (sym rows) out in
        record {
          file = IdLevel table (level - 1);
          place = own.place;
          read_for = (sought, let L : ℕ → Type 0 = λ l. IsLevelOf cat.schema top table l in subst L next at.level_is);
          damaged = id_code_is_damaged broken page cat table at.there index at.index_is directory same (level - 1) near entry low list (subst L here of) number slot found own;
        }

    pub identifiers_is : (first second : Group) → EndsBy (count_of cat table) first → EndsBy (count_of cat table) second
        → (lists : EntryLists) → AreListsAt index.directory (level - 1) first second (count_of cat top) lists
        → (number slot found : ℕ) → of_entries.IsDamaged page (count_of cat top) lists number slot found → IsDamagedFor page cat (IsListFile cat asked top) number slot found
    identifiers_is first second a b lists are number slot found damaged =
        elim damaged [
          | inl one ↦ (
              let G : Group → Type 0 = λ g. Contains (entries_in g ++ entries_in lists.second) one.entry in
              let H : Group → Type 0 = λ g. Contains (entries_in first ++ entries_in g) one.entry in
              let comes = subst H are.second_is (subst G are.first_is one.comes) in
              id_entry_is one.entry (comes_within first second (count_of cat table) one.entry a b comes)
              number slot found (directory_damage page lists.directory index.directory are.directory_is one.entry number slot found one.damage))
          | inr code ↦ id_code_is lists.directory lists.level are.directory_is are.level_is code.may.entry
              (before_ends lists first second (count_of cat table) code.may.entry are.first_is are.second_is a b code.may.before)
              code.list code.may.is number slot found code.out
        ]

    pub replies_is : (lists : ReplyLists) → AreRepliesAt index.directory (level - 1) (count_of cat table) (count_of cat top) lists
        → (number slot found : ℕ) → of_replies.IsDamaged page (count_of cat top) lists number slot found → IsDamagedFor page cat (IsListFile cat asked top) number slot found
    replies_is lists are number slot found damaged =
        elim damaged [
          | inl one ↦ id_entry_is (_ - 1)
              (let rows = ap (λ (r : Run). r.count) at.index_is.run_is in let same = ap (λ (d : Directory). d.run.count) are.directory_is in omega (arith, one.some, one.most, rows, same))
              number slot found (directory_damage page lists.directory index.directory are.directory_is _ number slot found one.damage)
          | inr code ↦ id_code_is lists.directory lists.level are.directory_is are.level_is code.may.entry
              (let rows = ap (λ (r : Run). r.count) at.index_is.run_is in let same = ap (λ (d : Directory). d.run.count) are.directory_is in omega (arith, code.may.is.there, rows, same))
              code.list code.may.is number slot found code.out
        ]

-- ---- the slot of a row
pub cell_is : FilesAreOfColumns → (page : ℕ → List ℕ) (cat : Catalog) (asked : Query) (top table column : ℕ) (file : ColumnFile) → IsFile cat table column file → needs_value cat.schema asked table column ≡ true
    → (identifier : ℕ) → IsRowOf cat table identifier
    → (number slot found : ℕ) → number ≡ columns.slot_page file identifier → slot ≡ columns.slot_place file identifier
    → columns.FailsAt page file identifier (Damaged number slot found) → IsDamagedFor page cat (IsReadByIndexes cat asked top) number slot found
cell_is same page cat asked top table column file is needed identifier row number slot found on_page in_place fails =
    let run = is.file_is.run_is in
    let place = identifier - 1 in
    record {
      file = Cells table column;
      place = place;
      read_for = needed;
      damaged = record {
        has = is.hidden;
        within = omega (arith, row.some, row.within);
        page_is = on_page ∙ ap (λ r. page_of r place) run;
        slot_is = in_place ∙ ap (λ r. slot_of r place) run;
        damaged = inl (ap is_some (sym (same page cat table column file is.file_is identifier) ∙ fails.no_value));
        found_is = fails.found_is ∙ ap (λ r. found_in (record_at page r place)) run;
      };
    }

pub record_is : TablesAreOfSlots → (page : ℕ → List ℕ) (cat : Catalog) (asked : Query) (top : ℕ) (file : SubtreeFile) → IsSubtreeFile cat top file → wants_below cat.schema asked top ≡ true → (identifier : ℕ) → IsRowOf cat top identifier
    → (number slot found : ℕ) → number ≡ subtrees.slot_page file.table identifier → slot ≡ subtrees.slot_place file.table identifier
    → subtrees.FailsAt page file.table identifier (Damaged number slot found) → IsDamagedFor page cat (IsReadByIndexes cat asked top) number slot found
record_is same page cat asked top file is wanted identifier row number slot found on_page in_place fails =
    let run = is.table_is.run_is in
    let place = identifier - 1 in
    let tables = descendants_of cat.schema top in
    let bytes = record_at page (subtree_table cat top) place in
    record {
      file = Subtrees top;
      place = place;
      read_for = (refl, wanted);
      damaged = record {
        has = ap not is.some_below;
        within = omega (arith, row.some, row.within);
        page_is = on_page ∙ ap (λ r. page_of r place) run;
        slot_is = in_place ∙ ap (λ r. slot_of r place) run;
        damaged = inl (none_spelled (are_rows cat tables bytes) (identifiers tables bytes) (sym (same page cat top file.table is.table_is identifier) ∙ fails.no_row));
        found_is = fails.found_is ∙ ap (λ r. found_in (record_at page r place)) run;
      };
    }
