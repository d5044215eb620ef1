-- Pages that hold all files of a database have no damaged slot.
use Rattle.std.proofs.Common.{◌≡◌, refl, ap, ap₂, sym, ◌∙◌, subst, ℕ, zero, suc, ◌+◌, ◌-◌, ◌^◌, ◌<◌, Bool, true, false, ◌&&◌, nat_lt, inl, inr, List, [], ◌++◌, length, take, drop, filter, get_or, slice_index, Some, None, is_some, arith}
use Rattle.std.specs.Prelude.{bytes_eq, if◌then◌else◌}
use Rattle.std.specs.Ordering.{nat_cmp, is_lt}
use Rattle.std.specs.Cmp.Lexicographic.{slice_cmp}
use Rattle.std.proofs.Math.Seq.{take-append_seam, drop-append_seam}
use Rattle.std.proofs.lemmas.Bool.{and_parts, ltb-true}
use Rattle.std.proofs.lemmas.List.{get_or-replicate, length-map}
use Rattle.std.proofs.lemmas.List.Elements.{Contains-get_or}
use Rattle.std.proofs.lemmas.List.FromFn.{length-range_with_len}
use Rattle.std.proofs.lemmas.Map.Keys.{Less-from_sorted}
use Rattle.std.proofs.lemmas.Option.{slice_get-get_or}
use Rattle.ghost_model.specs.core.Schema.{is_empty, is_table}
use Rattle.ghost_model.specs.core.Values.{Database}
use Rattle.ghost_model.specs.core.Channel.{Catalog}
use Rattle.ghost_model.specs.core.Asks.{kind_at}
use Rattle.ghost_model.specs.core.Split.{Hidden, hidden_of}
use Rattle.ghost_model.specs.laws.LayoutLaws.{AreFew}
use Rattle.ghost_model.specs.laws.ListLaws.{ListsAscend}
use Rattle.ghost_model.specs.laws.GapLaws.{AreLevelLists, LevelFilesFit}
use Rattle.ghost_model.specs.laws.FlashLaws.{CellsFit}
use Rattle.ghost_model.specs.laws.RunLaws.{NumbersAreRead}
use Rattle.ghost_model.specs.forms.Runs.{number_in, number_cell, record_at}
use Rattle.ghost_model.specs.forms.Layout.{is_hidden, width_at, count_of, levels_of, above_of, descendants_of, File, Cells, Subtrees, IndexHeader, IndexDirectory, IndexLevel, IdDirectory, IdLevel, column_file, subtree_table}
use Rattle.ghost_model.specs.forms.Flash.{HoldsFiles, cell_led_to, directory_record, hidden_cells, id_lists, ids, leads_to, value_lists}
use Rattle.ghost_model.specs.forms.Gaps.{level_bytes}
use Rattle.ghost_model.specs.forms.Slots.{IsDamagedSlot, IsWrong, IsWrongRecord, are_rows, before_slot, child_rows, follow, has_file, in_slot, may_follow, may_stand, slots_in, spelled}
use Rattle.climbing_index.specs.Holding.{HoldsIndexWhole, HoldsIdIndexWhole, values_at, ids_at}
use Rattle.climbing_index.specs.Laws.{IsOf, WholeIndexesHaveNoDamage}
use Rattle.climbing_index.proofs.Codes.{bytes_fit}
use Rattle.climbing_index.proofs.ListPlaces.{places}
use Rattle.hidden_columns.specs.Laws.{ColumnsGiveValues}
use Rattle.subtree_keys.specs.Laws.{TablesGiveRows}
use Rattle.candidate_gathering.specs.known.Known.{KnowsIndexes}
use Rattle.candidate_gathering.proofs.known_lemmas.DirectoryOrders.{GoesOn, follows}
use Rattle.candidate_gathering.proofs.known_lemmas.TablesThere.{low_is_table, high_is_table}
use Rattle.candidate_gathering.proofs.known_lemmas.FilePages.{above_some, not_so}
use Rattle.ghost_model.proofs.LayoutLemmas.Limited.{limited_by}

-- what stands in a slot may stand there, by itself and after those before it
record IsGood (page : ℕ → List ℕ) (cat : Catalog) (file : File) (place : ℕ) : Type 0 where
  stands : may_stand cat file (in_slot page cat file place) ≡ true
  order : may_follow cat file (before_slot page cat file place) (in_slot page cat file place) ≡ false → ⊥

not_both : (t : Bool) → t ≡ true → t ≡ false → ⊥
not_both t holds fails = let clash = sym holds ∙ fails in cc clash

not_wrong : (page : ℕ → List ℕ) (cat : Catalog) (file : File) (place : ℕ) → IsGood page cat file place → IsWrongRecord page cat file place → ⊥
not_wrong page cat file place good wrong =
    elim wrong [
      | inl bad ↦ not_both _ good.stands bad
      | inr out ↦ good.order out
    ]

are_spelled : (t : Bool) (rows found : List ℕ) → (if t then Some rows else None) ≡ Some found → t ≡ true
are_spelled true rows found e = refl
are_spelled false rows found e = absurd (cc e)

pub all_stand : (t : Bool) (u : Bool) → t ≡ true → u ≡ true → (t && u) ≡ true
all_stand t u a b = ap (λ t. t && u) a ∙ b

module _ (page : ℕ → List ℕ) (cat : Catalog) (database : Database) (of : IsOf cat database) (few : AreFew cat)
    (fit : CellsFit cat (hidden_of cat.schema database)) (read : NumbersAreRead) (wide : (number : ℕ) → length (number_cell number) ≡ 4) (ascend : ListsAscend) (fits : LevelFilesFit) where
  abbrev hidden : Hidden
  hidden = hidden_of cat.schema database

  -- the bytes of the lists of a level are few
  few_bytes : (from : ℕ) (lists : List (List ℕ)) → AreLevelLists (count_of cat from) lists → length (level_bytes lists) < 2 ^ 32
  few_bytes from lists are =
      let most = bytes_fit fits (count_of cat from) lists are in
      let pages = few.level from in
      omega (arith, most, pages)

  limit : (from : ℕ) → count_of cat from < 2097152
  limit from = omega (arith, few.rows from)

  module _ (table column : ℕ) (h : is_hidden cat.schema table column ≡ true) (values : List (List ℕ))
      (whole : HoldsIndexWhole page cat (hidden_of cat.schema database) table column values) where
    lists : ℕ → List (List ℕ)
    lists = value_lists cat hidden table column values

    count_is : number_in (in_slot page cat (IndexHeader table column) 0) 0 ≡ length values
    count_is = ap (λ bytes. number_in bytes 0) whole.header.is ∙ read (length values) (omega (arith, whole.few, few.rows table))

    header_good : (place : ℕ) → place < 1 → IsGood page cat (IndexHeader table column) place
    header_good place low =
        let none : 0 ≡ place = omega (arith, low) in
        subst (IsGood page cat (IndexHeader table column)) none (record { stands = whole.header.stands; order = λ out. not_both true refl out })

    there : (entry : ℕ) → entry < slots_in page cat (IndexDirectory table column) → entry < length values
    there entry low = omega (arith, low, count_is)

    value_width : (entry : ℕ) → entry < length values → length (get_or values entry []) ≡ width_at cat.schema table column
    value_width entry low =
        let value = get_or values entry [] in
        let cells = hidden_cells cat.schema hidden table column in
        let has = whole.are_values.only value (Contains-get_or values entry [] low) in
        fit.width table column has.0 value h (slice_get-get_or cells has.0 value has.1 ∙ ap Some has.2)

    front : (entry : ℕ) → entry < length values → take (width_at cat.schema table column) (in_slot page cat (IndexDirectory table column) entry) ≡ get_or values entry []
    front entry low =
        let bytes = directory_record values (levels_of cat.schema table) (value_lists cat hidden table column values) entry in
        ap (take (width_at cat.schema table column)) (whole.entries entry low).is
        ∙ (ap (λ n. take n bytes) (sym (value_width entry low)) ∙ take-append_seam (get_or values entry []) _)

    back : (entry : ℕ) → entry < length values
        → drop (width_at cat.schema table column) (in_slot page cat (IndexDirectory table column) entry) ≡ places read wide (value_lists cat hidden table column values) entry (levels_of cat.schema table)
    back entry low =
        let bytes = directory_record values (levels_of cat.schema table) (value_lists cat hidden table column values) entry in
        ap (drop (width_at cat.schema table column)) (whole.entries entry low).is
        ∙ (ap (λ n. drop n bytes) (sym (value_width entry low)) ∙ drop-append_seam (get_or values entry []) _)

    goes_on : (entry : ℕ) → suc entry < length values → (level : ℕ) → GoesOn (values_at cat hidden table column values level) entry
    goes_on entry low level =
        let from = slice_index (levels_of cat.schema table) level in
        let count = length-map values (λ value. filter (λ identifier. bytes_eq (cell_led_to cat.schema hidden table column from identifier) value) (ids (count_of cat from))) in
        record {
          next = omega (arith, low, count);
          small = few_bytes from (values_at cat hidden table column values level) (ascend.of_values cat hidden table column from values (limit from) whole.are_values);
        }

    entry_follows : (entry : ℕ) → may_follow cat (IndexDirectory table column) (before_slot page cat (IndexDirectory table column) entry) (in_slot page cat (IndexDirectory table column) entry) ≡ false
        → entry < length values → ⊥
    entry_follows zero out low = not_both true refl out
    entry_follows (suc entry) out low =
        let tables = levels_of cat.schema table in
        let w = width_at cat.schema table column in
        let one = in_slot page cat (IndexDirectory table column) entry in
        let two = in_slot page cat (IndexDirectory table column) (suc entry) in
        let before : entry < length values = omega (arith, low) in
        let ascends : is_lt (slice_cmp nat_cmp (take w one) (take w two)) ≡ true =
        ap₂ (λ a b. is_lt (slice_cmp nat_cmp a b)) (front entry before) (front (suc entry) low)
        ∙ ap is_lt (Less-from_sorted (slice_cmp nat_cmp) values entry (suc entry) [] whole.are_values.ascending (omega arith) low) in
        let go_on : follow tables (drop w one) (drop w two) ≡ true =
        ap₂ (follow tables) (back entry before) (back (suc entry) low)
        ∙ follows read wide (value_lists cat hidden table column values) entry tables (λ level under. goes_on entry low level) in
        not_both (is_lt (slice_cmp nat_cmp (take w one) (take w two)) && follow tables (drop w one) (drop w two)) (all_stand _ _ ascends go_on) out

    entry_good : (entry : ℕ) → entry < length values → IsGood page cat (IndexDirectory table column) entry
    entry_good entry low = record { stands = (whole.entries entry low).stands; order = λ out. entry_follows entry out low }

  module _ (table : ℕ) (inside : table < length cat.schema) (whole : HoldsIdIndexWhole page cat (hidden_of cat.schema database) table) where
    id_bytes : (entry : ℕ) → entry < count_of cat table → in_slot page cat (IdDirectory table) entry ≡ places read wide (id_lists cat hidden table) entry (above_of cat.schema table)
    id_bytes entry low =
        (whole.entries entry low).is
        ∙ ap (λ front. front ++ places read wide (id_lists cat hidden table) entry (above_of cat.schema table)) (get_or-replicate (count_of cat table) entry [] [] low)

    id_goes_on : (entry : ℕ) → suc entry < count_of cat table → (level : ℕ) → GoesOn (ids_at cat hidden table level) entry
    id_goes_on entry low level =
        let from = slice_index (above_of cat.schema table) level in
        let rows = length-range_with_len 1 (count_of cat table) in
        let count = length-map (ids (count_of cat table)) (λ identifier. filter (λ other. is_table identifier (leads_to cat.schema hidden from other table)) (ids (count_of cat from))) in
        record {
          next = omega (arith, low, count, rows);
          small = few_bytes from (ids_at cat hidden table level) (ascend.of_ids cat hidden table from (limit from));
        }

    id_entry_follows : (entry : ℕ) → may_follow cat (IdDirectory table) (before_slot page cat (IdDirectory table) entry) (in_slot page cat (IdDirectory table) entry) ≡ false
        → entry < count_of cat table → ⊥
    id_entry_follows zero out low = not_both true refl out
    id_entry_follows (suc entry) out low =
        let tables = above_of cat.schema table in
        not_both (follow tables (in_slot page cat (IdDirectory table) entry) (in_slot page cat (IdDirectory table) (suc entry)))
        (ap₂ (follow tables) (id_bytes entry (omega (arith, low))) (id_bytes (suc entry) low)
        ∙ follows read wide (id_lists cat hidden table) entry tables (λ level under. id_goes_on entry low level))
        out

    id_entry_good : (entry : ℕ) → entry < count_of cat table → IsGood page cat (IdDirectory table) entry
    id_entry_good entry low = record { stands = (whole.entries entry low).stands; order = λ out. id_entry_follows entry out low }

  module _ (columns : ColumnsGiveValues) (tables : TablesGiveRows) (indexes : WholeIndexesHaveNoDamage)
      (holds : HoldsFiles page cat (hidden_of cat.schema database)) (known : KnowsIndexes page page cat database) where
    cell_good : (table column : ℕ) → is_hidden cat.schema table column ≡ true → (place : ℕ) → place < count_of cat table → IsGood page cat (Cells table column) place
    cell_good table column h place low =
        let has = columns page cat database (limited_by cat of.proper).tree of.is of.counts holds.columns table column h (place + 1) (omega arith) (omega (arith, low)) in
        let same : place + 1 - 1 ≡ place = omega arith in
        record {
          stands = ap is_some (sym (ap (λ at. spelled (kind_at cat.schema table column) (child_rows cat table column) (record_at page (column_file cat table column) at)) same) ∙ has.on_pages);
          order = λ out. not_both true refl out;
        }

    record_good : (table : ℕ) → is_empty (descendants_of cat.schema table) ≡ false → (place : ℕ) → place < count_of cat table → IsGood page cat (Subtrees table) place
    record_good table below place low =
        let has = tables page cat database (limited_by cat of.proper) of.is of.counts holds.subtrees table (high_is_table cat.schema table below) below (place + 1) (omega arith) (omega (arith, low)) in
        let same : place + 1 - 1 ≡ place = omega arith in
        record {
          stands =
              ap (λ at. are_rows cat (descendants_of cat.schema table) (record_at page (subtree_table cat table) at)) (sym same)
              ∙ are_spelled _ _ has.rows has.on_pages;
          order = λ out. not_both true refl out;
        }

    slot_good : (file : File) → has_file cat.schema file ≡ true → (place : ℕ) → place < slots_in page cat file → IsWrong page cat file place → ⊥
    slot_good (Cells table column) has place low wrong = not_wrong page cat (Cells table column) place (cell_good table column has place low) wrong
    slot_good (Subtrees table) has place low wrong =
        not_wrong page cat (Subtrees table) place (record_good table (not_so (is_empty (descendants_of cat.schema table)) has) place low) wrong
    slot_good (IndexHeader table column) has place low wrong =
        let index = known.indexes table column has in
        not_wrong page cat (IndexHeader table column) place (header_good table column has index.values index.whole place low) wrong
    slot_good (IndexDirectory table column) has place low wrong =
        let index = known.indexes table column has in
        not_wrong page cat (IndexDirectory table column) place
        (entry_good table column has index.values index.whole place (there table column has index.values index.whole place low)) wrong
    slot_good (IndexLevel table column level) has place low wrong =
        let both = and_parts (is_hidden cat.schema table column) (nat_lt level (length (levels_of cat.schema table))) has in
        let index = known.indexes table column both.0 in
        indexes.code page cat database of table column both.0 index.values index.whole level (ltb-true level (length (levels_of cat.schema table)) both.1) place wrong
    slot_good (IdDirectory table) has place low wrong =
        let above = not_so (is_empty (above_of cat.schema table)) has in
        let there = low_is_table cat.schema (limited_by cat of.proper).tree table above in
        not_wrong page cat (IdDirectory table) place (id_entry_good table there (known.ids table there above).whole place low) wrong
    slot_good (IdLevel table level) has place low wrong =
        let under = ltb-true level (length (above_of cat.schema table)) has in
        let above = above_some (above_of cat.schema table) level under in
        let there = low_is_table cat.schema (limited_by cat of.proper).tree table above in
        indexes.id_code page cat database of table there (known.ids table there above).whole level under place wrong

    pub no_damage : (number slot found : ℕ) → IsDamagedSlot cat page number slot found → ⊥
    no_damage number slot found bad = slot_good bad.file bad.at.has bad.place bad.at.within bad.at.damaged
