-- The lists of entries of an index are those of its values, or of the table's identifiers.
use Rattle.std.proofs.Common.{◌≡◌, ◌∙◌, ℕ, ◌+◌, ◌*◌, ◌<◌, ◌≤◌, Bool, true, false, inl, inr, List, [], length, map, get_or, slice_index, ap, sym, refl, subst, arith}
use Rattle.std.specs.Prelude.{◌⊎◌}
use Rattle.std.specs.List.{concat, filter}
use Rattle.std.proofs.lemmas.List.{get_or-map}
use Rattle.std.proofs.lemmas.List.FromFn.{length-range_with_len}
use Rattle.std.proofs.lemmas.Option.{slice_get-get_or}
use Rattle.std.specs.Prelude.{bytes_eq}
use Rattle.ghost_model.specs.core.Schema.{is_table}
use Rattle.ghost_model.specs.core.Values.{Database}
use Rattle.ghost_model.specs.core.Channel.{Catalog}
use Rattle.ghost_model.specs.core.Split.{Hidden, hidden_of}
use Rattle.ghost_model.specs.laws.LayoutLaws.{LieAsSummed, LieInOrder, AreFew, AreNarrow, LayoutIsSmall, FilesLieAsSummed, FilesLieInOrder, LevelsAreAncestors}
use Rattle.ghost_model.specs.laws.ListLaws.{ListsPartition, IdListsPartition}
use Rattle.ghost_model.specs.laws.RunLaws.{NumbersAreRead}
use Rattle.ghost_model.specs.forms.Runs.{Run, record_at}
use Rattle.ghost_model.specs.forms.Layout as layout
use Rattle.ghost_model.specs.forms.Layout.{is_hidden, count_of, levels_of, above_of, IndexDirectory, IdDirectory}
use Rattle.ghost_model.specs.laws.ShortWords.{index_level, id_level, index_directory, id_directory}
use Rattle.ghost_model.specs.forms.Flash.{cell_led_to, leads_to, ids}
use Rattle.ghost_model.specs.forms.Slots.{in_slot, may_stand}
use Rattle.ghost_base.specs.Runs.{run_of}
use Rattle.climbing_index.specs.declared.directory.Directory.{Directory}
use Rattle.climbing_index.specs.declared.index.ClimbingIndex.{ClimbingIndex}
use Rattle.climbing_index.specs.declared.index.IdIndex.{IdIndex}
use Rattle.climbing_index.specs.Directories.{entry_bytes, entry_stands, file_of}
use Rattle.climbing_index.specs.Holding.{HoldsIndexWhole, HoldsIndexBut, HoldsIdIndexWhole, HoldsIdIndexBut, values_at, ids_at}
use Rattle.climbing_index.specs.Indexes.{IsIndexOf, IsIdIndexOf}
use Rattle.climbing_index.specs.Laws.{IsOf, ListsAreRead}
use Rattle.climbing_index.proofs.HeldIndexes.{same_entry, same_id_entry}
use Rattle.climbing_index.proofs.LevelFiles.{how_many, at_level}
use Rattle.climbing_index.proofs.WholeIndexes.{value_rows, id_rows}
use Rattle.entry_lists.specs.declared.entries.EntryLists.{EntryLists}
use Rattle.entry_lists.specs.Entries.{EntriesHave, HasEntry, entries_in, level_at, level_run}
use Rattle.entry_lists.specs.Laws.{AreBegun, AreListsOf, EntriesHaveIdLists, EntriesHaveValueLists, lists_of, rows_at}
use Rattle.entry_lists.proofs.Ascending.{Ascends, rows_ascend}
use Rattle.entry_lists.proofs.EntryLaws.{has_entry, have_both, have_range, listed}
use Rattle.entry_lists.proofs.ListSizes.{sizes}
use Rattle.ghost_model.proofs.LayoutLemmas.Limited.{limited_by}

-- a slot that is in its range has the right record
same_slot : (bytes other wanted : List ℕ) (may : Bool) → (bytes ≡ wanted) ⊎ (may ≡ false) → other ≡ wanted → may ≡ true → bytes ≡ other
same_slot bytes other wanted may has right is =
    elim has [
      | inl same ↦ same ∙ sym right
      | inr wrong ↦ (let clash = sym is ∙ wrong in absurd (cc clash))
    ]

-- groups of entries have their lists where each entry has
module _ (page right : ℕ → List ℕ) (rows entries levels : ℕ) (directory : Directory) (lists : EntryLists) (are : AreListsOf directory levels entries lists)
    (begun : AreBegun rows lists) (some : 0 < directory.run.width) (fits : directory.run.width ≤ 2048) (all : List (List ℕ)) (size : length (concat all) ≡ rows)
    (each : (entry : ℕ) → entry < entries → HasEntry page right rows directory lists.level entry (get_or all entry [])) where
  all_have : EntriesHave page right rows lists (lists_of all lists.first lists.second)
  all_have =
      let D : Directory → Type 0 = λ d. (entry : ℕ) → entry < entries → HasEntry page right rows d lists.level entry (get_or all entry []) in
      let own = subst D (sym are.directory_is) each in
      let width = ap (λ (d : Directory). d.run.width) are.directory_is in
      record {
        some = omega (arith, width, some);
        fits = omega (arith, width, fits);
        have =
            have_both page right rows lists.directory lists.level (entries_in lists.first) (entries_in lists.second) _ _
            (have_range page right rows lists.directory lists.level (λ entry. get_or all entry []) lists.first.first lists.first.count
            (λ entry low high. own entry (omega (arith, high, are.first))))
            (have_range page right rows lists.directory lists.level (λ entry. get_or all entry []) lists.second.first lists.second.count
            (λ entry low high. own entry (omega (arith, high, are.second))));
        few = omega (arith, sizes all lists.first lists.second begun.apart, size, begun.room);
      }

-- the level file at a level
pub file_at : (file : ℕ → Run) (count : ℕ) (directory : Directory) → map file_of directory.levels.items ≡ map file (layout.below count) → (level : ℕ) → level < count
    → run_of (level_run directory level) ≡ file level
file_at file count directory are level low =
    let size = how_many file count directory.levels.items are in
    at_level file count directory.levels.items are level (level_at directory level)
    (slice_get-get_or directory.levels.items level (record { first = 0; count = 0 }) (omega (arith, size, low)))

module _ (cat : Catalog) (database : Database) (of : IsOf cat database) (levels : LevelsAreAncestors) (laid : LieAsSummed cat) (order : LieInOrder cat)
    (few : AreFew cat) (read : NumbersAreRead) (page right : ℕ → List ℕ) where
  abbrev hidden : Hidden
  hidden = hidden_of cat.schema database

  module _ (are_read : ListsAreRead) (partition : ListsPartition) (table column : ℕ) (h : is_hidden cat.schema table column ≡ true) (values : List (List ℕ))
      (whole : HoldsIndexWhole right cat (hidden_of cat.schema database) table column values)
      (but : HoldsIndexBut page cat (hidden_of cat.schema database) table column values)
      (index : ClimbingIndex) (is : IsIndexOf cat table column index) (level : ℕ) (low : level < length (levels_of cat.schema table)) where
    abbrev from : ℕ
    from = slice_index (levels_of cat.schema table) level

    size : length (concat (values_at cat hidden table column values level)) ≡ count_of cat from
    size = (value_rows cat database of levels few read partition table column level h (order.there_are table column h).0 low values whole.are_values).size

    stands : (pages : ℕ → List ℕ) (entry : ℕ) → entry_stands index.directory (entry_bytes pages index.directory entry) ≡ may_stand cat (IndexDirectory table column) (in_slot pages cat (IndexDirectory table column) entry)
    stands pages entry =
        ap (λ r. entry_stands index.directory (record_at pages r entry)) is.run_is
        ∙ same_entry cat laid table column h index is (record_at pages (index_directory cat table column) entry)

    ascend : (entry : ℕ) → entry < length values → Ascends 1 (1 + count_of cat from) (get_or (values_at cat hidden table column values level) entry [])
    ascend entry there =
        let test : List ℕ → ℕ → Bool = λ value identifier. bytes_eq (cell_led_to cat.schema hidden table column from identifier) value in
        let one = get_or-map (λ value. filter (test value) (ids (count_of cat from))) values entry [] [] there in
        let A : List ℕ → Type 0 = Ascends 1 (1 + count_of cat from) in
        subst A (sym one) (rows_ascend (test (get_or values entry [])) 1 (count_of cat from) (1 + count_of cat from) refl)

    value_entry : (entry : ℕ) → entry < length values
        → HasEntry page right (count_of cat from) index.directory level entry (get_or (values_at cat hidden table column values level) entry [])
    value_entry entry there =
        let rows = ap (λ r. r.count) is.run_is in
        let depth = how_many (index_level cat table column) (length (levels_of cat.schema table)) index.directory.levels.items is.levels_are in
        let inside : level < length index.directory.levels.items = omega (arith, depth, low) in
        let right_stands = stands right entry ∙ (whole.entries entry there).stands in
        let reads = are_read.values page right cat database of table column h values whole but index is entry level there low _ (listed right index.directory entry level right_stands inside) in
        has_entry page right cat from index.directory level inside entry (omega (arith, there, whole.few, rows)) right_stands
        (λ may.
        ap (λ r. record_at page r entry) is.run_is
        ∙ same_slot _ _ _ _ (but.entries entry there) (whole.entries entry there).is (sym (stands page entry) ∙ may)
        ∙ sym (ap (λ r. record_at right r entry) is.run_is))
        _ reads.whole reads.but (ascend entry there)

    width_is : index.directory.run.width ≡ layout.width_at cat.schema table column + 8 * length (levels_of cat.schema table)
    width_is = ap (λ r. r.width) is.run_is

    pub value_lists : (narrow : AreNarrow cat) → (lists : EntryLists) → lists.level ≡ level
        → AreListsOf index.directory (length (levels_of cat.schema table)) (length values) lists → AreBegun (rows_at cat (levels_of cat.schema table) lists.level) lists
        → EntriesHave page right (rows_at cat (levels_of cat.schema table) lists.level) lists
        (lists_of (values_at cat hidden table column values lists.level) lists.first lists.second)
    value_lists narrow lists at are begun =
        let E : ℕ → Type 0 = λ l. (entry : ℕ) → entry < length values
        → HasEntry page right (rows_at cat (levels_of cat.schema table) l) index.directory l entry (get_or (values_at cat hidden table column values l) entry []) in
        let S : ℕ → Type 0 = λ l. length (concat (values_at cat hidden table column values l)) ≡ rows_at cat (levels_of cat.schema table) l in
        all_have page right (rows_at cat (levels_of cat.schema table) lists.level) (length values) (length (levels_of cat.schema table)) index.directory lists are begun
        (omega (arith, width_is, low)) (omega (arith, width_is, narrow.directory table column))
        (values_at cat hidden table column values lists.level) (subst S (sym at) size) (subst E (sym at) value_entry)

  module _ (are_read : ListsAreRead) (partition : IdListsPartition) (table : ℕ) (there : table < length cat.schema)
      (whole : HoldsIdIndexWhole right cat (hidden_of cat.schema database) table) (but : HoldsIdIndexBut page cat (hidden_of cat.schema database) table)
      (index : IdIndex) (is : IsIdIndexOf cat table index) (level : ℕ) (low : level < length (above_of cat.schema table)) where
    abbrev id_from : ℕ
    id_from = slice_index (above_of cat.schema table) level

    pub id_size : length (concat (ids_at cat hidden table level)) ≡ count_of cat id_from
    id_size = (id_rows cat database of levels few read partition table level there low).size

    id_stands : (pages : ℕ → List ℕ) (entry : ℕ) → entry_stands index.directory (entry_bytes pages index.directory entry) ≡ may_stand cat (IdDirectory table) (in_slot pages cat (IdDirectory table) entry)
    id_stands pages entry =
        ap (λ r. entry_stands index.directory (record_at pages r entry)) is.run_is
        ∙ same_id_entry cat laid table there index is (record_at pages (id_directory cat table) entry)

    id_ascend : (entry : ℕ) → entry < count_of cat table → Ascends 1 (1 + count_of cat id_from) (get_or (ids_at cat hidden table level) entry [])
    id_ascend entry inside =
        let test : ℕ → ℕ → Bool = λ identifier other. is_table identifier (leads_to cat.schema hidden id_from other table) in
        let size = length-range_with_len 1 (count_of cat table) in
        let one = get_or-map (λ identifier. filter (test identifier) (ids (count_of cat id_from))) (ids (count_of cat table)) entry 0 [] (omega (arith, inside, size)) in
        let A : List ℕ → Type 0 = Ascends 1 (1 + count_of cat id_from) in
        subst A (sym one) (rows_ascend (test (get_or (ids (count_of cat table)) entry 0)) 1 (count_of cat id_from) (1 + count_of cat id_from) refl)

    pub id_entry : (entry : ℕ) → entry < count_of cat table
        → HasEntry page right (count_of cat id_from) index.directory level entry (get_or (ids_at cat hidden table level) entry [])
    id_entry entry inside =
        let rows = ap (λ r. r.count) is.run_is in
        let depth = how_many (id_level cat table) (length (above_of cat.schema table)) index.directory.levels.items is.levels_are in
        let deep : level < length index.directory.levels.items = omega (arith, depth, low) in
        let right_stands = id_stands right entry ∙ (whole.entries entry inside).stands in
        let reads = are_read.identifiers page right cat database of table there whole but index is entry level inside low _ (listed right index.directory entry level right_stands deep) in
        has_entry page right cat id_from index.directory level deep entry (omega (arith, inside, rows)) right_stands
        (λ may.
        ap (λ r. record_at page r entry) is.run_is
        ∙ same_slot _ _ _ _ (but.entries entry inside) (whole.entries entry inside).is (sym (id_stands page entry) ∙ may)
        ∙ sym (ap (λ r. record_at right r entry) is.run_is))
        _ reads.whole reads.but (id_ascend entry inside)

    pub id_width_is : index.directory.run.width ≡ 8 * length (above_of cat.schema table)
    id_width_is = ap (λ r. r.width) is.run_is

    pub identifier_lists : (narrow : AreNarrow cat) → (lists : EntryLists) → lists.level ≡ level
        → AreListsOf index.directory (length (above_of cat.schema table)) (count_of cat table) lists → AreBegun (rows_at cat (above_of cat.schema table) lists.level) lists
        → EntriesHave page right (rows_at cat (above_of cat.schema table) lists.level) lists
        (lists_of (ids_at cat hidden table lists.level) lists.first lists.second)
    identifier_lists narrow lists at are begun =
        let E : ℕ → Type 0 = λ l. (entry : ℕ) → entry < count_of cat table
        → HasEntry page right (rows_at cat (above_of cat.schema table) l) index.directory l entry (get_or (ids_at cat hidden table l) entry []) in
        let S : ℕ → Type 0 = λ l. length (concat (ids_at cat hidden table l)) ≡ rows_at cat (above_of cat.schema table) l in
        all_have page right (rows_at cat (above_of cat.schema table) lists.level) (count_of cat table) (length (above_of cat.schema table)) index.directory lists are begun
        (omega (arith, id_width_is, low)) (omega (arith, id_width_is, narrow.id_directory table))
        (ids_at cat hidden table lists.level) (subst S (sym at) id_size) (subst E (sym at) id_entry)

pub have_value_lists : LevelsAreAncestors → FilesLieAsSummed → FilesLieInOrder → LayoutIsSmall → NumbersAreRead → ListsPartition → ListsAreRead → EntriesHaveValueLists
have_value_lists levels laid order small read partition lists_are page right cat database of table column h values whole but index is lists are begun =
    value_lists cat database of levels (laid cat) (order cat) (small.few cat (limited_by cat of.proper)) read page right lists_are partition table column h values whole but index is
    lists.level are.level (small.narrow cat (limited_by cat of.proper).tree) lists refl are begun

pub have_id_lists : LevelsAreAncestors → FilesLieAsSummed → FilesLieInOrder → LayoutIsSmall → NumbersAreRead → IdListsPartition → ListsAreRead → EntriesHaveIdLists
have_id_lists levels laid order small read partition lists_are page right cat database of table there whole but index is lists are begun =
    identifier_lists cat database of levels (laid cat) (order cat) (small.few cat (limited_by cat of.proper)) read page right lists_are partition table there whole but index is
    lists.level are.level (small.narrow cat (limited_by cat of.proper).tree) lists refl are begun
