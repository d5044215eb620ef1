-- What the slots of an index have where pages hold it.
use Rattle.std.proofs.Common.{◌≡◌, refl, sym, ap, ◌∙◌, ℕ, zero, suc, ◌+◌, ◌*◌, ◌<◌, ◌≤◌, Bool, true, false, ◌&&◌, ◌||◌, nat_le, nat_lt, inl, List, [], ◌∷◌, ◌++◌, length, take, drop, replicate, get_or, slice_index, Contains, Some, is_some, slice_get, option_and_then, filter, bytes_eq, arith}
use Rattle.std.specs.Prelude.{◌==◌}
use Rattle.std.specs.List.{concat}
use Rattle.std.specs.List.Sorted.{IsPermutation}
use Rattle.std.proofs.Math.Seq.{take-append_seam, drop-append_seam}
use Rattle.std.proofs.lemmas.Bool.{le-leb, lt-ltb}
use Rattle.std.proofs.lemmas.List.{get_or-replicate, length-replicate, length-map}
use Rattle.std.proofs.lemmas.List.Elements.{Contains-get_or}
use Rattle.std.proofs.lemmas.List.FromFn.{get_or-map-range_with_len, get_or-range_with_len, length-range_with_len}
use Rattle.std.proofs.lemmas.List.Sorted.{IsPermutation-sym, Contains-permutation, length_permutation}
use Rattle.std.proofs.lemmas.Option.{slice_get-get_or}
use Rattle.ghost_model.specs.core.Schema.{is_empty, is_table, IsAtOrBelow}
use Rattle.ghost_model.specs.laws.ShortWords.{id_level, index_level}
use Rattle.ghost_model.specs.core.Values.{Database}
use Rattle.ghost_model.specs.core.Channel.{Catalog}
use Rattle.ghost_model.specs.core.Asks.{kind_at}
use Rattle.ghost_model.specs.core.Database.{rows_of, value_at_row}
use Rattle.ghost_model.specs.core.Split.{Hidden, hidden_of}
use Rattle.ghost_model.specs.readings.CellReading.{decode_cell}
use Rattle.ghost_model.specs.laws.LayoutLaws.{LieAsSummed, LieInOrder, AreFew, LevelsAreAncestors, FilesLieAsSummed, FilesLieInOrder, LayoutIsSmall}
use Rattle.ghost_model.specs.laws.ListLaws.{ListsPartition, IdListsPartition, ListsAscend}
use Rattle.ghost_model.specs.laws.GapLaws.{AreLevelLists, CodesAreReadFromPages, LevelFilesFit, LevelListsHaveCodes}
use Rattle.ghost_model.specs.laws.FlashLaws.{CellsFit, HiddenValuesOfDatabases, HiddenCellsFit, HiddenPartsGoWithCatalogs}
use Rattle.ghost_model.specs.laws.RunLaws.{NumbersAreRead}
use Rattle.ghost_model.specs.forms.Runs.{Run, page_bytes, pages_of, record_at, number_in, number_cell}
use Rattle.ghost_model.specs.forms.Gaps.{StoresBytes, code_in, code_of, code_place, gaps_of, level_bytes, rest_at, ReadsCode}
use Rattle.ghost_model.specs.forms.Layout.{is_hidden, width_at, count_of, levels_of, above_of, IndexHeader, IndexDirectory, IndexLevel, IdDirectory, IdLevel}
use Rattle.ghost_model.specs.forms.Flash.{HoldsIndex, HoldsIdIndexes, AreValues, cell_led_to, hidden_cells, directory_record, leads_to, value_lists, id_lists, ids}
use Rattle.ghost_model.specs.forms.Slots.{in_slot, may_stand, code_stands, are_places}
use Rattle.ghost_model.proofs.MeaningLemmas.Leading.{get_within}
use Rattle.ghost_model.proofs.FlashLemmas.Values.{count_there}
use Rattle.climbing_index.specs.Holding.{HasGap, HasRecord, HoldsIndexWhole, HoldsIdIndexWhole, values_at, ids_at}
use Rattle.climbing_index.specs.Laws.{IsOf, HeldIndexesAreWhole, HeldIdIndexesAreWhole, WholeIndexesAreHeldBut}
use Rattle.climbing_index.proofs.LevelFiles.{id_level_room, index_level_room}
use Rattle.climbing_index.proofs.ListPlaces.{places, stand}
use Rattle.climbing_index.proofs.Codes.{bytes_fit, gap_within, list_ends}
use Rattle.climbing_index.proofs.Readings.{code_inside}
use Rattle.ghost_model.proofs.LayoutLemmas.Limited.{limited_by}

pub held_but : WholeIndexesAreHeldBut
held_but = record {
  index = λ page cat hidden table column values whole. record {
    are_values = whole.are_values;
    few = whole.few;
    header = inl whole.header.is;
    entries = λ entry low. inl (whole.entries entry low).is;
    lists = λ level low k within. inl (whole.lists level low k within).reads;
  };
  id_index = λ page cat hidden table whole. record {
    entries = λ entry low. inl (whole.entries entry low).is;
    lists = λ level low k within. inl (whole.lists level low k within).reads;
  };
}

-- the table of a level is one that has the index's at or below it
one_later : (xs : List ℕ) (k x : ℕ) → slice_get (drop 1 xs) k ≡ Some x → slice_get xs (suc k) ≡ Some x
one_later [] k x e = absurd (cc (e))
one_later (y ∷ xs) k x e = e

both : (a b : Bool) → a ≡ true → b ≡ true → (a && b) ≡ true
both a b ea eb = ap (λ x. x && b) ea ∙ eb

-- a number of entries that may stand in a header
may_count : (n count : ℕ) → n ≤ count → (0 < count → 0 < n) → (nat_le n count && (nat_lt 0 n || count == 0)) ≡ true
may_count n zero few some = let none : n ≡ 0 = omega (arith, few) in ap (λ k. nat_le k 0 && (nat_lt 0 k || 0 == 0)) none
may_count zero (suc count) few some = let bad = some (omega arith) in absurd (omega (arith, bad))
may_count (suc n) (suc count) few some =
    both (nat_le (suc n) (suc count)) (nat_lt 0 (suc n) || suc count == 0) (le-leb (suc n) (suc count) few)
    (ap (λ b. b || suc count == 0) (lt-ltb 0 (suc n) (omega arith)))

-- a code that is read may stand where it does
stands_by : (page : ℕ → List ℕ) (run : Run) (rows : ℕ) (lists : List (List ℕ)) → AreLevelLists rows lists → (k : ℕ) → k < length (gaps_of lists)
    → ReadsCode page run (gaps_of lists) k → code_stands rows (code_in (rest_at page run.first (code_place (gaps_of lists) k))) ≡ true
stands_by page run rows lists are k low reads =
    let gap = get_or (gaps_of lists) k 0 in
    ap (code_stands rows) (code_inside page run.first run.count (code_place (gaps_of lists) k) (gap, length (code_of gap)) reads.code).0
    ∙ le-leb gap rows (gap_within rows lists are k low)

-- all codes of a level file are read
module _ (have_codes : LevelListsHaveCodes) (are_read : CodesAreReadFromPages) (fit : LevelFilesFit) where
  reads_by : (page : ℕ → List ℕ) (run : Run) (rows : ℕ) (lists : List (List ℕ)) → AreLevelLists rows lists → run.width ≡ 1
      → run.count ≡ page_bytes * pages_of rows 4 → StoresBytes page run (level_bytes lists)
      → (k : ℕ) → k < length (gaps_of lists) → ReadsCode page run (gaps_of lists) k
  reads_by page run rows lists are width room stores k low =
      let codes = have_codes rows lists are in
      let count = codes.count in
      let few = are.few in
      let spare = fit rows lists are (omega (arith, low, count, few)) in
      are_read page run lists width codes (omega (arith, spare, room)) stores k low

module _ (cat : Catalog) (database : Database) (of : IsOf cat database) (levels : LevelsAreAncestors) (few : AreFew cat) (read : NumbersAreRead) where
  abbrev pub hidden : Hidden
  hidden = hidden_of cat.schema database

  pub above_level : (table level : ℕ) → table < length cat.schema → level < length (levels_of cat.schema table)
      → IsAtOrBelow cat.schema (slice_index (levels_of cat.schema table) level) table
  above_level table level there low =
      (level, sym (levels cat.schema (limited_by cat of.proper).tree table level there) ∙ slice_get-get_or (levels_of cat.schema table) level 0 low)

  pub above_id_level : (table level : ℕ) → table < length cat.schema → level < length (above_of cat.schema table)
      → IsAtOrBelow cat.schema (slice_index (above_of cat.schema table) level) table
  above_id_level table level there low =
      let at = one_later (levels_of cat.schema table) level (slice_index (above_of cat.schema table) level) (slice_get-get_or (above_of cat.schema table) level 0 low) in
      (suc level, sym (levels cat.schema (limited_by cat of.proper).tree table (suc level) there) ∙ at)

  -- lists that have each row once have rows
  pub record HasRows (from : ℕ) (all : List ℕ) : Type 0 where
    pub size : length all ≡ count_of cat from
    pub some : (place : ℕ) → place < length all → 1 ≤ slice_index all place
    pub most : (place : ℕ) → place < length all → slice_index all place ≤ count_of cat from

  from_ids : (n x : ℕ) → Contains (ids n) x → (1 ≤ x) × (x ≤ n)
  from_ids n x has =
      let size = length-range_with_len 1 n in
      let within : has.0 < n = let low = has.1 in omega (arith, low, size) in
      let is = sym (get_or-range_with_len 1 n has.0 x within) ∙ has.2 in
      (omega (arith, is), omega (arith, is, within))

  have_rows : (from : ℕ) (all : List ℕ) → IsPermutation (ids (count_of cat from)) all → HasRows from all
  have_rows from all permutation =
      let n = count_of cat from in
      let one : (place : ℕ) → place < length all → (1 ≤ slice_index all place) × (slice_index all place ≤ n) = λ place low.
      from_ids n (slice_index all place) (Contains-permutation all (ids n) (slice_index all place) (IsPermutation-sym (ids n) all permutation) (Contains-get_or all place 0 low)) in
      record {
        size = length_permutation (ids n) all permutation ∙ length-range_with_len 1 n;
        some = λ place low. (one place low).0;
        most = λ place low. (one place low).1;
      }

  pub value_rows : ListsPartition → (table column level : ℕ) → is_hidden cat.schema table column ≡ true → table < length cat.schema
      → level < length (levels_of cat.schema table) → (values : List (List ℕ)) → AreValues (hidden_cells cat.schema hidden table column) values
      → HasRows (slice_index (levels_of cat.schema table) level) (concat (values_at cat hidden table column values level))
  value_rows partition table column level h there low values are =
      let from = slice_index (levels_of cat.schema table) level in
      have_rows from (concat (values_at cat hidden table column values level))
      (partition cat database (limited_by cat of.proper).tree of.is of.counts table column from h (above_level table level there low) values are)

  pub id_rows : IdListsPartition → (table level : ℕ) → table < length cat.schema → level < length (above_of cat.schema table)
      → HasRows (slice_index (above_of cat.schema table) level) (concat (ids_at cat hidden table level))
  id_rows partition table level there low =
      let from = slice_index (above_of cat.schema table) level in
      have_rows from (concat (ids_at cat hidden table level))
      (partition cat database (limited_by cat of.proper).tree of.is of.counts table from (above_id_level table level there low))

  -- the directory of a climbing index
  module _ (laid : LieAsSummed cat) (order : LieInOrder cat) (fit : CellsFit cat hidden) (values_are : HiddenValuesOfDatabases)
      (ascend : ListsAscend) (have_codes : LevelListsHaveCodes) (are_read : CodesAreReadFromPages) (room : LevelFilesFit)
      (wide : (number : ℕ) → length (number_cell number) ≡ 4) (table column : ℕ) (h : is_hidden cat.schema table column ≡ true) where
    there : table < length cat.schema
    there = (order.there_are table column h).0

    -- a cell of the column spells a value
    spelled_some : (cell : List ℕ) → Contains (hidden_cells cat.schema hidden table column) cell
        → is_some (decode_cell (kind_at cat.schema table column) cell) ≡ true
    spelled_some cell has =
        let place = has.0 in
        let low = has.1 in
        let cells = hidden_cells cat.schema hidden table column in
        let at = slice_get-get_or cells place cell low ∙ ap Some has.2 in
        let size = fit.count table column h in
        let count : count_of cat table ≡ length (rows_of database table) = sym (ap (λ (ns : List ℕ). get_or ns table 0) of.counts) ∙ count_there database table in
        let row = get_within (rows_of database table) place (omega (arith, low, size, count)) in
        let width = of.is.widths table (suc place) row.0 row.1 in
        let within = (order.there_are table column h).1 in
        let held = get_within row.0 column (omega (arith, width, within)) in
        let value : value_at_row database table (suc place) column ≡ Some held.0 =
        ap (option_and_then (λ r. slice_get r column)) row.1 ∙ held.1 in
        ap is_some (fit.value table column place cell h at ∙ (values_are cat.schema database (limited_by cat of.proper).tree of.is table (suc place) column h ∙ value))

    module _ (page : ℕ → List ℕ) (holds : HoldsIndex page cat (hidden_of cat.schema database) table column) where
      level_lists : (from : ℕ) → AreLevelLists (count_of cat from) (value_lists cat hidden table column holds.values from)
      level_lists from = let million = few.rows from in ascend.of_values cat hidden table column from holds.values (omega (arith, million)) holds.are_values

      whole_header : HasRecord page cat (IndexHeader table column) 0 (number_cell (length holds.values))
      whole_header =
          let is = holds.header.has.each 0 (omega arith) in
          let n = length holds.values in
          let most = holds.fits in
          let million = few.rows table in
          let number : number_in (in_slot page cat (IndexHeader table column) 0) 0 ≡ n = ap (λ b. number_in b 0) is ∙ read n (omega (arith, most, million)) in
          let some : 0 < count_of cat table → 0 < n = λ positive.
          let size = fit.count table column h in
          let cells = hidden_cells cat.schema hidden table column in
          let has = holds.are_values.all (get_or cells 0 []) (Contains-get_or cells 0 [] (omega (arith, size, positive))) in
          let low = has.1 in
          omega (arith, low) in
          record {
            is = is;
            stands = ap (λ k. nat_le k (count_of cat table) && (nat_lt 0 k || count_of cat table == 0)) number ∙ may_count n (count_of cat table) most some;
          }

      whole_entry : (entry : ℕ) → entry < length holds.values
          → HasRecord page cat (IndexDirectory table column) entry (directory_record holds.values (levels_of cat.schema table) (value_lists cat hidden table column holds.values) entry)
      unfolding record_at
      whole_entry entry low =
          let tables = levels_of cat.schema table in
          let value = get_or holds.values entry [] in
          let w = width_at cat.schema table column in
          let e : 0 + entry ≡ entry = omega arith in
          let is = holds.entries.places.has.each entry low ∙ get_or-map-range_with_len (directory_record holds.values tables (value_lists cat hidden table column holds.values)) 0 (length holds.values) entry entry [] low e in
          let has = holds.are_values.only value (Contains-get_or holds.values entry [] low) in
          let cells = hidden_cells cat.schema hidden table column in
          let size : length value ≡ w = fit.width table column has.0 value h (slice_get-get_or cells has.0 value has.1 ∙ ap Some has.2) in
          let bytes = directory_record holds.values tables (value_lists cat hidden table column holds.values) entry in
          let front : take w bytes ≡ value = ap (λ n. take n bytes) (sym size) ∙ take-append_seam value _ in
          let stands = stand read wide (value_lists cat hidden table column holds.values) entry cat tables
          (λ other. let pages = few.level other in omega (arith, pages))
          (λ level under.
          let own = values_at cat hidden table column holds.values level in
          let size = length-map holds.values (λ v. filter (λ identifier. bytes_eq (cell_led_to cat.schema hidden table column (slice_index tables level) identifier) v) (ids (count_of cat (slice_index tables level)))) in
          let end = list_ends own entry (omega (arith, size, low)) in
          let all = bytes_fit room (count_of cat (slice_index tables level)) own (level_lists (slice_index tables level)) in
          omega (arith, end, all)) in
          let back = ap (λ n. drop n bytes) (sym size) ∙ drop-append_seam value _ in
          record {
            is = is;
            stands =
                ap (may_stand cat (IndexDirectory table column)) is
                ∙ both (is_some (decode_cell (kind_at cat.schema table column) (take w bytes))) (are_places cat tables (drop w bytes))
                (ap (λ b. is_some (decode_cell (kind_at cat.schema table column) b)) front ∙ spelled_some value has)
                (ap (are_places cat tables) back ∙ stands);
          }

      whole_list : (level : ℕ) → level < length (levels_of cat.schema table) → (k : ℕ) → k < length (gaps_of (values_at cat hidden table column holds.values level))
          → HasGap page cat (IndexLevel table column level) (gaps_of (values_at cat hidden table column holds.values level)) k
      whole_list level low k within =
          let own = values_at cat hidden table column holds.values level in
          let from = slice_index (levels_of cat.schema table) level in
          let reads = reads_by have_codes are_read room page (index_level cat table column level) (count_of cat from) own (level_lists from) refl
          (index_level_room cat table column level low) (holds.entries.levels level low) k within in
          record { reads = reads; stands = stands_by page (index_level cat table column level) (count_of cat from) own (level_lists from) k within reads }

      pub whole : HoldsIndexWhole page cat (hidden_of cat.schema database) table column holds.values
      whole = record { are_values = holds.are_values; few = holds.fits; header = whole_header; entries = whole_entry; lists = whole_list }

  -- and that of an id index
  module _ (ascend : ListsAscend) (have_codes : LevelListsHaveCodes) (are_read : CodesAreReadFromPages) (room : LevelFilesFit)
      (wide : (number : ℕ) → length (number_cell number) ≡ 4) (page : ℕ → List ℕ)
      (all_hold : HoldsIdIndexes page cat (hidden_of cat.schema database)) (table : ℕ) (there : table < length cat.schema)
      (above : is_empty (above_of cat.schema table) ≡ false) where
    id_level_lists : (from : ℕ) → AreLevelLists (count_of cat from) (id_lists cat hidden table from)
    id_level_lists from = let million = few.rows from in ascend.of_ids cat hidden table from (omega (arith, million))

    id_entry : (entry : ℕ) → entry < count_of cat table
        → HasRecord page cat (IdDirectory table) entry (directory_record (replicate (count_of cat table) []) (above_of cat.schema table) (id_lists cat hidden table) entry)
    id_entry entry low =
        let tables = above_of cat.schema table in
        let holds = all_hold table there above in
        let heads : List (List ℕ) = replicate (count_of cat table) [] in
        let n = length heads in
        let count : length heads ≡ count_of cat table = length-replicate (count_of cat table) [] in
        let e : 0 + entry ≡ entry = omega arith in
        let is = holds.places.has.each entry low ∙ get_or-map-range_with_len (directory_record heads tables (id_lists cat hidden table)) 0 (length heads) entry entry [] (omega (arith, low, count)) e in
        let bytes = directory_record heads tables (id_lists cat hidden table) entry in
        let head : get_or heads entry [] ≡ [] = get_or-replicate (count_of cat table) entry [] [] low in
        let stands = stand read wide (id_lists cat hidden table) entry cat tables
        (λ other. let pages = few.level other in omega (arith, pages))
        (λ level under.
        let own = ids_at cat hidden table level in
        let size = length-map (ids (count_of cat table)) (λ v. filter (λ other. is_table v (leads_to cat.schema hidden (slice_index tables level) other table)) (ids (count_of cat (slice_index tables level)))) in
        let rows = length-range_with_len 1 (count_of cat table) in
        let end = list_ends own entry (omega (arith, size, rows, low)) in
        let all = bytes_fit room (count_of cat (slice_index tables level)) own (id_level_lists (slice_index tables level)) in
        omega (arith, end, all)) in
        record { is = is; stands = ap (are_places cat tables) is ∙ (ap (λ front. are_places cat tables (front ++ places read wide (id_lists cat hidden table) entry tables)) head ∙ stands) }

    id_list : (level : ℕ) → level < length (above_of cat.schema table) → (k : ℕ) → k < length (gaps_of (ids_at cat hidden table level))
        → HasGap page cat (IdLevel table level) (gaps_of (ids_at cat hidden table level)) k
    id_list level low k within =
        let own = ids_at cat hidden table level in
        let from = slice_index (above_of cat.schema table) level in
        let reads = reads_by have_codes are_read room page (id_level cat table level) (count_of cat from) own (id_level_lists from) refl
        (id_level_room cat table level low) ((all_hold table there above).levels level low) k within in
        record { reads = reads; stands = stands_by page (id_level cat table level) (count_of cat from) own (id_level_lists from) k within reads }

    pub id_whole : HoldsIdIndexWhole page cat (hidden_of cat.schema database) table
    id_whole = record { entries = id_entry; lists = id_list }

module _ (levels : LevelsAreAncestors) (small : LayoutIsSmall) (read : NumbersAreRead) (wide : (number : ℕ) → length (number_cell number) ≡ 4) (ascend : ListsAscend)
    (have_codes : LevelListsHaveCodes) (are_read : CodesAreReadFromPages) (room : LevelFilesFit) where
  pub whole_indexes : FilesLieAsSummed → FilesLieInOrder → HiddenCellsFit → HiddenPartsGoWithCatalogs → HiddenValuesOfDatabases → HeldIndexesAreWhole
  whole_indexes laid order fit parts values page cat database of table column h holds =
      whole cat database of levels (small.few cat (limited_by cat of.proper)) read (laid cat) (order cat) (fit cat _ (limited_by cat of.proper).tree (parts cat database of.is of.counts)) values
      ascend have_codes are_read room wide table column h page holds

  pub whole_id_indexes : HeldIdIndexesAreWhole
  whole_id_indexes page cat database of holds table there above =
      id_whole cat database of levels (small.few cat (limited_by cat of.proper)) read ascend have_codes are_read room wide page holds table there above
