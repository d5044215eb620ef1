-- The lists that a directory tells, and what reading them gets to.
use Rattle.std.proofs.Common.{◌≡◌, refl, sym, subst, ap, ◌∙◌, ℕ, suc, ◌+◌, ◌*◌, ◌^◌, ◌<◌, true, false, inl, inr, List, [], ◌++◌, length, drop, filter, bytes_eq, replicate, get_or, slice_index, map, Some, slice_get, arith}
use Rattle.std.specs.Prelude.{◌⊎◌}
use Rattle.std.specs.Option.{option_map}
use Rattle.std.proofs.Math.Seq.{drop-append_seam}
use Rattle.std.proofs.lemmas.List.{drop-drop, get_or-replicate, length-map}
use Rattle.std.proofs.lemmas.List.FromFn.{length-range_with_len}
use Rattle.std.proofs.lemmas.Option.{slice_get-get_or}
use Rattle.ghost_model.specs.core.Schema.{is_table}
use Rattle.ghost_model.specs.core.Channel.{Catalog}
use Rattle.ghost_model.specs.core.Values.{Database}
use Rattle.ghost_model.specs.core.Split.{Hidden, hidden_of}
use Rattle.ghost_model.specs.laws.LayoutLaws.{LieAsSummed, AreFew, LayoutIsSmall, FilesLieAsSummed}
use Rattle.ghost_model.specs.laws.ListLaws.{ListsAscend}
use Rattle.ghost_model.specs.laws.GapLaws.{AreLevelLists, LevelFilesFit, LevelListsHaveCodes, ListsBeginAtCodes}
use Rattle.ghost_model.specs.laws.FlashLaws.{CellsFit, HiddenCellsFit, HiddenPartsGoWithCatalogs}
use Rattle.ghost_model.specs.laws.RunLaws.{NumbersAreRead}
use Rattle.ghost_model.specs.forms.Runs.{Run, record_at, number_in, number_cell}
use Rattle.ghost_model.specs.forms.Gaps.{are_codes, code_at, code_in, code_place, gaps_of, list_begin, reading_at, rest_at, ReadsCode}
use Rattle.ghost_model.specs.laws.ShortWords as short
use Rattle.ghost_model.specs.forms.Layout.{is_hidden, width_at, count_of, levels_of, above_of, below, File, IndexDirectory, IndexLevel, IdDirectory, IdLevel}
use Rattle.ghost_model.specs.laws.ShortWords.{index_level, id_level, first_listed}
use Rattle.ghost_model.specs.forms.Flash.{AreValues, cell_led_to, directory_record, hidden_cells, ids, leads_to, list_place, value_lists, id_lists}
use Rattle.ghost_model.specs.forms.Slots.{IsBrokenCode, code_stands, in_slot, may_stand}
use Rattle.ghost_base.specs.Runs.{run_of}
use Rattle.ghost_base.specs.declared.runs.ListRef.{ListRef}
use Rattle.climbing_index.specs.declared.directory.LevelFile.{LevelFile}
use Rattle.climbing_index.specs.declared.index.ClimbingIndex.{ClimbingIndex}
use Rattle.climbing_index.specs.declared.index.IdIndex.{IdIndex}
use Rattle.climbing_index.specs.Directories.{file_of, entry_stands}
use Rattle.climbing_index.specs.Indexes.{IsIndexOf, IsIdIndexOf}
use Rattle.climbing_index.specs.Holding.{HasRecordBut, HoldsIndexBut, HoldsIndexWhole, HoldsIdIndexBut, HoldsIdIndexWhole, values_at, ids_at}
use Rattle.climbing_index.specs.Laws.{IsOf, IsListOf, HasList, HasListBut, ListsAreOfValues, ListsAreOfIdentifiers, ListsAreRead, ReadsAlike, WholeIndexesAreHeldBut}
use Rattle.climbing_index.proofs.LevelFiles.{how_many, at_level}
use Rattle.climbing_index.proofs.ListPlaces.{first_in, second_in, places, at_place}
use Rattle.climbing_index.proofs.Codes.{bytes_fit, list_ends}
use Rattle.climbing_index.proofs.ReadLists.{HasCodes, HasCodesBut, IsPlaced, list_but, none_broken, reads_alike, whole_list}
use Rattle.climbing_index.proofs.HeldIndexes.{same_entry, same_id_entry, value_wide}
use Rattle.ghost_model.proofs.LayoutLemmas.Limited.{limited_by}

-- a slot that may stand has its record
pub its_record : (page : ℕ → List ℕ) (cat : Catalog) (file : File) (place : ℕ) (bytes : List ℕ) → HasRecordBut page cat file place bytes
    → may_stand cat file (in_slot page cat file place) ≡ true → in_slot page cat file place ≡ bytes
its_record page cat file place bytes has stands =
    elim has [
      | inl is ↦ is
      | inr wrong ↦ (let clash = sym stands ∙ wrong in absurd (cc (clash)))
    ]

-- the run of a list is the level's file
pub run_at : (file : ℕ → Run) (count : ℕ) (files : List LevelFile) → map file_of files ≡ map file (below count) → (level : ℕ) → level < count
    → (run : Run) → option_map file_of (slice_get files level) ≡ Some run → run ≡ file level
run_at file count files are level low run e =
    let size = how_many file count files are in
    let d : LevelFile = record { first = 0; count = 0 } in
    let at = slice_get-get_or files level d (omega (arith, size, low)) in
    let same : Some (file_of (get_or files level d)) ≡ Some run = sym (ap (option_map file_of) at) ∙ e in
    let one : file_of (get_or files level d) ≡ run = cc in
    sym one ∙ at_level file count files are level (get_or files level d) at

module _ (read : NumbersAreRead) (wide : (number : ℕ) → length (number_cell number) ≡ 4) where
  placed_by : (lists : ℕ → List (List ℕ)) (entry : ℕ) (tables : List ℕ) (level : ℕ) (head bytes : List ℕ) (width first count : ℕ)
      → bytes ≡ head ++ places read wide lists entry tables → length head ≡ width → level < length tables
      → list_begin (lists (slice_index tables level)) entry + length (get_or (lists (slice_index tables level)) entry []) < 2 ^ 32
      → first ≡ first_listed (drop (width + 8 * level) bytes) → count ≡ number_in (drop (width + 8 * level) bytes) 4
      → IsPlaced first count (lists (slice_index tables level)) entry
  placed_by lists entry tables level head bytes width first count is size low small first_is count_is =
      let own = lists (slice_index tables level) in
      let begin = list_begin own entry in
      let long = length (get_or own entry []) in
      let later : List ℕ = places read wide lists entry (drop (suc level) tables) in
      let at : drop (width + 8 * level) bytes ≡ list_place own entry ++ later =
      sym (drop-drop (8 * level) width bytes)
      ∙ (ap (λ b. drop (8 * level) (drop width b)) is
      ∙ (ap (λ n. drop (8 * level) (drop n (head ++ places read wide lists entry tables))) (sym size)
      ∙ (ap (drop (8 * level)) (drop-append_seam head (places read wide lists entry tables))
      ∙ at_place read wide lists entry tables level low))) in
      record {
        first = first_is ∙ (ap (λ b. number_in b 0) at ∙ first_in read wide begin long later (omega (arith, small)));
        count = count_is ∙ (ap (λ b. number_in b 4) at ∙ second_in read wide begin long later (omega (arith, small)));
      }

module _ (cat : Catalog) (hidden : Hidden) (laid : LieAsSummed cat) (few : AreFew cat) (read : NumbersAreRead) (wide : (number : ℕ) → length (number_cell number) ≡ 4)
    (ascend : ListsAscend) (have_codes : LevelListsHaveCodes) (begin_at : ListsBeginAtCodes) (room : LevelFilesFit) where
  small_end : (from : ℕ) (lists : List (List ℕ)) → AreLevelLists (count_of cat from) lists → (entry : ℕ) → entry < length lists
      → list_begin lists entry + length (get_or lists entry []) < 2 ^ 32
  small_end from lists are entry there =
      let end = list_ends lists entry there in
      let bytes = bytes_fit room (count_of cat from) lists are in
      let pages = few.level from in
      omega (arith, end, bytes, pages)

  -- the lists of a climbing index
  module _ (fit : CellsFit cat hidden) (table column : ℕ) (h : is_hidden cat.schema table column ≡ true) (values : List (List ℕ))
      (are_values : AreValues (hidden_cells cat.schema hidden table column) values) (entry level : ℕ) (there : entry < length values)
      (low : level < length (levels_of cat.schema table)) where
    abbrev own : List (List ℕ)
    own = values_at cat hidden table column values level

    abbrev from : ℕ
    from = slice_index (levels_of cat.schema table) level

    are : AreLevelLists (count_of cat (slice_index (levels_of cat.schema table) level)) (values_at cat hidden table column values level)
    are = let million = few.rows from in ascend.of_values cat hidden table column from values (omega (arith, million)) are_values

    listed : entry < length (values_at cat hidden table column values level)
    listed =
        let size = length-map values (λ value. filter (λ identifier. bytes_eq (cell_led_to cat.schema hidden table column from identifier) value) (ids (count_of cat from))) in
        omega (arith, size, there)

    placed_in : (bytes : List ℕ) (width first count : ℕ) → bytes ≡ directory_record values (levels_of cat.schema table) (value_lists cat hidden table column values) entry
        → width ≡ width_at cat.schema table column → first ≡ first_listed (drop (width + 8 * level) bytes) → count ≡ number_in (drop (width + 8 * level) bytes) 4
        → IsPlaced first count (values_at cat hidden table column values level) entry
    placed_in bytes width first count is wide_is first_is count_is =
        placed_by read wide (value_lists cat hidden table column values) entry (levels_of cat.schema table) level (get_or values entry []) bytes width first count is
        (value_wide cat hidden fit table column h values are_values entry there ∙ sym wide_is) low (small_end from own are entry listed) first_is count_is

    module _ (index : ClimbingIndex) (is : IsIndexOf cat table column index) (placer : ℕ → List ℕ)
        (holds : HoldsIndexBut placer cat hidden table column values) (list : ListRef) (given : IsListOf placer index.directory entry level list) where
      bytes_are : record_at placer (run_of index.directory.run) entry
          ≡ directory_record values (levels_of cat.schema table) (value_lists cat hidden table column values) entry
      bytes_are =
          ap (λ r. record_at placer r entry) is.run_is
          ∙ its_record placer cat (IndexDirectory table column) entry _ (holds.entries entry there)
          (sym (same_entry cat laid table column h index is (record_at placer (short.index_directory cat table column) entry))
          ∙ (sym (ap (λ r. entry_stands index.directory (record_at placer r entry)) is.run_is) ∙ given.listed.stands))

      placed : IsPlaced list.first list.count (values_at cat hidden table column values level) entry
      placed =
          placed_in (record_at placer (run_of index.directory.run) entry) index.directory.cell list.first list.count bytes_are is.cell_is
          given.listed.place.first given.listed.place.count

      file_is : run_of list.run ≡ index_level cat table column level
      file_is = run_at (index_level cat table column) (length (levels_of cat.schema table)) index.directory.levels.items is.levels_are level low (run_of list.run) given.run

      has_codes : (page : ℕ → List ℕ) → HoldsIndexWhole page cat hidden table column values → HasCodes page (run_of list.run) (gaps_of own)
      has_codes page whole = λ k within. subst (λ r. ReadsCode page r (gaps_of own) k) (sym file_is) (whole.lists level low k within).reads

      has_codes_but : (page : ℕ → List ℕ) → HoldsIndexBut page cat hidden table column values → HasCodesBut page (run_of list.run) (count_of cat from) (gaps_of own)
      has_codes_but page but = λ k within.
          subst (λ (r : Run). ReadsCode page r (gaps_of own) k ⊎ (code_stands (count_of cat from) (code_in (rest_at page r.first (code_place (gaps_of own) k))) ≡ false)) (sym file_is)
          (but.lists level low k within)

      pub value_list : (page : ℕ → List ℕ) → HoldsIndexWhole page cat hidden table column values
          → HasList page list (get_or (values_at cat hidden table column values level) entry [])
      value_list page whole = whole_list have_codes begin_at cat from own are entry listed list (ap are_codes file_is) placed page (has_codes page whole)

      pub value_list_but : (page : ℕ → List ℕ) → HoldsIndexBut page cat hidden table column values
          → HasListBut page cat (slice_index (levels_of cat.schema table) level) list (get_or (values_at cat hidden table column values level) entry [])
      value_list_but page but = list_but have_codes begin_at cat from own are entry listed list (ap are_codes file_is) placed page (has_codes_but page but)

      pub value_alike : (page right : ℕ → List ℕ) → HoldsIndexWhole right cat hidden table column values → HoldsIndexBut page cat hidden table column values
          → ReadsAlike page right cat (slice_index (levels_of cat.schema table) level) list (get_or (values_at cat hidden table column values level) entry [])
      value_alike page right whole but =
          reads_alike have_codes begin_at cat from own are entry listed list (ap are_codes file_is) placed page right (has_codes right whole) (has_codes_but page but)

    -- no code that reading them gets to is broken
    value_code_stands : (page : ℕ → List ℕ) → HoldsIndexWhole page cat hidden table column values → (i place last : ℕ)
        → i < number_in (drop (width_at cat.schema table column + 8 * level) (record_at page (short.index_directory cat table column) entry)) 4
        → reading_at page (index_level cat table column level).first (index_level cat table column level).count
        (number_in (drop (width_at cat.schema table column + 8 * level) (record_at page (short.index_directory cat table column) entry)) 0) i
        ≡ Some (record { place = place; last = last })
        → code_stands (count_of cat (slice_index (levels_of cat.schema table) level))
        (option_map (λ code. (last + code.0, code.1)) (code_at page (index_level cat table column level).first (index_level cat table column level).count place)) ≡ true
    value_code_stands page whole i place last inside at =
        none_broken have_codes begin_at (count_of cat from) own are entry listed page (index_level cat table column level) _ _
        (placed_in (record_at page (short.index_directory cat table column) entry) (width_at cat.schema table column) _ _ (whole.entries entry there).is refl refl refl)
        (λ k within. (whole.lists level low k within).reads) i place last inside at

  -- those of an id index
  module _ (table : ℕ) (inside : table < length cat.schema) (entry level : ℕ) (there : entry < count_of cat table) (low : level < length (above_of cat.schema table)) where
    abbrev id_own : List (List ℕ)
    id_own = ids_at cat hidden table level

    abbrev id_from : ℕ
    id_from = slice_index (above_of cat.schema table) level

    id_are : AreLevelLists (count_of cat (slice_index (above_of cat.schema table) level)) (ids_at cat hidden table level)
    id_are = let million = few.rows id_from in ascend.of_ids cat hidden table id_from (omega (arith, million))

    id_listed : entry < length (ids_at cat hidden table level)
    id_listed =
        let size = length-map (ids (count_of cat table)) (λ identifier. filter (λ other. is_table identifier (leads_to cat.schema hidden id_from other table)) (ids (count_of cat id_from))) in
        let rows = length-range_with_len 1 (count_of cat table) in
        omega (arith, size, rows, there)

    id_placed_in : (bytes : List ℕ) (width first count : ℕ)
        → bytes ≡ directory_record (replicate (count_of cat table) []) (above_of cat.schema table) (id_lists cat hidden table) entry
        → width ≡ 0 → first ≡ first_listed (drop (width + 8 * level) bytes) → count ≡ number_in (drop (width + 8 * level) bytes) 4
        → IsPlaced first count (ids_at cat hidden table level) entry
    id_placed_in bytes width first count is wide_is first_is count_is =
        let heads : List (List ℕ) = replicate (count_of cat table) [] in
        let head : get_or heads entry [] ≡ [] = get_or-replicate (count_of cat table) entry [] [] there in
        placed_by read wide (id_lists cat hidden table) entry (above_of cat.schema table) level (get_or heads entry []) bytes width first count is
        (ap length head ∙ sym wide_is) low (small_end id_from id_own id_are entry id_listed) first_is count_is

    module _ (index : IdIndex) (is : IsIdIndexOf cat table index) (placer : ℕ → List ℕ)
        (holds : HoldsIdIndexBut placer cat hidden table) (list : ListRef) (given : IsListOf placer index.directory entry level list) where
      id_bytes_are : record_at placer (run_of index.directory.run) entry
          ≡ directory_record (replicate (count_of cat table) []) (above_of cat.schema table) (id_lists cat hidden table) entry
      id_bytes_are =
          ap (λ r. record_at placer r entry) is.run_is
          ∙ its_record placer cat (IdDirectory table) entry _ (holds.entries entry there)
          (sym (same_id_entry cat laid table inside index is (record_at placer (short.id_directory cat table) entry))
          ∙ (sym (ap (λ r. entry_stands index.directory (record_at placer r entry)) is.run_is) ∙ given.listed.stands))

      id_placed : IsPlaced list.first list.count (ids_at cat hidden table level) entry
      id_placed =
          id_placed_in (record_at placer (run_of index.directory.run) entry) index.directory.cell list.first list.count id_bytes_are is.cell_is
          given.listed.place.first given.listed.place.count

      id_file_is : run_of list.run ≡ id_level cat table level
      id_file_is = run_at (id_level cat table) (length (above_of cat.schema table)) index.directory.levels.items is.levels_are level low (run_of list.run) given.run

      has_id_codes : (page : ℕ → List ℕ) → HoldsIdIndexWhole page cat hidden table → HasCodes page (run_of list.run) (gaps_of id_own)
      has_id_codes page whole = λ k within. subst (λ r. ReadsCode page r (gaps_of id_own) k) (sym id_file_is) (whole.lists level low k within).reads

      has_id_codes_but : (page : ℕ → List ℕ) → HoldsIdIndexBut page cat hidden table → HasCodesBut page (run_of list.run) (count_of cat id_from) (gaps_of id_own)
      has_id_codes_but page but = λ k within.
          subst (λ (r : Run). ReadsCode page r (gaps_of id_own) k ⊎ (code_stands (count_of cat id_from) (code_in (rest_at page r.first (code_place (gaps_of id_own) k))) ≡ false)) (sym id_file_is)
          (but.lists level low k within)

      pub id_list : (page : ℕ → List ℕ) → HoldsIdIndexWhole page cat hidden table → HasList page list (get_or (ids_at cat hidden table level) entry [])
      id_list page whole = whole_list have_codes begin_at cat id_from id_own id_are entry id_listed list (ap are_codes id_file_is) id_placed page (has_id_codes page whole)

      pub id_list_but : (page : ℕ → List ℕ) → HoldsIdIndexBut page cat hidden table
          → HasListBut page cat (slice_index (above_of cat.schema table) level) list (get_or (ids_at cat hidden table level) entry [])
      id_list_but page but = list_but have_codes begin_at cat id_from id_own id_are entry id_listed list (ap are_codes id_file_is) id_placed page (has_id_codes_but page but)

      pub id_alike : (page right : ℕ → List ℕ) → HoldsIdIndexWhole right cat hidden table → HoldsIdIndexBut page cat hidden table
          → ReadsAlike page right cat (slice_index (above_of cat.schema table) level) list (get_or (ids_at cat hidden table level) entry [])
      id_alike page right whole but =
          reads_alike have_codes begin_at cat id_from id_own id_are entry id_listed list (ap are_codes id_file_is) id_placed page right (has_id_codes right whole) (has_id_codes_but page but)

    id_code_stands : (page : ℕ → List ℕ) → HoldsIdIndexWhole page cat hidden table → (i place last : ℕ)
        → i < number_in (drop (8 * level) (record_at page (short.id_directory cat table) entry)) 4
        → reading_at page (id_level cat table level).first (id_level cat table level).count
        (number_in (drop (8 * level) (record_at page (short.id_directory cat table) entry)) 0) i
        ≡ Some (record { place = place; last = last })
        → code_stands (count_of cat (slice_index (above_of cat.schema table) level))
        (option_map (λ code. (last + code.0, code.1)) (code_at page (id_level cat table level).first (id_level cat table level).count place)) ≡ true
    id_code_stands page whole i place last within at =
        let e : 8 * level ≡ 0 + 8 * level = omega arith in
        let bytes = record_at page (short.id_directory cat table) entry in
        none_broken have_codes begin_at (count_of cat id_from) id_own id_are entry id_listed page (id_level cat table level) _ _
        (id_placed_in bytes 0 _ _ (whole.entries entry there).is refl (ap (λ n. first_listed (drop n bytes)) e) (ap (λ n. number_in (drop n bytes) 4) e))
        (λ k inside. (whole.lists level low k inside).reads) i place last within at

-- ---- the laws

module _ (laid : FilesLieAsSummed) (small : LayoutIsSmall) (fit : HiddenCellsFit) (parts : HiddenPartsGoWithCatalogs) (read : NumbersAreRead)
    (wide : (number : ℕ) → length (number_cell number) ≡ 4) (ascend : ListsAscend) (have_codes : LevelListsHaveCodes) (begin_at : ListsBeginAtCodes) (room : LevelFilesFit)
    (but : WholeIndexesAreHeldBut) where
  cells : (cat : Catalog) (database : Database) → IsOf cat database → CellsFit cat (hidden_of cat.schema database)
  cells cat database of = fit cat _ (limited_by cat of.proper).tree (parts cat database of.is of.counts)

  pub value_lists_are : ListsAreOfValues
  value_lists_are = record {
    whole = λ page cat database of table column h values holds index is entry level there low list given.
        value_list cat (hidden_of cat.schema database) (laid cat) (small.few cat (limited_by cat of.proper)) read wide ascend have_codes begin_at room (cells cat database of)
        table column h values holds.are_values entry level there low index is page (but.index page cat _ table column values holds) list given page holds;
    but = λ page cat database of table column h values holds index is entry level there low list given.
        value_list_but cat (hidden_of cat.schema database) (laid cat) (small.few cat (limited_by cat of.proper)) read wide ascend have_codes begin_at room (cells cat database of)
        table column h values holds.are_values entry level there low index is page holds list given page holds;
  }

  pub id_lists_are : ListsAreOfIdentifiers
  id_lists_are = record {
    whole = λ page cat database of table inside holds index is entry level there low list given.
        id_list cat (hidden_of cat.schema database) (laid cat) (small.few cat (limited_by cat of.proper)) read wide ascend have_codes begin_at room
        table inside entry level there low index is page (but.id_index page cat _ table holds) list given page holds;
    but = λ page cat database of table inside holds index is entry level there low list given.
        id_list_but cat (hidden_of cat.schema database) (laid cat) (small.few cat (limited_by cat of.proper)) read wide ascend have_codes begin_at room
        table inside entry level there low index is page holds list given page holds;
  }

  pub lists_are_read : ListsAreRead
  lists_are_read = record {
    values = λ page right cat database of table column h values whole held index is entry level there low list given.
        value_alike cat (hidden_of cat.schema database) (laid cat) (small.few cat (limited_by cat of.proper)) read wide ascend have_codes begin_at room (cells cat database of)
        table column h values whole.are_values entry level there low index is right (but.index right cat _ table column values whole) list given page right whole held;
    identifiers = λ page right cat database of table inside whole held index is entry level there low list given.
        id_alike cat (hidden_of cat.schema database) (laid cat) (small.few cat (limited_by cat of.proper)) read wide ascend have_codes begin_at room
        table inside entry level there low index is right (but.id_index right cat _ table whole) list given page right whole held;
  }

  -- no code that is read of an index that is whole is broken
  pub none_of_values : (page : ℕ → List ℕ) (cat : Catalog) (database : Database) → IsOf cat database
      → (table column : ℕ) → is_hidden cat.schema table column ≡ true
      → (values : List (List ℕ)) → HoldsIndexWhole page cat (hidden_of cat.schema database) table column values
      → (level : ℕ) → level < length (levels_of cat.schema table) → (place : ℕ)
      → IsBrokenCode page cat (IndexLevel table column level) (IndexDirectory table column) (width_at cat.schema table column + 8 * level)
      (count_of cat (slice_index (levels_of cat.schema table) level)) place → ⊥
  none_of_values page cat database of table column h values whole level low place broken =
      let million = (small.few cat (limited_by cat of.proper)).rows table in
      let most = whole.few in
      let told = ap (λ bytes. number_in bytes 0) whole.header.is ∙ read (length values) (omega (arith, million, most)) in
      let there = broken.there in
      let good = value_code_stands cat (hidden_of cat.schema database) (laid cat) (small.few cat (limited_by cat of.proper)) read wide ascend have_codes begin_at room (cells cat database of)
      table column h values whole.are_values broken.entry level (omega (arith, told, there)) low page whole broken.i place broken.last broken.within broken.gets in
      let clash = sym good ∙ broken.broken in
      cc (clash)

  pub none_of_ids : (page : ℕ → List ℕ) (cat : Catalog) (database : Database) → IsOf cat database → (table : ℕ) → table < length cat.schema
      → HoldsIdIndexWhole page cat (hidden_of cat.schema database) table
      → (level : ℕ) → level < length (above_of cat.schema table) → (place : ℕ)
      → IsBrokenCode page cat (IdLevel table level) (IdDirectory table) (8 * level) (count_of cat (slice_index (above_of cat.schema table) level)) place → ⊥
  none_of_ids page cat database of table inside whole level low place broken =
      let good = id_code_stands cat (hidden_of cat.schema database) (laid cat) (small.few cat (limited_by cat of.proper)) read wide ascend have_codes begin_at room
      table inside broken.entry level broken.there low page whole broken.i place broken.last broken.within broken.gets in
      let clash = sym good ∙ broken.broken in
      cc (clash)
