-- The index of a hidden column whose rows are ranked: what its entries and levels are, and where they lie.
use Rattle.std.proofs.Common.{◌≡◌, refl, ap, sym, ◌∙◌, subst, ℕ, ◌+◌, ◌*◌, ◌<◌, ◌≤◌, true, cond, List, [], ◌∷◌, length, map, get_or, Vec, Result, arith}
use Rattle.std.specs.Global.{Global}
use Rattle.std.specs.List.{All}
use Rattle.std.proofs.lemmas.List.{length-map, get_or-map}
use Rattle.std.proofs.lemmas.List.Elements.{All-from_get_or}
use Rattle.ghost_model.specs.core.Channel.{Catalog}
use Rattle.ghost_model.specs.core.Split.{Hidden}
use Rattle.ghost_model.specs.forms.Runs.{Run, Stores, pages_of, run_pages, run_end, number_cell}
use Rattle.ghost_model.specs.forms.Flash.{HoldsLists, HoldsIndex, hidden_cells, value_lists}
use Rattle.ghost_model.specs.forms.Work.{value_count, values_at, levels_written}
use Rattle.ghost_model.specs.laws.WorkLaws.{ValuesAreCounted, index_written}
use Rattle.ghost_model.specs.laws.FlashLaws.{CellsFit}
use Rattle.ghost_model.proofs.RunLemmas.{run_kept}
use Rattle.ghost_model.specs.laws.ShortWords as short
use Rattle.ghost_model.specs.forms.Layout as layout
use Rattle.ghost_model.specs.forms.Layout.{is_hidden, width_at, count_of, levels_of, files_pages}
use Rattle.ghost_model.specs.laws.LayoutSums.{index_begin, index_pages, directory_pages, directory_width, levels_pages}
use Rattle.flash_layout.specs.Limits.{HasLayout}
use Rattle.edge_traits.specs.Devices.{Device, ChangesOnly}
use Rattle.flash_pages.specs.Filling.{CanFill}
use Rattle.flash_pages.proofs.RunFrames.{can_fill_part}
use Rattle.index_lists.specs.Ranks.{Ranks, cells_of_rows}
use Rattle.index_lists.specs.Laws.{ValueListsByRanks}
use Rattle.index_files.specs.Files.{AreLevels, counts_of, level_pages, written_pages}
use Rattle.index_files.specs.Laws.{FilesOfTables}
use Rattle.flash_build.specs.declared.faults.BuildFault.{BuildFault}
use Rattle.flash_build.specs.Building.{HoldsEntries, Wrote, entries_written}
use Rattle.flash_build.specs.Levels.{AreRankedAbove, items_of}
use Rattle.flash_build.proofs.Writes.{wrote_as, can_as, agree_below, runs_same}
use Rattle.flash_build.proofs.Entries.{all_few, all_ranked, are_levels, pages_are}
use Rattle.flash_build.proofs.IndexPlaces.{IsIndex, is_index}

-- the rows that show the values are rows
pub rows_there : (cells kept : List (List ℕ)) (ranks shown : List ℕ) → cells ≡ kept → Ranks kept ranks shown → All (λ row. row < length cells) shown
rows_there cells kept ranks shown same are =
    All-from_get_or (λ row. row < length cells) shown 0 (λ k low. let r = are.rows k low in let size = ap length same in omega (arith, r, size))

-- so many ranks as rows
pub ranks_long : (cat : Catalog) (hidden : Hidden) (table column : ℕ) (ranks shown : List ℕ) → CellsFit cat hidden → is_hidden cat.schema table column ≡ true
    → Ranks (hidden_cells cat.schema hidden table column) ranks shown → length ranks ≡ count_of cat table
ranks_long cat hidden table column ranks shown fit h are = are.ranked.long ∙ fit.count table column h

module _ (cat : Catalog) (hidden : Hidden) (table column : ℕ) (laid : HasLayout cat) (h : is_hidden cat.schema table column ≡ true) (own_there : 0 < length (levels_of cat.schema table))
    (fit : CellsFit cat hidden) (ranks shown : List ℕ) (are : Ranks (hidden_cells cat.schema hidden table column) ranks shown)
    (below : All (λ rank. rank < length shown) ranks) (least : length shown ≤ count_of cat table)
    (room first : Run) (is : room ≡ short.index_directory cat table column) (level : first ≡ short.index_level cat table column 0) (all : List (Vec ℕ Global))
    (levels : AreRankedAbove cat hidden table ranks (levels_of cat.schema table) (map items_of all)) where
  abbrev pub values : List (List ℕ)
  values = cells_of_rows (hidden_cells cat.schema hidden table column) shown

  size : length values ≡ length shown
  size = length-map shown (λ row. get_or (hidden_cells cat.schema hidden table column) row [])

  abbrev pub directory : (count : ℕ) → Run
  directory count = record { first = room.first; count = count; width = room.width }

  pub at : IsIndex cat table column room first (length shown)
  at = is_index cat table column room first (length shown) laid h own_there least is level

  many : length all ≡ length (levels_of cat.schema table)
  many = sym (length-map all items_of) ∙ levels.count

  pub small : All (λ (v : Vec ℕ Global). length v.items < 2097152) all
  small = all_few cat hidden table ranks laid.few.rows (levels_of cat.schema table) all levels

  pub each_ranked : (count : ℕ) → count ≡ length shown → All (λ (v : Vec ℕ Global). All (λ rank. rank < count) v.items) all
  each_ranked count e =
      subst (λ n. All (λ (v : Vec ℕ Global). All (λ rank. rank < n) v.items) all) (sym e)
      (all_ranked cat hidden table ranks (length shown) (ranks_long cat hidden table column ranks shown fit h are) below (levels_of cat.schema table) all levels)

  -- heads as wide as the cells of the column
  pub widths : (cells : List (List ℕ)) → cells ≡ hidden_cells cat.schema hidden table column
      → ((i : ℕ) → i < length cells → length (get_or cells i []) ≡ width_at cat.schema table column)
      → (entry : ℕ) → entry < length (cells_of_rows cells shown) → length (get_or (cells_of_rows cells shown) entry []) + 8 * length all ≡ room.width
  widths cells same wide entry low =
      let count = length-map shown (λ row. get_or cells row []) in
      let within : entry < length shown = omega (arith, low, count) in
      let row = are.rows entry within in
      let there : get_or shown entry 0 < length cells = (let s = ap length same in omega (arith, row, s)) in
      let head = ap length (get_or-map (λ row. get_or cells row []) shown entry 0 [] within) in
      let one = wide (get_or shown entry 0) there in
      let w = at.width in
      omega (arith, head, one, w, many)

  pub order : (count : ℕ) → count ≡ length shown → run_end (directory count) ≤ first.first
  order count e =
      let d = at.directory in let b = at.begin in let f = at.fewer in
      let pages = ap (pages_of count) at.width ∙ ap (λ n. pages_of n (directory_width cat.schema table column)) e in
      omega (arith, d, b, f, pages)

  module _ (files : FilesOfTables) (count : ℕ) (e : count ≡ length shown) where
    pages : level_pages (counts_of (map items_of all)) ≡ levels_pages cat (levels_of cat.schema table)
    pages = pages_are cat hidden table ranks files (levels_of cat.schema table) (map items_of all) levels

    directory_is : run_pages (directory count) ≡ pages_of (length shown) (directory_width cat.schema table column)
    directory_is = ap (pages_of count) at.width ∙ ap (λ n. pages_of n (directory_width cat.schema table column)) e

    pub can : {device : Device} → CanFill device (index_begin cat table column + 1) (directory_pages cat table column + levels_pages cat (levels_of cat.schema table))
        → CanFill device room.first (run_pages (directory count))
    can c =
        can_as (sym at.directory) (sym directory_is)
        (can_fill_part c (index_begin cat table column + 1) (pages_of (length shown) (directory_width cat.schema table column)) (omega arith) (let f = at.fewer in omega (arith, f)))

    pub can_levels : {device : Device} → CanFill device (index_begin cat table column + 1) (directory_pages cat table column + levels_pages cat (levels_of cat.schema table))
        → CanFill device first.first (level_pages (counts_of (map items_of all)))
    can_levels c =
        can_as (sym at.begin) (sym pages)
        (can_fill_part c (index_begin cat table column + 1 + directory_pages cat table column) (levels_pages cat (levels_of cat.schema table)) (omega arith) (omega arith))

    levels_are : ValueListsByRanks
        → AreLevels (map items_of all) count first.first (levels_of cat.schema table) (value_lists cat hidden table column values) (short.index_level cat table column)
    levels_are law =
        let lists = value_lists cat hidden table column values in
        let file = short.index_level cat table column in
        let tables = levels_of cat.schema table in
        let begin = index_begin cat table column + 1 + directory_pages cat table column in
        let long = ranks_long cat hidden table column ranks shown fit h are in
        let here : AreLevels (map items_of all) (length values) begin tables lists file =
        are_levels cat hidden table ranks files tables (map items_of all) levels (length values) begin lists file
        (λ from reached lead. law cat hidden table column from values ranks reached are.values are.ranked long lead) (λ l low. laid.sums.index_level table column l h low) in
        subst (λ n. AreLevels (map items_of all) n first.first tables lists file) (size ∙ sym e)
        (subst (λ n. AreLevels (map items_of all) (length values) n tables lists file) (sym at.begin) here)

    pub wrote : {T : Type 0} {a b : Device} (result : Result T BuildFault) → ValueListsByRanks
        → Wrote room.first (first.first + level_pages (counts_of (map items_of all))) (run_pages (directory count) + written_pages (map items_of all) count) a b result
        → Wrote (index_begin cat table column + 1) (index_begin cat table column + index_pages cat table column) (entries_written cat hidden table column values) a b result
    wrote result law w =
        let entries = ap (λ n. pages_of n (directory_width cat.schema table column)) size in
        let bytes = files.written (map items_of all) count first.first (levels_of cat.schema table) (value_lists cat hidden table column values) (short.index_level cat table column) (levels_are law) in
        wrote_as result at.directory (let b = at.begin in let w = at.whole in omega (arith, b, w, pages)) (omega (arith, directory_is, entries, bytes)) w

    pub holds : {page : ℕ → List ℕ} (cells : List (List ℕ)) → cells ≡ hidden_cells cat.schema hidden table column → ValueListsByRanks
        → ((tables : List ℕ) (lists : ℕ → List (List ℕ)) (file : ℕ → Run) → AreLevels (map items_of all) count first.first tables lists file
        → HoldsLists page (directory count) file (cells_of_rows cells shown) tables lists)
        → HoldsEntries page cat hidden table column values
    holds {page = page} cells same law stand =
        let lists = value_lists cat hidden table column values in
        let file = short.index_level cat table column in
        let tables = levels_of cat.schema table in
        let run : directory count ≡ record (short.index_directory cat table column) { count = length values } =
        runs_same (ap (λ (r : Run). r.first) is) (e ∙ sym size) (ap (λ (r : Run). r.width) is) in
        subst (λ r. HoldsLists page r file values tables lists) run
        (subst (λ (cs : List (List ℕ)). HoldsLists page (directory count) file (cells_of_rows cs shown) tables lists) same (stand tables lists file (levels_are law)))

-- a whole index: its header, and the entries behind it
module _ (cat : Catalog) (hidden : Hidden) (table column : ℕ) (laid : HasLayout cat) (h : is_hidden cat.schema table column ≡ true)
    (ranks shown : List ℕ) (are : Ranks (hidden_cells cat.schema hidden table column) ranks shown) (least : length shown ≤ count_of cat table) where
  abbrev pub held : List (List ℕ)
  held = cells_of_rows (hidden_cells cat.schema hidden table column) shown

  held_size : length held ≡ length shown
  held_size = length-map shown (λ row. get_or (hidden_cells cat.schema hidden table column) row [])

  pub index_holds : {b c : Device} (run : Run) → run ≡ short.index_header cat table column → (number : ℕ) → number ≡ length shown
      → Stores b.page (record { first = run.first; count = 1; width = 4 }) (number_cell number ∷ [])
      → ChangesOnly (index_begin cat table column + 1) (index_begin cat table column + index_pages cat table column) b c
      → HoldsEntries c.page cat hidden table column held → HoldsIndex c.page cat hidden table column
  index_holds {b = b} {c = c} run is number e stores changes entries =
      let header = short.index_header cat table column in
      let first = laid.sums.index_header table column h in
      let run_is : record { first = run.first; count = 1; width = 4 } ≡ header = runs_same (ap (λ (r : Run). r.first) is) refl refl in
      let here : Stores b.page header (number_cell number ∷ []) = subst (λ r. Stores b.page r (number_cell number ∷ [])) run_is stores in
      let kept : Stores c.page header (number_cell number ∷ []) =
      run_kept b.page c.page header (number_cell number ∷ []) (omega arith) (omega arith)
      (λ k from to. agree_below changes (index_begin cat table column) (index_begin cat table column + 1) (omega arith) k (omega (arith, from, first)) (omega (arith, to, first))) here in
      record {
        values = held;
        are_values = are.values;
        header = subst (λ n. Stores c.page header (number_cell n ∷ [])) (e ∙ sym held_size) kept;
        fits = omega (arith, held_size, least);
        entries = entries;
      }

  abbrev pages_by : (count : ℕ) → List (List ℕ) → ℕ
  pages_by count values =
      1 + (pages_of count (directory_width cat.schema table column) + files_pages (levels_written (value_lists cat hidden table column values) (levels_of cat.schema table)))

  pub written_is : ValuesAreCounted → 1 + entries_written cat hidden table column held ≡ index_written cat hidden table column
  written_is counted =
      let count = counted.count cat hidden table column held are.values in
      let same = counted.are cat hidden table column held are.values in
      ap (λ n. pages_by n held) (sym count)
      ∙ (ap (λ values. pages_by (value_count cat hidden table column) values) (sym same)
      ∙ sym (ap (λ b. cond b (pages_by (value_count cat hidden table column) (values_at cat hidden table column)) 0) h))

  -- at most as many as there is room for
  pub pages_whole : index_pages cat table column ≡ 1 + (directory_pages cat table column + levels_pages cat (levels_of cat.schema table))
  pages_whole = ap (λ b. cond b (1 + (directory_pages cat table column + levels_pages cat (levels_of cat.schema table))) 0) h
