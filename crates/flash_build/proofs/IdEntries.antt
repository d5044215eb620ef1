-- The id index of a table: what its levels are, where they lie, and how many pages hold a byte of it.
use Rattle.std.proofs.Common.{◌≡◌, sym, ◌∙◌, subst, ℕ, ◌+◌, ◌*◌, ◌<◌, ◌≤◌, false, List, [], length, map, drop, replicate, get_or, Vec, Result, arith}
use Rattle.std.specs.Global.{Global}
use Rattle.std.specs.List.{All}
use Rattle.std.proofs.lemmas.List.{length-map}
use Rattle.std.proofs.lemmas.List.FromFn.{length-range_with_len}
use Rattle.ghost_model.specs.core.Schema.{is_empty}
use Rattle.ghost_model.specs.core.Channel.{Catalog}
use Rattle.ghost_model.specs.core.Split.{Hidden}
use Rattle.ghost_model.specs.forms.Runs.{Run, run_pages, run_end}
use Rattle.ghost_model.specs.forms.Flash.{HoldsLists, id_lists}
use Rattle.ghost_model.specs.laws.ShortWords as short
use Rattle.ghost_model.specs.forms.Layout as layout
use Rattle.ghost_model.specs.forms.Layout.{below, count_of, levels_of, above_of}
use Rattle.ghost_model.specs.laws.LayoutSums.{levels_pages, id_index_begin, id_index_pages, id_directory_pages}
use Rattle.ghost_model.specs.laws.WorkLaws.{id_index_written}
use Rattle.flash_layout.specs.Limits.{HasLayout}
use Rattle.edge_traits.specs.Devices.{Device}
use Rattle.flash_pages.specs.Filling.{CanFill}
use Rattle.flash_pages.proofs.RunFrames.{can_fill_part}
use Rattle.index_lists.specs.Laws.{IdListsByRanks}
use Rattle.index_files.specs.Files.{AreLevels, counts_of, level_pages, written_pages}
use Rattle.index_files.specs.Laws.{FilesOfTables}
use Rattle.flash_build.specs.declared.faults.BuildFault.{BuildFault}
use Rattle.flash_build.specs.Building.{HoldsIdIndex, Wrote}
use Rattle.flash_build.specs.Levels.{AreRankedAbove, items_of}
use Rattle.flash_build.proofs.Writes.{wrote_as, can_as}
use Rattle.flash_build.proofs.Entries.{all_below, all_few, all_ranked, are_levels, but_own, id_lists_are, pages_are}
use Rattle.flash_build.proofs.IndexPlaces.{IsIdIndex, is_id_index, no_bytes, no_heads}

module _ (cat : Catalog) (hidden : Hidden) (table : ℕ) (laid : HasLayout cat) (there : table < length cat.schema) (some : is_empty (above_of cat.schema table) ≡ false)
    (run first : Run) (is : run ≡ short.id_directory cat table) (level : first ≡ short.id_level cat table 0) (all rest : List (Vec ℕ Global))
    (ranked : AreRankedAbove cat hidden table (below (count_of cat table)) (levels_of cat.schema table) (map items_of all)) (same : rest ≡ drop 1 all) where
  pub at : IsIdIndex cat table run first
  at = is_id_index cat table run first laid there some is level

  levels : AreRankedAbove cat hidden table (below (count_of cat table)) (above_of cat.schema table) (map items_of rest)
  levels =
      subst (λ (vs : List (Vec ℕ Global)). AreRankedAbove cat hidden table (below (count_of cat table)) (above_of cat.schema table) (map items_of vs)) (sym same)
      (but_own cat hidden table (below (count_of cat table)) (levels_of cat.schema table) all ranked)

  many : length rest ≡ length (above_of cat.schema table)
  many = sym (length-map rest items_of) ∙ levels.count

  pub small : All (λ (v : Vec ℕ Global). length v.items < 2097152) rest
  small = all_few cat hidden table (below (count_of cat table)) laid.few.rows (above_of cat.schema table) rest levels

  pub each_ranked : All (λ (v : Vec ℕ Global). All (λ rank. rank < run.count) v.items) rest
  each_ranked =
      subst (λ n. All (λ (v : Vec ℕ Global). All (λ rank. rank < n) v.items) rest) (sym at.count)
      (all_ranked cat hidden table (below (count_of cat table)) (count_of cat table) (length-range_with_len 0 (count_of cat table)) (all_below (count_of cat table))
      (above_of cat.schema table) rest levels)

  pub widths : (entry : ℕ) → entry < length (replicate run.count no_bytes) → length (get_or (replicate run.count no_bytes) entry []) + 8 * length rest ≡ run.width
  widths entry low = no_heads run.count (length rest) run.width entry low (let w = at.width in omega (arith, w, many))

  pub order : run_end run ≤ first.first
  order = let d = at.directory in let b = at.begin in let p = at.pages in omega (arith, d, b, p)

  module _ (files : FilesOfTables) where
    pages : level_pages (counts_of (map items_of rest)) ≡ levels_pages cat (above_of cat.schema table)
    pages = pages_are cat hidden table (below (count_of cat table)) files (above_of cat.schema table) (map items_of rest) levels

    pub can : {device : Device} → CanFill device (id_index_begin cat table) (id_index_pages cat table) → CanFill device run.first (run_pages run)
    can c =
        can_as (sym at.directory) (sym at.pages)
        (can_fill_part c (id_index_begin cat table) (id_directory_pages cat table) (omega arith) (let w = at.whole in omega (arith, w)))

    pub can_levels : {device : Device} → CanFill device (id_index_begin cat table) (id_index_pages cat table) → CanFill device first.first (level_pages (counts_of (map items_of rest)))
    can_levels c =
        can_as (sym at.begin) (sym pages)
        (can_fill_part c (id_index_begin cat table + id_directory_pages cat table) (levels_pages cat (above_of cat.schema table)) (omega arith) (let w = at.whole in omega (arith, w)))

    levels_are : IdListsByRanks → AreLevels (map items_of rest) run.count first.first (above_of cat.schema table) (id_lists cat hidden table) (short.id_level cat table)
    levels_are law =
        let lists = id_lists cat hidden table in
        let file = short.id_level cat table in
        let tables = above_of cat.schema table in
        let begin = id_index_begin cat table + id_directory_pages cat table in
        let here : AreLevels (map items_of rest) (count_of cat table) begin tables lists file =
        are_levels cat hidden table (below (count_of cat table)) files tables (map items_of rest) levels (count_of cat table) begin lists file
        (λ from reached lead. id_lists_are law cat hidden table from reached lead) (λ l low. laid.sums.id_level table l there low) in
        subst (λ n. AreLevels (map items_of rest) n first.first tables lists file) (sym at.count)
        (subst (λ n. AreLevels (map items_of rest) (count_of cat table) n tables lists file) (sym at.begin) here)

    pub wrote : {T : Type 0} {a b : Device} (result : Result T BuildFault) → IdListsByRanks
        → Wrote run.first (first.first + level_pages (counts_of (map items_of rest))) (run_pages run + written_pages (map items_of rest) run.count) a b result
        → Wrote (id_index_begin cat table) (id_index_begin cat table + id_index_pages cat table) (id_index_written cat hidden table) a b result
    wrote result law w =
        let bytes = files.written (map items_of rest) run.count first.first (above_of cat.schema table) (id_lists cat hidden table) (short.id_level cat table) (levels_are law) in
        wrote_as result at.directory (let b = at.begin in let e = at.whole in omega (arith, b, e, pages)) (let p = at.pages in omega (arith, p, bytes)) w

    pub holds : {page : ℕ → List ℕ} → IdListsByRanks
        → ((tables : List ℕ) (lists : ℕ → List (List ℕ)) (file : ℕ → Run) → AreLevels (map items_of rest) run.count first.first tables lists file
        → HoldsLists page run file (replicate run.count no_bytes) tables lists)
        → HoldsIdIndex page cat hidden table
    holds {page = page} law stand =
        let lists = id_lists cat hidden table in
        let file = short.id_level cat table in
        let tables = above_of cat.schema table in
        subst (λ n. HoldsLists page (short.id_directory cat table) file (replicate n no_bytes) tables lists) at.count
        (subst (λ r. HoldsLists page r file (replicate run.count no_bytes) tables lists) is (stand tables lists file (levels_are law)))
