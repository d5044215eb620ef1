-- What column files give, and how long files are held.
use Rattle.std.proofs.Common.{◌≡◌, ap, sym, subst, ◌∙◌, ℕ, suc, ◌+◌, ◌-◌, ◌/◌, ◌<◌, ◌≤◌, true, false, cond, ◌==◌, List, [], ◌∷◌, length, map, replicate, slice_index, get_or, arith}
use Rattle.std.specs.List.{concat}
use Rattle.std.proofs.Math.Nat.{div-mul-le_self}
use Rattle.std.proofs.lemmas.Nat.{le-div}
use Rattle.std.proofs.lemmas.Option.{slice_get-get_or}
use Rattle.std.proofs.lemmas.List.Sums.{sum_by_more_le}
use Rattle.ghost_model.specs.core.Schema.{is_empty}
use Rattle.ghost_model.specs.core.Channel.{Catalog}
use Rattle.ghost_model.specs.laws.SchemaTrees.{IsTree}
use Rattle.ghost_model.specs.readings.CellReading.{decode_cell}
use Rattle.ghost_model.specs.core.Asks.{kind_at}
use Rattle.ghost_model.specs.core.Split.{Hidden}
use Rattle.ghost_model.specs.core.Replies.{hidden_value}
use Rattle.ghost_model.specs.forms.Runs.{Run, Stores, record_at, run_end, run_pages, per_page, number_cell}
use Rattle.ghost_model.specs.forms.Gaps.{StoresBytes, level_bytes}
use Rattle.ghost_model.specs.forms.Catalog.{current_version}
use Rattle.ghost_model.specs.laws.RunLaws.{AgreeOn}
use Rattle.ghost_model.specs.forms.Layout.{is_hidden, count_of, levels_of, above_of, descendants_of, catalog_pages, public_pages, gate_page, header_page, fresh_half, files_end, column_file, subtree_table}
use Rattle.ghost_model.specs.laws.ShortWords.{column_count, index_header, index_directory, index_level, id_directory, id_level}
use Rattle.ghost_model.specs.laws.LayoutSums.{column_pages, columns_pages, column_begin, column_pages_before, subtree_begin, subtree_pages, directory_width, directory_pages, level_pages, levels_pages, index_begin, index_pages, index_pages_before, indexes_pages, id_index_begin, id_index_pages, id_directory_pages, table_begin, table_pages}
use Rattle.ghost_model.specs.laws.LayoutSums as sums
use Rattle.ghost_model.specs.laws.LayoutLaws.{AreNarrow, LieAsSummed, LieInOrder}
use Rattle.ghost_model.specs.forms.Flash.{HoldsColumns, HoldsSubtrees, HoldsLists, HoldsIndex, HoldsFiles, HoldsFresh, hidden_cells, subtree_record, ids, directory_records, value_lists, id_lists}
use Rattle.ghost_model.specs.laws.FlashLaws.{GoesWith, HoldingsAreKept}
use Rattle.ghost_model.proofs.RunLemmas.{run_kept}
use Rattle.ghost_model.proofs.LayoutLemmas.Numbers.{some_per_page}
use Rattle.ghost_model.proofs.LayoutLemmas.Places.{table_there, column_there, lie_as_summed}
use Rattle.ghost_model.proofs.LayoutLemmas.Order.{lie_in_order, its_pages, sum_next, sums_rise}
use Rattle.ghost_model.proofs.LayoutLemmas.Small.{are_narrow, some_in}
use Rattle.ghost_model.proofs.FlashLemmas.Values.{cells_fit}
use Rattle.ghost_model.proofs.FlashLemmas.Rooms.{level_fits, few_in_values, few_in_ids}

pub give_values : (page : ℕ → List ℕ) (cat : Catalog) (hidden : Hidden) → IsTree cat.schema → GoesWith cat hidden
    → HoldsColumns page cat hidden → (table column : ℕ) → is_hidden cat.schema table column ≡ true
    → (place : ℕ) → place < count_of cat table
    → decode_cell (kind_at cat.schema table column) (record_at page (column_file cat table column) place)
    ≡ hidden_value cat.schema hidden table (suc place) column
give_values page cat hidden tree is holds table column h place low =
    let fit = cells_fit cat hidden tree is in
    let size = fit.count table column h in
    let cells = hidden_cells cat.schema hidden table column in
    ap (decode_cell (kind_at cat.schema table column)) ((holds table column h).has.each place low)
    ∙ fit.value table column place (get_or cells place []) h (slice_get-get_or cells place [] (omega (arith, low, size)))

-- fewer records take no more pages
pages_rise : (n m p : ℕ) → 0 < p → n ≤ m → (n + (p - 1)) / p ≤ (m + (p - 1)) / p
pages_rise n m p some low =
    let few = div-mul-le_self (n + (p - 1)) p in le-div ((n + (p - 1)) / p) (m + (p - 1)) p some (omega (arith, few, low))

module _ (page other : ℕ → List ℕ) (cat : Catalog) (hidden : Hidden) (tree : IsTree cat.schema) where
  narrow : AreNarrow cat
  narrow = are_narrow cat tree

  laid : LieAsSummed cat
  laid = lie_as_summed cat

  pub column_kept : (table column : ℕ) → is_hidden cat.schema table column ≡ true
      → AgreeOn page other (column_begin cat table column) (column_begin cat table column + column_pages cat table column)
      → Stores page (column_file cat table column) (hidden_cells cat.schema hidden table column)
      → Stores other (column_file cat table column) (hidden_cells cat.schema hidden table column)
  column_kept table column h agree =
      let wide = narrow.most table column in
      let first = laid.column_file table column h in
      let pages = its_pages cat table column h in
      run_kept page other (column_file cat table column) (hidden_cells cat.schema hidden table column)
      (narrow.least table column h) (omega (arith, wide))
      (λ at low high. agree at (omega (arith, first, low)) (omega (arith, first, pages, high)))

  pub subtree_kept : (table : ℕ) → table < length cat.schema → is_empty (descendants_of cat.schema table) ≡ false
      → AgreeOn page other (subtree_begin cat table) (subtree_begin cat table + subtree_pages cat table)
      → Stores page (subtree_table cat table) (map (subtree_record cat.schema hidden table) (ids (count_of cat table)))
      → Stores other (subtree_table cat table) (map (subtree_record cat.schema hidden table) (ids (count_of cat table)))
  subtree_kept table there h agree =
      let wide = narrow.subtree table in
      let some = some_in (descendants_of cat.schema table) h in
      let first = laid.subtree_table table there in
      let pages : subtree_pages cat table ≡ run_pages (subtree_table cat table) = ap (λ b. cond b 0 (run_pages (subtree_table cat table))) h in
      run_kept page other (subtree_table cat table) (map (subtree_record cat.schema hidden table) (ids (count_of cat table)))
      (omega (arith, some)) (omega (arith, wide))
      (λ at low high. agree at (omega (arith, first, low)) (omega (arith, first, pages, high)))

  -- a directory with level files behind it, whose lists are no longer than their tables
  lists_kept : (directory : Run) (level_file : ℕ → Run) (begin : ℕ) (heads : List (List ℕ)) (tables : List ℕ) (lists : ℕ → List (List ℕ))
      → 0 < directory.width → directory.width ≤ 161 → run_end directory ≤ begin
      → ((level : ℕ) → level < length tables → level_file level ≡ sums.level_file cat begin tables level)
      → ((table : ℕ) → length (concat (lists table)) ≤ count_of cat table)
      → AgreeOn page other directory.first (begin + levels_pages cat tables)
      → HoldsLists page directory level_file heads tables lists → HoldsLists other directory level_file heads tables lists
  lists_kept directory level_file begin heads tables lists some wide before files few agree holds = record {
    places = run_kept page other directory (directory_records heads tables lists) some (omega (arith, wide))
        (λ at low high. agree at low (omega (arith, high, before))) holds.places;
    levels = λ level low.
        let table = slice_index tables level in
        let bytes = level_bytes (lists table) in
        let P : Run → Type 0 = λ run. StoresBytes page run bytes → StoresBytes other run bytes in
        let within = sum_by_more_le (level_pages cat) tables level 0 low in
        let fits = level_fits (count_of cat table) (lists table) (few table) in
        subst P (sym (files level low))
        (run_kept page other (record (sums.level_file cat begin tables level) { count = length bytes }) (map (λ byte. byte ∷ []) bytes) (omega arith) (omega arith)
        (λ at from to. agree at (omega (arith, before, from)) (omega (arith, to, within, fits))))
        (holds.levels level low);
  }

  pub index_kept : (table column : ℕ) → is_hidden cat.schema table column ≡ true
      → AgreeOn page other (index_begin cat table column) (index_begin cat table column + index_pages cat table column)
      → HoldsIndex page cat hidden table column → HoldsIndex other cat hidden table column
  index_kept table column h agree holds =
      let first = laid.index_header table column h in
      let next = laid.index_directory table column h in
      let least = narrow.least table column h in
      let wide = narrow.directory table column in
      let width = directory_width cat.schema table column in
      let each = some_per_page width (omega (arith, least)) (omega (arith, wide)) in
      let fewer = pages_rise (length holds.values) (count_of cat table) (per_page width) each holds.fits in
      let size : index_pages cat table column ≡ 1 + (directory_pages cat table column + levels_pages cat (levels_of cat.schema table)) =
      ap (λ b. cond b (1 + (directory_pages cat table column + levels_pages cat (levels_of cat.schema table))) 0) h in
      record {
        values = holds.values;
        are_values = holds.are_values;
        header = run_kept page other (index_header cat table column) (number_cell (length holds.values) ∷ []) (omega arith) (omega arith)
            (λ at low high. agree at (omega (arith, low, first)) (omega (arith, high, first, size))) holds.header;
        fits = holds.fits;
        entries = lists_kept (record (index_directory cat table column) { count = length holds.values }) (index_level cat table column)
            (index_begin cat table column + 1 + directory_pages cat table column) holds.values (levels_of cat.schema table)
            (value_lists cat hidden table column holds.values) (omega (arith, least)) wide (omega (arith, next, fewer))
            (λ level low. laid.index_level table column level h low)
            (λ from. few_in_values cat hidden table column from holds.values holds.are_values)
            (λ at low high. agree at (omega (arith, low, next)) (omega (arith, high, size))) holds.entries;
      }

  pub id_index_kept : (table : ℕ) → table < length cat.schema → is_empty (above_of cat.schema table) ≡ false
      → AgreeOn page other (id_index_begin cat table) (id_index_begin cat table + id_index_pages cat table)
      → HoldsLists page (id_directory cat table) (id_level cat table) (replicate (count_of cat table) []) (above_of cat.schema table) (id_lists cat hidden table)
      → HoldsLists other (id_directory cat table) (id_level cat table) (replicate (count_of cat table) []) (above_of cat.schema table) (id_lists cat hidden table)
  id_index_kept table there h agree =
      let first = laid.id_directory table there in
      let some = some_in (above_of cat.schema table) h in
      let wide = narrow.id_directory table in
      let size : id_index_pages cat table ≡ id_directory_pages cat table + levels_pages cat (above_of cat.schema table) =
      ap (λ b. cond b 0 (id_directory_pages cat table + levels_pages cat (above_of cat.schema table))) h in
      lists_kept (id_directory cat table) (id_level cat table) (id_index_begin cat table + id_directory_pages cat table) (replicate (count_of cat table) [])
      (above_of cat.schema table) (id_lists cat hidden table) (omega (arith, some)) (omega (arith, wide)) (omega (arith, first))
      (λ level low. laid.id_level table level there low) (few_in_ids cat hidden table)
      (λ at low high. agree at (omega (arith, low, first)) (omega (arith, high, size)))

  -- each part of a table lies among the static files
  table_within : (table : ℕ) → table < length cat.schema → (public_pages cat ≤ table_begin cat table) × (table_begin cat table + table_pages cat table ≤ files_end cat)
  table_within table low =
      let order : LieInOrder cat = lie_in_order cat in
      let next = order.next_table table in
      let later = order.tables (table + 1) (length cat.schema) (omega (arith, low)) in
      let end = laid.files_end in
      (omega arith, omega (arith, next, later, end))

  index_within : (table column : ℕ) → is_hidden cat.schema table column ≡ true
      → index_pages_before cat table column + index_pages cat table column ≤ indexes_pages cat table
  index_within table column h =
      let next = sum_next (index_pages cat table) column in
      let rise = sums_rise (index_pages cat table) (column + 1) (column_count cat.schema table) (let low = column_there cat.schema table column h in omega (arith, low)) in
      omega (arith, next, rise)

  column_within : (table column : ℕ) → is_hidden cat.schema table column ≡ true
      → column_pages_before cat table column + column_pages cat table column ≤ columns_pages cat table
  column_within table column h =
      let next = sum_next (column_pages cat table) column in
      let rise = sums_rise (column_pages cat table) (column + 1) (column_count cat.schema table) (let low = column_there cat.schema table column h in omega (arith, low)) in
      omega (arith, next, rise)

  columns_kept : AgreeOn page other (public_pages cat) (files_end cat) → HoldsColumns page cat hidden → HoldsColumns other cat hidden
  columns_kept agree holds table column h =
      let at = table_within table (table_there cat.schema table column h) in
      let within = column_within table column h in
      column_kept table column h
      (λ k low high. agree k (let from = at.0 in omega (arith, from, low)) (let to = at.1 in omega (arith, to, high, within))) (holds table column h)

  subtrees_kept : AgreeOn page other (public_pages cat) (files_end cat) → HoldsSubtrees page cat hidden → HoldsSubtrees other cat hidden
  subtrees_kept agree holds table low h =
      let at = table_within table low in
      subtree_kept table low h
      (λ k from to. agree k (let begin = at.0 in omega (arith, begin, from)) (let end = at.1 in omega (arith, end, to))) (holds table low h)

  files_kept : AgreeOn page other (public_pages cat) (files_end cat) → HoldsFiles page cat hidden → HoldsFiles other cat hidden
  files_kept agree holds = record {
    columns = columns_kept agree holds.columns;
    subtrees = subtrees_kept agree holds.subtrees;
    indexes = λ table column h.
        let at = table_within table (table_there cat.schema table column h) in
        let within = index_within table column h in
        index_kept table column h
        (λ k low high. agree k (let from = at.0 in omega (arith, from, low)) (let to = at.1 in omega (arith, to, high, within))) (holds.indexes table column h);
    id_indexes = λ table low h.
        let at = table_within table low in
        id_index_kept table low h
        (λ k from to. agree k (let begin = at.0 in omega (arith, begin, from)) (let end = at.1 in omega (arith, end, to))) (holds.id_indexes table low h);
  }

-- at version 2 the gate and both headers stand on public pages
fresh_kept : (page other : ℕ → List ℕ) (cat : Catalog) → cat.version ≡ current_version → AgreeOn page other catalog_pages (public_pages cat)
    → HoldsFresh page cat → HoldsFresh other cat
fresh_kept page other cat current agree holds =
    let public : public_pages cat ≡ 256 = ap (λ version. cond (version == 1) catalog_pages 256) current in
    record {
      counts = record {
        gate = agree gate_page (omega arith) (omega (arith, public)) ∙ holds.counts.gate;
        header = agree (header_page (fresh_half cat)) (omega arith) (omega (arith, public)) ∙ holds.counts.header;
      };
      blank = λ place low high neither. agree place low high ∙ holds.blank place low high neither;
    }

pub kept : HoldingsAreKept
kept = record {
  files = λ page other cat hidden tree agree holds. files_kept page other cat hidden tree agree holds;
  catalog = λ page other cat agree holds place low. agree place (omega arith) low ∙ holds place low;
  fresh = fresh_kept;
}
