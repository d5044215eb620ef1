-- A device with the pages that a catalog needs has the runs of each index.
use Rattle.std.proofs.Common.{◌≡◌, ap, ℕ, ◌+◌, ◌^◌, ◌<◌, ◌≤◌, true, false, cond, length, slice_index, arith}
use Rattle.std.proofs.lemmas.List.Sums.{sum_by_more, sum_by-take-le}
use Rattle.ghost_model.specs.core.Schema.{is_empty}
use Rattle.ghost_model.specs.core.Channel.{Catalog}
use Rattle.ghost_model.specs.forms.Runs.{Run, run_end, run_pages}
use Rattle.ghost_model.specs.forms.Layout.{is_hidden, levels_of, above_of, files_end, need}
use Rattle.ghost_model.specs.laws.ShortWords.{column_count, index_header, index_directory, index_level, id_directory, id_level}
use Rattle.ghost_model.specs.laws.LayoutSums as sums
use Rattle.ghost_model.specs.laws.LayoutLaws.{LieAsSummed, LieInOrder, RecordsStandWithin, StandWithin}
use Rattle.ghost_model.proofs.LayoutLemmas.Order.{sums_rise}
use Rattle.edge_traits.specs.Devices.{Device}
use Rattle.flash_pages.specs.Runs.{HasRun}
use Rattle.climbing_index.proofs.LevelFiles.{id_level_room, index_level_room}

-- a run that ends with the static files, or before
pub has_run : (cat : Catalog) (run : Run) (device : Device) → LieInOrder cat → RecordsStandWithin → 0 < run.width → run.width ≤ 2048
    → run_end run ≤ files_end cat → need cat ≤ device.page_count → device.page_count < 2 ^ 32 → HasRun device run
has_run cat run device order stand some fits end enough small =
    let stands : StandWithin run = stand run some fits in
    let static = order.static in
    let spool = order.spool in
    let scratch = order.scratch in
    let appended = order.appended in
    record {
      some = some;
      fits = fits;
      pages = λ i low. let here = stands.page i low in omega (arith, here, end, static, spool, scratch, appended, enough);
      small = small;
    }

-- the bytes of a level file stand on as many pages as its identifiers would in four bytes each
index_level_pages : (cat : Catalog) (table column level : ℕ) → level < length (levels_of cat.schema table)
    → run_pages (index_level cat table column level) ≡ sums.level_pages cat (slice_index (levels_of cat.schema table) level)
index_level_pages cat table column level low = let room = index_level_room cat table column level low in omega (arith, room)

id_level_pages : (cat : Catalog) (table level : ℕ) → level < length (above_of cat.schema table)
    → run_pages (id_level cat table level) ≡ sums.level_pages cat (slice_index (above_of cat.schema table) level)
id_level_pages cat table level low = let room = id_level_room cat table level low in omega (arith, room)

module _ (cat : Catalog) (laid : LieAsSummed cat) (order : LieInOrder cat) where
  table_ends : (table : ℕ) → table < length cat.schema → sums.table_begin cat table + sums.table_pages cat table ≤ files_end cat
  table_ends table there =
      let next = order.next_table table in
      let later = order.tables (table + 1) (length cat.schema) (omega (arith, there)) in
      let end = laid.files_end in
      omega (arith, next, later, end)

  index_ends : (table column : ℕ) → is_hidden cat.schema table column ≡ true
      → sums.index_begin cat table column + (1 + (sums.directory_pages cat table column + sums.levels_pages cat (levels_of cat.schema table))) ≤ files_end cat
  index_ends table column h =
      let there = order.there_are table column h in
      let next = order.next_index table column in
      let rise = sums_rise (sums.index_pages cat table) (column + 1) (column_count cat.schema table) (omega (arith, there.1)) in
      let pages = ap (λ b. cond b (1 + (sums.directory_pages cat table column + sums.levels_pages cat (levels_of cat.schema table))) 0) h in
      let end = table_ends table there.0 in
      omega (arith, next, rise, pages, end)

  pub header_ends : (table column : ℕ) → is_hidden cat.schema table column ≡ true → run_end (index_header cat table column) ≤ files_end cat
  header_ends table column h =
      let first = laid.index_header table column h in
      let end = index_ends table column h in
      omega (arith, first, end)

  pub directory_ends : (table column : ℕ) → is_hidden cat.schema table column ≡ true → run_end (index_directory cat table column) ≤ files_end cat
  directory_ends table column h =
      let first = laid.index_directory table column h in
      let end = index_ends table column h in
      omega (arith, first, end)

  pub level_ends : (table column level : ℕ) → is_hidden cat.schema table column ≡ true → level < length (levels_of cat.schema table)
      → run_end (index_level cat table column level) ≤ files_end cat
  level_ends table column level h low =
      let levels = levels_of cat.schema table in
      let first = ap (λ (r : Run). r.first) (laid.index_level table column level h low) in
      let pages = index_level_pages cat table column level low in
      let more = sum_by_more (sums.level_pages cat) levels level 0 low in
      let within = sum_by-take-le (sums.level_pages cat) levels (level + 1) in
      let end = index_ends table column h in
      omega (arith, first, pages, more, within, end)

  id_ends : (table : ℕ) → table < length cat.schema → is_empty (above_of cat.schema table) ≡ false
      → sums.id_index_begin cat table + (sums.id_directory_pages cat table + sums.levels_pages cat (above_of cat.schema table)) ≤ files_end cat
  id_ends table there above =
      let pages = ap (λ b. cond b 0 (sums.id_directory_pages cat table + sums.levels_pages cat (above_of cat.schema table))) above in
      let end = table_ends table there in
      omega (arith, pages, end)

  pub id_directory_ends : (table : ℕ) → table < length cat.schema → is_empty (above_of cat.schema table) ≡ false → run_end (id_directory cat table) ≤ files_end cat
  id_directory_ends table there above =
      let first = laid.id_directory table there in
      let end = id_ends table there above in
      omega (arith, first, end)

  pub id_level_ends : (table level : ℕ) → table < length cat.schema → is_empty (above_of cat.schema table) ≡ false
      → level < length (above_of cat.schema table) → run_end (id_level cat table level) ≤ files_end cat
  id_level_ends table level there above low =
      let levels = above_of cat.schema table in
      let first = ap (λ (r : Run). r.first) (laid.id_level table level there low) in
      let pages = id_level_pages cat table level low in
      let more = sum_by_more (sums.level_pages cat) levels level 0 low in
      let within = sum_by-take-le (sums.level_pages cat) levels (level + 1) in
      let end = id_ends table there above in
      omega (arith, first, pages, more, within, end)
