-- A device with the pages that a catalog needs has the run of each hidden column.
use Rattle.std.proofs.Common.{◌≡◌, ◌^◌, ◌<◌, ◌≤◌, ℕ, true, arith}
use Rattle.ghost_model.specs.core.Channel.{Catalog}
use Rattle.ghost_model.specs.forms.Layout.{is_hidden, need, column_file}
use Rattle.ghost_model.specs.laws.LayoutLaws.{AreNarrow, LieInOrder, RecordsStandWithin, StandWithin}
use Rattle.edge_traits.specs.Devices.{Device}
use Rattle.flash_pages.specs.Runs.{HasRun}

pub has_run : (cat : Catalog) (table column : ℕ) (device : Device) → AreNarrow cat → LieInOrder cat → RecordsStandWithin
    → is_hidden cat.schema table column ≡ true → need cat ≤ device.page_count → device.page_count < 2 ^ 32
    → HasRun device (column_file cat table column)
has_run cat table column device narrow order stand h enough small =
    let most = narrow.most table column in
    let least = narrow.least table column h in
    let within : StandWithin (column_file cat table column) = stand (column_file cat table column) least (omega (arith, most)) in
    let end = order.within table column h in
    let static = order.static in
    let spool = order.spool in
    let scratch = order.scratch in
    let appended = order.appended in
    record {
      some = least;
      fits = omega (arith, most);
      pages = λ i low. let here = within.page i low in omega (arith, here, end, static, spool, scratch, appended, enough);
      small = small;
    }
