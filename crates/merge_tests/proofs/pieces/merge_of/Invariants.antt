use Rattle.std.proofs.Common.{◌≡◌, ◌+◌, ◌<◌, true, length, sum}
use Rattle.ghost_base.specs.Runs.{run_of}
use Rattle.edge_traits.specs.Devices.{Device}
use Rattle.flash_pages.specs.Cursors.{IsListWidth}
use Rattle.flash_pages.specs.Runs.{HasRun}
use Rattle.id_merge.specs.Cursors.{AllReady}
use Rattle.merge_tests.proofs.pieces.merge_of.Given as goal

abbrev pub invariant-pieces : goal.invariant-pieces
invariant-pieces l = record {
  sums : sum l.together.unions.items + l.together.last ≡ length l.together.cursors.items;
  room : length l.together.unions.items < 96;
  ready : (device : Device) → HasRun device (run_of l.run) → IsListWidth l.run.width → AllReady true device l.pool l.together.cursors.items;
}
