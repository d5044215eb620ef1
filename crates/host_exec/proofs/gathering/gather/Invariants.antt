use Rattle.std.proofs.Common.{◌≡◌, ◌≤◌, ◌-◌, ◌+◌, ℕ, List, Some}
use Rattle.ghost_model.specs.core.Asks.{RowCells}
use Rattle.edge_traits.specs.Files.{file_of}
use Rattle.host_exec.specs.RowBytes.{replies_at}
use Rattle.host_exec.specs.FormViews.{form_view}
use Rattle.host_exec.specs.Gathering.{Gathered, HasRoom}
use Rattle.host_exec.specs.Pieces.{IsAhead, HasFit}
use Rattle.host_exec.proofs.gathering.gather.Given as goal

abbrev pub invariant-pieces : goal.invariant-pieces
invariant-pieces g l = record {
  same : g.D.Depot.contents l.depot ≡ g.D.Depot.contents l.fn.depot;
  faults : g.D.Depot.faults l.depot ≡ g.D.Depot.faults l.fn.depot;
  appends : g.D.Depot.append_faults l.depot ≡ g.D.Depot.append_faults l.fn.depot;
  sure : g.D.Depot.sure l.fn.depot l.name → g.D.Depot.sure l.depot l.name;
  room : HasRoom (form_view l.form) l.most l.batch;
  goes_on : l.place ≤ l.next;
  sparse : l.batch.rows + l.place ≤ l.fn.batch.rows + l.next;
  within : l.next + l.piece.rows ≤ l.rows;
  fits : HasFit l.form.width l.piece;
  ahead : (file : List ℕ) → file_of (g.D.Depot.contents l.fn.depot) l.name ≡ Some file → IsAhead l.form.width l.fn.piece file l.start l.place
      → IsAhead l.form.width l.piece file l.start l.next;
  gathered : (file : List ℕ) (all : List RowCells) → file_of (g.D.Depot.contents l.fn.depot) l.name ≡ Some file
      → IsAhead l.form.width l.fn.piece file l.start l.place
      → Gathered all l.fn.batch.rows l.fn.batch.bytes.items (replies_at (form_view l.form) file l.start l.place (l.rows - l.place))
      → Gathered all l.batch.rows l.batch.bytes.items (replies_at (form_view l.form) file l.start l.next (l.rows - l.next));
}

abbrev pub decreases-pieces : goal.decreases-pieces
decreases-pieces g l = l.rows - l.next
