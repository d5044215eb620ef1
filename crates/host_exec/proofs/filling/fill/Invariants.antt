use Rattle.std.proofs.Common.{◌≡◌, ◌≤◌, ◌-◌, ℕ, List, Some, length, take}
use Rattle.edge_traits.specs.Files.{file_of}
use Rattle.host_exec.specs.RowBytes.{window}
use Rattle.host_exec.proofs.filling.fill.Given as goal

abbrev pub invariant-bytes : goal.invariant-bytes
invariant-bytes g l = record {
  same : g.D.Depot.contents l.depot ≡ g.D.Depot.contents l.fn.depot;
  faults : g.D.Depot.faults l.depot ≡ g.D.Depot.faults l.fn.depot;
  appends : g.D.Depot.append_faults l.depot ≡ g.D.Depot.append_faults l.fn.depot;
  sure : g.D.Depot.sure l.fn.depot l.name → g.D.Depot.sure l.depot l.name;
  within : l.have ≤ length l.buf;
  front : (file : List ℕ) → file_of (g.D.Depot.contents l.fn.depot) l.name ≡ Some file → take l.have l.buf ≡ window file l.at l.have;
}

abbrev pub decreases-bytes : goal.decreases-bytes
decreases-bytes g l = length l.buf - l.have
