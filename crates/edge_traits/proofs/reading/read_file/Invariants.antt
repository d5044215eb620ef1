use Rattle.std.proofs.Common.{◌-◌, vec_len}
use Rattle.edge_traits.proofs.WholeFile.{ReadSoFar}
use Rattle.edge_traits.proofs.reading.read_file.Given as goal

abbrev pub invariant-loop-bytes : goal.invariant-loop-bytes
invariant-loop-bytes g l = ReadSoFar (g.D.Depot.contents l.initial.depot) (g.D.Depot.contents l.depot) (g.D.Depot.faults l.initial.depot) (g.D.Depot.faults l.depot) (g.D.Depot.append_faults l.initial.depot) (g.D.Depot.append_faults l.depot) (g.D.Depot.sure l.initial.depot) (g.D.Depot.sure l.depot) l.name l.bytes.items (vec_len l.bytes) l.limit

abbrev pub decreases-loop-bytes : goal.decreases-loop-bytes
decreases-loop-bytes g l = l.limit - vec_len l.bytes
