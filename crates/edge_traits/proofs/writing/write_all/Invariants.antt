use Rattle.std.proofs.Common.{◌-◌, length}
use Rattle.edge_traits.proofs.Growth.{Handed}
use Rattle.edge_traits.proofs.writing.write_all.Given as goal

abbrev pub invariant-loop-at : goal.invariant-loop-at
invariant-loop-at g l = Handed l.piece l.at (g.S.Sink.faults l.initial.sink) (g.S.Sink.faults l.sink) (g.S.Sink.written l.initial.sink) (g.S.Sink.written l.sink)

abbrev pub decreases-loop-at : goal.decreases-loop-at
decreases-loop-at g l = length l.piece - l.at
