use Rattle.std.proofs.Common.{◌-◌, length}
use Rattle.edge_traits.proofs.Takes.{FillsSoFar}
use Rattle.edge_traits.proofs.taking.fill.Given as goal

abbrev pub invariant-loop-have : goal.invariant-loop-have
invariant-loop-have g l = FillsSoFar (λ journal. g.L.Link.went l.initial.link journal l.link) (length l.initial.buf) l.have (g.L.Link.faults l.initial.link) (g.L.Link.faults l.link) l.buf

abbrev pub decreases-loop-have : goal.decreases-loop-have
decreases-loop-have g l = length l.initial.buf - l.have
