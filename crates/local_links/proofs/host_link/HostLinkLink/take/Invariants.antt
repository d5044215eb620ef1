use Rattle.std.proofs.Common.{length}
use Rattle.local_links.specs.Links.{steps_left}
use Rattle.local_links.proofs.HandedOut.{HandsSoFar}
use Rattle.local_links.proofs.host_link.HostLinkLink.take.Given as goal

abbrev pub invariant-loop-have : goal.invariant-loop-have
invariant-loop-have g l = HandsSoFar g.D.Depot.contents g.D.Depot.faults g.D.Depot.sure l.initial.self l.self (length l.initial.buf) l.have l.buf

abbrev pub decreases-loop-have : goal.decreases-loop-have
decreases-loop-have g l = steps_left l.self
