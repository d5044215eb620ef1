use Rattle.std.proofs.Common.{refl, ◌∙◌}
use Rattle.edge_real.proofs.tcp_link.TcpLinkLink.close.Goals as goal

pub returns-clause-moved : goal.returns-clause-moved
returns-clause-moved g c = record { between = _; moved = c.hear.ensures.faults ∙ c.hold.ensures.faults; later = refl }
