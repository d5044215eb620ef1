use Rattle.std.proofs.Common.{refl}
use Rattle.edge_real.proofs.tcp_link.TcpLinkLink.send.Goals as goal

pub returns-in-Ok-clause-moved : goal.returns-in-Ok-clause-moved
returns-in-Ok-clause-moved g c = record { between = _; moved = refl; later = refl }
