use Rattle.std.proofs.Common.{refl, sym}
use Rattle.edge_traits.specs.declared.Failed.{Failed}
use Rattle.edge_real.proofs.Counted.{no_fault}
use Rattle.edge_real.proofs.tcp_link.TcpLinkLink.take.Goals as goal

pub returns-in-Ok-clause-moved : goal.returns-in-Ok-clause-moved
returns-in-Ok-clause-moved g c = record { between = _; moved = sym (no_fault Failed c.in-Ok.count _ _); later = refl }
