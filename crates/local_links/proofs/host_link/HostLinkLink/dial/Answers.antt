use Rattle.std.proofs.Common.{refl}
use Rattle.local_links.proofs.HandedOut.{dialled}
use Rattle.local_links.proofs.host_link.HostLinkLink.dial.Goals as goal

pub returns-clause-moved : goal.returns-clause-moved
returns-clause-moved g c = record { between = _; moved = dialled g.D.Depot.contents g.D.Depot.faults g.D.Depot.sure c.args.self.now c.args._at.now; later = refl }
