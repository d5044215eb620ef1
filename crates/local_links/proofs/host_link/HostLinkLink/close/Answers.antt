use Rattle.std.proofs.Common.{refl}
use Rattle.local_links.proofs.HandedOut.{closed}
use Rattle.local_links.proofs.host_link.HostLinkLink.close.Goals as goal

pub returns-clause-moved : goal.returns-clause-moved
returns-clause-moved g c = record { between = _; moved = closed g.D.Depot.contents g.D.Depot.faults g.D.Depot.sure c.args.self.now; later = refl }
