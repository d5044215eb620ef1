use Rattle.std.proofs.Common.{refl}
use Rattle.local_links.proofs.HandedOut.{listened}
use Rattle.local_links.proofs.host_link.HostLinkLink.listen.Goals as goal

pub returns-clause-moved : goal.returns-clause-moved
returns-clause-moved g c = record { between = _; moved = listened g.D.Depot.contents g.D.Depot.faults g.D.Depot.sure c.args.self.now c.fault.new.self c.args._at.now c.fault.ensures.count c.fault.ensures.same c.fault.ensures.depot c.fault.ensures.speech; later = refl }
