use Rattle.std.proofs.Common.{refl}
use Rattle.local_links.proofs.HandedOut.{accepted}
use Rattle.local_links.proofs.host_link.HostLinkLink.accept.Goals as goal

pub returns-clause-moved : goal.returns-clause-moved
returns-clause-moved g c = record { between = _; moved = accepted g.D.Depot.contents g.D.Depot.faults g.D.Depot.sure c.args.self.now c.fault.new.self c.fault.ensures.count c.fault.ensures.same c.fault.ensures.depot c.fault.ensures.speech; later = refl }
