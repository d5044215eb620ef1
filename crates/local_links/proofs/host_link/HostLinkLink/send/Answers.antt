use Rattle.std.proofs.Common.{refl, ap}
use Rattle.local_links.proofs.HandedOut.{same_faults, still_sure}
use Rattle.local_links.proofs.host_link.HostLinkLink.send.Goals as goal

pub returns-clause-moved : goal.returns-clause-moved
returns-clause-moved g c = record {
  between = _;
  moved = record {
    never_falls = same_faults g.D.Depot.faults c.args.self.now.depot c.hear.new.self.depot c.hear.ensures.depot;
    counted = c.hear.ensures.faults;
    quiet = λ key. c.hear.ensures.faults;
    stays_sure = still_sure g.D.Depot.sure c.args.self.now c.hear.new.self c.hear.ensures.name c.hear.ensures.depot;
    calm = λ is. ap g.D.Depot.faults c.hear.ensures.depot;
    served = λ calm held desk at free. c.hear.ensures.heard held desk at free;
  };
  later = refl;
}
