use Rattle.std.proofs.Common.{rules, refl, length}
use Rattle.edge_traits.specs.declared.Failed.{Failed}
use Rattle.local_links.proofs.HandedOut.{took_all, took_short, hands_more}
use Rattle.local_links.proofs.host_link.HostLinkLink.take.Goals as goal

pub returns-in-None-clause-moved : goal.returns-in-None-clause-moved
returns-in-None-clause-moved g c = record {
  between = _;
  moved = took_short Failed g.D.Depot.contents g.D.Depot.faults g.D.Depot.sure c.args.self.now c.loop-have.self c.hand_on.new.self (length c.args.buf.now) c.loop-have.have c.loop-have.buf c.hand_on.new.buf
      c.loop-have.invariant (search rules) c.in-None.ensures.front c.in-None.ensures.never_falls c.in-None.ensures.faults c.in-None.ensures.stays_sure c.in-None.ensures.calm c.in-None.ensures.handed;
  later = refl;
}

pub loop-have-preserved : goal.loop-have-preserved
loop-have-preserved g c =
    hands_more g.D.Depot.contents g.D.Depot.faults g.D.Depot.sure c.args.self.now c.loop-have.self c.hand_on.new.self (length c.args.buf.now) c.loop-have.have c.in-Some.count c.loop-have.buf c.hand_on.new.buf
    c.loop-have.invariant (search rules) (search rules) c.in-Some.ensures.front c.in-Some.ensures.never_falls c.in-Some.ensures.faults c.in-Some.ensures.stays_sure c.in-Some.ensures.calm c.in-Some.ensures.handed

pub returns-clause-moved : goal.returns-clause-moved
returns-clause-moved g c = record {
  between = _;
  moved = took_all Failed g.D.Depot.contents g.D.Depot.faults g.D.Depot.sure c.args.self.now c.loop-have.self (length c.args.buf.now) c.loop-have.have c.loop-have.buf (search rules) c.loop-have.invariant (search rules);
  later = refl;
}
