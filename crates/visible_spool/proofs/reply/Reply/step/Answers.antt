use Rattle.std.proofs.Common.{subst, rules}
use Rattle.visible_spool.specs.Searches.{TurnFinds, TurnIsInHeld, TurnLeaves, LeavesElsewhere}
use Rattle.page_pool.specs.Pools.{bytes_at, page_at}
use Rattle.visible_spool.proofs.Frames.{slot_or_flash}
use Rattle.visible_spool.proofs.HeldPage.{not_elsewhere}
use Rattle.visible_spool.proofs.Narrowing.{looks_kept}
use Rattle.visible_spool.proofs.reply.Reply.step.Goals as goal

pub returns-in-Err-clause-gives : goal.returns-in-Err-clause-gives
returns-in-Err-clause-gives g c = λ told. record {
  sought = search rules;
  finds = search rules;
  whole = search rules;
  decided = search rules;
  at_hand = search rules;
  reads = λ new out.
      let pages = (g.F.Flash.state c.args.flash.now).page in
      absurd (slot_or_flash c.in-Err.fault c.in-Err.ensures.slot (c.in-Err.ensures.whole g.F.Flash.told pages out.rows told c.requires.ready.filled out.holds));
}

pub returns-in-Ok-Over-clause-gives : goal.returns-in-Ok-Over-clause-gives
returns-in-Ok-Over-clause-gives g c = λ told. record {
  sought = search rules;
  finds = λ rows holds was.
      let pages = (g.F.Flash.state c.args.flash.now).page in
      subst (TurnFinds c.args.self.now rows c.args.id (bytes_at c.args.pool.now c.args.lease.now)) c.in-Ok-Over.field-0-is
      (c.in-Ok-Over.ensures.finds g.F.Flash.told pages rows told c.requires.ready.filled holds (c.begun-looking.ensures.sought pages rows holds was));
  whole = search rules;
  decided = search rules;
  at_hand = search rules;
  reads = λ new out.
      let pages = (g.F.Flash.state c.args.flash.now).page in
      absurd (out.beyond (subst (TurnIsInHeld c.args.self.now out.rows (page_at c.args.pool.now c.args.lease.now) c.args.id) c.in-Ok-Over.field-0-is
      (c.in-Ok-Over.ensures.inside g.F.Flash.told pages out.rows told c.requires.ready.filled out.holds)));
}

pub returns-in-Ok-Narrowed-clause-gives : goal.returns-in-Ok-Narrowed-clause-gives
returns-in-Ok-Narrowed-clause-gives g c = λ told. record {
  sought = λ rows holds was.
      let pages = (g.F.Flash.state c.args.flash.now).page in
      c.advance.ensures.sought told rows holds
      (subst (TurnFinds c.args.self.now rows c.args.id (bytes_at c.args.pool.now c.args.lease.now)) c.in-Ok-Narrowed.field-0-is
      (c.in-Ok-Narrowed.ensures.finds g.F.Flash.told pages rows told c.requires.ready.filled holds (c.begun-looking.ensures.sought pages rows holds was)))
      was;
  finds = λ rows holds was.
      let pages = (g.F.Flash.state c.args.flash.now).page in
      c.advance.ensures.finds told rows holds
      (subst (TurnFinds c.args.self.now rows c.args.id (bytes_at c.args.pool.now c.args.lease.now)) c.in-Ok-Narrowed.field-0-is
      (c.in-Ok-Narrowed.ensures.finds g.F.Flash.told pages rows told c.requires.ready.filled holds (c.begun-looking.ensures.sought pages rows holds was)));
  whole = search rules;
  decided = λ rows holds was is.
      let pages = (g.F.Flash.state c.args.flash.now).page in
      let held = page_at c.args.pool.now c.args.lease.now in
      let n : LeavesElsewhere c.args.self.now held c.begun-looking.result c.in-Ok-Narrowed.next =
      subst (TurnLeaves c.args.self.now held c.begun-looking.result) c.in-Ok-Narrowed.field-0-is c.in-Ok-Narrowed.ensures.leaves in
      absurd (not_elsewhere c.args.self.now rows held c.args.id c.in-Ok-Narrowed.next is
      (subst (TurnFinds c.args.self.now rows c.args.id (bytes_at c.args.pool.now c.args.lease.now)) c.in-Ok-Narrowed.field-0-is
      (c.in-Ok-Narrowed.ensures.finds g.F.Flash.told pages rows told c.requires.ready.filled holds (c.begun-looking.ensures.sought pages rows holds was)))
      n.elsewhere);
  at_hand = λ rows holds was is.
      let pages = (g.F.Flash.state c.args.flash.now).page in
      let held = page_at c.args.pool.now c.args.lease.now in
      let n : LeavesElsewhere c.args.self.now held c.begun-looking.result c.in-Ok-Narrowed.next =
      subst (TurnLeaves c.args.self.now held c.begun-looking.result) c.in-Ok-Narrowed.field-0-is c.in-Ok-Narrowed.ensures.leaves in
      absurd (not_elsewhere c.args.self.now rows held c.args.id c.in-Ok-Narrowed.next is
      (subst (TurnFinds c.args.self.now rows c.args.id (bytes_at c.args.pool.now c.args.lease.now)) c.in-Ok-Narrowed.field-0-is
      (c.in-Ok-Narrowed.ensures.finds g.F.Flash.told pages rows told c.requires.ready.filled holds (c.begun-looking.ensures.sought pages rows holds was)))
      n.elsewhere);
  reads = λ new out. c.advance.ensures.reads new out.some;
}

pub returns-in-Ok-Narrowed-clause-always : goal.returns-in-Ok-Narrowed-clause-always
returns-in-Ok-Narrowed-clause-always g c = record {
  search = search rules;
  failed = search rules;
  shorter = search rules;
  lies = search rules;
  page = search rules;
  blamed = search rules;
  fewer = λ k left few calls.
      let held = page_at c.args.pool.now c.args.lease.now in
      let n : LeavesElsewhere c.args.self.now held c.begun-looking.result c.in-Ok-Narrowed.next =
      subst (TurnLeaves c.args.self.now held c.begun-looking.result) c.in-Ok-Narrowed.field-0-is c.in-Ok-Narrowed.ensures.leaves in
      c.advance.ensures.fewer k left (looks_kept c.begun-looking.result c.in-Ok-Narrowed.next left n.low n.high n.guesses (c.begun-looking.ensures.fewer k left few calls));
  some = λ k left few calls.
      let held = page_at c.args.pool.now c.args.lease.now in
      let n : LeavesElsewhere c.args.self.now held c.begun-looking.result c.in-Ok-Narrowed.next =
      subst (TurnLeaves c.args.self.now held c.begun-looking.result) c.in-Ok-Narrowed.field-0-is c.in-Ok-Narrowed.ensures.leaves in
      c.advance.ensures.some k left calls (looks_kept c.begun-looking.result c.in-Ok-Narrowed.next left n.low n.high n.guesses (c.begun-looking.ensures.fewer k left few calls));
  more = search rules;
  calls = search rules;
  readable = search rules;
}
