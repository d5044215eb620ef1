use Rattle.std.proofs.Common.{◌∙◌, arith, refl, subst}
use Rattle.key_session.specs.declared.ask.AskAtHand.{AskAtHand}
use Rattle.key_session.specs.Pushing.{CanPush}
use Rattle.key_session.proofs.PushCalls.{RowCalls, none_counted, one_counted, few_calls}
use Rattle.key_session.proofs.PushRows.{none_yet, one_more_at, next_of, all_pushed, all_last}
use Rattle.key_session.proofs.replies.Replies.push_rows.Goals as goal

pub rows-init : goal.rows-init
rows-init g c = record {
  can = c.requires.can;
  hand = refl;
  is_open = refl;
  goes = none_yet g.F.Flash.told (g.F.Flash.state c.args.flash.now) c.args.pool.now c.args.self.now.hand c.args.self.now.spool c.args.payload.now;
  counts = none_counted g.F.Flash.told (g.F.Flash.state c.args.flash.now) c.args.pool.now c.args.self.now.hand c.args.self.now.spool c.args.payload.now;
}

pub push_row-requires-clause-next : goal.push_row-requires-clause-next
push_row-requires-clause-next g c =
    let least = c.requires.can.asked.wide in
    next_of g.F.Flash.told (g.F.Flash.state c.args.flash.now) (g.F.Flash.state c.rows.flash) c.args.pool.now c.rows.pool c.args.self.now.hand c.rows.self.hand c.args.self.now.spool c.rows.self.spool
    c.args.payload.now c.rows.rest.now c.split_at.result.0.now c.rows.invariant.goes c.requires.next.last c.requires.next.are (omega (arith, least)) c.rows-test.true
    c.rows.invariant.hand c.split_at.ensures.front

pub rows-preserved : goal.rows-preserved
rows-preserved g c =
    let least = c.requires.can.asked.wide in
    record {
      can = c.push_row.ensures.can;
      hand = c.push_row.ensures.hand ∙ c.rows.invariant.hand;
      is_open = c.push_row.ensures.open ∙ c.rows.invariant.is_open;
      goes = one_more_at g.F.Flash.told (g.F.Flash.state c.args.flash.now) (g.F.Flash.state c.rows.flash) (g.F.Flash.state c.push_row.new.flash) c.args.pool.now c.rows.pool c.push_row.new.pool
          c.args.self.now.hand c.rows.self.hand c.args.self.now.spool c.rows.self.spool c.push_row.new.self.spool c.args.payload.now c.rows.rest.now c.split_at.result.0.now c.split_at.result.1.now
          c.rows.invariant.goes c.requires.next.last c.requires.next.are (omega (arith, least)) c.rows-test.true c.rows.invariant.hand c.split_at.ensures.front c.split_at.ensures.back
          (record {
            writes = c.push_row.ensures.writes;
            replies = c.push_row.ensures.replies;
            at = c.push_row.ensures.at;
            last = c.push_row.ensures.last;
            pushed = c.push_row.ensures.pushed;
          });
      counts = one_counted g.F.Flash.told (g.F.Flash.state c.args.flash.now) (g.F.Flash.state c.rows.flash) c.args.pool.now c.rows.pool c.args.self.now.hand c.args.self.now.spool c.rows.self.spool
          c.args.payload.now c.rows.rest.now c.rows.invariant.goes c.requires.can
          (subst (λ (h : AskAtHand). CanPush (g.F.Flash.state c.rows.flash) c.rows.pool c.rows.self.spool h) c.rows.invariant.hand c.rows.invariant.can) c.rows.invariant.counts
          (g.F.Flash.state c.push_row.new.flash) c.push_row.new.self.spool
          (subst (λ (h : AskAtHand). RowCalls (g.F.Flash.state c.rows.flash) (g.F.Flash.state c.push_row.new.flash) h c.rows.self.spool c.push_row.new.self.spool) c.rows.invariant.hand
          (record {
            completes = c.push_row.ensures.completes;
            grows = c.push_row.ensures.grows;
            at_most = c.push_row.ensures.at_most;
            dropped = c.push_row.ensures.dropped;
            stays = c.push_row.ensures.writes.marks.stays;
          }));
    }

pub returns-clause-last : goal.returns-clause-last
returns-clause-last g c = λ last are.
    all_last g.F.Flash.told (g.F.Flash.state c.args.flash.now) (g.F.Flash.state c.rows.flash) c.args.pool.now c.rows.pool c.args.self.now.hand c.args.self.now.spool c.rows.self.spool c.args.payload.now c.rows.rest.now
    c.rows.invariant.goes (omega (arith, c.rows-test.false)) last are

pub returns-clause-pushed : goal.returns-clause-pushed
returns-clause-pushed g c = λ rows had not.
    all_pushed g.F.Flash.told (g.F.Flash.state c.args.flash.now) (g.F.Flash.state c.rows.flash) c.args.pool.now c.rows.pool c.args.self.now.hand c.args.self.now.spool c.rows.self.spool c.args.payload.now c.rows.rest.now
    c.rows.invariant.goes (omega (arith, c.rows-test.false)) rows had not

pub returns-clause-few : goal.returns-clause-few
returns-clause-few g c = λ rows had short.
    few_calls g.F.Flash.told (g.F.Flash.state c.args.flash.now) (g.F.Flash.state c.rows.flash) c.args.pool.now c.rows.pool c.args.self.now.hand c.args.self.now.spool c.rows.self.spool
    c.args.payload.now c.rows.rest.now c.rows.invariant.goes c.requires.can
    (subst (λ (h : AskAtHand). CanPush (g.F.Flash.state c.rows.flash) c.rows.pool c.rows.self.spool h) c.rows.invariant.hand c.rows.invariant.can) c.rows.invariant.counts rows had short
