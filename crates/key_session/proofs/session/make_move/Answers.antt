use Rattle.std.proofs.Common.{ℕ, ◌≤◌, ◌+◌, ◌*◌, List, [], ◌∷◌, ◌++◌, sym, ◌∙◌, subst}
use Rattle.ghost_model.specs.core.Asks.{asked_of}
use Rattle.page_pool.specs.Pools.{ChangesPage}
use Rattle.page_pool.proofs.Leases.{change_keeps_out, other_out, out_kept}
use Rattle.session_laws.specs.TextEnds.{heard_in}
use Rattle.channel_pump.specs.Entries.{WentBy}
use Rattle.channel_pump.specs.Progress.{Tells}
use Rattle.channel_pump.specs.Sessions.{IsLive, Moved}
use Rattle.visible_spool.specs.declared.spool.Spool.{Spool}
use Rattle.key_session.specs.Hearing.{WritesHalf, pages_on}
use Rattle.key_session.specs.declared.ask.AskAtHand.{AskAtHand}
use Rattle.key_session.proofs.Moving.{some_heard, hearing, written_now, can_run, moved_amid, refusal_more, same_lease}
use Rattle.key_session.specs.Kept.{lease_of}
use Rattle.key_session.specs.Going.{leases_of}
use Rattle.key_session.proofs.Framing.{amid_written, frame_still, out_still, run_written}
use Rattle.key_session.proofs.session.make_move.Goals as goal

pub hear-requires : goal.hear-requires
hear-requires g c =
    let amid = amid_written c.args.pool.now c.move_on-event.new.pool c.args.frame.now c.requires.some.teller c.args.replies.now c.requires.some.apart c.move_on-event.ensures.buffer c.replies_stay_kept.ensures.kept c.requires.some.move.by g.F.Flash.told c.args.cat.now c.requires.some.move.texts c.requires.some.move.journal c.requires.some.move.since c.requires.some.move.sink (g.F.Flash.state c.args.flash.now) c.args.pump.now c.requires.some.spared c.requires.some.move.amid in
    record {
      some = some_heard (record {
        stay = c.ended_texts_stay.ensures;
        reasons = c.reasons_stay.ensures;
        decided = c.texts_are_decided.ensures;
        over = c.over_texts_are_settled.ensures;
        order = c.texts_come_in_order.ensures;
        outcomes = c.texts_have_outcomes.ensures;
        in_order = c.asks_are_awaited_in_order.ensures;
      }) c.replies_fit.ensures _ c.args.cat.now c.a_catalog_is_short.ensures.catalog.meant (WentBy (λ more. g.L.Link.went c.args.link.now more c.move_on-event.new.link) (g.L.Link.faults c.args.link.now) (g.L.Link.faults c.move_on-event.new.link))
          c.requires.some.move.by g.F.Flash.told c.args.at.now c.requires.some.move.texts c.requires.some.move.journal c.requires.some.move.since c.requires.some.move.sink (g.F.Flash.state c.args.flash.now) c.move_on-event.new.pool c.args.pump.now c.move_on-event.new.pump c.page.result.now c.requires.some.teller c.args.replies.now c.await_reply-is_awaited.new.replies c.move_on-event.result
          c.requires.going c.requires.some.move.near
          amid
          (λ fits within kept. c.await_reply-is_awaited.ensures.kept g.F.Flash.told (g.F.Flash.state c.args.flash.now) c.move_on-event.new.pool (asked_of c.args.cat.now.schema c.requires.some.move.texts) c.requires.some.move.journal (c.requires.some.teller.count + 1) amid.going.top c.requires.some.move.channel.after fits within kept)
          (subst (λ (page : List ℕ). Moved (WentBy (λ more. g.L.Link.went c.args.link.now more c.move_on-event.new.link) (g.L.Link.faults c.args.link.now) (g.L.Link.faults c.move_on-event.new.link)) c.args.cat.now c.args.at.now (asked_of c.args.cat.now.schema c.requires.some.move.texts) c.requires.some.move.journal c.move_on-event.result c.move_on-event.new.pump page) (sym c.page.ensures.bytes)
          (c.move_on-event.ensures.moved c.args.cat.now (asked_of c.args.cat.now.schema c.requires.some.move.texts) c.requires.some.move.journal c.requires.some.move.channel));
    }

pub returns-clause-few : goal.returns-clause-few
returns-clause-few g c =
    subst (λ (h : AskAtHand). (g.F.Flash.state c.hear.new.flash).calls ≤ (g.F.Flash.state c.args.flash.now).calls + 2 * pages_on c.move_on-event.result h c.args.replies.now.spool c.hear.new.self.spool) (sym c.hear.ensures.hand)
    (subst (λ (s : Spool). (g.F.Flash.state c.hear.new.flash).calls ≤ (g.F.Flash.state c.args.flash.now).calls + 2 * pages_on c.move_on-event.result c.await_reply-is_awaited.new.replies.hand s c.hear.new.self.spool)
    c.await_reply-is_awaited.ensures.spool c.hear.ensures.few)

pub returns-clause-writes : goal.returns-clause-writes
returns-clause-writes g c =
    let amid = amid_written c.args.pool.now c.move_on-event.new.pool c.args.frame.now c.requires.some.teller c.args.replies.now c.requires.some.apart c.move_on-event.ensures.buffer c.replies_stay_kept.ensures.kept c.requires.some.move.by g.F.Flash.told c.args.cat.now c.requires.some.move.texts c.requires.some.move.journal c.requires.some.move.since c.requires.some.move.sink (g.F.Flash.state c.args.flash.now) c.args.pump.now c.requires.some.spared c.requires.some.move.amid in
    let written = written_now (record {
      stay = c.ended_texts_stay.ensures;
      reasons = c.reasons_stay.ensures;
      decided = c.texts_are_decided.ensures;
      over = c.over_texts_are_settled.ensures;
      order = c.texts_come_in_order.ensures;
      outcomes = c.texts_have_outcomes.ensures;
      in_order = c.asks_are_awaited_in_order.ensures;
    }) c.replies_fit.ensures _ c.args.cat.now c.a_catalog_is_short.ensures.catalog.meant (WentBy (λ more. g.L.Link.went c.args.link.now more c.move_on-event.new.link) (g.L.Link.faults c.args.link.now) (g.L.Link.faults c.move_on-event.new.link))
    c.requires.some.move.by g.F.Flash.told c.args.at.now c.requires.some.move.texts c.requires.some.move.journal c.requires.some.move.since c.requires.some.move.sink (g.F.Flash.state c.args.flash.now) c.move_on-event.new.pool c.args.pump.now c.move_on-event.new.pump c.page.result.now c.requires.some.teller c.args.replies.now c.await_reply-is_awaited.new.replies c.move_on-event.result
    c.requires.going c.requires.some.move.near
    amid
    (λ fits within kept. c.await_reply-is_awaited.ensures.kept g.F.Flash.told (g.F.Flash.state c.args.flash.now) c.move_on-event.new.pool (asked_of c.args.cat.now.schema c.requires.some.move.texts) c.requires.some.move.journal (c.requires.some.teller.count + 1) amid.going.top c.requires.some.move.channel.after fits within kept)
    (subst (λ (page : List ℕ). Moved (WentBy (λ more. g.L.Link.went c.args.link.now more c.move_on-event.new.link) (g.L.Link.faults c.args.link.now) (g.L.Link.faults c.move_on-event.new.link)) c.args.cat.now c.args.at.now (asked_of c.args.cat.now.schema c.requires.some.move.texts) c.requires.some.move.journal c.move_on-event.result c.move_on-event.new.pump page) (sym c.page.ensures.bytes)
    (c.move_on-event.ensures.moved c.args.cat.now (asked_of c.args.cat.now.schema c.requires.some.move.texts) c.requires.some.move.journal c.requires.some.move.channel))
    (g.F.Flash.state c.hear.new.flash) c.hear.new.pool c.hear.new.self c.await_reply-is_awaited.ensures.spool
    (λ later low top hears. (c.hear.ensures.kept c.args.cat.now (heard_in c.args.cat.now c.requires.some.move.texts c.requires.some.move.journal) later low top hears, c.hear.ensures.heard c.args.cat.now (heard_in c.args.cat.now c.requires.some.move.texts c.requires.some.move.journal) later low top hears))
    c.hear.ensures.marks c.hear.ensures.unopened_flash c.hear.ensures.unopened_spool in
    subst (λ (h : AskAtHand). WritesHalf c.args.cat.now h.text (g.F.Flash.state c.args.flash.now) (g.F.Flash.state c.hear.new.flash)) (sym c.hear.ensures.hand) written

pub returns-clause-can : goal.returns-clause-can
returns-clause-can g c = λ plan teller spared move apart run.
    let amid = amid_written c.args.pool.now c.move_on-event.new.pool c.args.frame.now teller c.args.replies.now apart c.move_on-event.ensures.buffer c.replies_stay_kept.ensures.kept move.by g.F.Flash.told c.args.cat.now move.texts move.journal move.since move.sink (g.F.Flash.state c.args.flash.now) c.args.pump.now spared move.amid in
    can_run (record {
      stay = c.ended_texts_stay.ensures;
      reasons = c.reasons_stay.ensures;
      decided = c.texts_are_decided.ensures;
      over = c.over_texts_are_settled.ensures;
      order = c.texts_come_in_order.ensures;
      outcomes = c.texts_have_outcomes.ensures;
      in_order = c.asks_are_awaited_in_order.ensures;
    }) c.replies_fit.ensures _ c.args.cat.now c.a_catalog_is_short.ensures.catalog.meant (WentBy (λ more. g.L.Link.went c.args.link.now more c.move_on-event.new.link) (g.L.Link.faults c.args.link.now) (g.L.Link.faults c.move_on-event.new.link))
    move.by g.F.Flash.told c.args.at.now move.texts move.journal move.since move.sink (g.F.Flash.state c.args.flash.now) c.move_on-event.new.pool c.args.pump.now c.move_on-event.new.pump c.page.result.now teller c.args.replies.now c.await_reply-is_awaited.new.replies c.move_on-event.result
    c.requires.going move.near
    amid
    (λ fits within kept. c.await_reply-is_awaited.ensures.kept g.F.Flash.told (g.F.Flash.state c.args.flash.now) c.move_on-event.new.pool (asked_of c.args.cat.now.schema move.texts) move.journal (teller.count + 1) amid.going.top move.channel.after fits within kept)
    (subst (λ (page : List ℕ). Moved (WentBy (λ more. g.L.Link.went c.args.link.now more c.move_on-event.new.link) (g.L.Link.faults c.args.link.now) (g.L.Link.faults c.move_on-event.new.link)) c.args.cat.now c.args.at.now (asked_of c.args.cat.now.schema move.texts) move.journal c.move_on-event.result c.move_on-event.new.pump page) (sym c.page.ensures.bytes)
    (c.move_on-event.ensures.moved c.args.cat.now (asked_of c.args.cat.now.schema move.texts) move.journal move.channel))
    (g.F.Flash.state c.hear.new.flash) c.hear.new.pool c.hear.new.self c.await_reply-is_awaited.ensures.spool
    (λ later low top hears. (c.hear.ensures.kept c.args.cat.now (heard_in c.args.cat.now move.texts move.journal) later low top hears, c.hear.ensures.heard c.args.cat.now (heard_in c.args.cat.now move.texts move.journal) later low top hears))
    c.hear.ensures.marks c.hear.ensures.unopened_flash c.hear.ensures.unopened_spool plan spared
    (subst (λ (lease : _). ChangesPage c.move_on-event.new.pool c.hear.new.pool lease) (same_lease c.args.replies.now c.await_reply-is_awaited.new.replies c.await_reply-is_awaited.ensures.spool) c.hear.ensures.buffer)
    (run_written c.args.pool.now c.move_on-event.new.pool c.args.frame.now teller c.args.replies.now apart c.move_on-event.ensures.buffer plan g.F.Flash.told c.args.cat.now (g.F.Flash.state c.args.flash.now) (teller.count + 1) (lease_of c.args.replies.now) spared run)

pub returns-clause-moved : goal.returns-clause-moved
returns-clause-moved g c = λ plan texts journal since sink teller spared near channel before refusal_is run apart.
    let raw = c.move_on-event.ensures.moved c.args.cat.now (asked_of c.args.cat.now.schema texts) journal channel in
    let moved = subst (λ (page : List ℕ). Moved (WentBy (λ more. g.L.Link.went c.args.link.now more c.move_on-event.new.link) (g.L.Link.faults c.args.link.now) (g.L.Link.faults c.move_on-event.new.link)) c.args.cat.now c.args.at.now (asked_of c.args.cat.now.schema texts) journal c.move_on-event.result c.move_on-event.new.pump page) (sym c.page.ensures.bytes) raw in
    let amid = amid_written c.args.pool.now c.move_on-event.new.pool c.args.frame.now teller c.args.replies.now apart c.move_on-event.ensures.buffer c.replies_stay_kept.ensures.kept plan g.F.Flash.told c.args.cat.now texts journal since sink (g.F.Flash.state c.args.flash.now) c.args.pump.now spared before in
    let now = frame_still c.move_on-event.new.pool c.hear.new.pool c.args.frame.now (lease_of c.args.replies.now) apart.replies
    (subst (λ (lease : _). ChangesPage c.move_on-event.new.pool c.hear.new.pool lease) (same_lease c.args.replies.now c.await_reply-is_awaited.new.replies c.await_reply-is_awaited.ensures.spool) c.hear.ensures.buffer) in
    record {
      made = moved.made;
      went = moved.went;
      channel = subst (λ (page : List ℕ). IsLive c.args.cat.now c.args.at.now (asked_of c.args.cat.now.schema texts) (journal ++ moved.made ∷ []) c.move_on-event.new.pump page) (c.page.ensures.bytes ∙ sym now) moved.live;
      tells = subst (λ (page : List ℕ). Tells c.args.cat.now page c.move_on-event.result (heard_in c.args.cat.now texts journal) (heard_in c.args.cat.now texts (journal ++ moved.made ∷ []))) (c.page.ensures.bytes ∙ sym now) moved.tells;
      same_ask = moved.same_ask;
      fills = c.hear.ensures.fills c.args.cat.now (heard_in c.args.cat.now texts journal) (heard_in c.args.cat.now texts (journal ++ moved.made ∷ [])) (teller.count + 1) _
          (hearing (record {
            stay = c.ended_texts_stay.ensures;
            reasons = c.reasons_stay.ensures;
            decided = c.texts_are_decided.ensures;
            over = c.over_texts_are_settled.ensures;
            order = c.texts_come_in_order.ensures;
            outcomes = c.texts_have_outcomes.ensures;
            in_order = c.asks_are_awaited_in_order.ensures;
          }) c.replies_fit.ensures _ c.args.cat.now c.a_catalog_is_short.ensures.catalog.meant (WentBy (λ more. g.L.Link.went c.args.link.now more c.move_on-event.new.link) (g.L.Link.faults c.args.link.now) (g.L.Link.faults c.move_on-event.new.link))
          plan g.F.Flash.told c.args.at.now texts journal since sink (g.F.Flash.state c.args.flash.now) c.move_on-event.new.pool c.args.pump.now c.move_on-event.new.pump c.page.result.now teller c.args.replies.now c.await_reply-is_awaited.new.replies c.move_on-event.result
          c.requires.going near amid
          (λ fits within kept. c.await_reply-is_awaited.ensures.kept g.F.Flash.told (g.F.Flash.state c.args.flash.now) c.move_on-event.new.pool (asked_of c.args.cat.now.schema texts) journal (teller.count + 1) amid.going.top channel.after fits within kept)
          moved);
      amid = moved_amid (record {
        stay = c.ended_texts_stay.ensures;
        reasons = c.reasons_stay.ensures;
        decided = c.texts_are_decided.ensures;
        over = c.over_texts_are_settled.ensures;
        order = c.texts_come_in_order.ensures;
        outcomes = c.texts_have_outcomes.ensures;
        in_order = c.asks_are_awaited_in_order.ensures;
      }) c.replies_fit.ensures _ c.args.cat.now c.a_catalog_is_short.ensures.catalog.meant (WentBy (λ more. g.L.Link.went c.args.link.now more c.move_on-event.new.link) (g.L.Link.faults c.args.link.now) (g.L.Link.faults c.move_on-event.new.link))
          plan g.F.Flash.told c.args.at.now texts journal since sink (g.F.Flash.state c.args.flash.now) c.move_on-event.new.pool c.args.pump.now c.move_on-event.new.pump c.page.result.now teller c.args.replies.now c.await_reply-is_awaited.new.replies c.move_on-event.result
          c.requires.going near amid
          (λ fits within kept. c.await_reply-is_awaited.ensures.kept g.F.Flash.told (g.F.Flash.state c.args.flash.now) c.move_on-event.new.pool (asked_of c.args.cat.now.schema texts) journal (teller.count + 1) amid.going.top channel.after fits within kept)
          moved
          (g.F.Flash.state c.hear.new.flash) c.hear.new.pool c.hear.new.self c.await_reply-is_awaited.ensures.spool
          (λ later low top hears. (c.hear.ensures.kept c.args.cat.now (heard_in c.args.cat.now texts journal) later low top hears, c.hear.ensures.heard c.args.cat.now (heard_in c.args.cat.now texts journal) later low top hears))
          c.hear.ensures.marks c.hear.ensures.unopened_flash c.hear.ensures.unopened_spool spared
          (subst (λ (lease : _). ChangesPage c.move_on-event.new.pool c.hear.new.pool lease) (same_lease c.args.replies.now c.await_reply-is_awaited.new.replies c.await_reply-is_awaited.ensures.spool) c.hear.ensures.buffer)
          (run_written c.args.pool.now c.move_on-event.new.pool c.args.frame.now teller c.args.replies.now apart c.move_on-event.ensures.buffer plan g.F.Flash.told c.args.cat.now (g.F.Flash.state c.args.flash.now) (teller.count + 1) (lease_of c.args.replies.now) spared run);
      refusal_is = refusal_more c.args.cat.now c.page.result.now c.move_on-event.result (heard_in c.args.cat.now texts journal) _ c.args.refusal c.first_refusal.result c.await_reply-is_awaited.result moved.tells refusal_is
          (c.await_reply-is_awaited.ensures.awaited (asked_of c.args.cat.now.schema texts) journal channel.after) c.first_refusal.ensures.first;
    }

pub move_on-event-requires-clause-out : goal.move_on-event-requires-clause-out
move_on-event-requires-clause-out g c = (let out = c.requires.some.apart.out in record { within = out.within; out = other_out c.args.pool.now (leases_of c.requires.some.teller.running) c.args.frame.now out.out })

pub returns-clause-out : goal.returns-clause-out
returns-clause-out g c = out_still c.args.pool.now c.move_on-event.new.pool c.hear.new.pool _ _ c.move_on-event.ensures.buffer c.hear.ensures.buffer

pub page-requires : goal.page-requires
page-requires g c = (let out = c.requires.some.apart.out in record { out = out_kept (change_keeps_out c.move_on-event.ensures.buffer) (record { within = out.within; out = other_out c.args.pool.now (leases_of c.requires.some.teller.running) c.args.frame.now out.out }) })
