use Rattle.std.proofs.Common.{◌≡◌, ◌≤◌, ◌+◌, ◌*◌, ◌∙◌, ◌++◌, ap, sym, subst, refl, Bool, true, false}
use Rattle.edge_traits.specs.Devices.{Device}
use Rattle.page_pool.specs.Pools.{Pool}
use Rattle.channel_pump.specs.Progress.{RowsCame}
use Rattle.channel_pump.specs.declared.state.Event.{Event}
use Rattle.channel_pump.specs.declared.state.Event.TheVariants as event_is
use Rattle.key_session.specs.Rows.{rows_at}
use Rattle.key_session.specs.Kept.{IsKept}
use Rattle.key_session.specs.Filling.{pages_heard}
use Rattle.key_session.specs.Hearing.{Hears, HasHeard, pages_on}
use Rattle.key_session.proofs.RowsHeard.{here, rows_kept, side_is}
use Rattle.key_session.proofs.Closing as closing
use Rattle.key_session.proofs.Closing.{done_kept, ended_awaited}
use Rattle.key_session.proofs.Filled.{rows_fill, unopened_fills, over_fills, part_fills, from_low}
use Rattle.key_session.proofs.LastPages.{done_fills}
use Rattle.key_session.proofs.Heard.{last_page, rows_are_here, may_come, has_heard, nothing_heard, over_kept, done_unopened}
use Rattle.key_session.proofs.WriteLemmas.{true_is_not_false}
use Rattle.key_session.proofs.replies.Replies.hear.Goals as goal

pub push_rows-requires-clause-next : goal.push_rows-requires-clause-next
push_rows-requires-clause-next g c =
    let some = c.requires.some in
    let h = subst (λ (e : Event). Hears g.F.Flash.told (g.F.Flash.state c.args.flash.now) c.args.pool.now some.catalog c.args.page.now e some.before some.after some.low some.top c.args.self.now) c.in-Rows.is some.hears in
    may_come g.F.Flash.told (g.F.Flash.state c.args.flash.now) c.args.pool.now some.catalog c.args.page.now c.payload_of.result.now c.in-Rows.field-0 some.before some.after some.low some.top c.args.self.now
    c.payload_of.ensures.payload h

pub returns-in-Rows-clause-kept : goal.returns-in-Rows-clause-kept
returns-in-Rows-clause-kept g c = λ catalog before after low top hears.
    let h = subst (λ (e : Event). Hears g.F.Flash.told (g.F.Flash.state c.args.flash.now) c.args.pool.now catalog c.args.page.now e before after low top c.args.self.now) c.in-Rows.is hears in
    let r = rows_are_here g.F.Flash.told (g.F.Flash.state c.args.flash.now) c.args.pool.now catalog c.args.page.now c.in-Rows.field-0 before after low top c.args.self.now h in
    rows_kept c.areas_lie_apart.ensures.apart c.replies_are_kept.ensures.kept c.replies_stay_readable.ensures.readable g.F.Flash.told (g.F.Flash.state c.args.flash.now) (g.F.Flash.state c.push_rows.new.flash)
    c.args.pool.now c.push_rows.new.pool catalog c.args.page.now c.in-Rows.field-0 before after low top c.args.self.now c.push_rows.new.self c.payload_of.result.now c.payload_of.ensures.payload h r.is
    (subst (λ p. RowsCame catalog r.is.at.asked r.is.last p c.in-Rows.field-0) (sym c.payload_of.ensures.payload) r.came)
    c.push_rows.ensures.can c.push_rows.ensures.writes c.push_rows.ensures.replies c.push_rows.ensures.others c.push_rows.ensures.last c.push_rows.ensures.pushed c.push_rows.ensures.hand c.push_rows.ensures.open

pub returns-in-Rows-clause-heard : goal.returns-in-Rows-clause-heard
returns-in-Rows-clause-heard g c = λ catalog before after low top hears.
    let h = subst (λ (e : Event). Hears g.F.Flash.told (g.F.Flash.state c.args.flash.now) c.args.pool.now catalog c.args.page.now e before after low top c.args.self.now) c.in-Rows.is hears in
    let r = rows_are_here g.F.Flash.told (g.F.Flash.state c.args.flash.now) c.args.pool.now catalog c.args.page.now c.in-Rows.field-0 before after low top c.args.self.now h in
    has_heard g.F.Flash.told (g.F.Flash.state c.args.flash.now) (g.F.Flash.state c.push_rows.new.flash) c.args.pool.now c.push_rows.new.pool catalog before low top
    c.args.self.now c.push_rows.new.self r.is c.push_rows.ensures.writes
    (side_is c.areas_lie_apart.ensures.apart c.replies_are_kept.ensures.kept c.replies_stay_readable.ensures.readable g.F.Flash.told (g.F.Flash.state c.args.flash.now) (g.F.Flash.state c.push_rows.new.flash)
    c.args.pool.now c.push_rows.new.pool catalog c.args.page.now c.in-Rows.field-0 before after low top c.args.self.now c.push_rows.new.self c.payload_of.result.now c.payload_of.ensures.payload h r.is
    (subst (λ p. RowsCame catalog r.is.at.asked r.is.last p c.in-Rows.field-0) (sym c.payload_of.ensures.payload) r.came)
    c.push_rows.ensures.can c.push_rows.ensures.writes c.push_rows.ensures.replies c.push_rows.ensures.others c.push_rows.ensures.last c.push_rows.ensures.pushed c.push_rows.ensures.hand c.push_rows.ensures.open)

pub returns-in-Rows-clause-few : goal.returns-in-Rows-clause-few
returns-in-Rows-clause-few g c =
    let some = c.requires.some in
    let h = subst (λ (e : Event). Hears g.F.Flash.told (g.F.Flash.state c.args.flash.now) c.args.pool.now some.catalog c.args.page.now e some.before some.after some.low some.top c.args.self.now) c.in-Rows.is some.hears in
    let r = rows_are_here g.F.Flash.told (g.F.Flash.state c.args.flash.now) c.args.pool.now some.catalog c.args.page.now c.in-Rows.field-0 some.before some.after some.low some.top c.args.self.now h in
    subst (λ (e : Event). (g.F.Flash.state c.push_rows.new.flash).calls ≤ (g.F.Flash.state c.args.flash.now).calls + 2 * pages_on e c.args.self.now.hand c.args.self.now.spool c.push_rows.new.self.spool) (sym c.in-Rows.is)
    (c.push_rows.ensures.few (rows_at c.args.self.now.hand.width some.before.rows) r.is.at.come.pushed c.payload_of.ensures.short)

pub returns-in-Rows-clause-unopened_flash : goal.returns-in-Rows-clause-unopened_flash
returns-in-Rows-clause-unopened_flash g c = λ shut.
    let some = c.requires.some in
    let h = subst (λ (e : Event). Hears g.F.Flash.told (g.F.Flash.state c.args.flash.now) c.args.pool.now some.catalog c.args.page.now e some.before some.after some.low some.top c.args.self.now) c.in-Rows.is some.hears in
    let r = rows_are_here g.F.Flash.told (g.F.Flash.state c.args.flash.now) c.args.pool.now some.catalog c.args.page.now c.in-Rows.field-0 some.before some.after some.low some.top c.args.self.now h in
    absurd (true_is_not_false (sym r.is.opened ∙ shut))

pub returns-in-Rows-clause-unopened_spool : goal.returns-in-Rows-clause-unopened_spool
returns-in-Rows-clause-unopened_spool g c = λ shut.
    let some = c.requires.some in
    let h = subst (λ (e : Event). Hears g.F.Flash.told (g.F.Flash.state c.args.flash.now) c.args.pool.now some.catalog c.args.page.now e some.before some.after some.low some.top c.args.self.now) c.in-Rows.is some.hears in
    let r = rows_are_here g.F.Flash.told (g.F.Flash.state c.args.flash.now) c.args.pool.now some.catalog c.args.page.now c.in-Rows.field-0 some.before some.after some.low some.top c.args.self.now h in
    absurd (true_is_not_false (sym r.is.opened ∙ shut))

pub returns-in-Done-clause-kept : goal.returns-in-Done-clause-kept
returns-in-Done-clause-kept g c = λ catalog before after low top hears.
    let h = subst (λ (e : Event). Hears g.F.Flash.told (g.F.Flash.state c.args.flash.now) c.args.pool.now catalog c.args.page.now e before after low top c.args.self.now) c.in-Done.is hears in
    (elim c.args.self.now.is_open as (λ (b : Bool). c.args.self.now.is_open ≡ b → IsKept g.F.Flash.told (g.F.Flash.state c.end_reply.new.flash) c.end_reply.new.pool catalog after low top c.end_reply.new.self) [
      | true ↦ λ is_on.
          let is = here g.F.Flash.told (g.F.Flash.state c.args.flash.now) c.args.pool.now catalog c.args.page.now event_is.Done before after low top c.args.self.now h is_on in
          done_kept c.areas_lie_apart.ensures.apart c.replies_are_kept.ensures.kept c.replies_stay_readable.ensures.readable c.texts_without_rows.ensures.none g.F.Flash.told (g.F.Flash.state c.args.flash.now)
          (g.F.Flash.state c.end_reply.new.flash) c.args.pool.now c.end_reply.new.pool catalog before after low top c.args.self.now c.end_reply.new.self is c.end_reply.ensures.spooling (c.end_reply.ensures.ends is_on)
          c.end_reply.ensures.writes c.end_reply.ensures.closed h.tells.rows (h.tells.ended ∙ ap (λ more. before.ended ++ more) (ended_awaited before.awaits is.at.asked _ is.at.awaited))
      | false ↦ λ shut.
          subst (λ (d : Device). IsKept g.F.Flash.told d c.end_reply.new.pool catalog after low top c.end_reply.new.self) (sym (c.end_reply.ensures.unopened_flash shut))
          (subst (λ (p : Pool). IsKept g.F.Flash.told (g.F.Flash.state c.args.flash.now) p catalog after low top c.end_reply.new.self) (sym c.end_reply.ensures.pool)
          (done_unopened g.F.Flash.told (g.F.Flash.state c.args.flash.now) c.args.pool.now catalog c.args.page.now before after low top c.args.self.now c.end_reply.new.self shut
          (c.end_reply.ensures.unopened_spool shut) c.end_reply.ensures.closed h))
    ]) refl

pub returns-in-Done-clause-heard : goal.returns-in-Done-clause-heard
returns-in-Done-clause-heard g c = λ catalog before after low top hears.
    let h = subst (λ (e : Event). Hears g.F.Flash.told (g.F.Flash.state c.args.flash.now) c.args.pool.now catalog c.args.page.now e before after low top c.args.self.now) c.in-Done.is hears in
    (elim c.args.self.now.is_open as (λ (b : Bool). c.args.self.now.is_open ≡ b → HasHeard catalog low c.args.self.now.hand.text (g.F.Flash.state c.args.flash.now) (g.F.Flash.state c.end_reply.new.flash) c.args.self.now c.end_reply.new.self) [
      | true ↦ λ is_on.
          let is = here g.F.Flash.told (g.F.Flash.state c.args.flash.now) c.args.pool.now catalog c.args.page.now event_is.Done before after low top c.args.self.now h is_on in
          has_heard g.F.Flash.told (g.F.Flash.state c.args.flash.now) (g.F.Flash.state c.end_reply.new.flash) c.args.pool.now c.end_reply.new.pool catalog before low top
          c.args.self.now c.end_reply.new.self is c.end_reply.ensures.writes
          (closing.side_is c.areas_lie_apart.ensures.apart c.replies_are_kept.ensures.kept c.replies_stay_readable.ensures.readable c.texts_without_rows.ensures.none g.F.Flash.told (g.F.Flash.state c.args.flash.now)
          (g.F.Flash.state c.end_reply.new.flash) c.args.pool.now c.end_reply.new.pool catalog before after low top c.args.self.now c.end_reply.new.self is c.end_reply.ensures.spooling (c.end_reply.ensures.ends is_on)
          c.end_reply.ensures.writes c.end_reply.ensures.closed h.tells.rows (h.tells.ended ∙ ap (λ more. before.ended ++ more) (ended_awaited before.awaits is.at.asked _ is.at.awaited)))
      | false ↦ λ shut.
          nothing_heard catalog low c.args.self.now.hand.text (g.F.Flash.state c.args.flash.now) (g.F.Flash.state c.end_reply.new.flash) c.args.self.now c.end_reply.new.self
          (c.end_reply.ensures.unopened_flash shut) (c.end_reply.ensures.unopened_spool shut)
    ]) refl

pub returns-in-Done-clause-few : goal.returns-in-Done-clause-few
returns-in-Done-clause-few g c =
    subst (λ (e : Event). (g.F.Flash.state c.end_reply.new.flash).calls ≤ (g.F.Flash.state c.args.flash.now).calls + 2 * pages_on e c.args.self.now.hand c.args.self.now.spool c.end_reply.new.self.spool) (sym c.in-Done.is)
    (last_page _ _ _ (g.F.Flash.state c.args.flash.now) (g.F.Flash.state c.end_reply.new.flash) c.end_reply.ensures.empty c.end_reply.ensures.quiet c.end_reply.ensures.dropped c.end_reply.ensures.few)

pub returns-in-Sorry-clause-kept : goal.returns-in-Sorry-clause-kept
returns-in-Sorry-clause-kept g c = λ catalog before after low top hears.
    over_kept g.F.Flash.told (g.F.Flash.state c.args.flash.now) c.args.pool.now catalog c.args.page.now c.args.event before after low top c.args.self.now _ refl refl c.in-Sorry.is hears

pub returns-in-Rows-clause-fills : goal.returns-in-Rows-clause-fills
returns-in-Rows-clause-fills g c = λ catalog before after low top hears unrefused unmarked.
    let h = subst (λ (e : Event). Hears g.F.Flash.told (g.F.Flash.state c.args.flash.now) c.args.pool.now catalog c.args.page.now e before after low top c.args.self.now) c.in-Rows.is hears in
    let r = rows_are_here g.F.Flash.told (g.F.Flash.state c.args.flash.now) c.args.pool.now catalog c.args.page.now c.in-Rows.field-0 before after low top c.args.self.now h in
    rows_fill g.F.Flash.told (g.F.Flash.state c.args.flash.now) (g.F.Flash.state c.push_rows.new.flash) c.args.pool.now c.push_rows.new.pool catalog c.args.page.now c.in-Rows.field-0 before after low top
    c.args.self.now c.push_rows.new.self c.payload_of.result.now c.payload_of.ensures.payload h r.is
    (subst (λ p. RowsCame catalog r.is.at.asked r.is.last p c.in-Rows.field-0) (sym c.payload_of.ensures.payload) r.came)
    c.push_rows.ensures.can c.push_rows.ensures.writes.marks.stays c.push_rows.ensures.pushed c.push_rows.ensures.hand
    (c.push_rows.ensures.few (rows_at c.args.self.now.hand.width before.rows) r.is.at.come.pushed c.payload_of.ensures.short)
    (unmarked c.args.self.now.hand.text (from_low g.F.Flash.told (g.F.Flash.state c.args.flash.now) c.args.pool.now catalog before low top c.args.self.now r.is))

pub returns-in-Done-clause-fills : goal.returns-in-Done-clause-fills
returns-in-Done-clause-fills g c = λ catalog before after low top hears unrefused unmarked.
    let h = subst (λ (e : Event). Hears g.F.Flash.told (g.F.Flash.state c.args.flash.now) c.args.pool.now catalog c.args.page.now e before after low top c.args.self.now) c.in-Done.is hears in
    (elim c.args.self.now.is_open as (λ (b : Bool). c.args.self.now.is_open ≡ b → (g.F.Flash.state c.end_reply.new.flash).calls + 2 * pages_heard catalog.schema before ≤ (g.F.Flash.state c.args.flash.now).calls + 2 * pages_heard catalog.schema after) [
      | true ↦ λ is_on.
          let is = here g.F.Flash.told (g.F.Flash.state c.args.flash.now) c.args.pool.now catalog c.args.page.now event_is.Done before after low top c.args.self.now h is_on in
          done_fills g.F.Flash.told (g.F.Flash.state c.args.flash.now) (g.F.Flash.state c.end_reply.new.flash) c.args.pool.now catalog c.args.page.now before after low top c.args.self.now c.end_reply.new.self h is
          c.end_reply.ensures.writes.marks.stays
          (last_page _ _ _ (g.F.Flash.state c.args.flash.now) (g.F.Flash.state c.end_reply.new.flash) c.end_reply.ensures.empty c.end_reply.ensures.quiet c.end_reply.ensures.dropped c.end_reply.ensures.few)
          (unmarked c.args.self.now.hand.text (from_low g.F.Flash.told (g.F.Flash.state c.args.flash.now) c.args.pool.now catalog before low top c.args.self.now is))
      | false ↦ λ shut.
          unopened_fills g.F.Flash.told (g.F.Flash.state c.args.flash.now) (g.F.Flash.state c.end_reply.new.flash) c.args.pool.now catalog c.args.page.now before after low top c.args.self.now shut (c.end_reply.ensures.unopened_flash shut) h
    ]) refl

pub returns-in-Sorry-clause-fills : goal.returns-in-Sorry-clause-fills
returns-in-Sorry-clause-fills g c = λ catalog before after low top hears unrefused unmarked.
    over_fills g.F.Flash.told (g.F.Flash.state c.args.flash.now) c.args.pool.now catalog c.args.page.now c.args.event before after low top c.args.self.now c.in-Sorry.is hears unrefused

pub returns-in-Part-clause-fills : goal.returns-in-Part-clause-fills
returns-in-Part-clause-fills g c = λ catalog before after low top hears unrefused unmarked.
    part_fills g.F.Flash.told (g.F.Flash.state c.args.flash.now) c.args.pool.now catalog c.args.page.now c.args.event before after low top c.args.self.now c.in-Part.is hears
