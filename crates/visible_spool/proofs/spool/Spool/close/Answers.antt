use Rattle.std.proofs.Common.{◌∙◌, ap, sym, subst, length}
use Rattle.page_pool.specs.Pools.{Pool}
use Rattle.visible_spool.specs.declared.half.Half.{Half}
use Rattle.visible_spool.specs.declared.hand.Hand.{Hand}
use Rattle.visible_spool.specs.declared.reply.Reply.{Reply}
use Rattle.visible_spool.specs.Replies.{HoldsRows}
use Rattle.visible_spool.specs.Halves.{reply_of}
use Rattle.visible_spool.specs.Sides.{side_of}
use Rattle.visible_spool.proofs.SpoolLemmas.{its_replies}
use Rattle.visible_spool.proofs.Spooling.{spooling_on, held_on, some_text}
use Rattle.visible_spool.proofs.spool.Spool.close.Goals as goal

pub returns-in-Ok-clause-kept : goal.returns-in-Ok-clause-kept
returns-in-Ok-clause-kept g c = λ rows was unmarked told.
    let old = c.args.self.now in
    let held = c.requires.spooling.hand (some_text old.hand.text c.requires.some) in
    let e = ap (λ (h : Half). reply_of h old.hand.table) (its_replies (side_of c.keep.new.self old.hand.text) old.hand.text (c.keep.ensures.text ∙ held.holder)) ∙ c.keep.ensures.kept in
    subst (λ (r : Reply). HoldsRows (g.F.Flash.state c.finish.new.flash).page r rows) (sym e) (c.in-Ok.ensures.holds told rows was)

pub returns-in-Ok-clause-spooling : goal.returns-in-Ok-clause-spooling
returns-in-Ok-clause-spooling g c =
    let before = g.F.Flash.state c.args.flash.now in
    let now = g.F.Flash.state c.finish.new.flash in
    let same = c.finish.ensures.buffers in
    spooling_on before now c.args.pool.now c.finish.new.pool c.args.self.now c.keep.new.self c.finish.new.self c.requires.spooling c.finish.ensures.others.page_count
    (record { out = ap (λ (p : Pool). p.out) same; size = ap (λ (p : Pool). length p.pages) same }) c.finish.ensures.same.lease
    (λ some. absurd (some c.in-Ok.ensures.none))

pub returns-in-Err-clause-spooling : goal.returns-in-Err-clause-spooling
returns-in-Err-clause-spooling g c =
    let before = g.F.Flash.state c.args.flash.now in
    let now = g.F.Flash.state c.finish.new.flash in
    let old = c.args.self.now in
    let same = c.finish.ensures.buffers in
    let held = c.requires.spooling.hand (some_text old.hand.text c.requires.some) in
    spooling_on before now c.args.pool.now c.finish.new.pool old c.mark.new.self c.finish.new.self c.requires.spooling c.finish.ensures.others.page_count
    (record { out = ap (λ (p : Pool). p.out) same; size = ap (λ (p : Pool). length p.pages) same }) c.finish.ensures.same.lease
    (λ some. held_on before now old c.mark.new.self c.finish.new.self held (ap (λ (h : Hand). h.text) c.in-Err.ensures.failed) c.finish.ensures.same.table c.finish.ensures.same.reply
    c.mark.ensures.text (λ unmarked. let marked = c.mark.ensures.marked in absurd (cc (unmarked, marked))))
