use Rattle.page_pool.proofs.Leases.{change_keeps_out}
use Rattle.visible_spool.proofs.Spooling.{spooling_on, held_on, some_text}
use Rattle.visible_spool.proofs.spool.Spool.write.Goals as goal

pub returns-in-Ok-clause-spooling : goal.returns-in-Ok-clause-spooling
returns-in-Ok-clause-spooling g c =
    let before = g.F.Flash.state c.args.flash.now in
    let now = g.F.Flash.state c.put.new.flash in
    let old = c.args.self.now in
    let held = c.requires.spooling.hand (some_text old.hand.text c.requires.some) in
    spooling_on before now c.args.pool.now c.put.new.pool old old.sides c.put.new.self c.requires.spooling c.put.ensures.others.page_count
    (change_keeps_out c.put.ensures.buffer) c.put.ensures.same.lease
    (λ some. held_on before now old old.sides c.put.new.self held c.put.ensures.text c.put.ensures.same.table c.put.ensures.same.reply held.holder (λ unmarked. c.in-Ok.ensures.can))

pub returns-in-Err-clause-spooling : goal.returns-in-Err-clause-spooling
returns-in-Err-clause-spooling g c =
    let before = g.F.Flash.state c.args.flash.now in
    let now = g.F.Flash.state c.put.new.flash in
    let old = c.args.self.now in
    let held = c.requires.spooling.hand (some_text old.hand.text c.requires.some) in
    spooling_on before now c.args.pool.now c.put.new.pool old c.mark.new.self c.put.new.self c.requires.spooling c.put.ensures.others.page_count
    (change_keeps_out c.put.ensures.buffer) c.put.ensures.same.lease
    (λ some. held_on before now old c.mark.new.self c.put.new.self held c.put.ensures.text c.put.ensures.same.table c.put.ensures.same.reply c.mark.ensures.text
    (λ unmarked. let marked = c.mark.ensures.marked in absurd (cc (unmarked, marked))))
