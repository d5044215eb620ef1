use Rattle.std.proofs.Common.{◌∙◌, subst, ℕ, List, arith}
use Rattle.std.specs.Prelude.{IfOk}
use Rattle.visible_spool.specs.Searches.{TurnFinds}
use Rattle.visible_spool.proofs.Readable.{page_there}
use Rattle.visible_spool.proofs.reply.Reply.look.Goals as goal

pub overflow_add-self : goal.overflow_add-self
overflow_add-self g c =
    let high = c.requires.high in
    let within = c.requires.within in
    let there = page_there (g.F.Flash.state c.args.flash.now) c.args.self.now c.requires.readable c.args.page (omega (arith, high, within)) in
    let small = c.requires.readable.has.small in
    omega (arith, there, small)

pub load-requires-clause-in_range : goal.load-requires-clause-in_range
load-requires-clause-in_range g c =
    let high = c.requires.high in
    let within = c.requires.within in
    page_there (g.F.Flash.state c.args.flash.now) c.args.self.now c.requires.readable c.args.page (omega (arith, high, within))

pub returns-in-Ok-clause-finds : goal.returns-in-Ok-clause-finds
returns-in-Ok-clause-finds g c = λ told rows holds was.
    subst (λ (bytes : List ℕ). IfOk c.read_off.result (TurnFinds c.args.self.now rows c.args.id bytes)) c.page.ensures.bytes
    (c.read_off.ensures.finds (g.F.Flash.state c.args.flash.now).page rows holds (c.page.ensures.bytes ∙ c.in-Ok.ensures.bytes told) was)

pub returns-in-Ok-clause-whole : goal.returns-in-Ok-clause-whole
returns-in-Ok-clause-whole g c = λ told rows holds.
    c.read_off.ensures.whole (g.F.Flash.state c.args.flash.now).page rows holds (c.page.ensures.bytes ∙ c.in-Ok.ensures.bytes told)

pub read_off-requires-clause-small : goal.read_off-requires-clause-small
read_off-requires-clause-small g c =
    let high = c.requires.high in
    let within = c.requires.within in
    let there = page_there (g.F.Flash.state c.args.flash.now) c.args.self.now c.requires.readable c.args.page (omega (arith, high, within)) in
    let small = c.requires.readable.has.small in
    omega (arith, there, small)
