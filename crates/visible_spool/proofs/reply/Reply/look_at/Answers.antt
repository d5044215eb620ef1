use Rattle.std.proofs.Common.{◌≡◌, ◌∙◌, ap, sym, subst, ℕ, ◌+◌, ◌-◌, Some, arith}
use Rattle.std.specs.Prelude.{IfOk}
use Rattle.visible_spool.specs.Searches.{TurnIsInHeld}
use Rattle.visible_spool.proofs.reply.Reply.look_at.Goals as goal

pub returns-clause-inside : goal.returns-clause-inside
returns-clause-inside c = λ pages rows holds is.
    let first = c.args.self.now.run.first in
    let low = c.if-number-self.false in
    let same : first + (c.args.number - first) ≡ c.args.number = omega (arith, low) in
    subst (λ (n : ℕ). IfOk c.read_off.result (TurnIsInHeld c.args.self.now rows (Some n) c.args.id)) same (c.read_off.ensures.inside pages rows holds (is ∙ ap pages (sym same)))

pub returns-clause-finds : goal.returns-clause-finds
returns-clause-finds c = λ pages rows holds is was.
    let first = c.args.self.now.run.first in
    let low = c.if-number-self.false in
    let same : first + (c.args.number - first) ≡ c.args.number = omega (arith, low) in
    c.read_off.ensures.finds pages rows holds (is ∙ ap pages (sym same)) was

pub returns-clause-whole : goal.returns-clause-whole
returns-clause-whole c = λ pages rows holds is.
    let first = c.args.self.now.run.first in
    let low = c.if-number-self.false in
    let same : first + (c.args.number - first) ≡ c.args.number = omega (arith, low) in
    c.read_off.ensures.whole pages rows holds (is ∙ ap pages (sym same))
