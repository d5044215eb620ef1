use Rattle.std.proofs.Common.{refl, arith}
use Rattle.visible_spool.proofs.Narrowing.{ends_left}
use Rattle.visible_spool.proofs.reply.Reply.looking.Goals as goal

pub returns-clause-sought : goal.returns-clause-sought
returns-clause-sought c = λ pages rows holds.
    let each = c.per_page-each.ensures.value in
    let some = c.per_page-each.ensures.some in
    ends_left pages c.args.self.now rows holds (omega (arith, each, some)) c.requires.few c.args.id c.per_page-each.result c.saturating_sub-first.result c.min-after.result
    _ each c.saturating_sub-first.ensures c.min-after.ensures refl c.pages.ensures.value
