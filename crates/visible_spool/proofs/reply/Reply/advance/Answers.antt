use Rattle.std.proofs.Common.{◌∙◌, subst, arith}
use Rattle.page_pool.specs.Pools.{page_at}
use Rattle.visible_spool.proofs.OwnPages.{own_after}
use Rattle.visible_spool.specs.declared.search.Looking.{Looking}
use Rattle.visible_spool.specs.Searches.{TurnNarrows, IsNarrowed}
use Rattle.visible_spool.proofs.Narrowing.{fewer_left}
use Rattle.visible_spool.proofs.reply.Reply.advance.Goals as goal

pub returns-in-Ok-Narrowed-clause-fewer : goal.returns-in-Ok-Narrowed-clause-fewer
returns-in-Ok-Narrowed-clause-fewer g c = λ k left looks more.
    let looking = c.args.looking in
    let fewer : Looking = record { low = looking.low; high = looking.high; below = looking.below; above = looking.above; guesses = c.saturating_sub.result } in
    let n : IsNarrowed fewer c.in-Ok-Narrowed.next c.next_page-page.result =
    subst (TurnNarrows fewer c.next_page-page.result) c.in-Ok-Narrowed.field-0-is c.in-Ok-Narrowed.ensures.narrows in
    fewer_left k looking c.in-Ok-Narrowed.next c.next_page-page.result left c.next_page-page.ensures.low c.next_page-page.ensures.high c.next_page-page.ensures.halves
    (n.guesses ∙ c.saturating_sub.ensures) n.low n.high n.side looks

pub returns-in-Ok-Narrowed-clause-guesses : goal.returns-in-Ok-Narrowed-clause-guesses
returns-in-Ok-Narrowed-clause-guesses g c = λ more.
    let looking = c.args.looking in
    let fewer : Looking = record { low = looking.low; high = looking.high; below = looking.below; above = looking.above; guesses = c.saturating_sub.result } in
    let n : IsNarrowed fewer c.in-Ok-Narrowed.next c.next_page-page.result =
    subst (TurnNarrows fewer c.next_page-page.result) c.in-Ok-Narrowed.field-0-is c.in-Ok-Narrowed.ensures.narrows in
    n.guesses ∙ c.saturating_sub.ensures

pub returns-in-Err-clause-page : goal.returns-in-Err-clause-page
returns-in-Err-clause-page g c =
    let high = c.next_page-page.ensures.high in
    let within = c.requires.within in
    own_after c.args.self.now c.requires.readable.sound (page_at c.args.pool.now c.args.lease.now) (page_at c.look.new.pool c.args.lease.now) c.next_page-page.result (omega (arith, high, within))
    c.look.result c.look.ensures.read.holds

pub returns-in-Ok-Over-clause-page : goal.returns-in-Ok-Over-clause-page
returns-in-Ok-Over-clause-page g c =
    let high = c.next_page-page.ensures.high in
    let within = c.requires.within in
    own_after c.args.self.now c.requires.readable.sound (page_at c.args.pool.now c.args.lease.now) (page_at c.look.new.pool c.args.lease.now) c.next_page-page.result (omega (arith, high, within))
    c.look.result c.look.ensures.read.holds

pub returns-in-Ok-Narrowed-clause-page : goal.returns-in-Ok-Narrowed-clause-page
returns-in-Ok-Narrowed-clause-page g c =
    let high = c.next_page-page.ensures.high in
    let within = c.requires.within in
    own_after c.args.self.now c.requires.readable.sound (page_at c.args.pool.now c.args.lease.now) (page_at c.look.new.pool c.args.lease.now) c.next_page-page.result (omega (arith, high, within))
    c.look.result c.look.ensures.read.holds
