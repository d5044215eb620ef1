use Rattle.std.proofs.Common.{sym, subst, List, ℕ}
use Rattle.index_lists.specs.Laws.{LeadAs}
use Rattle.flash_build.specs.Levels.{RankedAbove}
use Rattle.flash_build.proofs.Writes.{if_ok}
use Rattle.flash_build.proofs.Leading as leading
use Rattle.flash_build.proofs.levels.taken_up.Goals as goal

pub returns-clause-led : goal.returns-clause-led
returns-clause-led c =
    if_ok c.ranks_above.result
    (λ above same table under was.
    subst (λ (xs : List ℕ). LeadAs c.args.laid.now c.args.hidden.now c.args.from table xs) (sym same)
    (leading.lead_up c.args.laid.now c.args.hidden.now c.args.from c.args.below c.in_ok-keys.keys.now c.in_ok-keys.ensures.keys
    c.layout_laws.ensures.layout.tree c.requires.part c.requires.above table under c.args.reached.now was))
    c.ranks_above.ensures.ranks

pub returns-clause-ranked : goal.returns-clause-ranked
returns-clause-ranked c =
    if_ok c.ranks_above.result
    (λ above same table own under was.
    subst (λ (xs : List ℕ). RankedAbove c.args.laid.now c.args.hidden.now table own c.args.from xs) (sym same)
    (leading.ranks_up c.args.laid.now c.args.hidden.now c.args.from c.args.below c.in_ok-keys.keys.now c.in_ok-keys.ensures.keys
    c.levels_compose.ensures c.layout_laws.ensures.layout.tree c.requires.part c.requires.above table under own c.args.reached.now was))
    c.ranks_above.ensures.ranks
