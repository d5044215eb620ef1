use Rattle.std.proofs.Common.{◌≡◌, ◌<◌, ◌∙◌, ap, sym, get_or, length, eq-eqb, arith, List, ℕ, Some}
use Rattle.std.specs.Prelude.{◌==◌}
use Rattle.ghost_model.specs.forms.Layout as layout
use Rattle.flash_build.proofs.Leading.{any_later, none_later, level_is}
use Rattle.flash_build.proofs.levels.steps_above.Goals as goal

pub returns-then-levels-steps-clause-some : goal.returns-then-levels-steps-clause-some
returns-then-levels-steps-clause-some c =
    let schema = c.args.laid.now.schema in
    let levels = layout.levels_of schema c.args.other in
    let at = c.loop-steps.steps in
    let size = ap length c.levels-levels.ensures.tables in
    let low : at < length levels = omega (arith, c.loop-steps-test.true, size) in
    let same : get_or levels at 0 ≡ c.args.table =
    ap (λ (xs : List ℕ). get_or xs at 0) (sym c.levels-levels.ensures.tables) ∙ c.if-levels-steps.true in (
      any_later (λ above. above == c.args.table) levels at c.loop-steps.auto.steps low (eq-eqb (get_or levels at 0) c.args.table same),
      level_is schema c.levels_are_ancestors.ensures c.layout_laws.ensures.layout.tree c.args.other at c.requires.there low ∙ ap Some same,
      low,
    )

pub returns-clause-none : goal.returns-clause-none
returns-clause-none c =
    let levels = layout.levels_of c.args.laid.now.schema c.args.other in
    let size = ap length c.levels-levels.ensures.tables in
    none_later (λ above. above == c.args.table) levels
    (λ k some low. c.loop-steps.invariant.none k some (omega (arith, low, size, c.loop-steps-test.false)))
