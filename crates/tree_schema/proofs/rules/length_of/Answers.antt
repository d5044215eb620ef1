use Rattle.std.proofs.Common.{◌+◌, ◌*◌, ◌<◌, subst, ap, ◌∙◌, drop}
use Rattle.ghost_model.specs.refusals.Tokens as tokens
use Rattle.tree_schema.proofs.RuleSteps.{too_long, folds_on}
use Rattle.tree_schema.proofs.rules.length_of.Goals as goal

pub returns-then-more-gt64 : goal.returns-then-more-gt64
returns-then-more-gt64 c =
    record {
      value = ap (tokens.is_between 1 64) (c.loop-digit.invariant.same ∙ folds_on c.args.digits.now c.loop-digit.digit-index c.loop-digit.number c.loop-digit-test.true)
          ∙ too_long (drop (c.loop-digit.digit-index + 1) c.args.digits.now) _ (subst (λ d. 64 < c.loop-digit.number * 10 + d) c.saturating_sub.ensures c.if-more-gt64.true);
    }
