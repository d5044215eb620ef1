use Rattle.std.proofs.Common.{bytes_eq, ap, sym, ◌∙◌}
use Rattle.ghost_model.specs.refusals.Tokens as tokens
use Rattle.tree_schema.proofs.AnySteps.{none_yet, fails_here, passes_here, none_passes}
use Rattle.tree_schema.proofs.rules.has_column.Goals as goal

pub loop-column-init : goal.loop-column-init
loop-column-init c = none_yet _ _

pub returns-then-is_word : goal.returns-then-is_word
returns-then-is_word c =
    record {
      has = sym (passes_here _ _ _ _ c.loop-column.invariant c.loop-column-test.true
          (ap (bytes_eq (tokens.in_lower_case c.args.name.now)) (sym c.column_name.ensures.name) ∙ sym c.is_word.ensures ∙ c.if-is_word.true));
    }

pub loop-column-preserved : goal.loop-column-preserved
loop-column-preserved c =
    fails_here _ _ _ _ c.loop-column.invariant c.loop-column-test.true
    (ap (bytes_eq (tokens.in_lower_case c.args.name.now)) (sym c.column_name.ensures.name) ∙ sym c.is_word.ensures ∙ c.if-is_word.false)

pub returns : goal.returns
returns c = record { has = sym (none_passes _ _ _ c.loop-column.invariant c.loop-column-test.false) }
