use Rattle.std.proofs.Common.{sym, ◌∙◌}
use Rattle.tree_schema.proofs.AnySteps.{none_yet, fails_here, passes_here, none_passes}
use Rattle.tree_schema.proofs.rules.is_one_over.Goals as goal

pub loop-column-init : goal.loop-column-init
loop-column-init c = none_yet _ _

pub returns-then-is_column_over : goal.returns-then-is_column_over
returns-then-is_column_over c =
    record { over = sym (passes_here _ _ _ _ c.loop-column.invariant c.loop-column-test.true (sym c.is_column_over.ensures.over ∙ c.if-is_column_over.true)) }

pub loop-column-preserved : goal.loop-column-preserved
loop-column-preserved c =
    fails_here _ _ _ _ c.loop-column.invariant c.loop-column-test.true (sym c.is_column_over.ensures.over ∙ c.if-is_column_over.false)

pub returns : goal.returns
returns c = record { over = sym (none_passes _ _ _ c.loop-column.invariant c.loop-column-test.false) }
