use Rattle.ghost_model.specs.refusals.SchemaFaults as faults
use Rattle.tree_schema.specs.Drafts.{column_of}
use Rattle.tree_schema.proofs.AnySteps.{NoneBefore}
use Rattle.tree_schema.proofs.rules.is_one_over.Given as goal

abbrev pub invariant-loop-column : goal.invariant-loop-column
invariant-loop-column l = NoneBefore (λ column. faults.is_column_over (column_of column)) l.columns l.column-index
