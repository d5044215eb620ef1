use Rattle.std.proofs.Common.{bytes_eq}
use Rattle.ghost_model.specs.refusals.Tokens as tokens
use Rattle.ghost_model.specs.refusals.SchemaFaults as faults
use Rattle.tree_schema.specs.Drafts.{column_of}
use Rattle.tree_schema.proofs.AnySteps.{NoneBefore}
use Rattle.tree_schema.proofs.rules.has_column.Given as goal

abbrev pub invariant-loop-column : goal.invariant-loop-column
invariant-loop-column l =
    NoneBefore (λ column. bytes_eq (tokens.in_lower_case l.name) (faults.declared_name (column_of column))) l.columns l.column-index
