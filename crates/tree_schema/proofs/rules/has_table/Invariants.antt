use Rattle.std.proofs.Common.{bytes_eq}
use Rattle.ghost_model.specs.refusals.Tokens as tokens
use Rattle.tree_schema.proofs.AnySteps.{NoneBefore}
use Rattle.tree_schema.proofs.rules.has_table.Given as goal

abbrev pub invariant-loop-table : goal.invariant-loop-table
invariant-loop-table l =
    NoneBefore (λ table. bytes_eq (tokens.in_lower_case l.name) (tokens.in_lower_case table.name.now)) l.tables l.table-index
