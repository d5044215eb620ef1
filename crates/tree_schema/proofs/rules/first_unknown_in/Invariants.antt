use Rattle.std.proofs.Common.{map, slice_get}
use Rattle.ghost_model.specs.laws.ShortWords as short
use Rattle.ghost_model.specs.refusals.SchemaFaults as faults
use Rattle.tree_schema.specs.Drafts.{table_of}
use Rattle.tree_schema.specs.Faults.{field_at}
use Rattle.tree_schema.proofs.RuleSteps.{Searched}
use Rattle.tree_schema.proofs.rules.first_unknown_in.Given as goal

abbrev pub invariant-loop-column : goal.invariant-loop-column
invariant-loop-column l =
    Searched (λ column. short.is_unknown (map table_of l.tables) (field_at l.table column)) (faults.columns_at (slice_get (map table_of l.tables) l.table)) l.column
