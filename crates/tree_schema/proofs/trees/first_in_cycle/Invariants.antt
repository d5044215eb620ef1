use Rattle.ghost_model.specs.refusals.SchemaFaults as faults
use Rattle.tree_schema.specs.Views.{schema_of}
use Rattle.tree_schema.proofs.RuleSteps.{Searched}
use Rattle.tree_schema.proofs.trees.first_in_cycle.Given as goal

abbrev pub invariant-loop-table : goal.invariant-loop-table
invariant-loop-table l = Searched (faults.returns (schema_of l.tables)) (schema_of l.tables) l.table
