use Rattle.tree_schema.specs.Views.{schema_of}
use Rattle.tree_schema.specs.Faults.{is_shared}
use Rattle.tree_schema.proofs.RuleSteps.{Searched}
use Rattle.tree_schema.proofs.trees.first_shared.Given as goal

abbrev pub invariant-loop-child : goal.invariant-loop-child
invariant-loop-child l = Searched (is_shared (schema_of l.tables)) (schema_of l.tables) l.child
