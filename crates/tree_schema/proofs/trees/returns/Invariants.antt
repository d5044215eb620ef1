use Rattle.tree_schema.specs.Views.{schema_of}
use Rattle.tree_schema.proofs.TreeSteps.{Climbs}
use Rattle.tree_schema.proofs.trees.returns.Given as goal

abbrev pub invariant-loop-step : goal.invariant-loop-step
invariant-loop-step l = Climbs (schema_of l.tables) l.table l.step l.here
