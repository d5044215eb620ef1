use Rattle.std.proofs.Common.{◌≤◌}
use Rattle.tree_schema.specs.Views.{schema_of}
use Rattle.tree_schema.proofs.TreeSteps.{CountsRoots}
use Rattle.tree_schema.proofs.trees.roots_of.Given as goal

abbrev pub invariant-loop-table : goal.invariant-loop-table
invariant-loop-table l = record { counted : CountsRoots (schema_of l.tables) l.roots l.table; few : l.roots ≤ l.table }
