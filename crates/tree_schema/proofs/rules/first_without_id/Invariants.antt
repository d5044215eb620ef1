use Rattle.std.proofs.Common.{map}
use Rattle.ghost_model.specs.laws.ShortWords as short
use Rattle.ghost_model.specs.refusals.SchemaFaults as faults
use Rattle.tree_schema.specs.Drafts.{table_of}
use Rattle.tree_schema.proofs.RuleSteps.{Searched}
use Rattle.tree_schema.proofs.rules.first_without_id.Given as goal

abbrev pub invariant-loop-place : goal.invariant-loop-place
invariant-loop-place l = Searched (short.lacks_id (map table_of l.tables)) (map table_of l.tables) l.place
