use Rattle.std.proofs.Common.{map}
use Rattle.ghost_model.specs.laws.ShortWords as short
use Rattle.ghost_model.specs.refusals.SchemaFaults as faults
use Rattle.tree_schema.specs.Drafts.{table_of}
use Rattle.tree_schema.proofs.RuleSteps.{FieldsSearched}
use Rattle.tree_schema.proofs.rules.first_unknown.Given as goal

abbrev pub invariant-loop-table : goal.invariant-loop-table
invariant-loop-table l = FieldsSearched (short.is_unknown (map table_of l.tables)) (map table_of l.tables) l.table
