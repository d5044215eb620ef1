use Rattle.std.proofs.Common.{◌<◌, length, map, ◌∙◌, arith}
use Rattle.std.proofs.lemmas.List.{length-map}
use Rattle.ghost_model.specs.refusals.SchemaFaults as faults
use Rattle.tree_schema.specs.Drafts.{table_of}
use Rattle.tree_schema.proofs.RuleSteps.{any_mapped, or_right, not_le}
use Rattle.tree_schema.proofs.rules.is_over.Goals as goal

pub returns-else-tables-gt-MAX_TABLES : goal.returns-else-tables-gt-MAX_TABLES
returns-else-tables-gt-MAX_TABLES c =
    let few : length (map table_of c.args.tables.now) < 13 = omega (arith, c.if-tables-gt-MAX_TABLES.false, length-map c.args.tables.now table_of) in
    record { over = or_right _ _ _ (c.is_one_table_over.ensures.over ∙ any_mapped table_of faults.is_table_over c.args.tables.now) (not_le 13 (length (map table_of c.args.tables.now)) few) }
