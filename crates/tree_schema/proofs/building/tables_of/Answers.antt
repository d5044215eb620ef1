use Rattle.std.proofs.Common.{◌≡◌, false, sym, subst}
use Rattle.ghost_model.specs.refusals.SchemaFaults as faults
use Rattle.tree_schema.specs.declared.syntax.TableDraft.{TableDraft}
use Rattle.tree_schema.specs.Drafts as drafts
use Rattle.tree_schema.proofs.BuildingSteps.{table_kept}
use Rattle.tree_schema.proofs.building.tables_of.Goals as goal

pub table_in-requires-clause-kept : goal.table_in-requires-clause-kept
table_in-requires-clause-kept c =
    subst (λ (table : TableDraft). faults.is_table_over (drafts.table_of table) ≡ false) (sym c.table-item.is)
    (table_kept c.args.tables.now c.loop-table.table-index c.table-item.result c.requires.kept c.loop-table-test.true)
