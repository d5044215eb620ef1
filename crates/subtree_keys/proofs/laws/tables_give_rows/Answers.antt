use Rattle.subtree_keys.proofs.HeldTables.{give_rows}
use Rattle.subtree_keys.proofs.laws.tables_give_rows.Goals as goal

pub returns : goal.returns
returns c = record {
  rows = give_rows c.layout_is_small.ensures c.levels_are_ancestors.ensures c.rows_lead_to_rows.ensures c.rows_lead_by_hidden_values.ensures c.records_are_as_wide.ensures c.numbers_are_read.ensures;
}
