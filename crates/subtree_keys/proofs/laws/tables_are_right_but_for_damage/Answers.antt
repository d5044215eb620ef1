use Rattle.subtree_keys.proofs.HeldTables.{are_right}
use Rattle.subtree_keys.proofs.laws.tables_are_right_but_for_damage.Goals as goal

pub returns : goal.returns
returns c = record {
  right = are_right c.layout_is_small.ensures c.levels_are_ancestors.ensures c.rows_lead_to_rows.ensures c.rows_lead_by_hidden_values.ensures c.records_are_as_wide.ensures c.numbers_are_read.ensures;
}
