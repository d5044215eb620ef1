use Rattle.condition_lists.proofs.CostLemmas.{values_within_column, entries_within, identifiers_within, top_reply_counted, reply_within}
use Rattle.condition_lists.proofs.costs.lists_are_within_costs.Goals as goal

pub returns : goal.returns
returns c =
    let laws = c.lists_are_of_terms.ensures in
    let levels = c.levels_are_ancestors.ensures in
    let alike = c.rows_lead_by_hidden_values.ensures in
    let cells_are = c.hidden_cells_of_databases.ensures in
    record {
      values = λ cat database over top table column index level at values are. values_within_column cat database over cells_are table column at.hidden values are;
      entries = λ cat database over given top table column index level bounds at of_kind values are first second groups behind.
          entries_within cat database over cells_are table column at.hidden values are levels (c.rows_lead_to_rows.ensures cat.schema database over.tree over.is) alike given top laws
          c.bounds_are_of_values.ensures index level at bounds of_kind first second groups behind;
      identifiers = λ cat database over given top table index level at operator literal first second are.
          identifiers_within cat database over levels (c.rows_lead_to_rows.ensures cat.schema database over.tree over.is) alike given top table laws index level at operator literal first second are;
      top_reply = top_reply_counted;
      reply = λ cat database over given top table index level at reply are up.
          reply_within cat database over levels (c.rows_lead_to_rows.ensures cat.schema database over.tree over.is) alike given top table laws index level at reply are up;
    }
