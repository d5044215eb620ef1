use Rattle.condition_lists.proofs.ListLemmas.{ranges, entries, identifiers, reply, top_reply}
use Rattle.condition_lists.proofs.laws.lists_are_of_terms.Goals as goal

pub returns : goal.returns
returns c =
    let levels = c.levels_are_ancestors.ensures in
    let alike = c.rows_lead_by_hidden_values.ensures in
    record {
      ranges = ranges;
      entries = λ cat database over given top table column index level bounds at of_kind values are first second groups identifier.
          entries cat database over c.hidden_cells_of_databases.ensures table column at.hidden levels (c.rows_lead_to_rows.ensures cat.schema database over.tree over.is) alike top index level at
          values c.bounds_are_of_values.ensures given bounds of_kind are first second groups identifier;
      identifiers = λ cat database over given top table index level first second at a b identifier.
          identifiers cat database over levels (c.rows_lead_to_rows.ensures cat.schema database over.tree over.is) alike given top table index level at first second identifier a b;
      top_reply = top_reply;
      reply = λ cat database over given top table index level one at are identifier.
          reply cat database over levels (c.rows_lead_to_rows.ensures cat.schema database over.tree over.is) alike given top table index level at one are identifier;
    }
