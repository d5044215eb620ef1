use Rattle.condition_lists.proofs.FilterLemmas.{below_top}
use Rattle.condition_lists.proofs.SetLemmas.{among_from, inside_set, outside_set}
use Rattle.condition_lists.proofs.laws.rows_outside_sets_are_no_answers.Goals as goal

pub returns : goal.returns
returns c =
    let levels = c.levels_are_ancestors.ensures in
    let one = c.one_reading.ensures in
    let accepted = c.accepted_queries_are_followed.ensures in
    record {
      outside = λ cat database over text asked read top top_is table held forms terms are given identifier row.
          outside_set cat database over given top identifier row levels (c.rows_lead_to_rows.ensures cat.schema database over.tree over.is)
          c.hidden_values_of_databases.ensures asked table
          (below_top cat.schema over.tree levels top text asked read one accepted top_is table (among_from asked table held)) forms terms are;
      inside = λ cat database over text asked read top top_is table held forms terms are given identifier row.
          inside_set cat database over given top identifier row levels (c.rows_lead_to_rows.ensures cat.schema database over.tree over.is)
          c.hidden_values_of_databases.ensures asked table
          (below_top cat.schema over.tree levels top text asked read one accepted top_is table (among_from asked table held)) forms terms are;
    }
