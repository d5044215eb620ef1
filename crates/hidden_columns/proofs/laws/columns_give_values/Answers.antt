use Rattle.hidden_columns.proofs.GivenValues.{has_value}
use Rattle.hidden_columns.proofs.laws.columns_give_values.Goals as goal

pub returns : goal.returns
returns c = record {
  values = λ page cat database tree is counts holds.
      has_value page cat database tree is counts c.hidden_parts_go_with_catalogs.ensures c.column_files_give_values.ensures c.hidden_values_of_databases.ensures holds;
}
