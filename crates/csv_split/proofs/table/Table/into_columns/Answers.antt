use Rattle.csv_split.specs.Tables.{column_values}
use Rattle.csv_split.proofs.PartRows.{table_again, table_has_all}
use Rattle.csv_split.proofs.table.Table.into_columns.Goals as goal

pub returns-clause-rows : goal.returns-clause-rows
returns-clause-rows c = table_again c.self.inside.rows (column_values c.self.inside.columns.items) c.args.self c.self.view_is

pub returns-clause-all : goal.returns-clause-all
returns-clause-all c = table_has_all c.self.inside.rows (column_values c.self.inside.columns.items) c.args.self c.self.view_is c.self.invariant.long
