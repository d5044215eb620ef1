use Rattle.csv_split.specs.Tables.{column_values}
use Rattle.csv_split.proofs.PartRows.{counted}
use Rattle.csv_split.proofs.part.Part.rows.Goals as goal

pub returns-clause-count : goal.returns-clause-count
returns-clause-count c = counted c.self.inside.rows (column_values c.self.inside.columns.items) c.args.self.now c.self.view_is
