use Rattle.std.proofs.Common.{◌∙◌, sym, ap, length}
use Rattle.ghost_model.specs.core.Values.{Rows}
use Rattle.csv_split.specs.Tables.{column_values}
use Rattle.csv_split.proofs.TableRows.{many}
use Rattle.csv_split.proofs.table.Table.rows.Goals as goal

pub returns-clause-count : goal.returns-clause-count
returns-clause-count c =
    sym (many c.self.inside.rows (column_values c.self.inside.columns.items)) ∙ ap (λ (rows : Rows). length rows) c.self.view_is
