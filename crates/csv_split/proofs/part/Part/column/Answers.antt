use Rattle.csv_split.specs.Tables.{column_values}
use Rattle.csv_split.proofs.PartRows.{column_held, column_none}
use Rattle.csv_split.proofs.part.Part.column.Goals as goal

pub returns-clause-held : goal.returns-clause-held
returns-clause-held c =
    column_held c.self.inside.rows c.args.column (column_values c.self.inside.columns.items) c.args.self.now c.cells_at.result c.self.view_is c.self.invariant.long
    (rw c.deref.ensures.value at c.cells_at.ensures)

pub returns-clause-none : goal.returns-clause-none
returns-clause-none c =
    column_none c.self.inside.rows c.args.column (column_values c.self.inside.columns.items) c.args.self.now c.cells_at.result c.self.view_is c.self.invariant.long
    (rw c.deref.ensures.value at c.cells_at.ensures)
