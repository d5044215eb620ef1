use Rattle.std.proofs.Common.{Ok, ◌≤◌, ◌+◌}
use Rattle.ghost_model.specs.laws.LayoutSums.{column_pages_before}
use Rattle.csv_split.specs.Tables.{column_values}
use Rattle.flash_build.specs.Reading.{ReadsCells}
use Rattle.flash_build.specs.ReadColumns.{AreColumnsRead}
use Rattle.flash_build.proofs.reading.read_table.Given as goal

abbrev pub invariant-loop-column : goal.invariant-loop-column
invariant-loop-column g l = record {
  columns : AreColumnsRead g.F.Flash.told (g.F.Flash.state l.fn.flash).page l.laid l.table l.column (column_values l.cells.items);
  calls : (g.F.Flash.state l.flash).calls ≤ (g.F.Flash.state l.fn.flash).calls + column_pages_before l.laid l.table l.column;
  read : ReadsCells {T = Unit {0}} g.F.Flash.told (g.F.Flash.state l.fn.flash) (g.F.Flash.state l.flash) l.fn.pool l.pool l.lease (Ok tt);
}
