use Rattle.std.proofs.Common.{Ok, ◌≤◌, ◌+◌, sum_by}
use Rattle.ghost_model.specs.forms.Layout.{below}
use Rattle.ghost_model.specs.laws.LayoutSums.{columns_pages}
use Rattle.flash_pages.specs.Reads.{WasGiven}
use Rattle.flash_build.specs.Reading.{ReadsCells}
use Rattle.flash_build.specs.ReadColumns.{AreTablesRead}
use Rattle.flash_build.proofs.reading.read_hidden.Given as goal

abbrev pub invariant-loop-table : goal.invariant-loop-table
invariant-loop-table g l = record {
  tables : AreTablesRead g.F.Flash.told (g.F.Flash.state l.fn.flash).page l.cat l.table l.hidden.hidden;
  calls : (g.F.Flash.state l.flash).calls ≤ (g.F.Flash.state l.fn.flash).calls + sum_by (columns_pages l.cat) (below l.table);
  given : WasGiven (g.F.Flash.state l.fn.flash).calls (g.F.Flash.state l.flash) l.pool l.lease;
  read : ReadsCells {T = Unit {0}} g.F.Flash.told (g.F.Flash.state l.fn.flash) (g.F.Flash.state l.flash) l.fn.pool l.pool l.lease (Ok tt);
}
