use Rattle.std.proofs.Common.{◌≡◌, Ok}
use Rattle.csv_split.specs.Cells.{kind_in, values_in}
use Rattle.flash_build.specs.Reading.{ReadsCells}
use Rattle.flash_build.specs.ReadColumns.{AddsRows}
use Rattle.flash_build.proofs.CellReads.{CallsSoFar}
use Rattle.flash_build.proofs.reading.read_rows.Given as goal

abbrev pub invariant-loop-place : goal.invariant-loop-place
invariant-loop-place g l = record {
  kind : kind_in l.cells ≡ kind_in l.fn.cells;
  rows : AddsRows g.F.Flash.told (g.F.Flash.state l.fn.flash).page l.file l.fn.from l.place (values_in l.fn.cells) (values_in l.cells);
  calls : CallsSoFar l.file l.lease l.fn.from l.place (g.F.Flash.state l.fn.flash).calls (g.F.Flash.state l.flash).calls l.pool;
  read : ReadsCells {T = Unit {0}} g.F.Flash.told (g.F.Flash.state l.fn.flash) (g.F.Flash.state l.flash) l.fn.pool l.pool l.lease (Ok tt);
}
