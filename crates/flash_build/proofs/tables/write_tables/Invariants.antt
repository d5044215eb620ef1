use Rattle.flash_build.proofs.TableFiles.{TablesWritten}
use Rattle.flash_build.proofs.tables.write_tables.Given as goal

abbrev pub invariant-loop-table : goal.invariant-loop-table
invariant-loop-table g l =
    TablesWritten g.F.Flash.told l.fn.laid l.fn.hidden (g.F.Flash.state l.fn.flash) (g.F.Flash.state l.flash) l.table
