use Rattle.flash_build.proofs.TableFiles.{IndexesWritten}
use Rattle.flash_build.proofs.indexes.write_indexes.Given as goal

abbrev pub invariant-loop-column : goal.invariant-loop-column
invariant-loop-column g l =
    IndexesWritten g.F.Flash.told l.fn.laid l.fn.hidden l.fn.table (g.F.Flash.state l.fn.flash) (g.F.Flash.state l.flash) l.column
