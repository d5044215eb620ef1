use Rattle.flash_pages.proofs.Fillings.{Filled}
use Rattle.flash_pages.proofs.filling.write_run.Given as goal

abbrev pub invariant-loop-i : goal.invariant-loop-i
invariant-loop-i g l =
    Filled g.F.Flash.told (g.F.Flash.state l.fn.flash) (g.F.Flash.state l.flash) l.buf l.writer l.fn.first l.fn.width (g.C.Records.records l.fn.source) l.i
