use Rattle.flash_build.proofs.CatalogPages.{LaterPages}
use Rattle.flash_build.proofs.sealing.write_later_pages.Given as goal

abbrev pub invariant-loop-left : goal.invariant-loop-left
invariant-loop-left g l =
    LaterPages g.F.Flash.told l.fn.cat (g.F.Flash.state l.fn.flash) (g.F.Flash.state l.flash) l.left

abbrev pub decreases-loop-left : goal.decreases-loop-left
decreases-loop-left g l = l.left
