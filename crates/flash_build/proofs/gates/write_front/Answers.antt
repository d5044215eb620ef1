use Rattle.flash_build.proofs.CatalogPages.{written_as}
use Rattle.flash_build.proofs.GateSteps.{behind_front}
use Rattle.flash_build.proofs.gates.write_front.Goals as goal

pub returns-clause-written : goal.returns-clause-written
returns-clause-written g c =
    written_as g.F.Flash.told ((g.F.Flash.state c.write_page.new.self).page c.args.page) c.write_page.result c.write_page.ensures.written
    (behind_front c.args.front.now c.copy_from_slice.new.self c.copy_from_slice.ensures.after)
