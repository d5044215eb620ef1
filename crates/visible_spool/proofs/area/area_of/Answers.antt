use Rattle.std.proofs.Common.{ap, subst}
use Rattle.flash_layout.specs.Limits.{HasLayout}
use Rattle.ghost_model.specs.forms.Runs as runs
use Rattle.visible_spool.proofs.AreaLemmas.{its_area, its_pages}
use Rattle.visible_spool.proofs.area.area_of.Goals as goal

pub returns-clause-area : goal.returns-clause-area
returns-clause-area c =
    its_area c.args.laid.now c.args.table _ (subst HasLayout c.catalog.ensures.catalog c.a_catalog_has_a_layout.ensures.layout) c.sums_by_place.ensures c.requires.there
    (ap (λ (run : runs.Run). run.first) c.spool_area-even.ensures.run) (ap (λ (run : runs.Run). run.first) c.spool_area-odd.ensures.run)
    c.rows.ensures.value (ap (λ (run : runs.Run). run.width) c.spool_area-even.ensures.run)

pub returns-clause-writable : goal.returns-clause-writable
returns-clause-writable c =
    its_pages c.args.laid.now c.args.table _ (subst HasLayout c.catalog.ensures.catalog c.a_catalog_has_a_layout.ensures.layout) c.sums_by_place.ensures c.requires.there
    (ap (λ (run : runs.Run). run.first) c.spool_area-even.ensures.run) (ap (λ (run : runs.Run). run.first) c.spool_area-odd.ensures.run)
    c.rows.ensures.value (ap (λ (run : runs.Run). run.width) c.spool_area-even.ensures.run)
