use Rattle.std.proofs.Common.{◌*◌}
use Rattle.ghost_model.specs.forms.Catalog.{catalog_bytes}
use Rattle.flash_build.proofs.CatalogPages.{whole_page, written_as}
use Rattle.flash_build.proofs.sealing.write_catalog_page.Goals as goal

pub returns-clause-holds : goal.returns-clause-holds
returns-clause-holds g c =
    let part = c.catalog_part.ensures in
    written_as g.F.Flash.told ((g.F.Flash.state c.write_page.new.self).page c.args.place) c.write_page.result c.write_page.ensures.written
    (whole_page (catalog_bytes c.args.cat.now) c.catalog_part.new.out (c.args.place * 2048) c.catalog_part.result part.count part.bytes part.rest)
