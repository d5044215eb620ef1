use Rattle.std.proofs.Common.{arith}
use Rattle.key_migrate.proofs.Fronts.{catalog_there, none_there}
use Rattle.key_migrate.proofs.public_pages.read_public_pages.Goals as goal

pub returns-clause-catalog : goal.returns-clause-catalog
returns-clause-catalog g c =
    let read = c.in_ok-read_front.ensures in
    catalog_there c.read_catalog.result (g.F.Flash.state c.read_front.new.flash) c.read_front.new.bytes g.F.Flash.told
    (omega (arith, c.if-pages-lt-BLOCK_PAGES.false, c.pages.ensures, read.kept.page_count)) read.bytes c.read_catalog.ensures.begins

pub returns-clause-none : goal.returns-clause-none
returns-clause-none g c =
    let read = c.in_ok-read_front.ensures in
    none_there c.no_catalog_is_long.ensures c.read_catalog.result (g.F.Flash.state c.read_front.new.flash) c.read_front.new.bytes g.F.Flash.told
    c.read_front.array_long read.bytes c.read_catalog.ensures.none
