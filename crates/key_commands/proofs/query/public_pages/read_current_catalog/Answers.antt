use Rattle.key_commands.proofs.query_lemmas.Fronts.{current_there, none_current}
use Rattle.key_commands.proofs.query.public_pages.read_current_catalog.Goals as goal

pub returns-clause-catalog : goal.returns-clause-catalog
returns-clause-catalog g c =
    current_there c.in_ok-read_public_pages.field-0 c.current.result (g.F.Flash.state c.read_public_pages.new.flash) g.F.Flash.told
    c.current.ensures.found c.current.ensures.current c.in_ok-read_public_pages.ensures.catalog

pub returns-clause-none : goal.returns-clause-none
returns-clause-none g c =
    none_current c.catalogs_have_one_spelling.ensures c.in_ok-read_public_pages.field-0 c.current.result (g.F.Flash.state c.read_public_pages.new.flash)
    g.F.Flash.told c.current.ensures.none c.in_ok-read_public_pages.ensures.catalog c.in_ok-read_public_pages.ensures.none
