use Rattle.flash_build.proofs.RejoinedParts.{rejoin}
use Rattle.flash_build.proofs.laws.legal_parts_rejoin.Goals as goal

pub returns : goal.returns
returns c = record { rejoin = rejoin c.args.cat.now c.a_catalog_has_a_layout.ensures.layout.tree c.a_catalog_is_short.ensures.catalog.counted c.a_catalog_has_a_layout.ensures.layout.few.rows }
