use Rattle.std.proofs.Common.{List, ℕ, IfSome, IfNone, subst}
use Rattle.ghost_model.specs.core.Channel.{Catalog}
use Rattle.ghost_model.specs.forms.Catalog.{BeginsWithCatalog}
use Rattle.key_audit.proofs.Heads.{head_is_read}
use Rattle.key_audit.proofs.head.read_head.Goals as goal

pub returns-clause-head : goal.returns-clause-head
returns-clause-head g c =
    let head = c.read_front.new.head.items in
    head_is_read c.read_catalog.result (g.D.Depot.contents c.args.depot.now) c.args.name.now head c.no_catalog_is_long.ensures c.in_ok-read_front.ensures.front
    (subst (λ (bytes : List ℕ). IfSome c.read_catalog.result (λ cat. BeginsWithCatalog bytes cat)) c.as_slice.ensures.value c.read_catalog.ensures.begins)
    (subst (λ (bytes : List ℕ). IfNone c.read_catalog.result ((cat : Catalog) → BeginsWithCatalog bytes cat → ⊥)) c.as_slice.ensures.value c.read_catalog.ensures.none)
