-- The catalog that stands at the front of the public pages, where it is of the version that is made.
use Rattle.std.proofs.Common.{◌≡◌, ap, sym, ◌∙◌, subst, Bool, true, Option, Some, None}
use Rattle.std.specs.Prelude.{IfSome, IfNone}
use Rattle.ghost_model.specs.core.Channel.{Catalog}
use Rattle.ghost_model.specs.forms.Catalog.{current_version}
use Rattle.ghost_model.specs.laws.CatalogLaws.{CatalogsHaveOneSpelling}
use Rattle.edge_traits.specs.Devices.{Device}
use Rattle.flash_build.specs.Sealing.{public_bytes}
use Rattle.key_migrate.specs.PublicPages as pages
use Rattle.key_commands.specs.query.PublicPages.{HasCatalog, HasNoCatalog}

-- the one that was found is current
pub current_there :
    (found taken : Option Catalog) (device : Device) (told : Bool) → IfSome taken (λ cat. found ≡ Some cat) → IfSome taken (λ cat. cat.version ≡ current_version)
    → IfSome found (λ cat. told ≡ true → pages.HasCatalog device cat) → IfSome taken (λ cat. told ≡ true → HasCatalog device cat)
current_there found None device told same current there = tt
current_there found (Some cat) device told same current there = λ is.
    record { on_pages = subst (λ (one : Option Catalog). IfSome one (λ cat. told ≡ true → pages.HasCatalog device cat)) same there is; current = current }

-- none was found, or it is not current, and pages begin with one catalog at most
pub none_current :
    CatalogsHaveOneSpelling → (found taken : Option Catalog) (device : Device) (told : Bool)
    → IfNone taken (IfSome found (λ cat. cat.version ≡ current_version → ⊥)) → IfSome found (λ cat. told ≡ true → pages.HasCatalog device cat)
    → IfNone found (told ≡ true → pages.HasNoCatalog device) → IfNone taken (told ≡ true → HasNoCatalog device)
none_current one found (Some cat) device told other there none = tt
none_current one None None device told other there none = λ is cat has. none is cat has.on_pages
none_current one (Some older) None device told other there none = λ is cat has.
    let same : older ≡ cat = (one.one_beginning (public_bytes device.page) older cat (there is).begins has.on_pages.begins).0 in
    other (ap (λ (cat : Catalog). cat.version) same ∙ has.current)
