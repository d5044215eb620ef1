-- A host that was begun over the visible image of a public part.
use Rattle.std.proofs.Common.{◌≡◌, ℕ, List, [], Option, Some, refl, sym, subst, ◌∙◌, ap}
use Rattle.ghost_model.specs.forms.Catalog.{catalog_bytes}
use Rattle.ghost_model.specs.laws.CatalogLaws.{CatalogsHaveOneSpelling}
use Rattle.ghost_model.specs.core.Channel.{Catalog}
use Rattle.ghost_model.specs.core.Host.{Holding, host_of}
use Rattle.ghost_model.specs.core.Host as standing
use Rattle.ghost_model.specs.core.Split.{Public, SpellsImage, cells_of_tables}
use Rattle.edge_traits.specs.Files.{Files, file_of}
use Rattle.host_exec.specs.Checked.{IsImage}
use Rattle.host_exec.specs.Holdings.{HoldsFile, AreStarts, ImagesAreHeld}
use Rattle.host_exec.specs.Hosts.{Holds, StandsAs}
use Rattle.host_exec.specs.Replies.{source_of}
use Rattle.host_exec.specs.Saying.{Stands}
use Rattle.host_exec.specs.declared.host.Host.{Host}
use Rattle.host_exec.specs.declared.stage.Stage.{Stage}
use Rattle.host_exec.specs.declared.stage.Stage.TheVariants as stage
use Rattle.local_links.specs.declared.host_link.HostLink.{HostLink}
use Rattle.key_commands.specs.local.Preparing.{IsHosted}

one_image : CatalogsHaveOneSpelling → {catalog other : Catalog} {public shown : Public} (file : List ℕ) → SpellsImage catalog public file → SpellsImage other shown file → catalog ≡ other
one_image laws {catalog} {other} {public} {shown} file first second =
    (laws.one_beginning file catalog other
    (record { proper = first.catalog; rest = cells_of_tables catalog.schema public.visible; begins = first.spelled })
    (record { proper = second.catalog; rest = cells_of_tables other.schema shown.visible; begins = second.spelled })).0

-- it holds that part
pub holds_part : CatalogsHaveOneSpelling → ImagesAreHeld → (host : Host) (file : List ℕ) (catalog : Catalog) (public : Public)
    → AreStarts host.catalog host.starts.items → IsImage host.catalog file → SpellsImage catalog public file → Holds (host_of catalog public) file host
holds_part laws images host file catalog public starts image spells =
    let same : catalog ≡ host.catalog = one_image laws file spells image.spells in
    subst (λ (c : Catalog). HoldsFile (host_of catalog public) c host.starts.items file) same
    (images catalog public file host.starts.items spells (subst (λ (c : Catalog). AreStarts c host.starts.items) (sym same) starts))

-- and awaits the greeting
pub awaits_greeting : (host : Host) (file : List ℕ) → host.stage ≡ stage.Greeting → StandsAs host file [] standing.Greeting
awaits_greeting host file at =
    subst (λ (s : Stage). Stands (catalog_bytes host.catalog) (source_of host.reply file) s [] standing.Greeting) (sym at) (refl, refl)

-- its file is that of the depot
pub finds_file : (old new : Option Files) (name mine file : List ℕ) → new ≡ old → mine ≡ name → file_of old name ≡ Some file → file_of new mine ≡ Some file
finds_file old new name mine file same named is =
    ap (λ (held : Option Files). file_of held mine) same ∙ (ap (file_of old) named ∙ is)

-- a link is as before
pub hosted_as : {D : Type 0} (contents : D → Option Files) (sure : D → List ℕ → Type 0) (held : Holding) (first second : HostLink D) → first ≡ second
    → IsHosted contents sure held first → IsHosted contents sure held second
hosted_as {D} contents sure held first second same hosted = subst (λ (link : HostLink D). IsHosted contents sure held link) same hosted
