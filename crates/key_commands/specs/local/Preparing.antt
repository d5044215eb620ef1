-- What is prepared in memory for a session.
use Rattle.std.specs.Prelude.{◌≡◌, ℕ, List, Option}
use Rattle.ghost_model.specs.core.Channel.{Catalog}
use Rattle.ghost_model.specs.core.Host.{Holding}
use Rattle.ghost_model.specs.core.Split.{Public, SpellsImage}
use Rattle.ghost_model.specs.forms.Catalog.{current_version}
use Rattle.session_laws.specs.Serving.{first_desk}
use Rattle.edge_traits.specs.Files.{Files}
use Rattle.local_links.specs.Links.{IsAt, IsSureLink}
use Rattle.local_links.specs.declared.host_link.HostLink.{HostLink}

-- bytes are the visible image of some public part, with a catalog of the version that is made
pub record IsSomeImage (bytes : List ℕ) : Type 0 where
  pub catalog : Catalog
  pub public : Public
  pub spells : SpellsImage catalog public bytes
  pub current : catalog.version ≡ current_version

-- a link to a host that holds this, before its first move, over a depot that is sure of the host's file
pub record IsHosted {D : Type 0} (contents : D → Option Files) (sure : D → List ℕ → Type 0) (held : Holding) (link : HostLink D) : Type 0 where
  pub at_first : IsAt contents held link first_desk
  pub is_sure : IsSureLink sure link
