-- What a host holds: its catalog, and for each ask the rows of its table in the file that meet it.
use Rattle.std.specs.Prelude.{◌≡◌, ◌<◌, ℕ, true, List, length, slice_index}
use Rattle.ghost_model.specs.core.Channel as channel
use Rattle.ghost_model.specs.core.Asks.{is_proper_ask}
use Rattle.ghost_model.specs.core.Host.{Holding, host_of}
use Rattle.ghost_model.specs.core.Split.{Public, SpellsImage}
use Rattle.host_exec.specs.RowBytes.{form_of, replies_at, table_start}

-- the rows of the tables begin at these bytes of the file, and the host replies with what they give
pub record HoldsFile (held : Holding) (catalog : channel.Catalog) (starts file : List ℕ) : Type 0 where
  pub catalog_is : held.catalog ≡ catalog
  pub replied :
      (ask : channel.Ask) → is_proper_ask catalog.schema ask ≡ true
      → held.rows ask ≡ replies_at (form_of catalog.schema ask) file (slice_index starts ask.table) 0 (slice_index catalog.counts ask.table)

-- where the rows of each table begin in the file of a catalog
abbrev pub AreStarts : channel.Catalog → (starts : List ℕ) → Type 0
AreStarts catalog starts = (table : ℕ) → table < length catalog.schema → slice_index starts table ≡ table_start catalog table

-- the visible image of a public part, as a file, holds what the host of that public part holds
abbrev pub ImagesAreHeld : Type 0
ImagesAreHeld =
    (catalog : channel.Catalog) (public : Public) (file starts : List ℕ) → SpellsImage catalog public file → AreStarts catalog starts
    → HoldsFile (host_of catalog public) catalog starts file
