-- The lists of a first pass, by what is said of their source, and those of later ones.
use Rattle.std.specs.Prelude.{ℕ, ◌<◌, ◌≤◌, Bool, List}
use Rattle.ghost_model.specs.forms.Runs as runs
use Rattle.ghost_base.specs.declared.runs.ListRef.{ListRef}
use Rattle.ghost_base.specs.Runs.{run_of}
use Rattle.edge_traits.specs.Devices.{Device}
use Rattle.page_pool.specs.Pools.{Pool}
use Rattle.spill_pass.specs.declared.lists.Lists.{Lists}
use Rattle.spill_pass.specs.declared.lists.Lists.TheVariants.{Given, Placed}
use Rattle.spill_pass.specs.declared.places.PlaceReader.{PlaceReader}
use Rattle.flash_pages.specs.Reads.{WasGiven}
use Rattle.id_merge.specs.Since.{Since, MayBlame}
use Rattle.spill_pass.specs.Places.{CanGive, LiesInLists, ReaderHas, reads_place, source_of}
use Rattle.spill_pass.specs.Sources.{Source}

abbrev pub source_in : {S : Type 0} → (S → Source) → Lists S → Source
source_in of (Given lists) = of lists
source_in of (Placed reader) = source_of reader

abbrev pub ready_in : {S : Type 0} → (Bool → Device → Pool → S → Type 0) → Bool → Device → Pool → Lists S → Type 0
ready_in of told device pool (Given lists) = of told device pool lists
ready_in of told device pool (Placed reader) = CanGive told device pool reader

abbrev pub calls_in : {S : Type 0} → (Pool → S → Bool) → Pool → Lists S → Bool
calls_in of pool (Given lists) = of pool lists
calls_in of pool (Placed reader) = reads_place pool reader

-- a reader has the lists that a pass wrote: each record of their run has an identifier of the rows
pub record PlacedHas (page right : ℕ → List ℕ) (rows : ℕ) (reader : PlaceReader) (ids : List (List ℕ)) : Type 0 where
  pub has : ReaderHas page right rows reader ids
  pub above : (i : ℕ) → i < reader.lists.count → 0 < runs.id_at page (run_of reader.lists) i
  pub within : (i : ℕ) → i < reader.lists.count → runs.id_at page (run_of reader.lists) i ≤ rows

abbrev pub has_in : {S : Type 0} → ((ℕ → List ℕ) → (ℕ → List ℕ) → ℕ → S → List (List ℕ) → Type 0) → (page right : ℕ → List ℕ) → (rows : ℕ) → Lists S → List (List ℕ) → Type 0
has_in of page right rows (Given lists) ids = of page right rows lists ids
has_in of page right rows (Placed reader) ids = PlacedHas page right rows reader ids

abbrev pub may_in : {S : Type 0} → ((ℕ → List ℕ) → S → ListRef → Type 0) → (page : ℕ → List ℕ) → Lists S → ListRef → Type 0
may_in of page (Given lists) list = of page lists list
may_in of page (Placed reader) list = LiesInLists page reader list

-- by the bytes of the pages, a reader has lists that a pass wrote
pub record ReadsInOrder (page : ℕ → List ℕ) (rows : ℕ) (reader : PlaceReader) : Type 0 where
  pub ids : List (List ℕ)
  pub has : PlacedHas page page rows reader ids

-- what is at hand of a reader was read since then, and a slot of its places or lists may be blamed, or they are in order
pub record ReaderGiven (since : Since) (device : Device) (pool : Pool) (rows : ℕ) (reader : PlaceReader) : Type 0 where
  pub read : WasGiven since.calls device pool reader.lease
  pub places : MayBlame since (run_of reader.places) (ReadsInOrder device.page rows reader)
  pub lists : MayBlame since (run_of reader.lists) (ReadsInOrder device.page rows reader)

abbrev pub given_in : {S : Type 0} → (Since → Device → Pool → ℕ → S → Type 0) → (since : Since) → Device → Pool → (rows : ℕ) → Lists S → Type 0
given_in of since device pool rows (Given lists) = of since device pool rows lists
given_in of since device pool rows (Placed reader) = ReaderGiven since device pool rows reader

-- in lists that a pass wrote nothing is damaged
abbrev pub damaged_in : {S : Type 0} → ((ℕ → List ℕ) → ℕ → S → ℕ → ℕ → ℕ → Type 0) → (page : ℕ → List ℕ) → (rows : ℕ) → Lists S → (number slot found : ℕ) → Type 0
damaged_in of page rows (Given lists) number slot found = of page rows lists number slot found
damaged_in of page rows (Placed reader) number slot found = ⊥
