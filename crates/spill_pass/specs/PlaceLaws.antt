-- What a reader of places keeps where the pages and the buffer that it uses stay as they were.
use Rattle.std.specs.Prelude.{◌≡◌, ℕ, Bool, true, List}
use Rattle.edge_traits.specs.Devices.{Device}
use Rattle.page_pool.specs.Pools.{Pool}
use Rattle.spill_pass.specs.declared.places.PlaceReader.{PlaceReader}
use Rattle.spill_pass.specs.Places.{CanGive, ReaderHas, source_of}
use Rattle.spill_pass.specs.Sources.{SparesSource}

abbrev pub ReaderStays : Type 0
ReaderStays = (told : Bool) → (before now : Device) → (pool later : Pool) → (lists : PlaceReader) → SparesSource before now pool later (source_of lists) → CanGive told before pool lists → CanGive told now later lists

abbrev pub ReaderHasStill : Type 0
ReaderHasStill = (page now right : ℕ → List ℕ) → (rows : ℕ) → (lists : PlaceReader) → (ids : List (List ℕ)) → ((number : ℕ) → (source_of lists).uses number ≡ true → now number ≡ page number) → ReaderHas page right rows lists ids → ReaderHas now right rows lists ids
