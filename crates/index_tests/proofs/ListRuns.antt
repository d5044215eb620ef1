-- The run of a list is one of the level files of its directory, which may be read.
use Rattle.std.proofs.Common.{◌≡◌, subst, refl, ℕ, Some, None, slice_get}
use Rattle.std.specs.Option.{option_map}
use Rattle.std.specs.Prelude.{Option}
use Rattle.ghost_model.specs.forms.Runs.{Run}
use Rattle.edge_traits.specs.Devices.{Device}
use Rattle.flash_pages.specs.Runs.{HasRun}
use Rattle.climbing_index.specs.declared.directory.Directory.{Directory}
use Rattle.climbing_index.specs.Directories.{IsReadable, file_of}

-- what a function gives for an option is that of its element
element : {X Y : Type 0} (f : X → Y) (o : Option X) (y : Y) → option_map f o ≡ Some y → (x : X) × (o ≡ Some x) × (f x ≡ y)
element f None y e = absurd (cc)
element f (Some x) y e = let same : f x ≡ y = cc in (x, refl, same)

pub listed : (device : Device) (directory : Directory) → IsReadable device directory → (level : ℕ) (run : Run)
    → option_map file_of (slice_get directory.levels.items level) ≡ Some run → HasRun device run
listed device directory readable level run e =
    let file = element file_of (slice_get directory.levels.items level) run e in
    subst (HasRun device) file.2 (readable.lists level file.0 file.1)
