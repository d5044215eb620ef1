-- The indexes of a catalog.
use Rattle.std.specs.Prelude.{◌≡◌, ℕ, length, map, Some, None, option_map}
use Rattle.ghost_model.specs.core.Channel.{Catalog}
use Rattle.ghost_model.specs.core.Asks.{kind_at}
use Rattle.ghost_model.specs.forms.Layout.{below, width_at, levels_of, above_of}
use Rattle.ghost_model.specs.laws.ShortWords.{index_header, index_directory, index_level, id_directory, id_level}
use Rattle.edge_traits.specs.Devices.{Device}
use Rattle.ghost_base.specs.Runs.{run_of}
use Rattle.ghost_base.specs.Views.{kind_of}
use Rattle.flash_pages.specs.Runs.{HasRun}
use Rattle.climbing_index.specs.declared.index.ClimbingIndex.{ClimbingIndex}
use Rattle.climbing_index.specs.declared.index.IdIndex.{IdIndex}
use Rattle.climbing_index.specs.Directories as directories
use Rattle.climbing_index.specs.Directories.{file_of}

-- it is the index of that column
pub record IsIndexOf (cat : Catalog) (table column : ℕ) (index : ClimbingIndex) : Type 0 where
  pub header_is : run_of index.header ≡ index_header cat table column
  pub run_is : run_of index.directory.run ≡ index_directory cat table column
  pub kind_is : option_map kind_of index.directory.kind ≡ Some (kind_at cat.schema table column)
  pub cell_is : index.directory.cell ≡ width_at cat.schema table column
  pub levels_are : map file_of index.directory.levels.items ≡ map (index_level cat table column) (below (length (levels_of cat.schema table)))

-- it is the index of that table's identifiers
pub record IsIdIndexOf (cat : Catalog) (table : ℕ) (index : IdIndex) : Type 0 where
  pub run_is : run_of index.directory.run ≡ id_directory cat table
  pub kind_is : index.directory.kind ≡ None
  pub cell_is : index.directory.cell ≡ 0
  pub levels_are : map file_of index.directory.levels.items ≡ map (id_level cat table) (below (length (above_of cat.schema table)))

-- an index may be read: its header, its directory and its lists
pub record IsReadable (device : Device) (index : ClimbingIndex) : Type 0 where
  pub header : HasRun device (run_of index.header)
  pub one : index.header.count ≡ 1
  pub wide : index.header.width ≡ 4
  pub directory : directories.IsReadable device index.directory

abbrev pub IsIdReadable : Device → IdIndex → Type 0
IsIdReadable device index = directories.IsReadable device index.directory
