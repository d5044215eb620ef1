-- The records of a column file's source.
use Rattle.std.specs.Prelude.{ℕ, List, map}
use Rattle.ghost_model.specs.forms.Cells.{encode_cell, padded}
use Rattle.ghost_base.specs.Views.{kind_of}
use Rattle.csv_split.specs.Cells.{values_in}
use Rattle.index_lists.specs.Ranks.{number_cells}
use Rattle.flash_build.specs.declared.source.ColumnCells.{ColumnCells}
use Rattle.flash_build.specs.declared.source.ColumnCells.TheVariants as source

abbrev pub cells_of : ColumnCells → List (List ℕ)
cells_of (source.Numbers column) = number_cells column.numbers.now
cells_of (source.Texts column) = map (padded column.width) column.texts.now.texts
cells_of (source.Kinds column) = map (encode_cell (kind_of column.kind)) (values_in column.values.now)
