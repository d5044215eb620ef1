-- The cells of a column: their kind, and the values that they are the cells of.
use Rattle.std.specs.Prelude.{List, map}
use Rattle.ghost_model.specs.core.Schema.{Kind, Integer, Chars}
use Rattle.ghost_model.specs.core.Values.{Value, Number, Text}
use Rattle.csv_split.specs.declared.cells.Cells.{Cells}
use Rattle.csv_split.specs.declared.cells.Cells.TheVariants as cells

abbrev pub kind_in : Cells → Kind
kind_in (cells.Numbers numbers) = Integer
kind_in (cells.Texts texts) = Chars texts.width
kind_in (cells.Nullable flat) = flat.kind

abbrev pub values_in : Cells → List Value
values_in (cells.Numbers numbers) = map Number numbers.items
values_in (cells.Texts texts) = map Text texts.texts
values_in (cells.Nullable flat) = flat.values
