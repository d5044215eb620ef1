-- The cells of a hidden column, as its values stand in the hidden part: at one place of each row.
use Rattle.std.specs.Prelude.{◌≡◌, ℕ, ℤ, ◌≤◌, List, [], ◌∷◌, length, map, Option, Some, None, option_and_then, slice_get, IsTrue}
use Rattle.std.specs.Option.{option_map_or}
use Rattle.ghost_model.specs.core.Schema.{Kind}
use Rattle.csv_split.specs.declared.cells.Cells.{Cells}
use Rattle.csv_split.specs.declared.cells.Cells.TheVariants as cells
use Rattle.ghost_model.specs.core.Values.{Value, Null, Number, Text, Row, Rows}
use Rattle.ghost_model.specs.core.Database.{row_numbered, is_text, is_of_kind}
use Rattle.ghost_model.specs.forms.Cells.{cell_width, encode_cell}

abbrev pub cell_at : Kind → (place : ℕ) → Row → List ℕ
cell_at kind place row = option_map_or (encode_cell kind) (slice_get row place) []

abbrev pub cells_at : Kind → (place : ℕ) → Rows → List (List ℕ)
cells_at kind place rows = map (cell_at kind place) rows

abbrev pub value_at : Rows → (identifier place : ℕ) → Option Value
value_at rows identifier place = option_and_then (λ row. slice_get row place) (row_numbered rows identifier)

-- the values at a place of the rows are of a kind whose cells are narrow
pub record AreOfKind (kind : Kind) (place : ℕ) (rows : Rows) : Type 0 where
  pub narrow : cell_width kind ≤ 65
  pub each : (identifier : ℕ) (value : Value) → value_at rows identifier place ≡ Some value → IsTrue (is_of_kind kind value)

-- values are of a kind
abbrev pub AreHeld : Kind → List Value → Type 0
AreHeld kind values = (place : ℕ) (value : Value) → slice_get values place ≡ Some value → IsTrue (is_of_kind kind value)

-- the integers among values
abbrev pub numbers_among : List Value → List ℤ
numbers_among [] = []
numbers_among (Null ∷ values) = numbers_among values
numbers_among (Number number ∷ values) = number ∷ numbers_among values
numbers_among (Text _ ∷ values) = numbers_among values

-- the integers of a column that holds some
abbrev pub ReadAsNumbers : Option Cells → (numbers : List ℤ) → Type 0
ReadAsNumbers None numbers = numbers ≡ []
ReadAsNumbers (Some (cells.Numbers held)) numbers = numbers ≡ held.items
ReadAsNumbers (Some (cells.Texts held)) numbers = numbers ≡ []
ReadAsNumbers (Some (cells.Nullable held)) numbers = numbers ≡ numbers_among held.values

-- each of some byte lists is a text of at most so many characters
abbrev pub AreTexts : (most : ℕ) → (texts : List (List ℕ)) → Type 0
AreTexts most texts = (place : ℕ) (text : List ℕ) → slice_get texts place ≡ Some text → IsTrue (is_text most text)

-- no byte list is longer than a head
abbrev pub AreShort : (texts : List (List ℕ)) → Type 0
AreShort texts = (place : ℕ) (text : List ℕ) → slice_get texts place ≡ Some text → length text ≤ 8
