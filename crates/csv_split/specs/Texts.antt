-- A list of texts of a column, each kept as its cell. A clause sees how wide the cells are and the list of the texts.
use Rattle.std.specs.Prelude.{◌≡◌, ◌≤◌, ◌*◌, ℕ, zero, suc, true, List, [], ◌∷◌, length, take, drop}
use Rattle.ghost_model.specs.forms.Cells.{padded}
use Rattle.ghost_model.specs.readings.CellReading.{text_in}
use Rattle.ghost_model.specs.core.Database.{is_text}
use Rattle.csv_split.specs.declared.texts.Texts.TheInside.{Inside}

pub record TextList : Type 0 where
  pub width : ℕ
  pub texts : List (List ℕ)

-- the texts of so many cells
unfoldable pub texts_in : (width count : ℕ) → List ℕ → List (List ℕ)
texts_in width zero cells = []
texts_in width (suc count) cells = text_in (take width cells) ∷ texts_in width count (drop width cells)

-- bytes are the cell of a text
pub record IsCell (width : ℕ) (cell : List ℕ) : Type 0 where
  pub text : is_text width (text_in cell) ≡ true
  pub padding : cell ≡ padded width (text_in cell)

unfoldable pub AreCells : (width count : ℕ) → List ℕ → Type 0
AreCells width zero cells = cells ≡ []
AreCells width (suc count) cells = IsCell width (take width cells) × AreCells width count (drop width cells)

pub record KeepsTexts (texts : Inside) : Type 0 where
  pub small : texts.width ≤ 64
  pub size : length texts.bytes.items ≡ texts.count * texts.width
  pub cells : AreCells texts.width texts.count texts.bytes.items

abbrev pub list_of : Inside → TextList
list_of texts = record { width = texts.width; texts = texts_in texts.width texts.count texts.bytes.items }

abbrev pub empty : (width : ℕ) → TextList
empty width = record { width = width; texts = [] }
