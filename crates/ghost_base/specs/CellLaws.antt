-- The laws of cells. The bytes of a cell spell the one value that they were made of, and bytes that spell a value are
-- its cell. The order of two cells of one kind, by bytes, is the order of their values.
use Rattle.std.specs.Prelude.{◌≡◌, ℕ, IsTrue, nat_lt, List, Some}
use Rattle.std.specs.List.{list_all}
use Rattle.std.specs.Ordering.{nat_cmp}
use Rattle.std.specs.declared.cmp.Ordering.{Ordering}
use Rattle.std.specs.declared.cmp.Ordering.TheVariants.{Equal}
use Rattle.std.specs.Cmp.{IsTotalOrder}
use Rattle.std.specs.Cmp.Lexicographic.{slice_cmp}
use Rattle.ghost_model.specs.core.Schema.{Kind}
use Rattle.ghost_model.specs.core.Values.{Value}
use Rattle.ghost_model.specs.forms.Cells.{encode_cell}
use Rattle.ghost_model.specs.readings.CellReading.{decode_cell}
use Rattle.ghost_model.specs.core.Database.{is_of_kind, order_of}

-- a value, and bytes that spell it in a column of a kind
pub record IsCellOf (kind : Kind) (value : Value) (bytes : List ℕ) : Type 0 where
  pub held : IsTrue (is_of_kind kind value)
  pub cell : bytes ≡ encode_cell kind value

pub record CellsSpellOneValue : Type 0 where
  pub reads_back : (kind : Kind) (value : Value) → IsTrue (is_of_kind kind value) → decode_cell kind (encode_cell kind value) ≡ Some value
  pub spells_a_cell : (kind : Kind) (bytes : List ℕ) (value : Value) → IsTrue (list_all (λ byte. nat_lt byte 256) bytes)
      → decode_cell kind bytes ≡ Some value → IsCellOf kind value bytes

abbrev pub byte_order : List ℕ → List ℕ → Ordering
byte_order some others = slice_cmp nat_cmp some others

abbrev pub CellOrderIsValueOrder : Type 0
CellOrderIsValueOrder = (kind : Kind) (a b : Value) → IsTrue (is_of_kind kind a) → IsTrue (is_of_kind kind b)
    → byte_order (encode_cell kind a) (encode_cell kind b) ≡ order_of a b

-- The order of values is a total order, and values that it does not tell apart are one.
pub record ValuesAreOrdered : Type 0 where
  pub total : IsTotalOrder order_of
  pub same : (a b : Value) → order_of a b ≡ Equal → a ≡ b
