-- The ask that bytes spell, read from them. Nothing here need be believed: the law `AsksHaveOneSpelling` says that what is
-- read are the asks that a key may send, each from its own payload alone.
use Rattle.std.specs.Prelude.{ℕ, zero, suc, ◌+◌, ◌-◌, Bool, ◌&&◌, ◌||◌, ◌==◌, nat_le, List, [], ◌∷◌, take, drop, slice_index, if◌then◌else◌, bytes_eq, Option, Some, None}
use Rattle.ghost_model.specs.core.Schema.{Schema, Kind, plain_of}
use Rattle.ghost_model.specs.core.Values.{Value, Text}
use Rattle.ghost_model.specs.forms.Cells.{cell_width}
use Rattle.ghost_model.specs.readings.CellReading.{decode_cell}
use Rattle.ghost_model.specs.core.Query.{Test, Compared, IsNull, IsNotNull, Operator, Equal, Unequal, Less, AtMost, More, AtLeast}
use Rattle.ghost_model.specs.core.Channel.{ColumnTest, Ask}
use Rattle.ghost_model.specs.core.Asks.{kind_at, ask_payload, is_proper_ask}

-- the operator of a code from 1 to 6
abbrev pub operator_of : ℕ → Operator
operator_of code =
    if code == 1 then Equal
    else if code == 2 then Unequal
    else if code == 3 then Less
    else if code == 4 then AtMost
    else if code == 5 then More
    else AtLeast

abbrev pub value_or_none : Option Value → Value
value_or_none None = Text []
value_or_none (Some value) = value

-- a byte of a code: whether the next condition is of its group, and the code
abbrev pub says_more : ℕ → Bool
says_more byte = nat_le 128 byte

abbrev pub code_in : ℕ → ℕ
code_in byte = if says_more byte then byte - 128 else byte

-- how many bytes the literal's cell has after a code
abbrev pub literal_width : Kind → (code : ℕ) → ℕ
literal_width kind code = if code == 7 || code == 8 then 0 else cell_width (plain_of kind)

-- the test of a code, by the cell after it
abbrev pub test_with : Kind → (code : ℕ) → List ℕ → Test
test_with kind code cell =
    if code == 7 then IsNull
    else if code == 8 then IsNotNull
    else Compared (operator_of code) (value_or_none (decode_cell (plain_of kind) cell))

-- the condition at the front of some bytes, and how many of them it has
abbrev pub test_width : Schema → (table : ℕ) → List ℕ → ℕ
test_width schema table bytes =
    literal_width (kind_at schema table (slice_index bytes 0)) (code_in (slice_index bytes 1))

abbrev pub test_in : Schema → (table : ℕ) → List ℕ → ColumnTest
test_in schema table bytes =
    record {
      column = slice_index bytes 0;
      test =
          test_with (kind_at schema table (slice_index bytes 0)) (code_in (slice_index bytes 1))
          (take (test_width schema table bytes) (drop 2 bytes));
      more = says_more (slice_index bytes 1);
    }

-- so many conditions at the front of some bytes
unfoldable pub tests_in : Schema → (table count : ℕ) → List ℕ → List ColumnTest
tests_in schema table zero bytes = []
tests_in schema table (suc count) bytes =
    test_in schema table bytes ∷ tests_in schema table count (drop (2 + test_width schema table bytes) bytes)

-- the only ask that bytes may spell
abbrev pub ask_like : Schema → List ℕ → Ask
ask_like schema payload =
    let table = slice_index payload 0 in
    let after = drop (2 + slice_index payload 1) payload in
    record {
      table = table;
      columns = take (slice_index payload 1) (drop 2 payload);
      tests = tests_in schema table (slice_index after 0) (drop 1 after);
    }

-- the ask whose payload these bytes are, if a key may send it
abbrev pub ask_in : Schema → List ℕ → Option Ask
ask_in schema payload =
    if is_proper_ask schema (ask_like schema payload) && bytes_eq (ask_payload schema (ask_like schema payload)) payload
    then Some (ask_like schema payload) else None
