-- The value that a cell spells, read from it. Nothing here need be believed: the law `CellsSpellOneValue` of the crate
-- ghost_base says that it is the one whose cell these are, where they are bytes.
use Rattle.std.specs.Prelude.{ℕ, ℤ, pos, negsuc, ◌-◌, ◌^◌, Bool, not, ◌&&◌, ◌==◌, nat_le, List, [], ◌∷◌, length, drop, take_while, Option, Some, None, if◌then◌else◌}
use Rattle.std.specs.List.{list_all}
use Rattle.std.specs.Int.{from_be_bytes, w64}
use Rattle.ghost_model.specs.core.Schema.{Kind, Integer, Chars, IntegerOrNull, CharsOrNull}
use Rattle.ghost_model.specs.core.Values.{Value, Null, Number, Text}
use Rattle.ghost_model.specs.refusals.Tokens.{is_printable}

-- the integer at such a distance
abbrev pub from_lowest : ℕ → ℤ
from_lowest n = if nat_le (2 ^ 63) n then pos (n - 2 ^ 63) else negsuc (2 ^ 63 - 1 - n)

abbrev pub is_not_zero : ℕ → Bool
is_not_zero byte = not (byte == 0)

-- the text of a cell: its bytes before the first zero byte
abbrev pub text_in : List ℕ → List ℕ
text_in cell = take_while is_not_zero cell

-- whether a cell is a text of printable bytes and zero bytes after it
abbrev pub is_text_cell : List ℕ → Bool
is_text_cell cell = list_all is_printable (text_in cell) && list_all (λ byte. byte == 0) (drop (length (text_in cell)) cell)

abbrev pub is_zero : List ℕ → Bool
is_zero bytes = list_all (λ byte. byte == 0) bytes

abbrev pub integer_spelled : List ℕ → Option Value
integer_spelled bytes = if length bytes == 8 then Some (Number (from_lowest (from_be_bytes w64 bytes))) else None

abbrev pub text_spelled : (most : ℕ) → List ℕ → Option Value
text_spelled most bytes = if length bytes == most && is_text_cell bytes then Some (Text (text_in bytes)) else None

-- in a column that may be NULL: after a byte 1 what the other bytes spell, and NULL where a byte 0 stands before so many zero bytes
abbrev pub null_or : (width : ℕ) → (plain : List ℕ → Option Value) → List ℕ → Option Value
null_or width plain [] = None
null_or width plain (flag ∷ cell) =
    if flag == 1 then plain cell
    else if flag == 0 && (length cell == width && is_zero cell) then Some Null
    else None

-- the value that bytes spell in a column of a kind, if they spell one
abbrev pub decode_cell : Kind → List ℕ → Option Value
decode_cell Integer bytes = integer_spelled bytes
decode_cell (Chars most) bytes = text_spelled most bytes
decode_cell IntegerOrNull bytes = null_or 8 integer_spelled bytes
decode_cell (CharsOrNull most) bytes = null_or most (text_spelled most) bytes
