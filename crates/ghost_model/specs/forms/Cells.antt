-- Cells: the bytes of one value, as wide as its column says. An INTEGER has 8 bytes, its two's complement with the
-- top bit flipped, most significant byte first; a CHAR(n) has n bytes, its text and then zero bytes. In a column that may be NULL
-- a byte 1 stands before these, and NULL is a byte 0 and zero bytes of the same width. So the order of the bytes of two cells of
-- one kind is the order of their values.
use Rattle.std.specs.Prelude.{ℕ, suc, ℤ, pos, negsuc, ◌+◌, ◌-◌, ◌^◌, List, [], ◌∷◌, ◌++◌, length, replicate}
use Rattle.std.specs.Int.{to_be_bytes, w64}
use Rattle.ghost_model.specs.core.Schema.{Kind, Integer, Chars, IntegerOrNull, CharsOrNull}
use Rattle.ghost_model.specs.core.Values.{Value, Null, Number, Text}

abbrev pub cell_width : Kind → ℕ
cell_width Integer = 8
cell_width (Chars most) = most
cell_width IntegerOrNull = 9
cell_width (CharsOrNull most) = suc most

-- an integer's distance to the lowest of 64 bits, which has the order of the integers
abbrev pub above_lowest : ℤ → ℕ
above_lowest (pos n) = 2 ^ 63 + n
above_lowest (negsuc n) = 2 ^ 63 - suc n

abbrev pub padded : ℕ → List ℕ → List ℕ
padded width text = text ++ replicate (width - length text) 0

-- the cell of a value in a column of a kind
abbrev pub encode_cell : Kind → Value → List ℕ
encode_cell Integer (Number number) = to_be_bytes w64 (above_lowest number)
encode_cell Integer (Text _) = []
encode_cell Integer Null = []
encode_cell (Chars most) (Text text) = padded most text
encode_cell (Chars most) (Number _) = []
encode_cell (Chars most) Null = []
encode_cell IntegerOrNull Null = replicate 9 0
encode_cell IntegerOrNull (Number number) = 1 ∷ to_be_bytes w64 (above_lowest number)
encode_cell IntegerOrNull (Text _) = []
encode_cell (CharsOrNull most) Null = replicate (suc most) 0
encode_cell (CharsOrNull most) (Text text) = 1 ∷ padded most text
encode_cell (CharsOrNull most) (Number _) = []
