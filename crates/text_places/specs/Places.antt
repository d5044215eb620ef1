-- Where a place of a text stands: its line, its column, and the token there.
use Rattle.std.specs.Prelude.{ℕ, ◌+◌, ◌==◌, ◌||◌, nat_le, Bool, not, List, [], length, filter, reverse, take_while, find, Option}
use Rattle.ghost_model.specs.refusals.Tokens.{Token, tokens}

-- the number of the line, from 1, behind these bytes
abbrev pub is_line_feed : ℕ → Bool
is_line_feed byte = byte == 10

abbrev pub line_behind : List ℕ → ℕ
line_behind before = length (filter is_line_feed before) + 1

-- the column, from 1, behind these bytes: one more than stand behind the last end of a line
abbrev pub is_line_end : ℕ → Bool
is_line_end byte = byte == 10 || byte == 13

abbrev pub column_behind : List ℕ → ℕ
column_behind before = length (take_while (λ byte. not (is_line_end byte)) (reverse before)) + 1

-- the first token of a text that begins at an offset or later
abbrev pub token_from : (text : List ℕ) → (at : ℕ) → Option Token
token_from text at = find (λ (token : Token). nat_le at token.at) (tokens text)
