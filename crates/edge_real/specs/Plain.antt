-- A text as it may be printed on a terminal: a question mark, 63, stands in the place of each control character.
use Rattle.std.specs.Prelude.{ℕ, List, map, chars, encode_utf8_all, if◌then◌else◌}
use Rattle.std.specs.Char.{is_control}

abbrev pub plain_letter : ℕ → ℕ
plain_letter letter = if is_control letter then 63 else letter

-- the same characters, but for those
abbrev pub plain : List ℕ → List ℕ
plain text = encode_utf8_all (map plain_letter (chars text))
