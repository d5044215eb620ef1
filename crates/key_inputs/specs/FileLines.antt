-- The line of a file on which a record begins. A line ends with a line feed, byte 10.
use Rattle.std.specs.Prelude.{◌≡◌, ℕ, zero, suc, ◌-◌, ◌==◌, nat_le, Bool, true, false, List, [], ◌∷◌, length, if◌then◌else◌}
use Rattle.ghost_model.specs.core.Database.{records_of}

-- the first lines of a file, so many as there are
unfoldable pub first_lines : (count : ℕ) → (file : List ℕ) → List ℕ
first_lines zero file = []
first_lines (suc more) [] = []
first_lines (suc more) (byte ∷ rest) = byte ∷ first_lines (if byte == 10 then more else suc more) rest

-- whether a text spells so many records or more
abbrev pub spells : List ℕ → (count : ℕ) → Bool
spells text count = nat_le count (length (records_of text))

-- a record, counted from 1, begins on a line: the lines up to that one spell so many records, those before it fewer
pub record BeginsOn (file : List ℕ) (rec line : ℕ) : Type 0 where
  pub reached : spells (first_lines line file) rec ≡ true
  pub not_before : spells (first_lines (line - 1) file) rec ≡ false
