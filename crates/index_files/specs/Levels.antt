-- A level file while it is written.
use Rattle.std.specs.Prelude.{ℕ, ◌+◌, List, [], ◌∷◌, length}
use Rattle.ghost_model.specs.forms.Runs.{Run}
use Rattle.ghost_model.specs.forms.Gaps.{begin_code, filling, room_of}
use Rattle.flash_pages.specs.CodeWriters.{code_end}

-- where the codes of numbers end behind so many bytes
unfoldable pub codes_end : (end : ℕ) → (numbers : List ℕ) → ℕ
codes_end end [] = end
codes_end end (number ∷ numbers) = codes_end (code_end end number) numbers

-- where a list begins behind so many bytes
abbrev pub begin_behind : (end : ℕ) → (identifiers : List ℕ) → ℕ
begin_behind end identifiers = end + length (filling end (begin_code identifiers))

-- the run of a level file from a page on that has so many rows
abbrev pub level_run : (first rows : ℕ) → Run
level_run first rows = room_of (record { first = first; count = rows; width = 4 })
