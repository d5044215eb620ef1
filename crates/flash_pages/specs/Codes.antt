-- Codes in the bytes of a page, and where reading of a list stands behind them.
use Rattle.std.specs.Prelude.{◌≡◌, ℕ, ◌+◌, ◌-◌, ◌*◌, ◌/◌, ◌%◌, ◌<◌, ◌≤◌, ◌⊎◌, ◌&&◌, not, nat_eq, nat_lt, if◌then◌else◌, List, Option, Some, None}
use Rattle.ghost_model.specs.forms.Gaps.{Reading, code_at, read_on, reading_at, sum_or_none}
use Rattle.flash_pages.specs.declared.codes.Code.{Code}
use Rattle.flash_pages.specs.declared.cursor.RunCursor.{RunCursor}
use Rattle.flash_pages.specs.declared.standing.Stand.{Stand}
use Rattle.flash_pages.specs.Cursors.{codes_here}

-- the number and the length of a code that was read
abbrev pub read_of : Option Code → Option (ℕ × ℕ)
read_of None = None
read_of (Some code) = Some (code.number, code.length)

-- a code that was read lies in its page, and its number has at most 21 bits
pub record IsCode (at : ℕ) (code : Code) : Type 0 where
  pub some : 0 < code.number
  pub small : code.number < 2097152
  pub long : 0 < code.length
  pub short : code.length ≤ 3
  pub inside : at + code.length ≤ 2048

-- where a cursor over codes stands
abbrev pub stand_of : RunCursor → Stand
stand_of cursor = record { at = cursor.at; place = cursor.place; last = cursor.last }

abbrev pub reading : Stand → Reading
reading stand = record { place = stand.place; last = stand.last }

-- the identifier that a page with these bytes has next, 0 where no code stands
abbrev pub sum_in : (bytes : List ℕ) → (room : ℕ) → Stand → ℕ
sum_in bytes room stand = sum_or_none stand.last (code_at (λ _. bytes) 0 room stand.place)

-- the place behind a code: in its page, or where the next page begins, with or without filling
pub record IsBehind (before now : ℕ) : Type 0 where
  pub further : before < now
  pub near : now ≤ before + 5
  pub page : now ≤ (before / 2048 + 1) * 2048
  pub stays : (now ≤ before + 3) ⊎ (now ≡ (before / 2048 + 1) * 2048)

-- behind a code, and behind filling if it stands there
abbrev pub IsPast : (place past : ℕ) → Type 0
IsPast place past = (past ≡ place) ⊎ ((2045 < place % 2048) × (past ≡ (place / 2048 + 1) * 2048))

-- a code was taken: one above the last identifier and not above a limit
pub record TakesCode (bytes : List ℕ) (room limit : ℕ) (before now : Stand) : Type 0 where
  pub at : now.at ≡ before.at + 1
  pub above : before.last < now.last
  pub below : now.last ≤ limit
  pub inside : now.place < room
  pub behind : IsBehind before.place now.place
  pub reads :
      (page : ℕ → List ℕ) (first : ℕ) → page (first + before.place / 2048) ≡ bytes → read_on page first room (reading before) ≡ Some (reading now)

-- none was
abbrev pub StopsAt : (bytes : List ℕ) → (room limit : ℕ) → Stand → Type 0
StopsAt bytes room limit stand = stand.last < sum_in bytes room stand → sum_in bytes room stand ≤ limit → ⊥

-- how many pages are still to be read behind one that stands in the buffer, that of some place
abbrev pub left_behind : (held count : ℕ) → Stand → ℕ
left_behind held count stand =
    (((count - stand.at) - codes_here stand.place) + 681) / 682
    + (if nat_lt stand.at count && not (nat_eq (held / 2048) (stand.place / 2048)) then 1 else 0)

-- Codes of one page were taken, of a list with so many identifiers.
pub record TakesCodes (bytes : List ℕ) (count room limit : ℕ) (before now : Stand) : Type 0 where
  pub from : before.at ≤ now.at
  pub within : now.at ≤ count
  pub stays : now.at ≡ before.at → now ≡ before
  pub above : before.at < now.at → before.last < now.last
  pub below : before.at < now.at → now.last ≤ limit
  pub inside : now.place < room
  pub left : left_behind before.place count now ≤ left_behind before.place count before
  pub reads :
      (page : ℕ → List ℕ) (first begin : ℕ) → page (first + before.place / 2048) ≡ bytes
      → reading_at page first room begin before.at ≡ Some (reading before) → reading_at page first room begin now.at ≡ Some (reading now)
