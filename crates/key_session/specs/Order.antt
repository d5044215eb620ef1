-- The order of work. A slice of the text that comes next is due where its asks are all ended and either the pace still allows
-- one before the next move, or the next move would send the first ask of a text two behind it at least, or the link is closed.
use Rattle.std.specs.Prelude.{◌≡◌, ℕ, ◌+◌, ◌-◌, Bool, true, false, ◌&&◌, ◌||◌, nat_lt, nat_le, List, length, get_or, if◌then◌else◌, Option, None, Some}
use Rattle.channel_pump.specs.declared.state.Event.{Event}
use Rattle.channel_pump.specs.declared.state.Event.TheVariants as event_is
use Rattle.channel_pump.specs.declared.state.Want.{Want}
use Rattle.channel_pump.specs.declared.state.Want.TheVariants as want
use Rattle.key_session.specs.declared.pace.Pace.{Pace}
use Rattle.key_session.specs.declared.pace.Due.{Due}
use Rattle.key_session.specs.declared.pace.Due.TheVariants as due

-- the place of a number, where the first comes again behind the last
abbrev pub place_in : (numbers : List ℕ) → (place : ℕ) → ℕ
place_in numbers place = if nat_lt place (length numbers) then place else 0

-- how many slices are allowed after a move that led to an event
abbrev pub owed_on : Event → (numbers : List ℕ) → (place : ℕ) → ℕ
owed_on (event_is.Rows _) numbers place = get_or numbers (place_in numbers place) 0
owed_on _ numbers place = 0

abbrev pub place_on : Event → (numbers : List ℕ) → (place : ℕ) → ℕ
place_on (event_is.Rows _) numbers place = place_in numbers place + 1
place_on _ numbers place = place

-- whether a slice of a text comes first, where an ask of another text is at hand. An ask of a text two behind it was not sent,
-- and is the first of its text, as a live session says of it (`FarIsUnsent`): no move was made since it came to hand.
abbrev pub is_owed : (owed text asked : ℕ) → Bool
is_owed owed text asked = nat_le (text + 2) asked || (nat_lt 0 owed && nat_lt text asked)

abbrev pub is_first : (owed text : ℕ) → Option ℕ → Bool
is_first owed text None = false
is_first owed text (Some asked) = is_owed owed text asked

abbrev pub is_closed : Want → Bool
is_closed want.Closed = true
is_closed _ = false

-- what is due, by whether the link is closed, whether a text is left, which has that number, and the text of the ask at hand
abbrev pub due_of : (closed left : Bool) (owed text : ℕ) → Option ℕ → Due
due_of closed left owed text asked =
    if closed then (if left then due.Slice else due.Ended)
    else if left && is_first owed text asked then due.Slice else due.Move

-- what becomes of the pace in a move that led to an event, and in a slice
pub record IsPaced (event : Event) (old new : Pace) : Type 0 where
  pub owed : new.owed ≡ owed_on event old.numbers.now old.place
  pub place : new.place ≡ place_on event old.numbers.now old.place
  pub numbers : new.numbers ≡ old.numbers

pub record IsSliced (old new : Pace) : Type 0 where
  pub owed : new.owed ≡ old.owed - 1
  pub place : new.place ≡ old.place
  pub numbers : new.numbers ≡ old.numbers

-- the pace before the first move
pub record IsUnpaced (numbers : List ℕ) (pace : Pace) : Type 0 where
  pub owed : pace.owed ≡ 0
  pub place : pace.place ≡ 0
  pub numbers_are : pace.numbers.now ≡ numbers
