-- The two halves of the spool. A text has the one of its number's parity, and what stands there is its own only where the half is
-- of this text.
use Rattle.std.specs.Prelude.{◌≡◌, ℕ, Bool, true, false, ◌==◌, ◌&&◌, if◌then◌else◌}
use Rattle.visible_spool.specs.declared.half.Half.{Half}
use Rattle.visible_spool.specs.declared.sides.Side.{Side}
use Rattle.visible_spool.specs.declared.sides.Sides.{Sides}
use Rattle.visible_spool.specs.Areas.{is_even}
use Rattle.visible_spool.specs.Halves.{no_half}

abbrev pub side_of : Sides → (text : ℕ) → Side
side_of sides text = if is_even text then sides.even else sides.odd

-- what a half has of a text: whether a page of its replies could not be written, and those that were ended
abbrev pub mark_in : Side → (text : ℕ) → Bool
mark_in side text = side.text == text && side.is_marked

abbrev pub replies_in : Side → (text : ℕ) → Half
replies_in side text = if side.text == text then side.half else no_half

abbrev pub is_marked : Sides → (text : ℕ) → Bool
is_marked sides text = mark_in (side_of sides text) text

abbrev pub replies_of : Sides → (text : ℕ) → Half
replies_of sides text = replies_in (side_of sides text) text

-- only the half of a text changed
pub record Changes (text : ℕ) (before now : Sides) : Type 0 where
  pub even : is_even text ≡ false → now.even ≡ before.even
  pub odd : is_even text ≡ true → now.odd ≡ before.odd

-- a half once it is a text's
pub record IsTakenUp (text : ℕ) (before now : Side) : Type 0 where
  pub text_is : now.text ≡ text
  pub mark : now.is_marked ≡ mark_in before text
  pub replies : now.half ≡ replies_in before text
