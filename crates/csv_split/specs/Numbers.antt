-- The number that digits spell, where it is not above the greatest: what both signs of an integer share.
use Rattle.std.specs.Prelude.{ℕ, ◌&&◌, nat_le, List, Option, Some, None, if◌then◌else◌}
use Rattle.ghost_model.specs.core.Database.{is_numeral, number_of}

abbrev pub number_within : (greatest : ℕ) → List ℕ → Option ℕ
number_within greatest digits = if is_numeral digits && nat_le (number_of digits) greatest then Some (number_of digits) else None
