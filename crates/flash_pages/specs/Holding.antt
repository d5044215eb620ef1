-- Whether a page must be read before it stands in a buffer.
use Rattle.std.specs.Prelude.{ℕ, Bool, true, not, nat_eq, Option, Some, None}

abbrev pub is_apart : Option ℕ → ℕ → Bool
is_apart None page = true
is_apart (Some held) page = not (nat_eq held page)
