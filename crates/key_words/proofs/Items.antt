-- The items that were read so far are the first parts of the value.
use Rattle.std.proofs.Common.{◌≡◌, ◌≤◌, ◌<◌, if◌then◌else◌, ℕ, false, List, length, Some, None, refl, ap, arith}
use Rattle.std.specs.Prelude.{nat_le}
use Rattle.std.proofs.lemmas.Bool.{le-leb}
use Rattle.key_words.specs.Blocks.{most_items}

not_few : (n : ℕ) → most_items < n → nat_le n most_items ≡ false
not_few n many = grind arith

-- an item too many
pub too_many : (parts : List (List ℕ)) → most_items < length parts → None ≡ (if nat_le (length parts) most_items then Some parts else None)
too_many parts many = rw (not_few (length parts) many) refl

-- all of them
pub all_read : (parts front : List (List ℕ)) → length parts ≤ most_items → front ≡ parts
    → Some front ≡ (if nat_le (length parts) most_items then Some parts else None)
all_read parts front few all = rw (le-leb (length parts) most_items few) (ap Some all)
