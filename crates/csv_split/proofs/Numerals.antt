-- The number of a list of digits, read from the first to the last.
use Rattle.std.proofs.Common.{◌≡◌, ◌≤◌, ◌<◌, ◌+◌, ◌-◌, ◌*◌, ◌^◌, ◌∙◌, ℕ, List, [], ◌∷◌, drop, length, get_or, fold, arith}
use Rattle.std.proofs.lemmas.List.{at_drop_more}

abbrev pub with_digit : ℕ → ℕ → ℕ
with_digit number digit = number * 10 + (digit - 48)

-- digits that follow make no number less
pub not_less : (number : ℕ) (digits : List ℕ) → number ≤ fold with_digit number digits
not_less number [] = omega arith
not_less number (digit ∷ digits) = let more = not_less (with_digit number digit) digits in omega arith

-- the number of all digits is that of the digits left, after the number so far
pub next_digit : (whole number : ℕ) (digits : List ℕ) (i : ℕ) → whole ≡ fold with_digit number (drop i digits) → i < length digits
    → whole ≡ fold with_digit (with_digit number (get_or digits i 0)) (drop (i + 1) digits)
next_digit whole number digits i is less = is ∙ at_drop_more (fold with_digit number) digits i 0 less

pub too_large : (whole number : ℕ) (digits : List ℕ) (i : ℕ) → whole ≡ fold with_digit number (drop i digits) → i < length digits
    → 2 ^ 64 ≤ with_digit number (get_or digits i 0) → 2 ^ 64 ≤ whole
too_large whole number digits i is less large =
    let next = next_digit whole number digits i is less in
    let most = not_less (with_digit number (get_or digits i 0)) (drop (i + 1) digits) in
    omega arith
