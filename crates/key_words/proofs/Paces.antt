-- The numbers of a pace that were read so far, before those of the parts that are left.
use Rattle.std.proofs.Common.{◌≡◌, ◌≤◌, ◌<◌, ◌+◌, ◌++◌, ◌∙◌, if◌then◌else◌, ℕ, Bool, true, false, List, [], ◌∷◌, length, drop, get_or, Option, Some, None, refl, sym, ap, arith, append-nil}
use Rattle.std.specs.Prelude.{nat_le, option_map, option_and_then}
use Rattle.std.proofs.lemmas.Bool.{le-leb}
use Rattle.std.proofs.lemmas.List.{at_drop_more, at_drop_all}
use Rattle.key_words.specs.Blocks.{least_slices, most_slices, most_numbers}
use Rattle.key_words.specs.Words.{number_said, numbers_said}

abbrev pub numbers : List (List ℕ) → Option (List ℕ)
numbers = numbers_said least_slices most_slices

abbrev pub number : List ℕ → Option ℕ
number = number_said least_slices most_slices

abbrev pub after : List ℕ → Option (List ℕ) → Option (List ℕ)
after front = option_map (λ more. front ++ more)

abbrev before : Option (List ℕ) → Option ℕ → Option (List ℕ)
before others = option_and_then (λ one. option_map (λ more. one ∷ more) others)

turned : (parts : List (List ℕ)) (n : ℕ) (part : List ℕ) → (n < length parts) × (part ≡ get_or parts n part)
    → numbers (drop n parts) ≡ before (numbers (drop (n + 1) parts)) (number part)
turned parts n part at =
    at_drop_more numbers parts n part at.0 ∙ ap (λ one. before (numbers (drop (n + 1) parts)) (number one)) (sym at.1)

none_of : {X : Type 0} (few : Bool) (said : Option X) → said ≡ None → None ≡ (if few then said else None)
none_of true said is = sym is
none_of false said is = refl

joined : (front : List ℕ) (one : ℕ) (more : List ℕ) → (front ++ one ∷ []) ++ more ≡ front ++ (one ∷ more)
joined [] one more = refl
joined (first ∷ front) one more = ap (λ others. first ∷ others) (joined front one more)

shifted : (front : List ℕ) (one : ℕ) (others : Option (List ℕ)) → after (front ++ one ∷ []) others ≡ after front (before others (Some one))
shifted front one None = refl
shifted front one (Some more) = ap Some (joined front one more)

not_few : (n : ℕ) → most_numbers < n → nat_le n most_numbers ≡ false
not_few n many = grind arith

none_left : (front : List ℕ) (parts : List (List ℕ)) → after front (numbers []) ≡ numbers parts → Some front ≡ numbers parts
none_left front parts so = ap Some (sym (append-nil front)) ∙ so

-- a part that says no number
pub refused : (parts : List (List ℕ)) (n : ℕ) (front part : List ℕ) → (n < length parts) × (part ≡ get_or parts n part)
    → after front (numbers (drop n parts)) ≡ numbers parts → number part ≡ None
    → None ≡ (if nat_le (length parts) most_numbers then numbers parts else None)
refused parts n front part at so none =
    none_of (nat_le (length parts) most_numbers) (numbers parts)
    (sym so ∙ ap (after front) (turned parts n part at ∙ ap (before (numbers (drop (n + 1) parts))) none))

-- a part too many
pub too_many : (parts : List (List ℕ)) → most_numbers < length parts
    → None ≡ (if nat_le (length parts) most_numbers then numbers parts else None)
too_many parts many = rw (not_few (length parts) many) refl

-- one more number
pub one_more : (parts : List (List ℕ)) (n : ℕ) (front front' part : List ℕ) (one : ℕ) → (n < length parts) × (part ≡ get_or parts n part)
    → after front (numbers (drop n parts)) ≡ numbers parts → number part ≡ Some one → front' ≡ front ++ one ∷ []
    → after front' (numbers (drop (n + 1) parts)) ≡ numbers parts
one_more parts n front front' part one at so some is =
    ap (λ these. after these (numbers (drop (n + 1) parts))) is ∙ shifted front one (numbers (drop (n + 1) parts))
    ∙ sym (ap (after front) (turned parts n part at ∙ ap (before (numbers (drop (n + 1) parts))) some)) ∙ so

-- all of them
pub all_said : (parts : List (List ℕ)) (n : ℕ) (front : List ℕ) → n ≡ length parts → n ≤ most_numbers
    → after front (numbers (drop n parts)) ≡ numbers parts
    → Some front ≡ (if nat_le (length parts) most_numbers then numbers parts else None)
all_said parts n front all few so =
    rw (le-leb (length parts) most_numbers (omega (arith, all, few)))
    (none_left front parts (ap (after front) (sym (at_drop_all numbers parts n (omega (arith, all)))) ∙ so))
