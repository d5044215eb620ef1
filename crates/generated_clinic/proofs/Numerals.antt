-- The decimal digits of a number: none of them needs quotes, each is a character of a text, and they spell the number.
use Rattle.std.proofs.Common.{◌≡◌, ◌≤◌, ◌<◌, ◌+◌, ◌*◌, ◌%◌, ◌^◌, ◌-◌, ◌∙◌, ℕ, Bool, true, false, ◌==◌, List, [], ◌∷◌, length, fold, Some, nat_le, refl, ap, arith, rules}
use Rattle.std.specs.Prelude.{decimal, pos}
use Rattle.std.specs.List.{list_all, list_any}
use Rattle.std.proofs.Math.Nat.{mod-lt}
use Rattle.std.proofs.lemmas.Bool.{and_parts}
use Rattle.std.proofs.lemmas.Bool.Decides.{nat_tests}
use Rattle.std.proofs.lemmas.Str.Parse.{IsNumeralModel, numerals_by_fold}
use Rattle.std.proofs.lemmas.Fmt.{digits_decimal, digits_value-decimal, decimal_nonempty}
use Rattle.csv.specs.Writing.{default_writer, needs_byte}
use Rattle.ghost_model.specs.refusals.Tokens.{number_of, is_digit, is_printable}
use Rattle.ghost_model.specs.core.Database.{integer_of}

numerals : IsNumeralModel (λ ds. list_all is_digit ds ≡ true) number_of
numerals = numerals_by_fold _ (search rules) (λ n digits. fold (λ value digit. value * 10 + (digit - 48)) n digits) (search rules)

pub digits : (n : ℕ) → n < 2 ^ 64 → list_all is_digit (decimal n) ≡ true
digits n h = digits_decimal numerals n h

number : (n : ℕ) → n < 2 ^ 64 → number_of (decimal n) ≡ n
number n h = digits_value-decimal numerals n h

-- what each digit passes, digits pass
pub each_passes : (test : ℕ → Bool) → ((byte : ℕ) → is_digit byte ≡ true → test byte ≡ true) → (bytes : List ℕ)
    → list_all is_digit bytes ≡ true → list_all test bytes ≡ true
each_passes test one [] all = refl
each_passes test one (byte ∷ bytes) all =
    let parts = and_parts (is_digit byte) (list_all is_digit bytes) all in
    rw (one byte parts.0, each_passes test one bytes parts.1) refl

none_fails : (test : ℕ → Bool) → ((byte : ℕ) → is_digit byte ≡ true → test byte ≡ false) → (bytes : List ℕ)
    → list_all is_digit bytes ≡ true → list_any test bytes ≡ false
none_fails test one [] all = refl
none_fails test one (byte ∷ bytes) all =
    let parts = and_parts (is_digit byte) (list_all is_digit bytes) all in
    rw (one byte parts.0, none_fails test one bytes parts.1) refl

digit_is_printable : (byte : ℕ) → is_digit byte ≡ true → is_printable byte ≡ true
digit_is_printable byte e = grind (arith, nat_tests)

digit_is_plain : (byte : ℕ) → is_digit byte ≡ true → needs_byte default_writer byte ≡ false
digit_is_plain byte e = grind (arith, nat_tests)

pub printable : (n : ℕ) → n < 2 ^ 64 → list_all is_printable (decimal n) ≡ true
printable n h = each_passes is_printable digit_is_printable (decimal n) (digits n h)

pub plain : (n : ℕ) → n < 2 ^ 64 → list_any (needs_byte default_writer) (decimal n) ≡ false
plain n h = none_fails (needs_byte default_writer) digit_is_plain (decimal n) (digits n h)

no_minus : (byte : ℕ) → is_digit byte ≡ true → (byte == 45) ≡ false
no_minus byte e = grind (arith, nat_tests)

no_plus : (byte : ℕ) → is_digit byte ≡ true → (byte == 43) ≡ false
no_plus byte e = grind (arith, nat_tests)

-- digits spell their number, where it is not too great
spelled : (bytes : List ℕ) → list_all is_digit bytes ≡ true → 0 < length bytes → nat_le (number_of bytes) (2 ^ 63 - 1) ≡ true
    → integer_of bytes ≡ Some (pos (number_of bytes))
spelled [] all some within = absurd (omega arith)
spelled (byte ∷ bytes) all some within =
    let parts = and_parts (is_digit byte) (list_all is_digit bytes) all in
    rw (no_minus byte parts.0, no_plus byte parts.0, all, within) refl

pub integer : (n : ℕ) → n < 2 ^ 63 → integer_of (decimal n) ≡ Some (pos n)
integer n h =
    let wide : n < 2 ^ 64 = omega arith in
    spelled (decimal n) (digits n wide) (decimal_nonempty n wide) (rw (number n wide) (grind (arith, nat_tests)))
    ∙ ap (λ value. Some (pos value)) (number n wide)

-- a number from 1 to a count
pub key_is_within : (n most : ℕ) → n % (most + 1) + 1 ≤ most + 1
key_is_within n most = let less : n % (most + 1) < most + 1 = mod-lt n (omega arith) in omega (arith, less)
