-- The number that was parsed from a value is the one that its digits say.
use Rattle.std.proofs.Common.{◌≡◌, ◌≤◌, ◌<◌, ◌^◌, ◌-◌, ◌+◌, ◌*◌, ◌==◌, ◌∙◌, ◌&&◌, if◌then◌else◌, ℕ, Bool, true, false, List, [], ◌∷◌, length, Some, None, Result, Ok, Err, refl, ap, subst, arith, rules}
use Rattle.std.specs.Prelude.{fold, nat_le}
use Rattle.std.specs.List.{list_all}
use Rattle.std.specs.Str.Parse.{ParsesUnsigned}
use Rattle.std.proofs.lemmas.Bool.{le-leb}
use Rattle.std.proofs.lemmas.Result.{OkIff-at_ok, OkIff-at_err}
use Rattle.std.proofs.lemmas.Str.Parse.{IsNumeralModel, numerals_by_fold, parse_digits}
use Rattle.ghost_model.specs.refusals.Tokens.{is_digit, is_between, number_of}
use Rattle.key_words.specs.Words.{number_said}

numerals : IsNumeralModel (λ ds. list_all is_digit ds ≡ true) number_of
numerals = numerals_by_fold _ (search rules) (λ n digits. fold (λ value digit. value * 10 + (digit - 48)) n digits) (search rules)

same_number : {E : Type 0} (text : List ℕ) (r : Result ℕ E) (n : ℕ) → ParsesUnsigned 32 10 text r → list_all is_digit text ≡ true → r ≡ Ok n
    → n ≡ number_of text
same_number text r n parses digits is = (OkIff-at_ok r _ _ n (parse_digits numerals 32 text r parses digits) is).1

between : (least most n : ℕ) → least ≤ n → n ≤ most → is_between least most n ≡ true
between least most n low high = rw (le-leb least n low, le-leb n most high) refl

not_between : (least most n : ℕ) → (least ≤ n → n ≤ most → ⊥) → is_between least most n ≡ false
not_between least most n h = grind arith

taken : (digits short range : Bool) (n : ℕ) → digits ≡ true → short ≡ true → range ≡ true
    → Some n ≡ (if digits && (short && range) then Some n else None)
taken digits short range n d s r = rw (d, s, r) refl

refused : (digits short range : Bool) (n : ℕ) → range ≡ false → None ≡ (if digits && (short && range) then Some n else None)
refused true true range n r = rw r refl
refused true false range n r = refl
refused false short range n r = refl

pub some_bytes : (text : List ℕ) → (length text == 0) ≡ false → 1 ≤ length text
some_bytes [] none = absurd (search (rules, none))
some_bytes (letter ∷ letters) none = omega arith

pub said : {E : Type 0} (least most : ℕ) (text : List ℕ) (r : Result ℕ E) (n : ℕ) → ParsesUnsigned 32 10 text r → list_all is_digit text ≡ true
    → 1 ≤ length text → length text ≤ 9 → r ≡ Ok n → least ≤ n → n ≤ most → Some n ≡ number_said least most text
said least most text r n parses digits some short is low high =
    let same = same_number text r n parses digits is in
    ap Some same
    ∙ taken (list_all is_digit text) (is_between 1 9 (length text)) (is_between least most (number_of text)) (number_of text) digits
    (between 1 9 (length text) some short) (subst (λ m. is_between least most m ≡ true) same (between least most n low high))

pub out_of_range : {E : Type 0} (least most : ℕ) (text : List ℕ) (r : Result ℕ E) (n : ℕ) → ParsesUnsigned 32 10 text r
    → list_all is_digit text ≡ true → r ≡ Ok n → (least ≤ n → n ≤ most → ⊥) → None ≡ number_said least most text
out_of_range least most text r n parses digits is out =
    let same = same_number text r n parses digits is in
    refused (list_all is_digit text) (is_between 1 9 (length text)) (is_between least most (number_of text)) (number_of text)
    (subst (λ m. is_between least most m ≡ false) same (not_between least most n out))

pub no_number : {E : Type 0} (least most : ℕ) (text : List ℕ) (r : Result ℕ E) (e : E) → 1 ≤ length text → most < 2 ^ 32 → ParsesUnsigned 32 10 text r
    → list_all is_digit text ≡ true → r ≡ Err e → None ≡ number_said least most text
no_number least most text r e some small parses digits is =
    refused (list_all is_digit text) (is_between 1 9 (length text)) (is_between least most (number_of text)) (number_of text)
    (not_between least most (number_of text) (λ low high.
    OkIff-at_err r _ _ e (parse_digits numerals 32 text r parses digits) is (omega (arith, some), omega (arith, high, small))))
