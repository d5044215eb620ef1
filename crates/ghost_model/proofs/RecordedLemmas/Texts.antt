-- Bytes that a text lacks, where it is cut, and the hexadecimal parts and the numbers of a line.
use Rattle.std.proofs.Common.{◌≡◌, ℕ, suc, ◌==◌, Bool, true, false, not, ◌&&◌, List, [], ◌∷◌, ◌++◌, drop, get_or, refl, sym, ap, subst, ◌∙◌, arith}
use Rattle.std.specs.List.{list_all, AllPass}
use Rattle.std.proofs.lemmas.Bool.{and_parts, and_from, eqb-true, true≢false}
use Rattle.std.proofs.lemmas.Bool.Decides.{nat_tests}
use Rattle.hex.specs.Hex.{encode_lower, is_hex_digit, decode_of}
use Rattle.hex.proofs.HexLemmas.{decode_of-encode_lower, decode_of-ok, decode_of-same}
use Rattle.ghost_model.specs.forms.Frames.{AreBytes}
use Rattle.ghost_model.specs.core.Recorded.{lacks, is_digit, is_number}

same_self : (n : ℕ) → (n == n) ≡ true
same_self n = grind (arith, nat_tests)

-- a text that lacks a byte does not begin with it
not_first : (byte : ℕ) (later : List ℕ) → lacks byte (byte ∷ later) ≡ true → ⊥
not_first byte later l = true≢false (sym (and_parts _ _ l).0 ∙ ap not (same_self byte))

pub lacks_none : (byte : ℕ) (first rest : List ℕ) → lacks byte (first ++ byte ∷ rest) ≡ true → ⊥
lacks_none byte [] rest l = not_first byte rest l
lacks_none byte (one ∷ first) rest l = lacks_none byte first rest (and_parts _ _ l).1

-- a text is cut at the first byte of a value in one way
pub cut_once : (byte : ℕ) (first rest other more : List ℕ) → lacks byte first ≡ true → lacks byte other ≡ true
    → first ++ byte ∷ rest ≡ other ++ byte ∷ more → (first ≡ other) × (rest ≡ more)
cut_once byte [] rest [] more l m e = (refl, ap (drop 1) e)
cut_once byte [] rest (one ∷ other) more l m e =
    let head : byte ≡ one = ap (λ (xs : List ℕ). get_or xs 0 0) e in
    absurd (not_first byte other (subst (λ (b : ℕ). lacks byte (b ∷ other) ≡ true) (sym head) m))
cut_once byte (one ∷ first) rest [] more l m e =
    let head : one ≡ byte = ap (λ (xs : List ℕ). get_or xs 0 0) e in
    absurd (not_first byte first (subst (λ (b : ℕ). lacks byte (b ∷ first) ≡ true) head l))
cut_once byte (one ∷ first) rest (two ∷ other) more l m e =
    let head : one ≡ two = ap (λ (xs : List ℕ). get_or xs 0 0) e in
    let later = cut_once byte first rest other more (and_parts _ _ l).1 (and_parts _ _ m).1 (ap (drop 1) e) in
    (ap (λ (b : ℕ). b ∷ first) head ∙ ap (λ (xs : List ℕ). two ∷ xs) later.0, later.1)

differs : (test : ℕ → Bool) (byte one : ℕ) → test byte ≡ false → test one ≡ true → not (one == byte) ≡ true
differs test byte one fails passes = by (one == byte) (λ e. eqb-true one byte e)
  where
    by : (b : Bool) → (b ≡ true → one ≡ byte) → not b ≡ true
    by true same = absurd (true≢false (sym passes ∙ ap test (same refl) ∙ fails))
    by false same = refl

-- what passes a test lacks each byte that fails it
pub passes_lack : (test : ℕ → Bool) (byte : ℕ) → test byte ≡ false → (text : List ℕ) → list_all test text ≡ true → lacks byte text ≡ true
passes_lack test byte fails [] all = refl
passes_lack test byte fails (one ∷ text) all =
    and_from _ _ (differs test byte one fails (and_parts _ _ all).0) (passes_lack test byte fails text (and_parts _ _ all).1)

pub lacks_append : (byte : ℕ) (first rest : List ℕ) → lacks byte first ≡ true → lacks byte rest ≡ true → lacks byte (first ++ rest) ≡ true
lacks_append byte [] rest l m = m
lacks_append byte (one ∷ first) rest l m = and_from _ _ (and_parts _ _ l).0 (lacks_append byte first rest (and_parts _ _ l).1 m)

passes_all : (test : ℕ → Bool) (text : List ℕ) → AllPass test text → list_all test text ≡ true
passes_all test [] all = refl
passes_all test (one ∷ text) all = and_from _ _ (all 0 0 (omega arith)) (passes_all test text (λ k d low. all (suc k) d (omega arith)))

-- hexadecimal digits are none of the other bytes
pub hex_lacks : (byte : ℕ) → is_hex_digit byte ≡ false → (bytes : List ℕ) → AreBytes bytes → lacks byte (encode_lower bytes) ≡ true
hex_lacks byte fails bytes are =
    passes_lack is_hex_digit byte fails (encode_lower bytes)
    (passes_all is_hex_digit (encode_lower bytes) (decode_of-ok (encode_lower bytes) bytes (decode_of-encode_lower bytes are)).1)

-- bytes are spelled in one way
pub hex_once : (bytes other : List ℕ) → AreBytes bytes → AreBytes other → encode_lower bytes ≡ encode_lower other → bytes ≡ other
hex_once bytes other are be same =
    decode_of-same (encode_lower bytes) bytes other (decode_of-encode_lower bytes are) (ap decode_of same ∙ decode_of-encode_lower other be)

pub has_byte : (byte : ℕ) (first rest text : List ℕ) → lacks byte text ≡ true → text ≡ first ++ byte ∷ rest → ⊥
has_byte byte first rest text l e = lacks_none byte first rest (sym (ap (lacks byte) e) ∙ l)

outer : (a b c : Bool) → (a && b && c) ≡ true → (a && c) ≡ true
outer true true c e = e
outer true false c e = cc e
outer false b c e = cc e

-- a number is spelled by digits
pub number_digits : (digits : List ℕ) → is_number digits ≡ true → list_all is_digit digits ≡ true
number_digits [] is = cc
number_digits (digit ∷ []) is = and_from (is_digit digit) true is refl
number_digits (digit ∷ next ∷ later) is = outer (is_digit digit) (not (digit == 48)) (list_all is_digit (next ∷ later)) is
