-- Bytes that a text lacks, where it is cut, and its hexadecimal parts.
use Rattle.std.proofs.Common.{◌≡◌, ℕ, zero, suc, ◌<◌, ◌==◌, Bool, true, false, not, List, [], ◌∷◌, ◌++◌, length, take, drop, slice_index, refl, sym, ap, subst, ◌∙◌, arith, Ok, Option, Some, None, MatchOption, IfSome, IfNone, length-append, take-append-drop}
use Rattle.std.proofs.lemmas.Bool.{and_from, eqb-true}
use Rattle.std.specs.Prelude.{◌/◌, ◌≤◌, MatchResult, Result, Err}
use Rattle.hex.specs.Hex.{encode_lower, lower_digits, decode_sized}
use Rattle.hex.specs.declared.error.FromHexError.{FromHexError}
use Rattle.hex.proofs.HexLemmas.{decode_sized-encode_lower, length-encode_with}
use Rattle.ghost_model.specs.forms.Frames.{AreBytes}
use Rattle.ghost_model.specs.core.Recorded.{lacks}
use Rattle.channel_audit.specs.Lines.{Cuts}

-- no byte before a place is this one
pub lacks_before : (byte n : ℕ) (text : List ℕ) → ((k : ℕ) → k < n → (slice_index text k == byte) ≡ true → ⊥) → lacks byte (take n text) ≡ true
lacks_before byte zero text none = refl
lacks_before byte (suc n) [] none = refl
lacks_before byte (suc n) (one ∷ text) none =
    and_from _ _ (by (one == byte) (none 0 (omega arith))) (lacks_before byte n text (λ k low. none (suc k) (omega arith)))
  where
    by : (b : Bool) → (b ≡ true → ⊥) → not b ≡ true
    by true wrong = absurd (wrong refl)
    by false wrong = refl

-- a text that some bytes spell is decoded to them, where there is room for them alone
pub hex_decodes : (text place out : List ℕ) (result : Result (Unit {0}) FromHexError)
    → MatchResult (decode_sized text (length place)) (λ bytes. (result ≡ Ok tt) × (out ≡ bytes)) (λ e. result ≡ Err e)
    → length place ≡ length text / 2 → (bytes : List ℕ) → AreBytes bytes → encode_lower bytes ≡ text → (result ≡ Ok tt) × (out ≡ bytes)
hex_decodes text place out result value room bytes are same =
    let twice = length-encode_with lower_digits bytes in
    let long = ap length same in
    let fits : length bytes ≡ length place = omega (arith, twice, long, room) in
    let decoded : decode_sized text (length place) ≡ Ok bytes =
    subst (λ (t : List ℕ). decode_sized t (length place) ≡ Ok bytes) same (decode_sized-encode_lower bytes (length place) fits are) in
    subst (λ (r : Result (List ℕ) FromHexError). MatchResult r (λ bytes. (result ≡ Ok tt) × (out ≡ bytes)) (λ e. result ≡ Err e)) decoded value

pub cut_short : (byte most : ℕ) (text first rest : List ℕ) → Cuts byte text first rest → length text ≤ most → length rest ≤ most
cut_short byte most text first rest cuts short =
    let long = ap length cuts.joined in
    let two = length-append first (byte ∷ rest) in
    omega (arith, long, two, short)

-- no byte is this one
pub lacks_all : (byte : ℕ) (text : List ℕ) → ((k : ℕ) → k < length text → (slice_index text k == byte) ≡ true → ⊥) → lacks byte text ≡ true
lacks_all byte [] none = refl
lacks_all byte (one ∷ text) none =
    and_from _ _ (by (one == byte) (none 0 (omega arith))) (lacks_all byte text (λ k low. none (suc k) (omega arith)))
  where
    by : (b : Bool) → (b ≡ true → ⊥) → not b ≡ true
    by true wrong = absurd (wrong refl)
    by false wrong = refl

rest_at : (at : ℕ) (text : List ℕ) → at < length text → drop at text ≡ slice_index text at ∷ drop 1 (drop at text)
rest_at zero [] low = absurd (omega arith)
rest_at zero (one ∷ text) low = refl
rest_at (suc at) [] low = absurd (omega arith)
rest_at (suc at) (one ∷ text) low = rest_at at text (omega arith)

-- a text is cut at a place where the byte stands first
pub cuts_at : (byte at : ℕ) (text first rest word : List ℕ) → first ≡ take at text → rest ≡ drop at text → word ≡ drop 1 rest → at < length text
    → (slice_index text at == byte) ≡ true → ((k : ℕ) → k < at → (slice_index text k == byte) ≡ true → ⊥) → Cuts byte text first word
cuts_at byte at text first rest word front back later low here none = record {
  joined = sym (take-append-drop at text) ∙ (ap (λ (xs : List ℕ). xs ++ drop at text) (sym front)
      ∙ ap (λ (xs : List ℕ). first ++ xs) (rest_at at text low ∙ (ap (λ (b : ℕ). b ∷ drop 1 (drop at text)) (eqb-true (slice_index text at) byte here)
      ∙ ap (λ (xs : List ℕ). byte ∷ xs) (ap (drop 1) (sym back) ∙ sym later))));
  lacking = subst (λ (xs : List ℕ). lacks byte xs ≡ true) (sym front) (lacks_before byte at text none);
}

pub some_part : {T : Type 0} (r : Option T) (N : Type 0) (S : T → Type 0) → MatchOption r N S → IfSome r S
some_part None N S m = tt
some_part (Some x) N S m = m

pub none_part : {T : Type 0} (r : Option T) (N : Type 0) (S : T → Type 0) → MatchOption r N S → IfNone r N
none_part None N S m = m
none_part (Some x) N S m = tt
