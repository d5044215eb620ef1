-- A text made plain, letter by letter.
use Rattle.std.proofs.Common.{◌≡◌, ℕ, List, [], ◌∷◌, ◌++◌, map, encode_utf8_all, ap, sym, ◌∙◌, append-nil}
use Rattle.std.proofs.lemmas.List.{map-append}
use Rattle.std.proofs.lemmas.Str.{encodes-append}
use Rattle.std.specs.Char.{encode_utf8}
use Rattle.edge_real.specs.Plain.{plain_letter}

one_letter : (letter : ℕ) → encode_utf8_all (letter ∷ []) ≡ encode_utf8 letter
one_letter letter = append-nil (encode_utf8 letter)

pub letter_pushed : (before after letters : List ℕ) (letter shown : ℕ) → shown ≡ plain_letter letter
    → before ≡ encode_utf8_all (map plain_letter letters) → after ≡ before ++ encode_utf8 shown
    → after ≡ encode_utf8_all (map plain_letter (letters ++ letter ∷ []))
letter_pushed before after letters letter shown is so_far pushed =
    pushed
    ∙ ap (λ (front : List ℕ). front ++ encode_utf8 shown) so_far
    ∙ ap (λ (one : ℕ). encode_utf8_all (map plain_letter letters) ++ encode_utf8 one) is
    ∙ sym (ap encode_utf8_all (map-append plain_letter letters (letter ∷ []))
    ∙ encodes-append (map plain_letter letters) (plain_letter letter ∷ [])
    ∙ ap (λ (back : List ℕ). encode_utf8_all (map plain_letter letters) ++ back) (one_letter (plain_letter letter)))
