-- Bytes are compared with a text in pieces.
use Rattle.std.proofs.Common.{◌≡◌, ℕ, ◌+◌, ◌<◌, ◌≤◌, Bool, true, false, ◌&&◌, nat_eq, List, [], ◌∷◌, ◌++◌, length, take, drop, refl, ap, ◌∙◌, bytes_eq, arith}
use Rattle.std.proofs.lemmas.Slice.Eq.{bytes_eq-Decides}
use Rattle.std.proofs.lemmas.List.{length-take, length-drop, drop-drop}

and_groups : (a b c : Bool) → (a && (b && c)) ≡ ((a && b) && c)
and_groups true b c = refl
and_groups false b c = refl

pub in_pieces : (piece later part : List ℕ)
    → bytes_eq (piece ++ later) (take (length (piece ++ later)) part)
    ≡ (bytes_eq piece (take (length piece) part) && bytes_eq later (take (length later) (drop (length piece) part)))
in_pieces [] later part = refl
in_pieces (x ∷ piece) later [] = refl
in_pieces (x ∷ piece) later (y ∷ part) =
    ap (λ r. nat_eq x y && r) (in_pieces piece later part)
    ∙ and_groups (nat_eq x y) (bytes_eq piece (take (length piece) part)) (bytes_eq later (take (length later) (drop (length piece) part)))

pub is_within : (bytes text : List ℕ) (at : ℕ) → 0 < length bytes → bytes_eq bytes (take (length bytes) (drop at text)) ≡ true
    → at + length bytes ≤ length text
is_within bytes text at some e =
    let same : bytes ≡ take (length bytes) (drop at text) = (bytes_eq-Decides bytes (take (length bytes) (drop at text))).0 e in
    omega (arith, ap length same, length-take (length bytes) (drop at text), length-drop at text)

-- a piece and what is behind it, by where they stand in a text
pub piece_by_piece : (rest piece later text : List ℕ) (at : ℕ) → rest ≡ piece ++ later
    → bytes_eq rest (take (length rest) (drop at text))
    ≡ (bytes_eq piece (take (length piece) (drop at text)) && bytes_eq later (take (length later) (drop (at + length piece) text)))
piece_by_piece rest piece later text at e =
    ap (λ (bytes : List ℕ). bytes_eq bytes (take (length bytes) (drop at text))) e
    ∙ (in_pieces piece later (drop at text)
    ∙ ap (λ (part : List ℕ). bytes_eq piece (take (length piece) (drop at text)) && bytes_eq later (take (length later) part)) (drop-drop (length piece) at text))
