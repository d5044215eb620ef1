-- What a piece written into bytes leaves before and behind it.
use Rattle.std.proofs.Common.{◌≡◌, ℕ, ◌+◌, ◌-◌, ◌≤◌, List, ◌++◌, length, take, drop, ap, sym, ◌∙◌, arith}
use Rattle.std.proofs.lemmas.List.{length-take-le, drop-drop}
use Rattle.std.proofs.Math.Seq.{take-append-add, take-append_seam, drop-append-add, drop-append_seam}

pub front_grows : (at : ℕ) (piece out last : List ℕ) → at + length piece ≤ length out
    → take (at + length piece) (take at out ++ (piece ++ last)) ≡ take at out ++ piece
front_grows at piece out last fits =
    let front : length (take at out) ≡ at = length-take-le at out (omega arith) in
    ap (λ (n : ℕ). take (n + length piece) (take at out ++ (piece ++ last))) (sym front)
    ∙ (take-append-add (take at out) (piece ++ last) (length piece)
    ∙ ap (λ (xs : List ℕ). take at out ++ xs) (take-append_seam piece last))

pub rest_stays : (at : ℕ) (piece out last : List ℕ) → at + length piece ≤ length out → last ≡ drop (length piece) (drop at out)
    → drop (at + length piece) (take at out ++ (piece ++ last)) ≡ drop (at + length piece) out
rest_stays at piece out last fits e =
    let front : length (take at out) ≡ at = length-take-le at out (omega arith) in
    ap (λ (n : ℕ). drop (n + length piece) (take at out ++ (piece ++ last))) (sym front)
    ∙ (drop-append-add (take at out) (piece ++ last) (length piece)
    ∙ (drop-append_seam piece last ∙ (e ∙ drop-drop (length piece) at out)))

-- bytes that are the same from one place on are so from a later one on
pub same_further : (near far : ℕ) (xs ys : List ℕ) → drop near xs ≡ drop near ys → near ≤ far → drop far xs ≡ drop far ys
same_further near far xs ys e h =
    let there : near + (far - near) ≡ far = omega arith in
    ap (λ (n : ℕ). drop n xs) (sym there)
    ∙ (sym (drop-drop (far - near) near xs)
    ∙ (ap (λ (zs : List ℕ). drop (far - near) zs) e
    ∙ (drop-drop (far - near) near ys ∙ ap (λ (n : ℕ). drop n ys) there)))
