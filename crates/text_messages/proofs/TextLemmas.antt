-- The texts of a script, one after another.
use Rattle.std.proofs.Common.{arith, ◌≡◌, ℕ, zero, suc, ◌+◌, List, [], ◌∷◌, drop, slice_get, Some, sym, ap, ◌∙◌}

-- the first of what is left is the element at its place, and those after it are left
pub next_of : {X : Type 0} (whole : List X) (n : ℕ) (x : X) (later : List X) → drop n whole ≡ x ∷ later
    → (slice_get whole n ≡ Some x) × (later ≡ drop (n + 1) whole)
next_of [] zero x later h = absurd (cc (h))
next_of [] (suc n) x later h = absurd (cc (h))
next_of (y ∷ whole) zero x later h =
    let same : y ≡ x = cc (h) in let rest : whole ≡ later = cc (h) in (ap Some same, sym rest)
next_of (y ∷ whole) (suc n) x later h =
    let read = next_of whole n x later h in
    let next : suc n + 1 ≡ suc (n + 1) = omega arith in
    (read.0, read.1 ∙ ap (λ k. drop k (y ∷ whole)) (sym next))
