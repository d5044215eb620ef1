-- Lists that have at each place what a function gives there.
use Rattle.std.proofs.Common.{◌≡◌, ℕ, ◌+◌, ◌<◌, List, [], ◌∷◌, ◌++◌, map, get_or, ap, sym, ◌∙◌, arith}
use Rattle.std.specs.List.{range_with_len}
use Rattle.std.proofs.lemmas.List.FromFn.{map-range_with_len_more, get_or-map-range_with_len}

-- one place more
pub one_more : {Y : Type 0} (f : ℕ → Y) (n : ℕ) (xs new : List Y) (y : Y)
    → new ≡ xs ++ y ∷ [] → xs ≡ map f (range_with_len 0 n) → y ≡ f n → new ≡ map f (range_with_len 0 (n + 1))
one_more f n xs new y grown before next =
    grown ∙ ap (λ ys. ys ++ y ∷ []) before ∙ ap (λ z. map f (range_with_len 0 n) ++ z ∷ []) next
    ∙ sym (map-range_with_len_more f 0 n n (omega arith))

-- what stands at a place
pub at_place : {Y : Type 0} (f : ℕ → Y) (n t : ℕ) (xs : List Y) (d : Y)
    → xs ≡ map f (range_with_len 0 n) → t < n → get_or xs t d ≡ f t
at_place f n t xs d same h = ap (λ ys. get_or ys t d) same ∙ get_or-map-range_with_len f 0 n t t d h (omega arith)
