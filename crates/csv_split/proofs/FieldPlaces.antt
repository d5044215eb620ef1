-- The field of a record at a place.
use Rattle.std.proofs.Common.{◌≡◌, ◌<◌, ◌+◌, ℕ, zero, suc, List, [], ◌∷◌, length, drop, get_or, Some, None, refl, sym, ap, ◌∙◌, drop-cons, add-one}
use Rattle.csv.specs.Records.{field_at}

pub some_field : (fields : List (List ℕ)) (place : ℕ) (field : List ℕ) → field_at fields place ≡ Some field → field ≡ get_or fields place []
unfolding field_at
some_field [] place field is = cc is
some_field (f ∷ fs) zero field is = cc is
some_field (f ∷ fs) (suc place) field is = some_field fs place field is

pub no_field : (fields : List (List ℕ)) (place : ℕ) → field_at fields place ≡ None → [] ≡ get_or fields place []
unfolding field_at
no_field [] place is = refl
no_field (f ∷ fs) zero is = cc is
no_field (f ∷ fs) (suc place) is = no_field fs place is

-- what is left of a list begins with the element at that place
pub next : {X : Type 0} (xs : List X) (at : ℕ) (default : X) → at < length xs → drop at xs ≡ get_or xs at default ∷ drop (at + 1) xs
next xs at default within = drop-cons xs at default within ∙ ap (λ n. get_or xs at default ∷ drop n xs) (sym (add-one at))
