-- Places of lists, and what stands in one of some lists.
use Rattle.std.proofs.Common.{◌≡◌, ◌∙◌, refl, ap, sym, ℕ, zero, suc, ◌-◌, ◌<◌, ◌≤◌, false, List, [], ◌∷◌, length, drop, map, get_or, slice_get, slice_index, Contains, Some, arith}
use Rattle.std.specs.Prelude.{◌↔◌}
use Rattle.std.proofs.lemmas.Option.{slice_get-get_or, slice_get_within}
use Rattle.ghost_model.specs.core.Schema.{is_empty}
use Rattle.spill_pass.specs.Merging.{IsOneOf}
use Rattle.spill_pass.specs.PassContents.{InLists}
use Rattle.condition_lists.specs.Laws.{IsInOne}

-- within a list it does not matter what stands past its end
pub got : {X : Type 0} (xs : List X) (i : ℕ) (d e : X) → i < length xs → get_or xs i d ≡ get_or xs i e
got [] i d e low = absurd (omega (arith, low))
got (x ∷ xs) zero d e low = refl
got (x ∷ xs) (suc i) d e low = got xs i d e (omega (arith, low))

pub many : {X Y : Type 0} (f : X → Y) (xs : List X) → length (map f xs) ≡ length xs
many f [] = refl
many f (x ∷ xs) = ap suc (many f xs)

pub mapped_get : {X Y : Type 0} (f : X → Y) (xs : List X) (i : ℕ) (d : X) (e : Y) → i < length xs → get_or (map f xs) i e ≡ f (get_or xs i d)
mapped_get f [] i d e low = absurd (omega (arith, low))
mapped_get f (x ∷ xs) zero d e low = refl
mapped_get f (x ∷ xs) (suc i) d e low = mapped_get f xs i d e (omega (arith, low))

pub mapped_twice : {X Y Z : Type 0} (f : Y → Z) (g : X → Y) (xs : List X) → map f (map g xs) ≡ map (λ x. f (g x)) xs
mapped_twice f g [] = refl
mapped_twice f g (x ∷ xs) = ap (λ rest. f (g x) ∷ rest) (mapped_twice f g xs)

-- a place of a list, and of one without its first element
pub indexed : (xs : List ℕ) (i x : ℕ) → slice_get xs i ≡ Some x → slice_index xs i ≡ x
indexed xs i x e =
    let low = slice_get_within xs i x e in
    some_is (sym (slice_get-get_or xs i 0 low) ∙ e)
  where
    some_is : {a b : ℕ} → Some a ≡ Some b → a ≡ b
    some_is h = cc

pub indexed_above : (xs : List ℕ) (i x : ℕ) → 1 ≤ i → slice_get xs i ≡ Some x → slice_index (drop 1 xs) (i - 1) ≡ x
indexed_above xs zero x low e = absurd (omega (arith, low))
indexed_above [] (suc i) x low e = absurd (cc (e))
indexed_above (y ∷ xs) (suc i) x low e =
    let same : suc i - 1 ≡ i = omega arith in
    ap (slice_index xs) same ∙ indexed xs i x e

pub within_above : (xs : List ℕ) (i x : ℕ) → 1 ≤ i → slice_get xs i ≡ Some x → i - 1 < length (drop 1 xs)
within_above xs zero x low e = absurd (omega (arith, low))
within_above [] (suc i) x low e = absurd (cc (e))
within_above (y ∷ xs) (suc i) x low e = let near = slice_get_within xs i x e in omega (arith, near)

pub some_above : (xs : List ℕ) (i x : ℕ) → 1 ≤ i → slice_get xs i ≡ Some x → is_empty (drop 1 xs) ≡ false
some_above xs zero x low e = absurd (omega (arith, low))
some_above [] (suc i) x low e = absurd (cc (e))
some_above (y ∷ []) (suc i) x low e = absurd (cc (e))
some_above (y ∷ z ∷ xs) (suc i) x low e = refl

-- what stands in one of some lists
pub has_one : (ids : List ℕ) (id : ℕ) → Contains ids id → IsOneOf ids id
has_one ids id has = record { at = has.0; within = has.1; is = sym (got ids has.0 0 id has.1 ∙ has.2) }

pub is_one : (ids : List ℕ) (id : ℕ) → IsOneOf ids id → Contains ids id
is_one ids id is = (is.at, is.within, got ids is.at id 0 is.within ∙ sym is.is)

pub in_one : (lists : List (List ℕ)) (id : ℕ) → InLists lists id ↔ IsInOne lists id
in_one lists id = (
  λ has. record { at = has.at; within = has.within; is = is_one (get_or lists has.at []) id has.is },
  λ is. record { at = is.at; within = is.within; is = has_one (get_or lists is.at []) id is.is },
)

pub both : {A B C : Type 0} → A ↔ B → B ↔ C → A ↔ C
both one other = (λ a. other.0 (one.0 a), λ c. one.1 (other.1 c))
