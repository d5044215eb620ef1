-- Groups of entries and the bounds by which they are found.
use Rattle.std.proofs.Common.{◌≡◌, ◌∙◌, refl, ap, ap₂, sym, ℕ, ◌+◌, ◌-◌, ◌<◌, ◌≤◌, pos, Bool, true, false, not, ◌&&◌, nat_le, nat_lt, leb-true, Option, Some, None, arith}
use Rattle.std.specs.Prelude.{◌||◌}
use Rattle.std.proofs.lemmas.Bool.{and_parts, ltb-true, lt-ltb, le-leb}
use Rattle.ghost_model.specs.core.Values.{Value, Number}
use Rattle.ghost_model.specs.core.Query.{Operator, Compared}
use Rattle.climbing_index.specs.declared.search.Bound.{Bound}
use Rattle.climbing_index.specs.declared.search.Group.{Group}
use Rattle.climbing_index.specs.Ids.{IsBetweenIds, id_before, is_id_between}
use Rattle.climbing_index.specs.Searches.{IsIn}
use Rattle.condition_lists.specs.declared.bounds.Between.{Between}
use Rattle.condition_lists.specs.declared.bounds.Bounds.{Bounds}
use Rattle.condition_lists.specs.Bounds.{AreBoundsOf, first_of, value_before, lies_between, lies_in_second, second_of}
use Rattle.condition_lists.specs.Terms.{AreIdsOf, is_in}
use Rattle.condition_lists.proofs.BoundLemmas.{counts_less}

pub in_group : (group : Group) (entry : ℕ) → is_in group entry ≡ true → IsIn group entry
in_group group entry e =
    let both = and_parts (nat_le group.first entry) (nat_lt entry (group.first + group.count)) e in
    (leb-true group.first entry both.0, ltb-true entry (group.first + group.count) both.1)

pub to_group : (group : Group) (entry : ℕ) → IsIn group entry → is_in group entry ≡ true
to_group group entry is = ap₂ (λ a b. a && b) (le-leb group.first entry is.0) (lt-ltb entry (group.first + group.count) is.1)

-- two tests that hold of one another agree
pub agree : (a b : Bool) → (a ≡ true → b ≡ true) → (b ≡ true → a ≡ true) → a ≡ b
agree true b f g = sym (f refl)
agree false true f g = g refl
agree false false f g = refl

-- none is in a group without entries
pub none_in : (group : Group) → group.count ≡ 0 → (entry : ℕ) → is_in group entry ≡ false
none_in group none entry = by (is_in group entry) refl
  where
    by : (b : Bool) → is_in group entry ≡ b → b ≡ false
    by false e = refl
    by true e = let is = in_group group entry e in absurd (let from = is.0 in let to = is.1 in omega (arith, none, from, to))

-- identifiers lie between bounds as the numbers that they are
pub id_before_is : (end : Bool) (bound : Option Bound) (identifier : ℕ) → id_before end bound identifier ≡ value_before end bound (Number (pos identifier))
id_before_is end None identifier = refl
id_before_is end (Some bound) identifier = refl

pub id_between_is : (pair : Between) (identifier : ℕ) → is_id_between pair.low pair.high identifier ≡ lies_between pair (Number (pos identifier))
id_between_is pair identifier = ap₂ (λ a b. not a && b) (id_before_is false pair.low identifier) (id_before_is true pair.high identifier)

ids_found : (rows : ℕ) (pair : Between) (group : Group) → IsBetweenIds rows pair.low pair.high group → (entry : ℕ) → entry < rows
    → is_in group entry ≡ lies_between pair (Number (pos (entry + 1)))
ids_found rows pair group is entry low =
    agree (is_in group entry) (is_id_between pair.low pair.high (entry + 1)) (λ e. is.found entry (in_group group entry e)) (λ e. to_group group entry (is.all entry low e))
    ∙ id_between_is pair (entry + 1)

pub within_of : (group : Group) (rows : ℕ) → group.first + group.count ≤ rows → (entry : ℕ) → is_in group entry ≡ true → entry < rows
within_of group rows within entry e = let to = (in_group group entry e).1 in omega (arith, within, to)

nothing : (a : Bool) → (a || false) ≡ a
nothing true = refl
nothing false = refl

pub ids_of_one : (rows : ℕ) (operator : Operator) (literal : Value) (bounds : Bounds) (first second : Group) → AreBoundsOf false (Compared operator literal) bounds
    → IsBetweenIds rows (first_of bounds).low (first_of bounds).high first → second_of bounds ≡ None → second.first ≡ 0 → second.count ≡ 0 → AreIdsOf rows operator literal first second
ids_of_one rows operator literal bounds first second are is none begin count = record {
  first_within = is.within;
  second_within = omega (arith, begin, count);
  admits = λ entry low.
      ap (λ b. is_in first entry || b) (none_in second count entry) ∙ ap (λ a. a || false) (ids_found rows (first_of bounds) first is entry low)
      ∙ ap (λ o. lies_between (first_of bounds) (Number (pos (entry + 1))) || lies_in_second o (Number (pos (entry + 1)))) (sym none)
      ∙ are.admits (Number (pos (entry + 1))) (λ none. none);
  behind = λ some other. absurd (omega (arith, other, count));
}

pub ids_of_two : (rows : ℕ) (operator : Operator) (literal : Value) (bounds : Bounds) (pair : Between) (first second : Group) → AreBoundsOf false (Compared operator literal) bounds
    → IsBetweenIds rows (first_of bounds).low (first_of bounds).high first → second_of bounds ≡ Some pair → IsBetweenIds rows pair.low pair.high second → AreIdsOf rows operator literal first second
ids_of_two rows operator literal bounds pair first second are is some_is other = record {
  first_within = is.within;
  second_within = other.within;
  admits = λ entry low.
      ap₂ (λ a b. a || b) (ids_found rows (first_of bounds) first is entry low) (ids_found rows pair second other entry low)
      ∙ ap (λ o. lies_between (first_of bounds) (Number (pos (entry + 1))) || lies_in_second o (Number (pos (entry + 1)))) (sym some_is)
      ∙ are.admits (Number (pos (entry + 1))) (λ none. none);
  behind = λ some more.
      let last : is_in first (first.first + first.count - 1) ≡ true = to_group first (first.first + first.count - 1) (omega (arith, some), omega (arith, some)) in
      let begin : is_in second second.first ≡ true = to_group second second.first (omega arith, omega (arith, more)) in
      let low = within_of first rows is.within (first.first + first.count - 1) last in
      let high = within_of second rows other.within second.first begin in
      let less = counts_less (first.first + first.count - 1 + 1) (second.first + 1)
      (are.ascend (Number (pos (first.first + first.count - 1 + 1))) (Number (pos (second.first + 1)))
      (sym (ids_found rows (first_of bounds) first is (first.first + first.count - 1) low) ∙ last)
      (ap (λ o. lies_in_second o (Number (pos (second.first + 1)))) some_is ∙ sym (ids_found rows pair second other second.first high) ∙ begin)) in
      omega (arith, some, less);
}
