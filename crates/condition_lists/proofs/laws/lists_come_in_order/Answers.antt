use Rattle.std.proofs.Common.{◌≡◌, ◌∙◌, refl, ap, sym, subst, ℕ, ◌+◌, ◌-◌, ◌<◌, ◌≤◌, inl, inr, Bool, true, false, List, [], ◌++◌, length, map, get_or, Contains, arith, length-append}
use Rattle.std.specs.Prelude.{◌⊎◌, ◌||◌}
use Rattle.std.specs.List.{range_with_len}
use Rattle.std.proofs.lemmas.Bool.{cases_lt}
use Rattle.std.proofs.lemmas.List.Elements.{Contains-get_or}
use Rattle.std.proofs.lemmas.List.{get_or_append_left, get_or-append-add}
use Rattle.std.proofs.lemmas.List.FromFn.{get_or-map-range_with_len, length-range_with_len}
use Rattle.ghost_model.proofs.MeaningLemmas.OneRow.{either_true}
use Rattle.climbing_index.specs.declared.search.Group.{Group}
use Rattle.condition_lists.specs.Terms.{is_in, is_in_one}
use Rattle.condition_lists.specs.Laws.{IsListed, IsListedOf, IsInOne, lists_in}
use Rattle.condition_lists.proofs.GroupLemmas.{in_group, to_group}
use Rattle.condition_lists.proofs.MemberLemmas.{mapped_get, mapped_many}
use Rattle.condition_lists.proofs.laws.lists_come_in_order.Goals as goal

either_holds : (a b : Bool) → (a ≡ true) ⊎ (b ≡ true) → (a || b) ≡ true
either_holds a b either = elim either [ inl e ↦ ap (λ c. c || b) e | inr e ↦ ap (λ c. a || c) e ∙ whatever a ]
  where
    whatever : (c : Bool) → (c || true) ≡ true
    whatever true = refl
    whatever false = refl

module _ (lists : List (List ℕ)) where
  many : (group : Group) → length (lists_in lists group) ≡ group.count
  many group = mapped_many (λ entry. get_or lists entry []) (range_with_len group.first group.count) ∙ length-range_with_len group.first group.count

  one_at : (group : Group) (at : ℕ) → at < group.count → get_or (lists_in lists group) at [] ≡ get_or lists (group.first + at) []
  one_at group at low = get_or-map-range_with_len (λ entry. get_or lists entry []) group.first group.count at (group.first + at) [] low refl

  module _ (first second : Group) (a : first.first + first.count ≤ length lists) (b : second.first + second.count ≤ length lists) (identifier : ℕ) where
    front : (at : ℕ) → at < first.count → get_or (lists_in lists first ++ lists_in lists second) at [] ≡ get_or lists (first.first + at) []
    front at low = let size = many first in get_or_append_left (lists_in lists first) (lists_in lists second) [] at (omega (arith, low, size)) ∙ one_at first at low

    back : (at : ℕ) → at < second.count → get_or (lists_in lists first ++ lists_in lists second) (first.count + at) [] ≡ get_or lists (second.first + at) []
    back at low =
        ap (λ n. get_or (lists_in lists first ++ lists_in lists second) (n + at) []) (sym (many first))
        ∙ get_or-append-add (lists_in lists first) (lists_in lists second) at []
        ∙ one_at second at low

    size_is : length (lists_in lists first ++ lists_in lists second) ≡ first.count + second.count
    size_is =
        let one = many first in
        let other = many second in
        let all = length-append (lists_in lists first) (lists_in lists second) in
        omega (arith, one, other, all)

    listed_at : (group : Group) → group.first + group.count ≤ length lists → (at : ℕ) → at < group.count → Contains (get_or lists (group.first + at) []) identifier
        → (is_in group (group.first + at) ≡ true → is_in_one first second (group.first + at) ≡ true) → IsListed lists first second identifier
    listed_at group within at low held among = record {
      entry = group.first + at;
      within = omega (arith, within, low);
      among = among (to_group group (group.first + at) (omega arith, omega (arith, low)));
      listed = held;
    }

    to : IsInOne (lists_in lists first ++ lists_in lists second) identifier → IsListed lists first second identifier
    to is =
        let within = is.within in
        let size = size_is in
        elim (cases_lt is.at first.count) [
          | inl low ↦ listed_at first a is.at low (subst (λ xs. Contains xs identifier) (front is.at low) is.is) (λ e. either_holds _ _ (inl e))
          | inr past ↦ (
              let same : is.at ≡ first.count + (is.at - first.count) = omega (arith, past) in
              let low : is.at - first.count < second.count = omega (arith, past, within, size) in
              listed_at second b (is.at - first.count) low
              (subst (λ xs. Contains xs identifier) (ap (λ n. get_or (lists_in lists first ++ lists_in lists second) n []) same ∙ back (is.at - first.count) low) is.is)
              (λ e. either_holds _ _ (inr e)))
        ]

    from : IsListed lists first second identifier → IsInOne (lists_in lists first ++ lists_in lists second) identifier
    from is =
        let size = size_is in
        elim (either_true (is_in first is.entry) (is_in second is.entry) is.among) [
          | inl e ↦ (
              let held = in_group first is.entry e in
              let begin = held.0 in
              let end = held.1 in
              let low : is.entry - first.first < first.count = omega (arith, begin, end) in
              let same : first.first + (is.entry - first.first) ≡ is.entry = omega (arith, begin) in
              record {
                at = is.entry - first.first;
                within = omega (arith, low, size);
                is = subst (λ xs. Contains xs identifier) (sym (front (is.entry - first.first) low ∙ ap (λ n. get_or lists n []) same)) is.listed;
              })
          | inr e ↦ (
              let held = in_group second is.entry e in
              let begin = held.0 in
              let end = held.1 in
              let low : is.entry - second.first < second.count = omega (arith, begin, end) in
              let same : second.first + (is.entry - second.first) ≡ is.entry = omega (arith, begin) in
              record {
                at = first.count + (is.entry - second.first);
                within = omega (arith, low, size);
                is = subst (λ xs. Contains xs identifier) (sym (back (is.entry - second.first) low ∙ ap (λ n. get_or lists n []) same)) is.listed;
              })
        ]

  module _ (identifiers : List ℕ) (identifier : ℕ) where
    to_listed : IsInOne (map (λ other. get_or lists (other - 1) []) identifiers) identifier → IsListedOf lists identifiers identifier
    to_listed is =
        let within = is.within in
        let size = mapped_many (λ other. get_or lists (other - 1) []) identifiers in
        let low : is.at < length identifiers = omega (arith, within, size) in
        record {
          other = get_or identifiers is.at 0;
          among = Contains-get_or identifiers is.at 0 low;
          listed = subst (λ xs. Contains xs identifier) (mapped_get (λ other. get_or lists (other - 1) []) identifiers is.at 0 [] low) is.is;
        }

    from_listed : IsListedOf lists identifiers identifier → IsInOne (map (λ other. get_or lists (other - 1) []) identifiers) identifier
    from_listed is =
        let held = is.among in
        let low = held.1 in
        let size = mapped_many (λ other. get_or lists (other - 1) []) identifiers in
        record {
          at = held.0;
          within = omega (arith, low, size);
          is = subst (λ xs. Contains xs identifier)
              (sym (mapped_get (λ other. get_or lists (other - 1) []) identifiers held.0 is.other [] low ∙ ap (λ n. get_or lists (n - 1) []) held.2)) is.listed;
        }

pub returns : goal.returns
returns c = record {
  groups = λ lists first second a b identifier. (to lists first second a b identifier, from lists first second a b identifier);
  identifiers = λ lists identifiers identifier. (to_listed lists identifiers identifier, from_listed lists identifiers identifier);
}
