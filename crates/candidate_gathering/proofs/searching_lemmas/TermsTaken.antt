-- Candidates by terms that are taken in one after another.
use Rattle.std.proofs.Common.{◌≡◌, ◌∙◌, refl, ap, sym, ℕ, ◌+◌, ◌-◌, ◌≤◌, inl, inr, Bool, true, false, ◌&&◌, List, [], ◌∷◌, length, take, arith}
use Rattle.std.specs.Prelude.{◌↔◌, ◌⊎◌, ◌||◌, ⊤}
use Rattle.std.proofs.lemmas.Bool.{and_parts}
use Rattle.ghost_model.specs.core.Values.{Database}
use Rattle.ghost_model.specs.core.Channel.{Catalog}
use Rattle.ghost_model.specs.core.Groups.{groups_of}
use Rattle.ghost_model.specs.core.Replies as replies
use Rattle.ghost_model.specs.forms.Layout.{count_of}
use Rattle.ghost_model.proofs.MeaningLemmas.OneRow.{either_true}
use Rattle.climbing_index.specs.declared.search.Group.{Group}
use Rattle.climbing_index.specs.Searches.{IsIn}
use Rattle.candidate_lists.specs.Held.{IsRow}
use Rattle.flash_layout.specs.Ranges.{IsRowOf}
use Rattle.condition_lists.specs.declared.term.GroupTerm.{GroupTerm}
use Rattle.condition_lists.specs.declared.term.Term.{Term}
use Rattle.condition_lists.specs.Laws.{IsEntryOf, IsMet}
use Rattle.condition_lists.specs.Terms.{is_in, meets, IsAloneAt, meets_all}
use Rattle.condition_lists.proofs.GroupLemmas.{in_group, to_group}
use Rattle.condition_lists.proofs.LoneLemmas.{one_group_more}
use Rattle.candidate_gathering.specs.searching.Gathered.{InGroups, MeetsFirst}

all_taken : (terms : List GroupTerm) → take (length terms) terms ≡ terms
all_taken [] = refl
all_taken (x ∷ terms) = ap (λ rest. x ∷ rest) (all_taken terms)

and_holds : (a b : Bool) → a ≡ true → b ≡ true → (a && b) ≡ true
and_holds a b one other = ap (λ c. c && b) one ∙ other

module _ (cat : Catalog) (database : Database) (given : List replies.Reply) (top : ℕ) (terms : List GroupTerm) where
  -- a candidate that is also in the union of a term
  pub taken :
      (at : ℕ) (term : Term) → IsAloneAt terms at term → (rows identifier : ℕ) (now was in_union : Type 0) → rows ≡ count_of cat top
      → was ↔ MeetsFirst cat database given top terms at identifier → in_union ↔ IsMet cat database given top term identifier
      → now ↔ (IsRow rows identifier × (was × in_union)) → now ↔ MeetsFirst cat database given top terms (at + 1) identifier
  taken at term there rows identifier now was in_union rows_are before union all = (to, from)
    where
      more : meets_all cat.schema database given top identifier (take (at + 1) terms)
          ≡ (meets_all cat.schema database given top identifier (take at terms) && meets cat.schema database given top identifier term)
      more = one_group_more (λ (one : GroupTerm). meets cat.schema database given top identifier one.term) terms at term there

      to : now → MeetsFirst cat database given top terms (at + 1) identifier
      to is =
          let has = all.0 is in
          let first = before.0 has.1.0 in
          record { row = first.row; met = more ∙ and_holds (meets_all cat.schema database given top identifier (take at terms)) (meets cat.schema database given top identifier term) first.met (union.0 has.1.1).met }

      from : MeetsFirst cat database given top terms (at + 1) identifier → now
      from first =
          let parts = and_parts (meets_all cat.schema database given top identifier (take at terms)) (meets cat.schema database given top identifier term) (sym more ∙ first.met) in
          all.1 (
            record { some = first.row.some; within = omega (arith, first.row.within, rows_are) },
            (before.1 (record { row = first.row; met = parts.0 }), union.1 (record { row = first.row; met = parts.1 })),
          )

  pub begun :
      (rows identifier : ℕ) (now : Type 0) → rows ≡ count_of cat top → now ↔ (IsRow rows identifier × ⊤) → now ↔ MeetsFirst cat database given top terms 0 identifier
  unfolding groups_of
  begun rows identifier now rows_are all = (
    λ is. let has = (all.0 is).0 in record { row = record { some = has.some; within = omega (arith, has.within, rows_are) }; met = refl },
    λ first. all.1 (record { some = first.row.some; within = omega (arith, first.row.within, rows_are) }, tt),
  )

  pub kept :
      (at rows identifier : ℕ) (now was : Type 0) → rows ≡ count_of cat top → was ↔ MeetsFirst cat database given top terms at identifier
      → now ↔ (IsRow rows identifier × was) → now ↔ MeetsFirst cat database given top terms at identifier
  kept at rows identifier now was rows_are before all = (
    λ is. before.0 (all.0 is).1,
    λ first. all.1 (record { some = first.row.some; within = omega (arith, first.row.within, rows_are) }, before.1 first),
  )

  pub whole :
      (identifier : ℕ) (now : Type 0) → now ↔ MeetsFirst cat database given top terms (length terms) identifier → IsRowOf cat top identifier
      → now ↔ (meets_all cat.schema database given top identifier terms ≡ true)
  whole identifier now all row =
      let same : meets_all cat.schema database given top identifier (take (length terms) terms) ≡ meets_all cat.schema database given top identifier terms =
      ap (meets_all cat.schema database given top identifier) (all_taken terms) in
      (λ is. sym same ∙ (all.0 is).met, λ met. all.1 (record { row = row; met = same ∙ met }))

-- the ranges of groups
either_in : (a b : Bool) → (a ≡ true) ⊎ (b ≡ true) → (a || b) ≡ true
either_in a b either = elim either [ inl e ↦ ap (λ c. c || b) e | inr e ↦ ap (λ c. a || c) e ∙ whatever a ]
  where
    whatever : (c : Bool) → (c || true) ≡ true
    whatever true = refl
    whatever false = refl

placed : (group : Group) (identifier : ℕ) → group.first + 1 ≤ identifier → identifier ≤ group.first + group.count → is_in group (identifier - 1) ≡ true
placed group identifier low high = to_group group (identifier - 1) (omega (arith, low, high), omega (arith, low, high))

pub in_groups : (first second : Group) (identifier : ℕ) → InGroups first second identifier ↔ IsEntryOf first second identifier
in_groups first second identifier = (to, from)
  where
    to : InGroups first second identifier → IsEntryOf first second identifier
    to in_range = elim in_range [
      | inl one ↦ (let low = one.0 in record { entry = identifier - 1; is = omega (arith, low); among = either_in _ _ (inl (placed first identifier one.0 one.1)) })
      | inr other ↦ (let low = other.0 in record { entry = identifier - 1; is = omega (arith, low); among = either_in _ _ (inr (placed second identifier other.0 other.1)) })
    ]

    within : (group : Group) (entry : ℕ) → identifier ≡ entry + 1 → IsIn group entry → (group.first + 1 ≤ identifier) × (identifier ≤ group.first + group.count)
    within group entry is has = let low = has.0 in let high = has.1 in (omega (arith, is, low), omega (arith, is, high))

    from : IsEntryOf first second identifier → InGroups first second identifier
    from is = elim (either_true (is_in first is.entry) (is_in second is.entry) is.among) [
      | inl e ↦ inl (within first is.entry is.is (in_group first is.entry e))
      | inr e ↦ inr (within second is.entry is.is (in_group second is.entry e))
    ]
