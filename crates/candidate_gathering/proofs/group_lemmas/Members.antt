-- Candidates with which members are united one after another.
use Rattle.std.proofs.Common.{◌≡◌, ◌∙◌, refl, ap, sym, ℕ, zero, suc, ◌+◌, inl, inr, Bool, true, false, List, [], ◌∷◌, take, slice_get, Some, arith}
use Rattle.std.specs.Prelude.{◌↔◌, ◌⊎◌, ◌||◌}
use Rattle.std.specs.List.{list_any}
use Rattle.ghost_model.specs.core.Values.{Database}
use Rattle.ghost_model.specs.core.Channel.{Catalog}
use Rattle.ghost_model.specs.core.Replies as replies
use Rattle.ghost_model.specs.forms.Layout.{count_of}
use Rattle.ghost_model.proofs.MeaningLemmas.OneRow.{either_true}
use Rattle.candidate_lists.specs.Held.{IsRow}
use Rattle.condition_lists.specs.declared.term.Term.{Term}
use Rattle.condition_lists.specs.Laws.{IsMet}
use Rattle.condition_lists.specs.Terms.{meets}
use Rattle.candidate_gathering.specs.groups.Members.{MeetNone, MeetsSome}

one_more : (p : Term → Bool) (members : List Term) (at : ℕ) (member : Term) → slice_get members at ≡ Some member → list_any p (take (suc at) members) ≡ (list_any p (take at members) || p member)
one_more p [] at member e = absurd (cc (e))
one_more p (x ∷ members) zero member e = let same : x ≡ member = cc in right_false (p x) ∙ ap p same
  where
    right_false : (b : Bool) → (b || false) ≡ b
    right_false true = refl
    right_false false = refl
one_more p (x ∷ members) (suc at) member e = ap (λ b. p x || b) (one_more p members at member e) ∙ joined (p x) (list_any p (take at members)) (p member)
  where
    joined : (a b c : Bool) → (a || (b || c)) ≡ ((a || b) || c)
    joined true b c = refl
    joined false b c = refl

either_holds : (a b : Bool) → (a ≡ true) ⊎ (b ≡ true) → (a || b) ≡ true
either_holds a b either = elim either [ inl e ↦ ap (λ c. c || b) e | inr e ↦ ap (λ c. a || c) e ∙ whatever a ]
  where
    whatever : (c : Bool) → (c || true) ≡ true
    whatever true = refl
    whatever false = refl

module _ (cat : Catalog) (database : Database) (given : List replies.Reply) (top : ℕ) (members : List Term) where
  more : (at : ℕ) (member : Term) (identifier : ℕ) → slice_get members at ≡ Some member
      → list_any (meets cat.schema database given top identifier) (take (at + 1) members)
      ≡ (list_any (meets cat.schema database given top identifier) (take at members) || meets cat.schema database given top identifier member)
  more at member identifier there =
      let p : Term → Bool = meets cat.schema database given top identifier in
      let next : at + 1 ≡ suc at = omega arith in
      ap (λ n. list_any p (take n members)) next ∙ one_more p members at member there

  -- a row that was in the union, or meets the member
  pub united :
      (at : ℕ) (member : Term) → slice_get members at ≡ Some member → (rows identifier : ℕ) (now was in_lists : Type 0) → rows ≡ count_of cat top
      → was ↔ MeetsSome cat database given top members at identifier → in_lists ↔ IsMet cat database given top member identifier
      → now ↔ (IsRow rows identifier × (was ⊎ in_lists)) → now ↔ MeetsSome cat database given top members (at + 1) identifier
  united at member there rows identifier now was in_lists rows_are before lists all = (to, from)
    where
      p : Term → Bool
      p = meets cat.schema database given top identifier

      to : now → MeetsSome cat database given top members (at + 1) identifier
      to is = elim (all.0 is).1 [
        | inl one ↦ (let first = before.0 one in record { row = first.row; met = more at member identifier there ∙ either_holds (list_any p (take at members)) (p member) (inl first.met) })
        | inr other ↦ (let met = lists.0 other in record { row = met.row; met = more at member identifier there ∙ either_holds (list_any p (take at members)) (p member) (inr met.met) })
      ]

      row_of : MeetsSome cat database given top members (at + 1) identifier → IsRow rows identifier
      row_of some = record { some = some.row.some; within = omega (arith, some.row.within, rows_are) }

      from : MeetsSome cat database given top members (at + 1) identifier → now
      from some = elim (either_true (list_any p (take at members)) (p member) (sym (more at member identifier there) ∙ some.met)) [
        | inl one ↦ all.1 (row_of some, inl (before.1 (record { row = some.row; met = one })))
        | inr other ↦ all.1 (row_of some, inr (lists.1 (record { row = some.row; met = other })))
      ]

  -- no row meets the member
  pub left_out :
      (at : ℕ) (member : Term) → slice_get members at ≡ Some member → (identifier : ℕ) (now : Type 0) → (IsMet cat database given top member identifier → ⊥)
      → now ↔ MeetsSome cat database given top members at identifier → now ↔ MeetsSome cat database given top members (at + 1) identifier
  left_out at member there identifier now none before = (to, from)
    where
      p : Term → Bool
      p = meets cat.schema database given top identifier

      to : now → MeetsSome cat database given top members (at + 1) identifier
      to is = let first = before.0 is in record { row = first.row; met = more at member identifier there ∙ either_holds (list_any p (take at members)) (p member) (inl first.met) }

      from : MeetsSome cat database given top members (at + 1) identifier → now
      from some = elim (either_true (list_any p (take at members)) (p member) (sym (more at member identifier there) ∙ some.met)) [
        | inl one ↦ before.1 (record { row = some.row; met = one })
        | inr other ↦ absurd (none (record { row = some.row; met = other }))
      ]

  pub begun : (rows identifier : ℕ) (now : Type 0) → now ↔ (IsRow rows identifier × ⊥) → now ↔ MeetsSome cat database given top members 0 identifier
  begun rows identifier now all = (λ is. absurd (all.0 is).1, λ some. absurd (never some.met))
    where
      never : false ≡ true → ⊥
      never e = cc

  pub kept :
      (at rows identifier : ℕ) (now was : Type 0) → rows ≡ count_of cat top → was ↔ MeetsSome cat database given top members at identifier
      → now ↔ (IsRow rows identifier × was) → now ↔ MeetsSome cat database given top members at identifier
  kept at rows identifier now was rows_are before all = (
    λ is. before.0 (all.0 is).1,
    λ some. all.1 (record { some = some.row.some; within = omega (arith, some.row.within, rows_are) }, before.1 some),
  )

-- a table without rows
pub no_rows : (cat : Catalog) (database : Database) (given : List replies.Reply) (top : ℕ) (all : List Term) → count_of cat top ≡ 0 → MeetNone cat database given top all
no_rows cat database given top all none identifier some =
    let row = some.row in
    let low = row.some in
    let high = row.within in
    absurd (omega (arith, none, low, high))
