-- The levels of a table are the tables on its way up to the root.
use Rattle.std.proofs.Common.{◌≡◌, refl, ap, sym, ◌∙◌, ℕ, zero, suc, ◌+◌, ◌<◌, ◌≤◌, inl, inr, [], length, filter_map, Option, Some, None, slice_get, option_and_then, arith}
use Rattle.std.specs.List.{range_with_len, cons_option}
use Rattle.std.proofs.lemmas.Bool.{cases_lt}
use Rattle.std.proofs.lemmas.Option.{slice_get_past}
use Rattle.std.proofs.lemmas.List.FromFn.{length-range_with_len}
use Rattle.ghost_model.specs.core.Schema.{Schema, parent, ancestor}
use Rattle.ghost_model.specs.laws.SchemaTrees.{IsTree}
use Rattle.ghost_model.specs.forms.Layout.{below, levels_of}
use Rattle.ghost_model.proofs.MeaningLemmas.Leading.{way_is_short}
use Rattle.ghost_model.proofs.LayoutLemmas.Small.{length_kept}

module _ (step : ℕ → Option ℕ) (ends : (n : ℕ) → step n ≡ None → step (suc n) ≡ None) where
  ended : (n k : ℕ) → step n ≡ None → step (n + k) ≡ None
  ended n zero e = let same : n + 0 ≡ n = omega arith in ap step same ∙ e
  ended n (suc k) e = let same : n + suc k ≡ suc (n + k) = omega arith in ap step same ∙ ends (n + k) (ended n k e)

  none_left : (from count : ℕ) → step from ≡ None → filter_map step (range_with_len from count) ≡ []
  none_left from zero e = refl
  none_left from (suc count) e =
      let same : from + 1 ≡ suc from = omega arith in
      ap (λ o. cons_option o (filter_map step (range_with_len (from + 1) count))) e
      ∙ none_left (from + 1) count (ap step same ∙ ends from e)

  taken_by : (o : Option ℕ) (from count : ℕ) → step from ≡ o
      → ((k : ℕ) → k < count → slice_get (filter_map step (range_with_len (from + 1) count)) k ≡ step (from + 1 + k))
      → (k : ℕ) → k < suc count → slice_get (cons_option o (filter_map step (range_with_len (from + 1) count))) k ≡ step (from + k)
  taken_by None from count e rest k low =
      let same : from + 1 ≡ suc from = omega arith in
      ap (λ xs. slice_get xs k) (none_left (from + 1) count (ap step same ∙ ends from e)) ∙ sym (ended from k e)
  taken_by (Some x) from count e rest zero low = let same : from ≡ from + 0 = omega arith in sym e ∙ ap step same
  taken_by (Some x) from count e rest (suc k) low =
      let same : from + 1 + k ≡ from + suc k = omega arith in rest k (omega (arith, low)) ∙ ap step same

  taken : (from count k : ℕ) → k < count → slice_get (filter_map step (range_with_len from count)) k ≡ step (from + k)
  taken from zero k low = absurd (omega (arith, low))
  taken from (suc count) k low = taken_by (step from) from count refl (taken (from + 1) count) k low

next_none : (schema : Schema) (table n : ℕ) → ancestor schema n table ≡ None → ancestor schema (suc n) table ≡ None
unfolding ancestor
next_none schema table n e = ap (option_and_then (parent schema)) e

past_the_root : (schema : Schema) → IsTree schema → (table steps : ℕ) → table < length schema → length schema ≤ steps
    → (o : Option ℕ) → ancestor schema steps table ≡ o → o ≡ None
past_the_root schema tree table steps there far None e = refl
past_the_root schema tree table steps there far (Some x) e =
    let near = way_is_short schema tree steps x table there e in absurd (omega (arith, near, far))

pub levels_are_ancestors : (schema : Schema) → IsTree schema → (table steps : ℕ) → table < length schema
    → slice_get (levels_of schema table) steps ≡ ancestor schema steps table
levels_are_ancestors schema tree table steps there =
    let way = λ (n : ℕ). ancestor schema n table in
    elim (cases_lt steps (length schema)) [
      | inl near ↦ (let same : 0 + steps ≡ steps = omega arith in
          taken way (next_none schema table) 0 (length schema) steps near ∙ ap way same)
      | inr far ↦ (let few = length_kept way (below (length schema)) in
          let size = length-range_with_len 0 (length schema) in
          slice_get_past (levels_of schema table) steps (omega (arith, few, size, far))
          ∙ sym (past_the_root schema tree table steps there far (ancestor schema steps table) refl))
    ]
