-- A table with another one above or below it is one of the schema.
use Rattle.std.proofs.Common.{◌≡◌, refl, ap, sym, ◌∙◌, subst, ℕ, zero, suc, ◌+◌, ◌<◌, Bool, true, false, cond, ◌||◌, List, [], ◌∷◌, length, drop, filter, filter_map, inl, inr, Option, Some, None, option_and_then, arith}
use Rattle.std.specs.Prelude.{◌==◌, ◌⊎◌}
use Rattle.std.specs.List.{range_with_len, list_any, cons_option, AllByRecursion}
use Rattle.std.proofs.lemmas.Bool.{eqb-true}
use Rattle.ghost_model.specs.core.Schema.{Schema, parent, ancestor, is_empty}
use Rattle.ghost_model.specs.laws.SchemaTrees.{IsTree}
use Rattle.ghost_model.specs.forms.Layout.{above_of, is_below, descendants_of}
use Rattle.ghost_model.proofs.MeaningLemmas.Leading.{parent_is_table, table_with_parent}

-- a table that is found above another one is a parent
above_is_table : (schema : Schema) (steps table above : ℕ) → ancestor schema (suc steps) table ≡ Some above → above < length schema
unfolding ancestor
above_is_table schema steps table above up = by (ancestor schema steps table) up
  where
    by : (one : Option ℕ) → option_and_then (parent schema) one ≡ Some above → above < length schema
    by None e = absurd (cc e)
    by (Some middle) e = parent_is_table schema middle above e

-- a table without a parent has none above it
none_above : (schema : Schema) (table : ℕ) → parent schema table ≡ None → (steps : ℕ) → ancestor schema (suc steps) table ≡ None
unfolding ancestor
none_above schema table none zero = none
none_above schema table none (suc steps) = ap (option_and_then (parent schema)) (none_above schema table none steps)

none_found : (way : ℕ → Option ℕ) (from count : ℕ) → ((step : ℕ) → way (from + step) ≡ None) → filter_map way (range_with_len from count) ≡ []
none_found way from zero none = refl
none_found way from (suc count) none =
    let here : from + 0 ≡ from = omega arith in
    ap (λ found. cons_option found (filter_map way (range_with_len (from + 1) count))) (sym (ap way here) ∙ none 0)
    ∙ none_found way (from + 1) count (λ step. let later : from + 1 + step ≡ from + suc step = omega arith in ap way later ∙ none (suc step))

module _ (P : ℕ → Type 0) (way : ℕ → Option ℕ) where
  put : (found : Option ℕ) (later : List ℕ) → ((x : ℕ) → found ≡ Some x → P x) → AllByRecursion P later → AllByRecursion P (cons_option found later)
  put None later each rest = rest
  put (Some x) later each rest = (each x refl, rest)

  all_found : (from count : ℕ) → ((step x : ℕ) → way (from + step) ≡ Some x → P x) → AllByRecursion P (filter_map way (range_with_len from count))
  all_found from zero each = tt
  all_found from (suc count) each =
      let here : from + 0 ≡ from = omega arith in
      put (way from) (filter_map way (range_with_len (from + 1) count)) (λ x e. each 0 x (ap way here ∙ e))
      (all_found (from + 1) count (λ step x e. let later : from + 1 + step ≡ from + suc step = omega arith in each (suc step) x (sym (ap way later) ∙ e)))

-- those above a table, by the ways up of one step and more
above_by_steps : (schema : Schema) (table : ℕ) (count : ℕ) → count ≡ length schema
    → (above_of schema table ≡ []) ⊎ ((later : ℕ) × (above_of schema table ≡ filter_map (λ steps. ancestor schema steps table) (range_with_len 1 later)))
unfolding ancestor
above_by_steps schema table zero e = inl (ap (λ count. drop 1 (filter_map (λ steps. ancestor schema steps table) (range_with_len 0 count))) (sym e))
above_by_steps schema table (suc count) e = inr (count, ap (λ count. drop 1 (filter_map (λ steps. ancestor schema steps table) (range_with_len 0 count))) (sym e))

-- a table with one above it is a table
pub low_is_table : (schema : Schema) → IsTree schema → (table : ℕ) → is_empty (above_of schema table) ≡ false → table < length schema
low_is_table schema tree table some = by (parent schema table) refl
  where
    none_is : parent schema table ≡ None → above_of schema table ≡ []
    none_is none =
        elim (above_by_steps schema table (length schema) refl) [
          | inl e ↦ e
          | inr at ↦ at.1 ∙ none_found (λ steps. ancestor schema steps table) 1 at.0 (λ step. let e : 1 + step ≡ suc step = omega arith in ap (λ steps. ancestor schema steps table) e ∙ none_above schema table none step)
        ]

    by : (found : Option ℕ) → parent schema table ≡ found → table < length schema
    by None e = (let clash = sym some ∙ ap is_empty (none_is e) in absurd (cc clash))
    by (Some above) e = table_with_parent schema tree table above e

some_passes : (test : ℕ → Bool) (from count : ℕ) → is_empty (filter test (range_with_len from count)) ≡ false → (one : ℕ) × (test one ≡ true)
some_passes test from zero some = absurd (cc some)
some_passes test from (suc count) some = by (some_passes test (from + 1) count) (test from) refl some
  where
    by : (is_empty (filter test (range_with_len (from + 1) count)) ≡ false → (one : ℕ) × (test one ≡ true))
        → (t : Bool) → test from ≡ t → is_empty (cond t (from ∷ filter test (range_with_len (from + 1) count)) (filter test (range_with_len (from + 1) count))) ≡ false
        → (one : ℕ) × (test one ≡ true)
    by rest true e some = (from, e)
    by rest false e some = rest some

one_of : (most table : ℕ) (tables : List ℕ) → AllByRecursion (λ one. one < most) tables → list_any (λ one. one == table) tables ≡ true → table < most
one_of most table [] all e = absurd (cc e)
one_of most table (one ∷ tables) all e = by (one_of most table tables all.1) (one == table) refl e
  where
    by : (list_any (λ one. one == table) tables ≡ true → table < most)
        → (t : Bool) → (one == table) ≡ t → (t || list_any (λ one. one == table) tables) ≡ true → table < most
    by rest true same e = subst (λ n. n < most) (eqb-true one table same) all.0
    by rest false same e = rest e

-- and one with another below it is
pub high_is_table : (schema : Schema) (table : ℕ) → is_empty (descendants_of schema table) ≡ false → table < length schema
high_is_table schema table some =
    let under = some_passes (is_below schema table) 0 (length schema) some in
    one_of (length schema) table (above_of schema under.0) (within under.0) under.1
  where
    within : (other : ℕ) → AllByRecursion (λ one. one < length schema) (above_of schema other)
    within other =
        let W : List ℕ → Type 0 = AllByRecursion (λ one. one < length schema) in
        elim (above_by_steps schema other (length schema) refl) [
          | inl e ↦ subst W (sym e) tt
          | inr at ↦ subst W (sym at.1) (all_found (λ one. one < length schema) (λ steps. ancestor schema steps other) 1 at.0
              (λ step x e. let s : 1 + step ≡ suc step = omega arith in above_is_table schema step other x (sym (ap (λ steps. ancestor schema steps other) s) ∙ e)))
        ]
