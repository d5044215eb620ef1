-- The columns that an accepted query selects and tests are columns of the schema.
use Rattle.std.proofs.Common.{◌≡◌, ℕ, suc, ◌+◌, inl, inr, Bool, true, false, List, [], ◌∷◌, filter, sym, ◌∙◌, ap, subst, refl, arith, Option, Some, None, option_map, unwrap_or, slice_get, bytes_eq, if◌then◌else◌}
use Rattle.std.specs.Prelude.{option_to_list}
use Rattle.ghost_model.specs.core.Schema.{Schema, Column, columns_of, column_at, places_from, places_where, first_of, is_table, column_named}
use Rattle.ghost_model.specs.core.Query.{Query, Field, Condition}
use Rattle.ghost_model.specs.refusals.QueryGrammar.{ColumnText, Bare, Qualified, Selection, All, Columns}
use Rattle.ghost_model.specs.refusals.QueryMeaning.{field, table_named, fields_named, fields_of, meanings, selected_fields, resolved, Means}
use Rattle.ghost_model.proofs.MeaningLemmas.OneRow.{Among, from_map}
use Rattle.ghost_laws.proofs.ScanLemmas.Choices.{from_flat}
use Rattle.ghost_laws.proofs.ScanLemmas.Accepted.{With, conditions_with}

-- a place that is told has an element
pub place_has : {X : Type 0} (p : X → Bool) (at : ℕ) (xs : List X) (i : ℕ) → Among i (places_from p at xs)
    → (k : ℕ) × (x : X) × (i ≡ at + k) × (slice_get xs k ≡ Some x)
unfolding places_from
place_has p at [] i h = absurd h
place_has {X = X} p at (y ∷ ys) i h =
    let rest = places_from p (at + 1) ys in
    let on : Among i rest → (k : ℕ) × (x : X) × (i ≡ at + k) × (slice_get (y ∷ ys) k ≡ Some x) =
    λ later. (let r = place_has p (at + 1) ys i later in let further = r.2 in let same : i ≡ at + suc r.0 = omega (arith, further) in (suc r.0, r.1, same, r.3)) in
    (elim (p y) as (λ v. Among i (if v then at ∷ rest else rest) → (k : ℕ) × (x : X) × (i ≡ at + k) × (slice_get (y ∷ ys) k ≡ Some x)) [
      | true ↦ λ a. (elim a [ inl same ↦ (let e : i ≡ at + 0 = omega (arith, same) in (0, y, e, refl)) | inr later ↦ on later ])
      | false ↦ λ a. on a
    ]) h

first_among : {X : Type 0} (xs : List X) (x : X) → first_of xs ≡ Some x → Among x xs
first_among [] x h = let bad : ⊥ = cc in absurd bad
first_among (y ∷ ys) x h = inl (ap (λ o. unwrap_or o y) h)

module _ (schema : Schema) where
  abbrev pub HasColumn : Field → Type 0
  HasColumn one = (declared : Column) × (column_at schema one.table one.column ≡ Some declared)

  column_there : (table column : ℕ) (p : Column → Bool) → Among column (places_where p (columns_of schema table)) → HasColumn (field table column)
  column_there table column p a =
      let r = place_has p 0 (columns_of schema table) column a in
      let moved = r.2 in
      let same : column ≡ r.0 = omega (arith, moved) in
      (r.1, ap (column_at schema table) same ∙ r.3)

  named_by : (table : ℕ) (name : List ℕ) (o : Option ℕ) → column_named schema table name ≡ o → (one : Field)
      → Among one (option_to_list (option_map (field table) o)) → HasColumn one
  named_by table name None h one a = absurd a
  named_by table name (Some column) h one (inl same) =
      subst (λ f. HasColumn f) same
      (column_there table column (λ declared. bytes_eq declared.name name) (first_among (places_where (λ (declared : Column). bytes_eq declared.name name) (columns_of schema table)) column h))
  named_by table name (Some column) h one (inr none) = absurd none

  pub meant_has : (from : List ℕ) (column : ColumnText) (one : Field) → Among one (meanings schema from column) → HasColumn one
  meant_has from (Bare name) one a =
      let r = from_flat (fields_named schema name) one from a in
      named_by r.0 name (column_named schema r.0 name) refl one r.2
  meant_has from (Qualified table name) one a =
      let r = from_flat (fields_named schema name) one (filter (λ other. is_table other (table_named schema table)) from) a in
      named_by r.0 name (column_named schema r.0 name) refl one r.2

  selected_has : (from : List ℕ) (selection : Selection) (one : Field) → Among one (selected_fields schema from selection) → HasColumn one
  selected_has from All one a =
      let r = from_flat (fields_of schema) one from a in
      let q = from_map (field r.0) one (places_where (λ _. true) (columns_of schema r.0)) r.2 in
      subst (λ f. HasColumn f) q.2 (column_there r.0 q.0 (λ _. true) q.1)
  selected_has from (Columns column more) one a =
      let r = from_flat (meanings schema from) one (column ∷ more) a in
      meant_has from r.0 one r.2

pub select_has : (schema : Schema) (text : List ℕ) (asked : Query) → Means schema text asked → (one : Field) → Among one asked.select
    → HasColumn schema one
select_has schema text asked means =
    subst (λ (q : Query). (one : Field) → Among one q.select → HasColumn schema one) (sym means.means)
    (selected_has schema (resolved schema means.tree).from means.tree.selection)

pub conditions_have : (schema : Schema) (text : List ℕ) (asked : Query) → Means schema text asked → (c : Condition) → Among c asked.conditions
    → With (HasColumn schema) c
conditions_have schema text asked means =
    let it : Query = resolved schema means.tree in
    subst (λ (q : Query). (c : Condition) → Among c q.conditions → With (HasColumn schema) c) (sym means.means)
    (conditions_with schema it.from (HasColumn schema) (meant_has schema it.from) means.tree.conditions)
