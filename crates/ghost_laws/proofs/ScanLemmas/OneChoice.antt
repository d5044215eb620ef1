-- Of the combinations with one row of the top table of an accepted query, those that meet its joins and another test are
-- the one that the row leads to, or none.
use Rattle.std.proofs.Common.{◌≡◌, ◌≢◌, refl, sym, ap, ◌∙◌, subst, ℕ, zero, suc, ◌+◌, inl, inr, Bool, true, false, not, ◌&&◌, nat_eq, List, [], ◌∷◌, length, map, filter, Option, Some, slice_get, unwrap_or, option_and_then, arith, eqb-true, eq-eqb, if◌then◌else◌}
use Rattle.std.specs.List.{list_all}
use Rattle.std.proofs.lemmas.List.{length-map}
use Rattle.ghost_model.specs.core.Schema.{Schema}
use Rattle.ghost_model.specs.laws.SchemaTrees.{IsTree}
use Rattle.ghost_model.specs.core.Values.{Value, Row, Rows, Database}
use Rattle.ghost_model.specs.core.Query.{Query, Field, Join}
use Rattle.ghost_model.specs.core.Query as query
use Rattle.ghost_model.specs.core.Database.{IsDatabase, rows_of, row_of, row_count, leads}
use Rattle.ghost_model.specs.laws.ShortWords.{rows_or_none, others_of}
use Rattle.ghost_model.specs.core.Meaning.{compares, Pick, pick}
use Rattle.ghost_model.specs.core.Split.{Hidden, hidden_of}
use Rattle.ghost_model.proofs.MeaningLemmas.PartsByFlags.{hidden_rows_at}
use Rattle.ghost_model.proofs.MeaningLemmas.OneRow.{Among, among-filter, from_filter, distinct-filter, IsLinked}
use Rattle.ghost_model.proofs.MeaningLemmas.Leading.{landing, to_itself_within, get_within, place_within}
use Rattle.ghost_laws.proofs.ScanLemmas.Keys.{below_top, IsValues, seen, join_holds, joins_hold, follows}
use Rattle.ghost_laws.proofs.ScanLemmas.Choices.{identifier_within, among_identifiers, chosen_in, chosen_first, chosen_later, chosen_among, picked, picked_has, picked_or_none}
use Rattle.ghost_laws.proofs.ScanLemmas.Accepted.{HasConditions}
use Rattle.ghost_model.proofs.MeaningLemmas.Picks.{picks, identifiers_of}

-- tests of elements
pub all_same : {X : Type 0} (p q : X → Bool) (xs : List X) → ((x : X) → Among x xs → p x ≡ q x) → list_all p xs ≡ list_all q xs
all_same p q [] same = refl
all_same p q (x ∷ xs) same =
    ap (λ v. v && list_all p xs) (same x (inl refl)) ∙ ap (λ v. q x && v) (all_same p q xs (λ y a. same y (inr a)))

pub values_same : (f g : Field → Value) (xs : List Field) → ((x : Field) → Among x xs → f x ≡ g x) → map f xs ≡ map g xs
values_same f g [] same = refl
values_same f g (x ∷ xs) same =
    ap (λ (value : Value). value ∷ map f xs) (same x (inl refl))
    ∙ ap (λ (values : Row). g x ∷ values) (values_same f g xs (λ y a. same y (inr a)))

pub mapped_if : {X Y : Type 0} (f : X → Y) (b : Bool) (x : X) → map f (if b then x ∷ [] else []) ≡ (if b then f x ∷ [] else [])
mapped_if f true x = refl
mapped_if f false x = refl

module _ (schema : Schema) (database : Database) (tree : IsTree schema) (is : IsDatabase schema database) (asked : Query) (top : ℕ) (linked : IsLinked schema asked top) where
  abbrev kept : Hidden
  kept = hidden_of schema database

  pub many : (table : ℕ) → length (rows_or_none (slice_get kept.hidden table)) ≡ row_count database table
  many table =
      ap (λ (rows : Rows). length rows) (hidden_rows_at schema database is.tables table)
      ∙ length-map (rows_of database table) _

  -- an identifier of a row
  row_there : (table identifier : ℕ) → Among identifier (identifiers_of kept table) → (row : Row) × (row_of database table identifier ≡ Some row)
  row_there table zero a =
      let low = (identifier_within 1 (length (rows_or_none (slice_get kept.hidden table))) zero a).0 in
      let bad : ⊥ = omega (arith, low) in
      absurd bad
  row_there table (suc place) a =
      let high = (identifier_within 1 (length (rows_or_none (slice_get kept.hidden table))) (suc place) a).1 in
      let size = many table in
      get_within (rows_of database table) place (omega (arith, high, size))

  there_among : (table identifier : ℕ) (row : Row) → row_of database table identifier ≡ Some row → Among identifier (identifiers_of kept table)
  there_among table zero row h = let bad : ⊥ = cc in absurd bad
  there_among table (suc place) row h =
      let within = place_within (rows_of database table) place row h in
      let size = many table in
      let e : 1 + place ≡ suc place = omega arith in
      subst (λ n. Among n (identifiers_of kept table)) e
      (among_identifiers 1 (length (rows_or_none (slice_get kept.hidden table))) place (omega (arith, within, size)))

  module _ (identifier : ℕ) (row : Row) (there : row_of database top identifier ≡ Some row) where
    -- the row of each table that it leads to
    abbrev pub reach : ℕ → ℕ
    reach table = unwrap_or (leads schema database top identifier table) 0

    pub reached : (table : ℕ) → Among table asked.from → (leads schema database top identifier table ≡ Some (reach table)) × Among (reach table) (identifiers_of kept table)
    reached table a =
        let below = below_top schema tree asked top linked table a in
        let l = landing schema database tree is below.0 top table identifier row below.1 there in
        let it : reach table ≡ l.reached = ap (λ o. unwrap_or o 0) l.led in (
          l.led ∙ ap Some (sym it),
          subst (λ n. Among n (identifiers_of kept table)) (sym it) (there_among table l.reached l.row l.stands),
        )

    -- the combination that the row leads to
    abbrev pub combined : List Pick
    combined = pick top identifier ∷ picked reach (others_of top asked.from)

    not_top : (table : ℕ) → Among table (others_of top asked.from) → top ≢ table
    not_top table a same =
        let m = from_filter (λ t. not (nat_eq t top)) table asked.from a in
        let bad = sym (ap not (eq-eqb table top (sym same))) ∙ m.1 in
        let worse : ⊥ = cc in
        worse

    pub combined_has : (table : ℕ) → Among table asked.from → chosen_in combined table ≡ leads schema database top identifier table
    combined_has table a =
        (elim (nat_eq table top) as (λ v. nat_eq table top ≡ v → chosen_in combined table ≡ leads schema database top identifier table) [
          | true ↦ λ e.
              subst (λ t. chosen_in combined t ≡ leads schema database top identifier t) (sym (eqb-true table top e))
              (chosen_first (pick top identifier) (picked reach (others_of top asked.from)) ∙ sym (to_itself_within schema database schema top identifier top refl))
          | false ↦ λ e.
              (let other = among-filter (λ t. not (nat_eq t top)) table asked.from a (ap not e) in
              chosen_later (pick top identifier) (picked reach (others_of top asked.from)) table (not_top table other)
              ∙ picked_has reach (others_of top asked.from) table other ∙ sym (reached table a).0)
        ]) refl

    module _ (value : (table identifier column : ℕ) → Option Value) (values : IsValues schema database value) where
      -- every join holds where the row leads
      pub join_met : (conditions : HasConditions schema asked) → (one other : Field) → Among (Join one other) asked.conditions
          → compares query.Equal (seen value (chosen_in combined) one) (seen value (chosen_in combined) other) ≡ true
      join_met conditions one other a =
          let from = conditions.from (Join one other) a in
          ap (λ o. compares query.Equal o (seen value (chosen_in combined) other)) (ap (option_and_then (λ n. value one.table n one.column)) (combined_has one.table from.0))
          ∙ ap (λ o. compares query.Equal (seen value (leads schema database top identifier) one) o) (ap (option_and_then (λ n. value other.table n other.column)) (combined_has other.table from.1))
          ∙ joins_hold schema database tree is top identifier value values row there one other (conditions.joins (Join one other) a)
          (below_top schema tree asked top linked one.table from.0) (below_top schema tree asked top linked other.table from.1)

      -- what passes a test that holds the joins
      pub one_or_none : (p : List Pick → Bool)
          → ((x : List Pick) → p x ≡ true → list_all (join_holds value (chosen_in x)) asked.conditions ≡ true)
          → filter p (map (λ others. pick top identifier ∷ others) (picks kept (others_of top asked.from)))
          ≡ (if p combined then combined ∷ [] else [])
      one_or_none p joins =
          picked_or_none kept reach (pick top identifier) (others_of top asked.from)
          (distinct-filter (λ t. not (nat_eq t top)) asked.from linked.distinct)
          (λ table a. (reached table (from_filter (λ t. not (nat_eq t top)) table asked.from a).0).1)
          p
          (λ x f e table a.
          let whole = pick top identifier ∷ x in
          let among = (from_filter (λ t. not (nat_eq t top)) table asked.from a).0 in
          let stand = (λ (t n : ℕ) (h : chosen_in whole t ≡ Some n). row_there t n
          (chosen_among kept (top ∷ others_of top asked.from) whole (refl, there_among top identifier row there, f) t n h)) in
          sym (chosen_later (pick top identifier) x table (not_top table a))
          ∙ follows schema database tree is top identifier value values (chosen_in whole) stand asked linked
          (chosen_first (pick top identifier) x) (joins whole e) table among
          ∙ (reached table among).0)
