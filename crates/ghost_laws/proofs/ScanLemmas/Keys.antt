-- Which rows meet the joins of an accepted query: those that foreign keys lead to, and no others. A choice of rows is a
-- function that gives for each table the identifier of a row; rows lead to one such choice for each row of the top table.
use Rattle.std.proofs.Common.{◌≡◌, ◌≢◌, refl, sym, ap, ◌∙◌, subst, ℕ, zero, suc, ◌+◌, ◌≤◌, ◌⊎◌, inl, inr, pos, negsuc, Bool, true, false, not, ◌&&◌, nat_eq, List, [], ◌∷◌, length, filter, sum_by, Option, Some, None, slice_get, unwrap_or, option_and_then, arith, eqb-true, eq-eqb, if◌then◌else◌}
use Rattle.std.specs.List.{list_all}
use Rattle.std.specs.Cmp.{int_cmp_is}
use Rattle.std.specs.declared.cmp.Ordering.TheVariants as order
use Rattle.std.proofs.lemmas.List.Sums.{sum_by-cons}
use Rattle.ghost_model.specs.core.Schema.{Schema, Column, Table, column_at, parent, is_table, references_to, first_of, places_from, ancestor, IsAtOrBelow}
use Rattle.ghost_model.specs.laws.SchemaTrees.{IsTree}
use Rattle.ghost_model.specs.core.Values.{Value, Null, Number, Text, Row, Database}
use Rattle.ghost_model.specs.core.Query.{Query, Field, Condition, OneOf, Join}
use Rattle.ghost_model.specs.core.Query as query
use Rattle.ghost_model.specs.refusals.QueryMeaning.{is_reference_to, is_join_of}
use Rattle.ghost_model.specs.core.Database.{IsDatabase, row_of, value_at_row, identifier_in, reference_column, points_to, leads}
use Rattle.ghost_model.specs.core.Meaning.{compares}
use Rattle.ghost_model.proofs.MeaningLemmas.OneRow.{Among, among-filter, length-without, LeadsUp, leads_once, leads_on, IsLinked, both_true, either_true, any_of, both_are, key_child, held_by, in_table, place_told, not_empty}
use Rattle.ghost_model.proofs.MeaningLemmas.Leading.{first_step, one_step_more, no_step, different, onwards, to_itself_within, along, landing, points_somewhere}

-- each FROM table is the top one or lies below it; `left` has the FROM tables from which the table is not reached
below_within : (schema : Schema) → IsTree schema → (asked : Query) (top : ℕ) → IsLinked schema asked top
    → (n : ℕ) (left : List ℕ) (table : ℕ) → length left ≤ n → Among table asked.from
    → ((other : ℕ) → Among other asked.from → Among other left ⊎ LeadsUp schema other table)
    → IsAtOrBelow schema top table
unfolding ancestor
below_within schema tree asked top linked zero left table short h cover =
    (elim (cover table h) [
      | inl here ↦ (let fewer = length-without table left here in let bad : ⊥ = omega arith in absurd bad)
      | inr l ↦ absurd (tree.no_cycle table (record { steps = l.0; moves = l.1; back = l.2 }))
    ])
below_within schema tree asked top linked (suc n) left table short h cover =
    (elim (nat_eq table top) as (λ v. nat_eq table top ≡ v → IsAtOrBelow schema top table) [
      | true ↦ λ e. (0, ap Some (eqb-true table top e))
      | false ↦ λ e.
          (let differ : table ≢ top = (λ s. (let bad = sym (eq-eqb table top s) ∙ e in let worse : ⊥ = cc in worse)) in
          let up = linked.upward table h differ in
          (elim (cover table h) [
            | inr l ↦ absurd (tree.no_cycle table (record { steps = l.0; moves = l.1; back = l.2 }))
            | inl here ↦ (let fewer = length-without table left here in
                let above = below_within schema tree asked top linked n (filter (λ u. not (nat_eq u table)) left) up.above (omega arith) up.stands
                (λ other ho. (elim (cover other ho) [
                  | inr l ↦ inr (leads_on schema other table up.above l up.is_parent)
                  | inl stays ↦ (elim (nat_eq other table) as (λ v. nat_eq other table ≡ v → Among other (filter (λ u. not (nat_eq u table)) left) ⊎ LeadsUp schema other up.above) [
                    | true ↦ λ s. inr (subst (λ w. LeadsUp schema w up.above) (sym (eqb-true other table s)) (leads_once schema table up.above up.is_parent))
                    | false ↦ λ s. inl (among-filter (λ u. not (nat_eq u table)) other left stays (ap not s))
                  ]) refl
                ])) in
                (suc above.0, one_step_more schema above.0 top table up.above up.is_parent above.1))
          ]))
    ]) refl

pub below_top : (schema : Schema) → IsTree schema → (asked : Query) (top : ℕ) → IsLinked schema asked top
    → (table : ℕ) → Among table asked.from → IsAtOrBelow schema top table
below_top schema tree asked top linked table h =
    below_within schema tree asked top linked (length asked.from) asked.from table (omega arith) h (λ other ho. inl ho)

-- the one place that is told
one_place : {X : Type 0} (p : X → Bool) (at : ℕ) (xs : List X) (i : ℕ) (x : X) → slice_get xs i ≡ Some x → p x ≡ true
    → length (places_from p at xs) ≤ 1 → first_of (places_from p at xs) ≡ Some (at + i)
unfolding places_from
one_place p at [] i x h px few = let bad : ⊥ = cc in absurd bad
one_place p at (y ∷ ys) zero x h px few =
    let here : p y ≡ true = subst (λ w. p w ≡ true) (sym (ap (λ o. unwrap_or o y) h)) px in
    let e : at ≡ at + 0 = omega arith in
    ap (λ v. first_of (if v then at ∷ places_from p (at + 1) ys else places_from p (at + 1) ys)) here ∙ ap Some e
one_place p at (y ∷ ys) (suc i) x h px few =
    let rest = places_from p (at + 1) ys in
    let some = not_empty rest (place_told p (at + 1) ys i x h px) in
    let e : at + 1 + i ≡ at + suc i = omega arith in
    (elim (p y) as (λ v. length (if v then at ∷ rest else rest) ≤ 1 → first_of (if v then at ∷ rest else rest) ≡ Some (at + suc i)) [
      | true ↦ λ f. (let bad : ⊥ = omega (arith, f, some) in absurd bad)
      | false ↦ λ f. one_place p (at + 1) ys i x h px f ∙ ap Some e
    ]) few

part_of_sum : {X : Type 0} (f : X → ℕ) (xs : List X) (i : ℕ) (x : X) → slice_get xs i ≡ Some x → f x ≤ sum_by f xs
part_of_sum f [] i x h = let bad : ⊥ = cc in absurd bad
part_of_sum f (y ∷ ys) zero x h =
    let same : f y ≡ f x = ap (λ o. f (unwrap_or o y)) h in
    let all = sum_by-cons f y ys in
    omega arith
part_of_sum f (y ∷ ys) (suc i) x h =
    let part = part_of_sum f ys i x h in
    let all = sum_by-cons f y ys in
    omega arith

-- a foreign key and the identifier that it names
pub record KeyTo (schema : Schema) (key identifier : Field) : Type 0 where
  pub declared : Column
  pub at_key : column_at schema key.table key.column ≡ Some declared
  pub names : declared.child ≡ Some identifier.table
  pub first : identifier.column ≡ 0
  pub up : parent schema identifier.table ≡ Some key.table
  pub found : reference_column schema key.table identifier.table ≡ Some key.column

key_found : (schema : Schema) → IsTree schema → (table column child : ℕ) (declared : Column)
    → column_at schema table column ≡ Some declared → declared.child ≡ Some child
    → reference_column schema table child ≡ Some column
key_found schema tree table column child declared h hc =
    let t = in_table (slice_get schema table) column declared h in
    let told : is_table child declared.child ≡ true = ap (is_table child) hc ∙ eq-eqb child child refl in
    let few = tree.one_parent child (tree.references_name_tables table column child declared h hc) in
    let part = part_of_sum (λ (w : Table). length (references_to child w)) schema table t.0 t.1 in
    let e : 0 + column ≡ column = omega arith in
    ap (option_and_then (λ held. first_of (references_to child held))) t.1
    ∙ one_place (λ (w : Column). is_table child w.child) 0 t.0.columns column declared t.2 told (omega arith)
    ∙ ap Some e

pub key_to : (schema : Schema) → IsTree schema → (key identifier : Field) → is_reference_to schema key identifier ≡ true
    → KeyTo schema key identifier
key_to schema tree key identifier h =
    let k = both_true (is_table identifier.table (option_and_then (λ (column : Column). column.child) (column_at schema key.table key.column))) (nat_eq identifier.column 0) h in
    let d = key_child identifier.table (column_at schema key.table key.column) k.0 in
    record {
      declared = d.0;
      at_key = d.1;
      names = d.2;
      first = eqb-true identifier.column 0 k.1;
      up = held_by schema tree key.table key.column identifier.table d.0 d.1 d.2;
      found = key_found schema tree key.table key.column identifier.table d.0 d.1 d.2;
    }

-- values by table, identifier and column, those of identifiers and foreign keys being the database's
pub record IsValues (schema : Schema) (database : Database) (value : (table identifier column : ℕ) → Option Value) : Type 0 where
  pub numbered : (table identifier : ℕ) (row : Row) → row_of database table identifier ≡ Some row
      → value table identifier 0 ≡ Some (Number (pos identifier))
  pub keys : (table identifier column child : ℕ) (declared : Column) → column_at schema table column ≡ Some declared
      → declared.child ≡ Some child → value table identifier column ≡ value_at_row database table identifier column

-- the value of a column in a choice of rows
abbrev pub seen : ((table identifier column : ℕ) → Option Value) → (at : ℕ → Option ℕ) → Field → Option Value
seen value at wanted = option_and_then (λ identifier. value wanted.table identifier wanted.column) (at wanted.table)

abbrev pub join_holds : ((table identifier column : ℕ) → Option Value) → (at : ℕ → Option ℕ) → Condition → Bool
join_holds value at (OneOf first others) = true
join_holds value at (Join one other) = compares query.Equal (seen value at one) (seen value at other)

identifier_back : (o : Option Value) (identifier : ℕ) → identifier_in o ≡ Some identifier → o ≡ Some (Number (pos identifier))
identifier_back None identifier h = cc
identifier_back (Some Null) identifier h = let bad : ⊥ = cc in absurd bad
identifier_back (Some (Text text)) identifier h = let bad : ⊥ = cc in absurd bad
identifier_back (Some (Number (pos n))) identifier h = ap (λ o. Some (Number (pos (unwrap_or o n)))) h
identifier_back (Some (Number (negsuc n))) identifier h = let bad : ⊥ = cc in absurd bad

found_at : {X Y : Type 0} (f : X → Option Y) (o : Option X) (y : Y) → option_and_then f o ≡ Some y
    → (x : X) × (o ≡ Some x) × (f x ≡ Some y)
found_at f None y h = let bad : ⊥ = cc in absurd bad
found_at f (Some x) y h = (x, refl, h)

equal_numbers : (a b : Option Value) (n : ℕ) → a ≡ Some (Number (pos n)) → b ≡ Some (Number (pos n))
    → compares query.Equal a b ≡ true
equal_numbers a b n h k =
    let same : order.Equal ≡ _ = int_cmp_is (pos n) (pos n) order.Equal refl in
    rw (h, k, sym same) refl

module _ (schema : Schema) (database : Database) (tree : IsTree schema) (is : IsDatabase schema database) (top identifier : ℕ) where
  -- the choice that a row of the top table leads to
  abbrev led : ℕ → Option ℕ
  led table = leads schema database top identifier table

  module _ (value : (table identifier column : ℕ) → Option Value) (values : IsValues schema database value) where
    -- a key and the identifier that it names are equal where the row leads
    key_holds : (row : Row) → row_of database top identifier ≡ Some row → (key named : Field) → KeyTo schema key named
        → IsAtOrBelow schema top key.table
        → (n : ℕ) × (seen value led key ≡ Some (Number (pos n))) × (seen value led named ≡ Some (Number (pos n)))
    key_holds row there key named k below =
        let above = landing schema database tree is below.0 top key.table identifier row below.1 there in
        let p = points_somewhere schema database tree is key.table named.table above.reached above.row k.up above.stands in
        let read : identifier_in (value_at_row database key.table above.reached key.column) ≡ Some p.0 =
        sym (ap (option_and_then (λ column. identifier_in (value_at_row database key.table above.reached column))) k.found) ∙ p.2 in
        let led_to : led named.table ≡ Some p.0 =
        along schema database tree below.0 top key.table named.table identifier below.1 k.up
        ∙ ap (onwards schema database key.table named.table) above.led ∙ p.2 in (
          p.0,
          ap (option_and_then (λ n. value key.table n key.column)) above.led
              ∙ values.keys key.table above.reached key.column named.table k.declared k.at_key k.names
              ∙ identifier_back (value_at_row database key.table above.reached key.column) p.0 read,
          ap (option_and_then (λ n. value named.table n named.column)) led_to ∙ ap (value named.table p.0) k.first
              ∙ values.numbered named.table p.0 p.1 p.3,
        )

    -- so each join holds there
    pub joins_hold : (row : Row) → row_of database top identifier ≡ Some row → (one other : Field)
        → (is_reference_to schema one other ≡ true) ⊎ (is_reference_to schema other one ≡ true)
        → IsAtOrBelow schema top one.table → IsAtOrBelow schema top other.table
        → compares query.Equal (seen value led one) (seen value led other) ≡ true
    joins_hold row there one other (inl h) below_one below_other =
        let k = key_holds row there one other (key_to schema tree one other h) below_one in
        equal_numbers (seen value led one) (seen value led other) k.0 k.1 k.2
    joins_hold row there one other (inr h) below_one below_other =
        let k = key_holds row there other one (key_to schema tree other one h) below_other in
        equal_numbers (seen value led one) (seen value led other) k.0 k.2 k.1

    module _ (at : ℕ → Option ℕ) (stand : (table n : ℕ) → at table ≡ Some n → (row : Row) × (row_of database table n ≡ Some row)) where
      -- a choice in which a key and the identifier that it names are equal goes where the row leads
      by_key : (key named : Field) → KeyTo schema key named → IsAtOrBelow schema top key.table → at key.table ≡ led key.table
          → (v : Value) → seen value at key ≡ Some v → seen value at named ≡ Some v → at named.table ≡ led named.table
      by_key key named k below same v hk hn =
          let x = found_at (λ n. value key.table n key.column) (at key.table) v hk in
          let y = found_at (λ n. value named.table n named.column) (at named.table) v hn in
          let row = stand named.table y.0 y.1 in
          let number : Some v ≡ Some (Number (pos y.0)) =
          sym y.2 ∙ ap (value named.table y.0) k.first ∙ values.numbered named.table y.0 row.0 row.1 in
          let stands : value_at_row database key.table x.0 key.column ≡ Some (Number (pos y.0)) =
          sym (values.keys key.table x.0 key.column named.table k.declared k.at_key k.names) ∙ x.2 ∙ number in
          let points : points_to schema database key.table x.0 named.table ≡ Some y.0 =
          ap (option_and_then (λ column. identifier_in (value_at_row database key.table x.0 column))) k.found
          ∙ ap identifier_in stands in
          y.1
          ∙ sym (along schema database tree below.0 top key.table named.table identifier below.1 k.up
          ∙ ap (onwards schema database key.table named.table) (sym same ∙ x.1) ∙ points)

      -- the table above is the key's
      by_key_of : (above table : ℕ) → parent schema table ≡ Some above → IsAtOrBelow schema top above → at above ≡ led above
          → (key named : Field) → is_reference_to schema key named ≡ true → nat_eq named.table table ≡ true
          → (v : Value) → seen value at key ≡ Some v → seen value at named ≡ Some v → at table ≡ led table
      by_key_of above table up below same key named h e v hk hn =
          let k = key_to schema tree key named h in
          let it : named.table ≡ table = eqb-true named.table table e in
          let parents : Some above ≡ Some key.table = sym up ∙ ap (parent schema) (sym it) ∙ k.up in
          let is_above : above ≡ key.table = ap (λ o. unwrap_or o above) parents in
          subst (λ t. at t ≡ led t) it
          (by_key key named k (subst (λ a. IsAtOrBelow schema top a) is_above below) (subst (λ a. at a ≡ led a) is_above same) v hk hn)

      by_join : (above table : ℕ) → parent schema table ≡ Some above → IsAtOrBelow schema top above → at above ≡ led above
          → (condition : Condition) → is_join_of schema table condition ≡ true → join_holds value at condition ≡ true
          → at table ≡ led table
      by_join above table up below same (OneOf first others) h holds = let bad : ⊥ = cc in absurd bad
      by_join above table up below same (Join left right) h holds =
          let both = both_are (seen value at left) (seen value at right) holds in
          (elim (either_true (is_reference_to schema left right && nat_eq right.table table) (is_reference_to schema right left && nat_eq left.table table) h) [
            | inl one ↦ (let e = both_true (is_reference_to schema left right) (nat_eq right.table table) one in
                by_key_of above table up below same left right e.0 e.1 both.0 both.1 both.2)
            | inr other ↦ (let e = both_true (is_reference_to schema right left) (nat_eq left.table table) other in
                by_key_of above table up below same right left e.0 e.1 both.0 both.2 both.1)
          ])

      -- a choice that meets the joins goes where the row leads
      follows_within : (asked : Query) → IsLinked schema asked top → at top ≡ Some identifier
          → list_all (join_holds value at) asked.conditions ≡ true
          → (steps table : ℕ) → Among table asked.from → ancestor schema steps table ≡ Some top → at table ≡ led table
      follows_within asked linked at_top joins zero table among h =
          subst (λ t. at t ≡ led t) (no_step schema top table h)
          (at_top ∙ sym (to_itself_within schema database schema top identifier top refl))
      follows_within asked linked at_top joins (suc steps) table among h =
          let differ = different schema tree steps top table h in
          let up = linked.upward table among (λ e. differ (sym e)) in
          let first = first_step schema steps top table h in
          let parents : Some first.0 ≡ Some up.above = sym first.1 ∙ up.is_parent in
          let way : ancestor schema steps up.above ≡ Some top =
          subst (λ a. ancestor schema steps a ≡ Some top) (ap (λ o. unwrap_or o first.0) parents) first.2 in
          let found = any_of (is_join_of schema table) (join_holds value at) (join_holds value at) asked.conditions up.joined joins joins in
          by_join up.above table up.is_parent (steps, way)
          (follows_within asked linked at_top joins steps up.above up.stands way) found.0 found.1 found.2

      pub follows : (asked : Query) → IsLinked schema asked top → at top ≡ Some identifier
          → list_all (join_holds value at) asked.conditions ≡ true → (table : ℕ) → Among table asked.from → at table ≡ led table
      follows asked linked at_top joins table among =
          let below = below_top schema tree asked top linked table among in
          follows_within asked linked at_top joins below.0 table among below.1
