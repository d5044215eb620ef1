-- The answer of a query with each of its joins once.
use Rattle.std.proofs.Common.{◌≡◌, ℕ, Bool, true, false, not, ◌&&◌, ◌||◌, ◌==◌, cond, if◌then◌else◌, ◌⊎◌, inl, inr, List, [], ◌∷◌, ◌++◌, map, filter, flat_map, Option, Some, None, append_assoc, refl, ap, ap₂, sym, subst, ◌∙◌}
use Rattle.std.specs.Prelude.{option_map, option_to_list}
use Rattle.std.specs.List.{list_any, list_all, range_with_len}
use Rattle.std.specs.declared.cmp.Ordering.{Ordering}
use Rattle.std.specs.declared.cmp.Ordering.TheVariants as order
use Rattle.std.proofs.lemmas.Bool.{and_parts, eqb-true, eq-eqb}
use Rattle.std.proofs.lemmas.List.Folds.{list_any-append, list_all-append}
use Rattle.std.proofs.lemmas.List.Elements.{filter-append}
use Rattle.ghost_base.specs.CellLaws.{ValuesAreOrdered}
use Rattle.ghost_model.specs.core.Schema.{Schema, parent, is_table, first_of, column_named}
use Rattle.ghost_model.specs.laws.SchemaTrees.{IsTree}
use Rattle.ghost_model.specs.core.Values.{Value, Database, is_null}
use Rattle.ghost_model.specs.core.Database.{order_of, meets, holds}
use Rattle.ghost_model.specs.laws.ShortWords as short
use Rattle.ghost_model.specs.core.Query as query
use Rattle.ghost_model.specs.core.Query.{Query, Field, Condition, OneOf, Join, is_among, is_some_among, top_of}
use Rattle.ghost_model.specs.refusals.QueryGrammar as grammar
use Rattle.ghost_model.specs.refusals.QueryGrammar.{ColumnText, Bare, Qualified, ConditionText, QueryText}
use Rattle.ghost_model.specs.refusals.QueryMeaning.{field, table_named, fields_named, meanings, members_meant, group_of, conditions_of, resolved, from_tables, is_reference_to, is_proper, is_join_of, lacks_join, is_unlinked, value_of_literal}
use Rattle.ghost_model.specs.core.Meaning as meaning
use Rattle.ghost_model.specs.core.Meaning.{Source, pick, compares, is_kept, answer_of_row, answer_by_top, all_of, answer}
use Rattle.ghost_model.specs.forms.Left.{is_left, without_left}
use Rattle.spj_parse.specs.Resolved.{is_group, keys_between, join_by, join_with, join_to, joins_of, linked}
use Rattle.spj_parse.proofs.KeyLemmas.{join_is}
use Rattle.spj_parse.proofs.LinkedLemmas.{filter_same}

-- a combination with the source of its values
record Combination : Type 0 where
  source : Source
  rows : meaning.Combination

abbrev value_in : Combination → Field → Option Value
value_in row wanted = meaning.value_in row.source row.rows wanted

abbrev is_true_in : Combination → Condition → Bool
is_true_in row condition = meaning.is_true_in row.source row.rows condition

abbrev passes : List Condition → Combination → Bool
passes conditions row = list_all (is_true_in row) conditions

-- equality of values is symmetric

equal_order : (o : Ordering) → meets query.Equal o ≡ true → o ≡ order.Equal
equal_order order.Equal h = refl
equal_order order.Less h = absurd (let no : false ≡ true = h in cc)
equal_order order.Greater h = absurd (let no : false ≡ true = h in cc)

same_bool : (a b : Bool) → (a ≡ true → b ≡ true) → (b ≡ true → a ≡ true) → a ≡ b
same_bool true b f g = sym (f refl)
same_bool false true f g = g refl
same_bool false false f g = refl

turned : ValuesAreOrdered → (a b : Value) → holds query.Equal a b ≡ true → holds query.Equal b a ≡ true
turned laws a b h =
    let same : a ≡ b = laws.same a b (equal_order (order_of a b) (and_parts (not (is_null a || is_null b)) (meets query.Equal (order_of a b)) h).1) in
    subst (λ (x : Value). holds query.Equal b x ≡ true) (sym same) (subst (λ (x : Value). holds query.Equal x b ≡ true) same h)

swapped : ValuesAreOrdered → (a b : Option Value) → compares query.Equal a b ≡ compares query.Equal b a
swapped laws None None = refl
swapped laws None (Some b) = refl
swapped laws (Some a) None = refl
swapped laws (Some a) (Some b) = same_bool (holds query.Equal a b) (holds query.Equal b a) (turned laws a b) (turned laws b a)

-- a join is as true as that of the table that it joins

and_one : (b : Bool) → (b && true) ≡ b
and_one true = refl
and_one false = refl

or_parts : (a b : Bool) → (a || b) ≡ true → (a ≡ true) ⊎ (b ≡ true)
or_parts true b h = inl refl
or_parts false b h = inr h

join_true : ValuesAreOrdered → (schema : Schema) → IsTree schema → (from : List ℕ) (row : Combination) (table : ℕ) (left right : Field) → is_join_of schema table (Join left right) ≡ true
    → is_among from left.table ≡ true → is_among from right.table ≡ true → list_all (is_true_in row) (join_to schema from table) ≡ is_true_in row (Join left right)
join_true laws schema tree from row table left right h l r =
    elim (or_parts (is_reference_to schema left right && right.table == table) (is_reference_to schema right left && left.table == table) h) [
      | inl e ↦
          let both = and_parts (is_reference_to schema left right) (right.table == table) e in
          ap (λ (t : ℕ). list_all (is_true_in row) (join_to schema from t)) (sym (eqb-true right.table table both.1))
          ∙ ap (list_all (is_true_in row)) (join_is schema tree from left right both.0 l) ∙ and_one (is_true_in row (Join left right))
      | inr e ↦
          let both = and_parts (is_reference_to schema right left) (left.table == table) e in
          ap (λ (t : ℕ). list_all (is_true_in row) (join_to schema from t)) (sym (eqb-true left.table table both.1))
          ∙ ap (list_all (is_true_in row)) (join_is schema tree from right left both.0 r) ∙ and_one (is_true_in row (Join right left))
          ∙ swapped laws (value_in row right) (value_in row left)
    ]

-- the columns of a join are of FROM tables

abbrev within : (from : List ℕ) → Condition → Bool
within from (OneOf first others) = true
within from (Join left right) = is_among from left.table && is_among from right.table

pub both_true : (a b : Bool) → a ≡ true → b ≡ true → (a && b) ≡ true
both_true true b e h = h
both_true false b e h = absurd (let no : false ≡ true = e in cc)

found : (a b c : Bool) → b ≡ true → (a || (b || c)) ≡ true
found true b c e = refl
found false true c e = refl
found false false c e = absurd (let no : false ≡ true = e in cc)

self_from : (front xs : List ℕ) → list_all (is_among (front ++ xs)) xs ≡ true
self_from front [] = refl
self_from front (x ∷ xs) =
    both_true (is_among (front ++ x ∷ xs) x) (list_all (is_among (front ++ x ∷ xs)) xs)
    (list_any-append (λ other. other == x) front (x ∷ xs) ∙ found (list_any (λ other. other == x) front) (x == x) (list_any (λ other. other == x) xs) (eq-eqb x x refl))
    (subst (λ (all : List ℕ). list_all (is_among all) xs ≡ true) (append_assoc front (x ∷ []) xs) (self_from (front ++ x ∷ []) xs))

kept_all : {X : Type 0} (p : X → Bool) (x : X) (rest : List X) (b : Bool) → p x ≡ true → list_all p rest ≡ true → list_all p (cond b (x ∷ rest) rest) ≡ true
kept_all p x rest true e h = both_true (p x) (list_all p rest) e h
kept_all p x rest false e h = h

pub all_filter : {X : Type 0} (p test : X → Bool) (xs : List X) → list_all p xs ≡ true → list_all p (filter test xs) ≡ true
all_filter p test [] h = refl
all_filter p test (x ∷ xs) h = kept_all p x (filter test xs) (test x) (and_parts (p x) (list_all p xs) h).0 (all_filter p test xs (and_parts (p x) (list_all p xs) h).1)

abbrev of_from : (from : List ℕ) → Field → Bool
of_from from place = is_among from place.table

named_from : (from : List ℕ) (table : ℕ) (found : Option ℕ) → is_among from table ≡ true → list_all (of_from from) (option_to_list (option_map (field table) found)) ≡ true
named_from from table None h = refl
named_from from table (Some column) h = both_true (is_among from table) true h refl

fields_from : (schema : Schema) (name : List ℕ) (from tables : List ℕ) → list_all (is_among from) tables ≡ true → list_all (of_from from) (flat_map (fields_named schema name) tables) ≡ true
fields_from schema name from [] h = refl
fields_from schema name from (table ∷ tables) h =
    let parts = and_parts (is_among from table) (list_all (is_among from) tables) h in
    list_all-append (of_from from) (fields_named schema name table) (flat_map (fields_named schema name) tables)
    ∙ both_true (list_all (of_from from) (fields_named schema name table)) (list_all (of_from from) (flat_map (fields_named schema name) tables))
    (named_from from table (column_named schema table name) parts.0) (fields_from schema name from tables parts.1)

meanings_from : (schema : Schema) (from : List ℕ) (column : ColumnText) → list_all (of_from from) (meanings schema from column) ≡ true
meanings_from schema from (Bare name) = fields_from schema name from from (self_from [] from)
meanings_from schema from (Qualified table name) = fields_from schema name from (filter (λ other. is_table other (table_named schema table)) from) (all_filter (is_among from) (λ other. is_table other (table_named schema table)) from (self_from [] from))

group_within : (from : List ℕ) (members : List query.Member) → list_all (within from) (group_of members) ≡ true
group_within from [] = refl
group_within from (first ∷ others) = refl

bounds_within : (from : List ℕ) (low high : Value) (fields : List Field) → list_all (within from) (flat_map (λ place. query.compared place query.AtLeast low ∷ query.compared place query.AtMost high ∷ []) fields) ≡ true
bounds_within from low high [] = refl
bounds_within from low high (place ∷ fields) = bounds_within from low high fields

rights_within : (from : List ℕ) (left : Field) (fields : List Field) → is_among from left.table ≡ true → list_all (of_from from) fields ≡ true → list_all (within from) (map (Join left) fields) ≡ true
rights_within from left [] h g = refl
rights_within from left (right ∷ fields) h g =
    let parts = and_parts (of_from from right) (list_all (of_from from) fields) g in
    both_true (within from (Join left right)) (list_all (within from) (map (Join left) fields)) (both_true (is_among from left.table) (is_among from right.table) h parts.0) (rights_within from left fields h parts.1)

joins_within : (from : List ℕ) (lefts rights : List Field) → list_all (of_from from) lefts ≡ true → list_all (of_from from) rights ≡ true → list_all (within from) (flat_map (λ left. map (Join left) rights) lefts) ≡ true
joins_within from [] rights h g = refl
joins_within from (left ∷ lefts) rights h g =
    let parts = and_parts (of_from from left) (list_all (of_from from) lefts) h in
    list_all-append (within from) (map (Join left) rights) (flat_map (λ other. map (Join other) rights) lefts)
    ∙ both_true (list_all (within from) (map (Join left) rights)) (list_all (within from) (flat_map (λ other. map (Join other) rights) lefts))
    (rights_within from left rights parts.0 g) (joins_within from lefts rights parts.1 g)

condition_within : (schema : Schema) (from : List ℕ) (condition : ConditionText) → list_all (within from) (conditions_of schema from condition) ≡ true
condition_within schema from (grammar.Alone member) = group_within from (members_meant schema from member)
condition_within schema from (grammar.AnyOf first second others) = group_within from (flat_map (members_meant schema from) (first ∷ second ∷ others))
condition_within schema from (grammar.LiesBetween column low high) = bounds_within from (value_of_literal low) (value_of_literal high) (meanings schema from column)
condition_within schema from (grammar.Joins left right) = joins_within from (meanings schema from left) (meanings schema from right) (meanings_from schema from left) (meanings_from schema from right)

pub all_within : (schema : Schema) (from : List ℕ) (conditions : List ConditionText) → list_all (within from) (flat_map (conditions_of schema from) conditions) ≡ true
all_within schema from [] = refl
all_within schema from (condition ∷ conditions) =
    list_all-append (within from) (conditions_of schema from condition) (flat_map (conditions_of schema from) conditions)
    ∙ both_true (list_all (within from) (conditions_of schema from condition)) (list_all (within from) (flat_map (conditions_of schema from) conditions)) (condition_within schema from condition) (all_within schema from conditions)

-- the joins of the text and those of its tables are true together

all_flat : {X Y : Type 0} (test : Y → Bool) (parts : X → List Y) (xs : List X) → list_all test (flat_map parts xs) ≡ list_all (λ x. list_all test (parts x)) xs
all_flat test parts [] = refl
all_flat test parts (x ∷ xs) = list_all-append test (parts x) (flat_map parts xs) ∙ ap (λ b. list_all test (parts x) && b) (all_flat test parts xs)

at_table : (J : ℕ → Bool) (from : List ℕ) (table : ℕ) → is_among from table ≡ true → list_all J from ≡ true → J table ≡ true
at_table J [] table h g = absurd (let no : false ≡ true = h in cc)
at_table J (x ∷ xs) table h g =
    let parts = and_parts (J x) (list_all J xs) g in
    elim (or_parts (x == table) (is_among xs table) h) [
      | inl e ↦ subst (λ (t : ℕ). J t ≡ true) (eqb-true x table e) parts.0
      | inr e ↦ at_table J xs table e parts.1
    ]

pub record Found (p q : Condition → Bool) : Type 0 where
  pub condition : Condition
  pub passes_p : p condition ≡ true
  pub passes_q : q condition ≡ true

found_in : (p q : Condition → Bool) (conditions : List Condition) → list_any p conditions ≡ true → list_all q conditions ≡ true → Found p q
found_in p q [] h g = absurd (let no : false ≡ true = h in cc)
found_in p q (x ∷ xs) h g =
    let parts = and_parts (q x) (list_all q xs) g in
    elim (or_parts (p x) (list_any p xs) h) [
      | inl e ↦ record { condition = x; passes_p = e; passes_q = parts.0 }
      | inr e ↦ found_in p q xs e parts.1
    ]

all_both : (p q : Condition → Bool) (xs : List Condition) → list_all p xs ≡ true → list_all q xs ≡ true → list_all (λ x. p x && q x) xs ≡ true
all_both p q [] h g = refl
all_both p q (x ∷ xs) h g =
    let a = and_parts (p x) (list_all p xs) h in
    let b = and_parts (q x) (list_all q xs) g in
    both_true (p x && q x) (list_all (λ y. p y && q y) xs) (both_true (p x) (q x) a.0 b.0) (all_both p q xs a.1 b.1)

found_true : ValuesAreOrdered → (schema : Schema) → IsTree schema → (from : List ℕ) (row : Combination) (table : ℕ) (condition : Condition) → is_join_of schema table condition ≡ true → (is_true_in row condition && within from condition) ≡ true
    → list_all (is_true_in row) (join_to schema from table) ≡ true
found_true laws schema tree from row table (OneOf first others) h g = absurd (let no : false ≡ true = h in cc)
found_true laws schema tree from row table (Join left right) h g =
    let parts = and_parts (is_true_in row (Join left right)) (within from (Join left right)) g in
    let sides = and_parts (is_among from left.table) (is_among from right.table) parts.1 in
    join_true laws schema tree from row table left right h sides.0 sides.1 ∙ parts.0

no_join_by : (schema : Schema) (from : List ℕ) (table : ℕ) (holder : Option ℕ) → is_some_among from holder ≡ false → join_with schema from table holder ≡ []
no_join_by schema from table None h = refl
no_join_by schema from table (Some holder) h = ap (λ b. cond b (join_by table holder (first_of (keys_between schema holder table))) []) h

has_some : (b : Bool) → not b ≡ false → b ≡ true
has_some true h = refl
has_some false h = absurd (let no : true ≡ false = h in cc)

table_true : ValuesAreOrdered → (schema : Schema) → IsTree schema → (from : List ℕ) (row : Combination) (conditions : List Condition) (table : ℕ) (b : Bool) → is_some_among from (parent schema table) ≡ b
    → (b && not (list_any (is_join_of schema table) conditions)) ≡ false → list_all (λ x. is_true_in row x && within from x) conditions ≡ true → list_all (is_true_in row) (join_to schema from table) ≡ true
table_true laws schema tree from row conditions table false e h g = ap (list_all (is_true_in row)) (no_join_by schema from table (parent schema table) e)
table_true laws schema tree from row conditions table true e h g =
    let found = found_in (is_join_of schema table) (λ x. is_true_in row x && within from x) conditions (has_some (list_any (is_join_of schema table) conditions) h) g in
    found_true laws schema tree from row table found.condition found.passes_p found.passes_q

none_left : (a b : Bool) → (a || b) ≡ false → (a ≡ false) × (b ≡ false)
none_left true b h = absurd (let no : true ≡ false = h in cc)
none_left false b h = (refl, h)

tables_true : ValuesAreOrdered → (schema : Schema) → IsTree schema → (asked : Query) (row : Combination) (tables : List ℕ) → list_any (lacks_join schema asked) tables ≡ false → list_all (λ x. is_true_in row x && within asked.from x) asked.conditions ≡ true
    → list_all (λ table. list_all (is_true_in row) (join_to schema asked.from table)) tables ≡ true
tables_true laws schema tree asked row [] h g = refl
tables_true laws schema tree asked row (table ∷ tables) h g =
    let parts = none_left (lacks_join schema asked table) (list_any (lacks_join schema asked) tables) h in
    both_true (list_all (is_true_in row) (join_to schema asked.from table)) (list_all (λ other. list_all (is_true_in row) (join_to schema asked.from other)) tables)
    (table_true laws schema tree asked.from row asked.conditions table (is_some_among asked.from (parent schema table)) refl parts.0 g)
    (tables_true laws schema tree asked row tables parts.1 g)

second : (a b : Bool) → b ≡ true → (a || b) ≡ true
second true b h = refl
second false b h = h

side_by : (schema : Schema) (left right : Field) → is_proper schema (Join left right) ≡ true → (table : ℕ) × ((table ≡ right.table) ⊎ (table ≡ left.table)) × (is_join_of schema table (Join left right) ≡ true)
side_by schema left right h =
    elim (or_parts (is_reference_to schema left right) (is_reference_to schema right left) h) [
      | inl e ↦ (right.table, inl refl, ap (λ b. b || (is_reference_to schema right left && left.table == right.table)) (both_true (is_reference_to schema left right) (right.table == right.table) e (eq-eqb right.table right.table refl)))
      | inr e ↦ (left.table, inr refl, second (is_reference_to schema left right && right.table == left.table) (is_reference_to schema right left && left.table == left.table) (both_true (is_reference_to schema right left) (left.table == left.table) e (eq-eqb left.table left.table refl)))
    ]

among_side : (from : List ℕ) (table left right : ℕ) → (table ≡ right) ⊎ (table ≡ left) → is_among from left ≡ true → is_among from right ≡ true → is_among from table ≡ true
among_side from table left right (inl e) l r = ap (is_among from) e ∙ r
among_side from table left right (inr e) l r = ap (is_among from) e ∙ l

conditions_true : ValuesAreOrdered → (schema : Schema) → IsTree schema → (from : List ℕ) (row : Combination) (conditions : List Condition) → list_all (is_proper schema) conditions ≡ true → list_all (within from) conditions ≡ true
    → list_all (λ table. list_all (is_true_in row) (join_to schema from table)) from ≡ true → list_all (is_true_in row) (filter is_group conditions) ≡ true → list_all (is_true_in row) conditions ≡ true
conditions_true laws schema tree from row [] p w j c = refl
conditions_true laws schema tree from row (OneOf first others ∷ conditions) p w j c =
    let parts = and_parts (is_true_in row (OneOf first others)) (list_all (is_true_in row) (filter is_group conditions)) c in
    both_true (is_true_in row (OneOf first others)) (list_all (is_true_in row) conditions) parts.0 (conditions_true laws schema tree from row conditions p w j parts.1)
conditions_true laws schema tree from row (Join left right ∷ conditions) p w j c =
    let proper = and_parts (is_proper schema (Join left right)) (list_all (is_proper schema) conditions) p in
    let inside = and_parts (within from (Join left right)) (list_all (within from) conditions) w in
    let sides = and_parts (is_among from left.table) (is_among from right.table) inside.0 in
    let side = side_by schema left right proper.0 in
    let here = at_table (λ table. list_all (is_true_in row) (join_to schema from table)) from side.0 (among_side from side.0 left.table right.table side.1 sides.0 sides.1) j in
    both_true (is_true_in row (Join left right)) (list_all (is_true_in row) conditions)
    (sym (join_true laws schema tree from row side.0 left right side.2 sides.0 sides.1) ∙ here)
    (conditions_true laws schema tree from row conditions proper.1 inside.1 j c)

-- a query that is linked
pub record IsLinked (schema : Schema) (asked : Query) : Type 0 where
  pub proper : list_all (is_proper schema) asked.conditions ≡ true
  pub inside : list_all (within asked.from) asked.conditions ≡ true
  pub none_lacks : list_any (lacks_join schema asked) asked.from ≡ false

same_passes : ValuesAreOrdered → (schema : Schema) → IsTree schema → (asked : Query) → IsLinked schema asked → (row : Combination) → passes (linked schema asked).conditions row ≡ passes asked.conditions row
same_passes laws schema tree asked h row =
    list_all-append (is_true_in row) (joins_of schema asked.from) (filter is_group asked.conditions)
    ∙ ap (λ b. b && list_all (is_true_in row) (filter is_group asked.conditions)) (all_flat (is_true_in row) (join_to schema asked.from) asked.from)
    ∙ same_bool (list_all (λ table. list_all (is_true_in row) (join_to schema asked.from table)) asked.from && list_all (is_true_in row) (filter is_group asked.conditions)) (list_all (is_true_in row) asked.conditions)
    (λ e. let parts = and_parts (list_all (λ table. list_all (is_true_in row) (join_to schema asked.from table)) asked.from) (list_all (is_true_in row) (filter is_group asked.conditions)) e in
    conditions_true laws schema tree asked.from row asked.conditions h.proper h.inside parts.0 parts.1)
    (λ e. both_true (list_all (λ table. list_all (is_true_in row) (join_to schema asked.from table)) asked.from) (list_all (is_true_in row) (filter is_group asked.conditions))
    (tables_true laws schema tree asked row asked.from h.none_lacks (all_both (is_true_in row) (within asked.from) asked.conditions e h.inside))
    (all_filter (is_true_in row) is_group asked.conditions e))

rows_same : {X Y : Type 0} (f g : X → List Y) → ((x : X) → f x ≡ g x) → (xs : List X) → flat_map f xs ≡ flat_map g xs
rows_same f g same [] = refl
rows_same f g same (x ∷ xs) = ap₂ (λ xs ys. xs ++ ys) (same x) (rows_same f g same xs)

same_answer : ValuesAreOrdered → (schema : Schema) → IsTree schema → (asked : Query) → IsLinked schema asked → (source : Source) (top : Option ℕ) → answer_by_top source (linked schema asked) top ≡ answer_by_top source asked top
same_answer laws schema tree asked h source None = refl
same_answer laws schema tree asked h source (Some top) =
    rows_same (answer_of_row source (linked schema asked) top) (answer_of_row source asked top)
    (λ identifier.
    ap (map (meaning.selected source asked.select))
    (filter_same (is_kept source (linked schema asked).conditions) (is_kept source asked.conditions)
    (λ rows. ap (λ b. list_all source.admits rows && b) (same_passes laws schema tree asked h (record { source = source; rows = rows })))
    (map (λ others. pick top identifier ∷ others) (meaning.combinations source.count (short.others_of top asked.from)))))
    (range_with_len 1 (source.count top))

linked_by : (a b c : Bool) → (not a || b || c) ≡ false → (a ≡ true) × (c ≡ false)
linked_by true true c h = absurd (let no : true ≡ false = h in cc)
linked_by true false c h = (refl, h)
linked_by false b c h = absurd (let no : true ≡ false = h in cc)

-- the query without its groups that are left: its joins stay

module _ (schema : Schema) where
  abbrev stays : Condition → Bool
  stays condition = not (is_left schema condition)

  one_kept : (table holder : ℕ) (key : Option ℕ) → filter stays (join_by table holder key) ≡ join_by table holder key
  one_kept table holder None = refl
  one_kept table holder (Some column) = refl

  joins_kept_with : (from : List ℕ) (table : ℕ) (holder : Option ℕ) → filter stays (join_with schema from table holder) ≡ join_with schema from table holder
  joins_kept_with from table None = refl
  joins_kept_with from table (Some holder) =
      elim (is_among from holder) as (λ b. filter stays (if b then join_by table holder (first_of (keys_between schema holder table)) else []) ≡ (if b then join_by table holder (first_of (keys_between schema holder table)) else [])) [
        | true ↦ one_kept table holder (first_of (keys_between schema holder table))
        | false ↦ refl
      ]

  joins_kept : (from tables : List ℕ) → filter stays (flat_map (join_to schema from) tables) ≡ flat_map (join_to schema from) tables
  joins_kept from [] = refl
  joins_kept from (table ∷ tables) =
      filter-append stays (join_to schema from table) (flat_map (join_to schema from) tables)
      ∙ ap₂ (λ xs ys. xs ++ ys) (joins_kept_with from table (parent schema table)) (joins_kept from tables)

  groups_kept : (conditions : List Condition) → filter stays (filter is_group conditions) ≡ filter is_group (filter stays conditions)
  groups_kept [] = refl
  groups_kept (Join left right ∷ conditions) = groups_kept conditions
  groups_kept (OneOf first others ∷ conditions) = by (stays (OneOf first others)) (groups_kept conditions)
    where
      by : (b : Bool) → filter stays (filter is_group conditions) ≡ filter is_group (filter stays conditions)
          → (if b then OneOf first others ∷ filter stays (filter is_group conditions) else filter stays (filter is_group conditions))
          ≡ filter is_group (if b then OneOf first others ∷ filter stays conditions else filter stays conditions)
      by true rest = ap (λ cs. OneOf first others ∷ cs) rest
      by false rest = rest

  without_linked : (asked : Query) → without_left schema (linked schema asked) ≡ linked schema (without_left schema asked)
  without_linked asked =
      ap (λ (cs : List Condition). record { from = asked.from; select = asked.select; conditions = cs })
      (filter-append stays (joins_of schema asked.from) (filter is_group asked.conditions)
      ∙ ap₂ (λ xs ys. xs ++ ys) (joins_kept asked.from asked.from) (groups_kept asked.conditions))

  keeps_joins : (table : ℕ) (conditions : List Condition) → list_any (is_join_of schema table) (filter stays conditions) ≡ list_any (is_join_of schema table) conditions
  keeps_joins table [] = refl
  keeps_joins table (Join left right ∷ conditions) = ap (λ b. is_join_of schema table (Join left right) || b) (keeps_joins table conditions)
  keeps_joins table (OneOf first others ∷ conditions) = by (stays (OneOf first others)) (keeps_joins table conditions)
    where
      by : (b : Bool) → list_any (is_join_of schema table) (filter stays conditions) ≡ list_any (is_join_of schema table) conditions → list_any (is_join_of schema table) (if b then OneOf first others ∷ filter stays conditions else filter stays conditions) ≡ list_any (is_join_of schema table) conditions
      by true rest = rest
      by false rest = rest

any_same : {X : Type 0} (p q : X → Bool) → ((x : X) → p x ≡ q x) → (xs : List X) → list_any p xs ≡ list_any q xs
any_same p q same [] = refl
any_same p q same (x ∷ xs) = ap₂ (λ a b. a || b) (same x) (any_same p q same xs)

still_linked : (schema : Schema) (asked : Query) → IsLinked schema asked → IsLinked schema (without_left schema asked)
still_linked schema asked h = record {
  proper = all_filter (is_proper schema) (λ condition. not (is_left schema condition)) asked.conditions h.proper;
  inside = all_filter (within asked.from) (λ condition. not (is_left schema condition)) asked.conditions h.inside;
  none_lacks =
      any_same (lacks_join schema (without_left schema asked)) (lacks_join schema asked)
      (λ table. ap (λ b. is_some_among asked.from (parent schema table) && not b) (keeps_joins schema table asked.conditions)) asked.from
      ∙ h.none_lacks;
}

means_linked : (schema : Schema) (tree : QueryText) → is_unlinked schema (resolved schema tree) ≡ false → IsLinked schema (resolved schema tree)
means_linked schema tree h =
    let parts = linked_by (list_all (is_proper schema) (resolved schema tree).conditions) _ (list_any (lacks_join schema (resolved schema tree)) (resolved schema tree).from) h in
    record { proper = parts.0; inside = all_within schema (from_tables schema tree) tree.conditions; none_lacks = parts.1 }

pub answer_once : ValuesAreOrdered → (schema : Schema) → IsTree schema → (tree : QueryText) → is_unlinked schema (resolved schema tree) ≡ false → (database : Database)
    → answer schema database (linked schema (resolved schema tree)) ≡ answer schema database (resolved schema tree)
answer_once laws schema schema_tree tree h database =
    same_answer laws schema schema_tree (resolved schema tree) (means_linked schema tree h) (all_of database) (top_of schema (resolved schema tree))

pub answer_left : ValuesAreOrdered → (schema : Schema) → IsTree schema → (tree : QueryText) → is_unlinked schema (resolved schema tree) ≡ false → (database : Database)
    → answer schema database (without_left schema (linked schema (resolved schema tree))) ≡ answer schema database (without_left schema (resolved schema tree))
answer_left laws schema schema_tree tree h database =
    ap (answer schema database) (without_linked schema (resolved schema tree))
    ∙ same_answer laws schema schema_tree (without_left schema (resolved schema tree)) (still_linked schema (resolved schema tree) (means_linked schema tree h)) (all_of database)
    (top_of schema (resolved schema tree))
