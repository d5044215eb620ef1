-- Combinations of the rows of a database themselves, and that an answer is formed of these.
use Rattle.std.proofs.Common.{◌≡◌, refl, sym, ap, ◌∙◌, ℕ, suc, ◌+◌, Bool, true, false, ◌&&◌, ◌||◌, nat_eq, List, [], ◌∷◌, ◌++◌, length, map, filter, flat_map, Option, Some, None, slice_get, unwrap_or, option_and_then, arith, if◌then◌else◌}
use Rattle.std.specs.List.{list_all, range_with_len}
use Rattle.std.proofs.lemmas.List.{map-append}
use Rattle.ghost_model.specs.core.Values.{Value, Row, Rows, Database}
use Rattle.ghost_model.specs.core.Query.{Query, Field, Member, Condition, OneOf, Join}
use Rattle.ghost_model.specs.core.Groups.{each_of, some_of}
use Rattle.ghost_model.specs.core.Query as query
use Rattle.ghost_model.specs.core.Database.{rows_of, row_of, row_count, value_at_row}
use Rattle.ghost_model.specs.core.Meaning as meaning
use Rattle.ghost_model.specs.core.Meaning.{Pick, pick, compares, meets_test, no_value, all_of}
use Rattle.ghost_model.specs.laws.ShortWords.{others_of}

-- a row of a table
pub record Chosen : Type 0 where
  pub table : ℕ
  pub row : Row

abbrev pub Combination : Type 0
Combination = List Chosen

abbrev pub choice : ℕ → Row → Chosen
choice table row = record { table = table; row = row }

unfoldable pub row_combinations : Database → (tables : List ℕ) → List Combination
row_combinations database [] = [] ∷ []
row_combinations database (table ∷ tables) =
    flat_map (λ row. map (λ others. choice table row ∷ others) (row_combinations database tables)) (rows_of database table)

abbrev pub row_in : Combination → (table : ℕ) → Option Row
row_in [] table = None
row_in (one ∷ others) table = if nat_eq one.table table then Some one.row else row_in others table

abbrev pub value_in : Combination → Field → Option Value
value_in combination wanted = option_and_then (λ row. slice_get row wanted.column) (row_in combination wanted.table)

abbrev pub is_met_in : Combination → Member → Bool
is_met_in combination one = meets_test one.test (value_in combination one.field)

abbrev pub is_true_in : Combination → Condition → Bool
is_true_in combination (OneOf first others) = some_of (is_met_in combination) first others
is_true_in combination (Join one other) = compares query.Equal (value_in combination one) (value_in combination other)

abbrev pub passes : List Condition → Combination → Bool
passes conditions combination = list_all (is_true_in combination) conditions

abbrev pub projection : List Field → Combination → Row
projection select combination = map (λ column. unwrap_or (value_in combination column) no_value) select

abbrev pub combinations_of : (top : ℕ) → Database → (from : List ℕ) → Row → List Combination
combinations_of top database from row =
    map (λ others. choice top row ∷ others) (row_combinations database (others_of top from))

abbrev pub answer_of_row : (top : ℕ) → Database → Query → Row → List Row
answer_of_row top database asked row =
    map (projection asked.select) (filter (passes asked.conditions) (combinations_of top database asked.from row))

-- lists that correspond

pub mapped_twice : {X Y Z W : Type 0} (f : X → Y) (g : Y → Z) (k : X → W) (l : W → Z) (xs : List X) → ((x : X) → g (f x) ≡ l (k x)) → map g (map f xs) ≡ map l (map k xs)
mapped_twice f g k l [] h = refl
mapped_twice f g k l (x ∷ xs) h =
    ap (λ z. z ∷ map g (map f xs)) (h x) ∙ ap (λ zs. l (k x) ∷ zs) (mapped_twice f g k l xs h)

same_kept : {X Y Z : Type 0} (h : X → Y) (p : X → Bool) (q : Y → Bool) (f : X → Z) (g : Y → Z) (xs : List X)
    → ((x : X) → p x ≡ q (h x)) → ((x : X) → f x ≡ g (h x)) → map f (filter p xs) ≡ map g (filter q (map h xs))
same_kept h p q f g [] tests values = refl
same_kept {Z = Z} h p q f g (x ∷ xs) tests values =
    let later = same_kept h p q f g xs tests values in
    ap (λ (b : Bool). map f (if b then x ∷ filter p xs else filter p xs)) (tests x)
    ∙ (elim (q (h x)) as (λ v. map f (if v then x ∷ filter p xs else filter p xs) ≡ map g (if v then h x ∷ filter q (map h xs) else filter q (map h xs))) [
      | true ↦ ap (λ (z : Z). z ∷ map f (filter p xs)) (values x) ∙ ap (λ (zs : List Z). g (h x) ∷ zs) later
      | false ↦ later
    ])

same_map : {X Y : Type 0} (f g : X → Y) (xs : List X) → ((x : X) → f x ≡ g x) → map f xs ≡ map g xs
same_map f g [] same = refl
same_map f g (x ∷ xs) same = ap (λ y. y ∷ map f xs) (same x) ∙ ap (λ ys. g x ∷ ys) (same_map f g xs same)

same_all : {X : Type 0} (p q : X → Bool) (xs : List X) → ((x : X) → p x ≡ q x) → list_all p xs ≡ list_all q xs
same_all p q [] same = refl
same_all p q (x ∷ xs) same = ap (λ b. b && list_all p xs) (same x) ∙ ap (λ b. q x && b) (same_all p q xs same)

same_some :
    {X : Type 0} (p q : X → Bool) (first : X) (others : List X) → ((x : X) → p x ≡ q x)
    → some_of p first others ≡ some_of q first others
same_some p q first [] same = same first
same_some p q first (next ∷ others) same = ap (λ b. b || some_of p next others) (same first) ∙ ap (λ b. q first || b) (same_some p q next others same)

-- a database judges no group beforehand
none_judged : {X : Type 0} (first : X) (others : List X) → each_of (λ (x : X). false) first others ≡ false
none_judged first [] = refl
none_judged first (next ∷ others) = refl

all_admitted : {X : Type 0} (xs : List X) → list_all (λ (x : X). true) xs ≡ true
all_admitted [] = refl
all_admitted (x ∷ xs) = all_admitted xs

pub row_field : (o : Option Row) (column : ℕ) → slice_get (unwrap_or o []) column ≡ option_and_then (λ row. slice_get row column) o
row_field None column = refl
row_field (Some row) column = refl

module _ (database : Database) where
  -- the row of a pick
  abbrev pub chosen : Pick → Chosen
  chosen one = choice one.table (unwrap_or (row_of database one.table one.identifier) [])

  value_same : (x : List Pick) (f : Field) → meaning.value_in (all_of database) x f ≡ value_in (map chosen x) f
  value_same [] f = refl
  value_same (one ∷ others) f =
      (elim (nat_eq one.table f.table) as (λ v. (if v then value_at_row database one.table one.identifier f.column else meaning.value_in (all_of database) others f) ≡ option_and_then (λ row. slice_get row f.column) (if v then Some (unwrap_or (row_of database one.table one.identifier) []) else row_in (map chosen others) f.table)) [
        | true ↦ sym (row_field (row_of database one.table one.identifier) f.column)
        | false ↦ value_same others f
      ])

  true_same : (x : List Pick) (c : Condition) → meaning.is_true_in (all_of database) x c ≡ is_true_in (map chosen x) c
  true_same x (OneOf first others) =
      ap (λ (b : Bool). if b then true else some_of (meaning.is_met_in (all_of database) x) first others) (none_judged first others)
      ∙ same_some (meaning.is_met_in (all_of database) x) (is_met_in (map chosen x)) first others
      (λ one. ap (λ o. meets_test one.test o) (value_same x one.field))
  true_same x (Join one other) =
      ap (λ o. compares query.Equal o (meaning.value_in (all_of database) x other)) (value_same x one)
      ∙ ap (λ o. compares query.Equal (value_in (map chosen x) one) o) (value_same x other)

  kept_same : (conditions : List Condition) (x : List Pick) → meaning.is_kept (all_of database) conditions x ≡ passes conditions (map chosen x)
  kept_same conditions x =
      ap (λ b. b && list_all (meaning.is_true_in (all_of database) x) conditions) (all_admitted x)
      ∙ same_all (meaning.is_true_in (all_of database) x) (is_true_in (map chosen x)) conditions (true_same x)

  selected_same : (select : List Field) (x : List Pick) → meaning.selected (all_of database) select x ≡ projection select (map chosen x)
  selected_same select x =
      same_map (λ column. unwrap_or (meaning.value_in (all_of database) x column) no_value) (λ column. unwrap_or (value_in (map chosen x) column) no_value) select
      (λ column. ap (λ o. unwrap_or o no_value) (value_same x column))

  products_are : (table from : ℕ) (rest : List (List Pick)) (rows : Rows)
      → ((place : ℕ) (row : Row) → slice_get rows place ≡ Some row → row_of database table (from + place) ≡ Some row)
      → flat_map (λ row. map (λ others. choice table row ∷ others) (map (map chosen) rest)) rows
      ≡ map (map chosen) (flat_map (λ identifier. map (λ others. pick table identifier ∷ others) rest) (range_with_len from (length rows)))
  products_are table from rest [] stand = refl
  products_are table from rest (row ∷ rows) stand =
      let zeroth : from + 0 ≡ from = omega arith in
      let it : row_of database table from ≡ Some row = ap (row_of database table) (sym zeroth) ∙ stand 0 row refl in
      let later = products_are table (from + 1) rest rows
      (λ place other h. let moved : from + 1 + place ≡ from + suc place = omega arith in ap (row_of database table) moved ∙ stand (suc place) other h) in
      let one : List (List Pick) = map (λ others. pick table from ∷ others) rest in
      let more : List (List Pick) = flat_map (λ identifier. map (λ others. pick table identifier ∷ others) rest) (range_with_len (from + 1) (length rows)) in
      ap (λ (xs : List Combination). xs ++ flat_map (λ r. map (λ others. choice table r ∷ others) (map (map chosen) rest)) rows)
      (mapped_twice (map chosen) (λ others. choice table row ∷ others) (λ others. pick table from ∷ others) (map chosen) rest
      (λ others. ap (λ (o : Option Row). choice table (unwrap_or o []) ∷ map chosen others) (sym it)))
      ∙ (ap (λ (xs : List Combination). map (map chosen) one ++ xs) later ∙ sym (map-append (map chosen) one more))

  -- combinations of rows are those of their identifiers
  pub combinations_are : (tables : List ℕ) → row_combinations database tables ≡ map (map chosen) (meaning.combinations (row_count database) tables)
  unfolding row_combinations meaning.combinations
  combinations_are [] = refl
  combinations_are (table ∷ tables) =
      ap (λ (rest : List Combination). flat_map (λ row. map (λ others. choice table row ∷ others) rest) (rows_of database table)) (combinations_are tables)
      ∙ products_are table 1 (meaning.combinations (row_count database) tables) (rows_of database table)
      (λ place row h. let e : 1 + place ≡ suc place = omega arith in ap (row_of database table) e ∙ h)

  -- and the answer for a row of the top table is formed of them
  pub by_rows : (asked : Query) (top identifier : ℕ) (row : Row) → row_of database top identifier ≡ Some row
      → meaning.answer_of_row (all_of database) asked top identifier ≡ answer_of_row top database asked row
  by_rows asked top identifier row there =
      let others = others_of top asked.from in
      let all : List (List Pick) = map (λ rest. pick top identifier ∷ rest) (meaning.combinations (row_count database) others) in
      let combinations_of_row : map (λ rest. choice top row ∷ rest) (row_combinations database others) ≡ map (map chosen) all =
      ap (map (λ rest. choice top row ∷ rest)) (combinations_are others)
      ∙ mapped_twice (map chosen) (λ rest. choice top row ∷ rest) (λ rest. pick top identifier ∷ rest) (map chosen) (meaning.combinations (row_count database) others)
      (λ rest. ap (λ (o : Option Row). choice top (unwrap_or o []) ∷ map chosen rest) (sym there)) in
      same_kept (map chosen) (meaning.is_kept (all_of database) asked.conditions) (passes asked.conditions) (meaning.selected (all_of database) asked.select) (projection asked.select) all
      (kept_same asked.conditions) (selected_same asked.select)
      ∙ ap (λ (xs : List Combination). map (projection asked.select) (filter (passes asked.conditions) xs)) (sym combinations_of_row)
