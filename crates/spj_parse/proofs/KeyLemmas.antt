-- A foreign key of a tree is the only one that names its child: so its table is the parent, and it is its first key there.
use Rattle.std.proofs.Common.{◌≡◌, ℕ, zero, suc, ◌+◌, ◌<◌, ◌≤◌, Bool, true, false, not, ◌==◌, cond, List, [], ◌∷◌, length, sum_by, Option, Some, None, slice_get, refl, ap, sym, ◌∙◌, add-zero, zero-add, arith}
use Rattle.std.specs.Prelude.{option_and_then}
use Rattle.std.proofs.lemmas.Bool.{and_parts, eqb-true, eq-eqb}
use Rattle.ghost_model.specs.core.Schema.{Schema, Table, Column, column_at, columns_of, columns_or_none, places_from, places_where, first_of, is_empty, is_table, references_to, parent}
use Rattle.ghost_model.specs.refusals.SchemaFaults.{references_naming}
use Rattle.ghost_model.specs.laws.SchemaTrees.{IsTree}
use Rattle.ghost_model.specs.core.Query.{Field, Join, is_among}
use Rattle.ghost_model.specs.refusals.QueryMeaning.{field, is_reference_to}
use Rattle.spj_parse.specs.Resolved.{keys_between, join_by, join_with, join_to}
use Rattle.spj_parse.proofs.TreeLemmas.{sum_cons}

at_least : {X : Type 0} (weight : X → ℕ) (xs : List X) (p : ℕ) (x : X) → slice_get xs p ≡ Some x → weight x ≤ sum_by weight xs
at_least weight [] p x got = absurd (let no : None ≡ Some x = got in cc)
at_least weight (y ∷ ys) zero x got =
    let same : weight y ≡ weight x = ap weight (let e : y ≡ x = cc in e) in
    let sums : sum_by weight (y ∷ ys) ≡ weight y + sum_by weight ys = sum_cons weight y ys in
    omega (arith, same, sums)
at_least weight (y ∷ ys) (suc p) x got =
    let rest : weight x ≤ sum_by weight ys = at_least weight ys p x got in
    let sums : sum_by weight (y ∷ ys) ≡ weight y + sum_by weight ys = sum_cons weight y ys in
    omega (arith, rest, sums)

later_by : (b : Bool) (at : ℕ) (later : List ℕ) (found : Option ℕ) → b ≡ false → first_of later ≡ found → first_of (cond b (at ∷ later) later) ≡ found
later_by true at later found e h = absurd (let no : true ≡ false = e in cc)
later_by false at later found e h = h

light : (b : Bool) → (b ≡ true → ⊥) → b ≡ false
light true h = absurd (h refl)
light false h = refl

pub first_only : {X : Type 0} (test : X → Bool) (weight : X → ℕ) → ((x : X) → test x ≡ true → 1 ≤ weight x) → (xs : List X) (at p : ℕ) (x : X) → sum_by weight xs ≤ 1 → slice_get xs p ≡ Some x → test x ≡ true
    → first_of (places_from test at xs) ≡ Some (at + p)
unfolding places_from
first_only test weight heavy [] at p x few got is = absurd (let no : None ≡ Some x = got in cc)
first_only test weight heavy (y ∷ ys) at zero x few got is =
    let same : y ≡ x = cc in
    ap (λ b. first_of (cond b (at ∷ places_from test (at + 1) ys) (places_from test (at + 1) ys))) (ap test same ∙ is) ∙ ap (λ n. Some n) (sym (add-zero at))
first_only test weight heavy (y ∷ ys) at (suc p) x few got is =
    let sums : sum_by weight (y ∷ ys) ≡ weight y + sum_by weight ys = sum_cons weight y ys in
    let one : 1 ≤ weight x = heavy x is in
    let some : weight x ≤ sum_by weight ys = at_least weight ys p x got in
    let other : test y ≡ false = light (test y) (λ e. let two : 1 ≤ weight y = heavy y e in omega (arith, sums, one, some, two, few)) in
    later_by (test y) at (places_from test (at + 1) ys) (Some (at + suc p)) other
    (first_only test weight heavy ys (at + 1) p x (omega (arith, sums, few)) got is ∙ ap (λ n. Some n) (let e : at + 1 + p ≡ at + suc p = omega arith in e))

abbrev one_if : {X : Type 0} → (X → Bool) → X → ℕ
one_if test x = cond (test x) 1 0

heavy_if : {X : Type 0} (test : X → Bool) (x : X) → test x ≡ true → 1 ≤ one_if test x
heavy_if test x e = let one : one_if test x ≡ 1 = ap (λ b. cond b 1 0) e in omega (arith, one)

counted_by : (b : Bool) (at n : ℕ) (later : List ℕ) → n ≡ length later → cond b 1 0 + n ≡ length (cond b (at ∷ later) later)
counted_by true at n later h = omega (arith, h)
counted_by false at n later h = omega (arith, h)

counted : {X : Type 0} (test : X → Bool) (at : ℕ) (xs : List X) → sum_by (one_if test) xs ≡ length (places_from test at xs)
unfolding places_from
counted test at [] = refl
counted test at (x ∷ xs) = sum_cons (one_if test) x xs ∙ counted_by (test x) at (sum_by (one_if test) xs) (places_from test (at + 1) xs) (counted test (at + 1) xs)

-- a column that names a table

pub record NamesChild (schema : Schema) (key : Field) (child : ℕ) : Type 0 where
  pub column : Column
  pub held : column_at schema key.table key.column ≡ Some column
  pub names : column.child ≡ Some child

child_by : (schema : Schema) (key : Field) (child : ℕ) (column : Column) → column_at schema key.table key.column ≡ Some column → (found : Option ℕ) → column.child ≡ found → is_table child found ≡ true → NamesChild schema key child
child_by schema key child column e None f h = absurd (let no : false ≡ true = h in cc)
child_by schema key child column e (Some other) f h = record { column = column; held = e; names = f ∙ ap (λ n. Some n) (eqb-true other child h) }

names_by : (schema : Schema) (key : Field) (child : ℕ) (found : Option Column) → column_at schema key.table key.column ≡ found → is_table child (option_and_then (λ column. column.child) found) ≡ true → NamesChild schema key child
names_by schema key child None e h = absurd (let no : false ≡ true = h in cc)
names_by schema key child (Some column) e h = child_by schema key child column e column.child refl h

table_by : (schema : Schema) (table column : ℕ) (held : Column) (found : Option Table) → slice_get schema table ≡ found → slice_get (columns_or_none found) column ≡ Some held
    → (holder : Table) × (slice_get schema table ≡ Some holder) × (slice_get holder.columns column ≡ Some held)
table_by schema table column held None e h = absurd (let no : None ≡ Some held = h in cc)
table_by schema table column held (Some holder) e h = (holder, e, h)

some_key : (b : Bool) (n : ℕ) (xs : List ℕ) → b ≡ is_empty xs → n ≡ length xs → 1 ≤ n → not b ≡ true
some_key b n [] e c h = absurd (omega (arith, c, h))
some_key b n (x ∷ xs) e c h = ap not e

more_keys : (xs : List ℕ) → not (is_empty xs) ≡ true → 1 ≤ length xs
more_keys [] h = absurd (let no : false ≡ true = h in cc)
more_keys (x ∷ xs) h = omega arith

-- the table that holds a key, and the key's place in it
pub record IsOnly (schema : Schema) (key : Field) (child : ℕ) : Type 0 where
  pub parent_is : parent schema child ≡ Some key.table
  pub key_is : first_of (keys_between schema key.table child) ≡ Some key.column

pub only_key : (schema : Schema) → IsTree schema → (key : Field) (child : ℕ) → NamesChild schema key child → IsOnly schema key child
only_key schema tree key child h =
    let below : child < length schema = tree.references_name_tables key.table key.column child h.column h.held h.names in
    let few : references_naming schema child ≤ 1 = tree.one_parent child below in
    let test : Column → Bool = λ column. is_table child column.child in
    let weigh : Table → ℕ = λ table. length (references_to child table) in
    let found = table_by schema key.table key.column h.column (slice_get schema key.table) refl h.held in
    let names : is_table child h.column.child ≡ true = ap (is_table child) h.names ∙ eq-eqb child child refl in
    let one : 1 ≤ one_if test h.column = heavy_if test h.column names in
    let some : one_if test h.column ≤ sum_by (one_if test) found.0.columns = at_least (one_if test) found.0.columns key.column h.column found.2 in
    let count : sum_by (one_if test) found.0.columns ≡ length (references_to child found.0) = counted test 0 found.0.columns in
    let holds : not (is_empty (references_to child found.0)) ≡ true = some_key (is_empty (references_to child found.0)) (length (references_to child found.0)) (references_to child found.0) refl refl (omega (arith, one, some, count)) in
    let here : length (references_to child found.0) ≤ references_naming schema child = at_least weigh schema key.table found.0 found.1 in
    let columns : columns_of schema key.table ≡ found.0.columns = ap columns_or_none found.1 in
    record {
      parent_is = first_only (λ (table : Table). not (is_empty (references_to child table))) weigh (λ table e. more_keys (references_to child table) e) schema 0 key.table found.0 few found.1 holds ∙ ap (λ n. Some n) (zero-add key.table);
      key_is = ap (λ (xs : List Column). first_of (places_where test xs)) columns
          ∙ first_only test (one_if test) (heavy_if test) found.0.columns 0 key.column h.column (omega (arith, count, here, few)) found.2 names ∙ ap (λ n. Some n) (zero-add key.column);
    }

-- the join that a foreign key and its identifier are
pub join_is : (schema : Schema) → IsTree schema → (from : List ℕ) (key identifier : Field) → is_reference_to schema key identifier ≡ true → is_among from key.table ≡ true → join_to schema from identifier.table ≡ Join key identifier ∷ []
join_is schema tree from key identifier h among =
    let both = and_parts (is_table identifier.table (option_and_then (λ (column : Column). column.child) (column_at schema key.table key.column))) (identifier.column == 0) h in
    let only = only_key schema tree key identifier.table (names_by schema key identifier.table (column_at schema key.table key.column) refl both.0) in
    ap (join_with schema from identifier.table) only.parent_is
    ∙ ap (λ b. cond b (join_by identifier.table key.table (first_of (keys_between schema key.table identifier.table))) []) among
    ∙ ap (join_by identifier.table key.table) only.key_is
    ∙ ap (λ column. Join key (field identifier.table column) ∷ []) (sym (eqb-true identifier.column 0 both.1))
