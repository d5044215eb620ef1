-- No catalog is long: each column has few bytes, and there are no more foreign keys than tables, since each names a table
-- and no table is named twice.
use Rattle.std.proofs.Common.{◌≡◌, ℕ, zero, suc, ◌+◌, ◌*◌, ◌<◌, ◌≤◌, nat_lt, Decides, Bool, true, false, ◌==◌, if◌then◌else◌, List, [], ◌∷◌, ◌++◌, length, flat_map, Option, Some, None, slice_get, codes, refl, ap, ◌∙◌, subst, length-append, inl, inr, arith}
use Rattle.std.specs.Prelude.{decimal, drop}
use Rattle.std.specs.Int.{to_be_bytes, w32}
use Rattle.std.proofs.lemmas.Bool.{cases_order}
use Rattle.std.proofs.lemmas.Bool.Decides.{Decides-ltb, Decides-eqb}
use Rattle.std.proofs.lemmas.Fmt.{length-decimal-le}
use Rattle.std.proofs.lemmas.List.Sums.{sum_by-cons}
use Rattle.ghost_model.specs.core.Schema.{Kind, Integer, Chars, IntegerOrNull, CharsOrNull, Column, Table, Schema, columns_or_none, is_table, references_to, places_from}
use Rattle.ghost_model.specs.refusals.SchemaFaults.{references_naming}
use Rattle.ghost_model.specs.laws.SchemaTrees.{IsTree}
use Rattle.ghost_model.specs.forms.Catalog.{kind_text, name_or_none, table_name, reference_text, hidden_text, column_text, table_text, canonical_text, catalog_head, counts_bytes}
use Rattle.ghost_model.specs.laws.CatalogLaws.{NoCatalogIsLong}
use Rattle.ghost_model.proofs.SchemaTreeLemmas.{schemas_are_trees}

-- how many elements pass a test

one_if : Bool → ℕ
one_if true = 1
one_if false = 0

tally : {X : Type 0} → (X → Bool) → List X → ℕ
tally test [] = 0
tally test (x ∷ xs) = one_if (test x) + tally test xs

length_if : (at : ℕ) (places : List ℕ) (b : Bool) → length (if b then at ∷ places else places) ≡ one_if b + length places
unfolding one_if
length_if at places true = omega arith
length_if at places false = omega arith

places_tallied : {X : Type 0} (test : X → Bool) (at : ℕ) (xs : List X) → length (places_from test at xs) ≡ tally test xs
unfolding places_from tally
places_tallied test at [] = refl
places_tallied test at (x ∷ xs) = length_if at (places_from test (at + 1) xs) (test x) ∙ ap (λ n. one_if (test x) + n) (places_tallied test (at + 1) xs)

-- the foreign keys that name a table before a place

abbrev is_before : ℕ → Option ℕ → Bool
is_before place None = false
is_before place (Some child) = nat_lt child place

abbrev keys_before : ℕ → List Column → ℕ
keys_before place columns = tally (λ column. is_before place column.child) columns

one_more_by : (place child : ℕ) (sooner here later : Bool) → Decides sooner (child < place) → Decides here (child ≡ place) → Decides later (child < place + 1)
    → one_if later ≤ one_if sooner + one_if here
unfolding one_if
one_more_by place child true here true s h l = omega arith
one_more_by place child true here false s h l = omega arith
one_more_by place child false true true s h l = omega arith
one_more_by place child false true false s h l = omega arith
one_more_by place child false false false s h l = omega arith
one_more_by place child false false true s h l =
    let below : child < place + 1 = l.0 refl in
    elim (cases_order child place) [
      | inl same ↦ (let clash : false ≡ true = h.1 same in absurd (cc))
      | inr (inl less) ↦ (let clash : false ≡ true = s.1 less in absurd (cc))
      | inr (inr more) ↦ absurd (omega arith)
    ]

one_more : (place : ℕ) (child : Option ℕ) → one_if (is_before (place + 1) child) ≤ one_if (is_before place child) + one_if (is_table place child)
unfolding one_if
one_more place None = omega arith
one_more place (Some child) =
    one_more_by place child (nat_lt child place) (child == place) (nat_lt child (place + 1)) (Decides-ltb child place) (Decides-eqb child place) (Decides-ltb child (place + 1))

more_keys : (place : ℕ) (columns : List Column) → keys_before (place + 1) columns ≤ keys_before place columns + tally (λ column. is_table place column.child) columns
unfolding tally
more_keys place [] = omega arith
more_keys place (column ∷ columns) =
    let this = one_more place column.child in
    let rest = more_keys place columns in
    omega (arith, this, rest)

never_below : (child : ℕ) (b : Bool) → Decides b (child < 0) → one_if b ≡ 0
unfolding one_if
never_below child false d = refl
never_below child true d = let h : child < 0 = d.0 refl in absurd (omega arith)

none_first : (child : Option ℕ) → one_if (is_before 0 child) ≡ 0
unfolding one_if
none_first None = refl
none_first (Some child) = never_below child (nat_lt child 0) (Decides-ltb child 0)

none_before : (columns : List Column) → keys_before 0 columns ≡ 0
unfolding tally
none_before [] = refl
none_before (column ∷ columns) =
    let this = none_first column.child in
    let rest = none_before columns in
    omega (arith, this, rest)

-- of all tables

all_keys_before : ℕ → List Table → ℕ
all_keys_before place [] = 0
all_keys_before place (table ∷ tables) = keys_before place table.columns + all_keys_before place tables

all_more_keys : (place : ℕ) (tables : List Table) → all_keys_before (place + 1) tables ≤ all_keys_before place tables + references_naming tables place
unfolding all_keys_before
all_more_keys place [] = omega arith
all_more_keys place (table ∷ tables) =
    let this = more_keys place table.columns in
    let rest = all_more_keys place tables in
    let counted : length (references_to place table) ≡ tally (λ column. is_table place column.child) table.columns = places_tallied (λ column. is_table place column.child) 0 table.columns in
    let summed : references_naming (table ∷ tables) place ≡ length (references_to place table) + references_naming tables place =
    sum_by-cons (λ (other : Table). length (references_to place other)) table tables in
    omega (arith, this, rest, counted, summed)

all_none_before : (tables : List Table) → all_keys_before 0 tables ≡ 0
unfolding all_keys_before
all_none_before [] = refl
all_none_before (table ∷ tables) =
    let this = none_before table.columns in
    let rest = all_none_before tables in
    omega (arith, this, rest)

few_keys : (schema : Schema) (place : ℕ) → ((table : ℕ) → table < place → references_naming schema table ≤ 1) → all_keys_before place schema ≤ place
few_keys schema zero one = let h = all_none_before schema in omega (arith, h)
few_keys schema (suc place) one =
    let rest = few_keys schema place (λ table h. one table (omega arith)) in
    let more = all_more_keys place schema in
    let here : references_naming schema place ≤ 1 = one place (omega arith) in
    let same : place + 1 ≡ suc place = omega arith in
    subst (λ n. all_keys_before n schema ≤ n) same (omega (arith, rest, more, here))

-- the bytes of a column, of a table and of a text

text_length : (name kind reference hidden : List ℕ) (most : ℕ) → length name ≤ 32 → length kind + length reference ≤ 13 + most → length hidden ≤ 7
    → length (codes ", " ++ (name ++ (codes " " ++ (kind ++ (reference ++ hidden))))) ≤ 55 + most
text_length name kind reference hidden most a b c = simp length-append (omega arith)

kind_length : (kind : Kind) → ((most : ℕ) → kind ≡ Chars most → most ≤ 64) → ((most : ℕ) → kind ≡ CharsOrNull most → most ≤ 64)
    → length (kind_text kind) ≤ 13
kind_length Integer h n = omega arith
kind_length IntegerOrNull h n = omega arith
kind_length (CharsOrNull most) h n =
    let few : most ≤ 64 = n most refl in
    let digits : length (decimal most) ≤ 2 = length-decimal-le 2 most (omega arith) (omega arith) (omega arith) in
    simp length-append (omega (arith, digits))
kind_length (Chars most) h n =
    let few : most ≤ 64 = h most refl in
    let digits : length (decimal most) ≤ 2 = length-decimal-le 2 most (omega arith) (omega arith) (omega arith) in
    simp length-append (omega (arith, digits))

hidden_length : (hidden : Bool) → length (hidden_text hidden) ≤ 7
hidden_length true = omega arith
hidden_length false = omega arith

name_length : (o : Option Table) → ((table : Table) → o ≡ Some table → length table.name ≤ 32) → length (name_or_none o) ≤ 32
name_length None h = omega arith
name_length (Some table) h = h table refl

before_is : (place child : ℕ) (b : Bool) → Decides b (child < place) → child < place → one_if b ≡ 1
unfolding one_if
before_is place child true d h = refl
before_is place child false d h = let clash : false ≡ true = d.1 h in absurd (cc)

module _ (schema : Schema) (tree : IsTree schema) where
  reference_length : (o : Option ℕ) → ((child : ℕ) → o ≡ Some child → child < length schema)
      → length (reference_text schema o) ≤ 48 * one_if (is_before (length schema) o)
  reference_length None h = omega arith
  reference_length (Some child) h =
      let one : one_if (is_before (length schema) (Some child)) ≡ 1 = before_is (length schema) child (nat_lt child (length schema)) (Decides-ltb child (length schema)) (h child refl) in
      let name : length (table_name schema child) ≤ 32 = name_length (slice_get schema child) (tree.short_table_names child) in
      let all : length (codes " REFERENCES " ++ (table_name schema child ++ codes "(id)")) ≤ 48 = simp length-append (omega (arith, name)) in
      omega (arith, one, all)

  record IsSmall (column : Column) : Type 0 where
    name : length column.name ≤ 32
    kind : (most : ℕ) → column.kind ≡ Chars most → most ≤ 64
    nullable : (most : ℕ) → column.kind ≡ CharsOrNull most → most ≤ 64
    key : (table : ℕ) → column.child ≡ Some table → column.kind ≡ Integer
    child : (table : ℕ) → column.child ≡ Some table → table < length schema

  -- a foreign key, which is never NULL, is named by its kind and its reference; any other column by its kind alone
  kind_and_reference : (column : Column) → IsSmall column → (child : Option ℕ) → column.child ≡ child
      → length (kind_text column.kind) + length (reference_text schema child) ≤ 13 + 42 * one_if (is_before (length schema) child)
  kind_and_reference column small None e =
      let kind = kind_length column.kind small.kind small.nullable in
      omega (arith, kind)
  kind_and_reference column small (Some table) e =
      let kind : length (kind_text column.kind) ≡ 7 = ap (λ k. length (kind_text k)) (small.key table e) in
      let one : one_if (is_before (length schema) (Some table)) ≡ 1 = before_is (length schema) table (nat_lt table (length schema)) (Decides-ltb table (length schema)) (small.child table e) in
      let reference = reference_length (Some table) (λ child f. let same : table ≡ child = cc in subst (λ n. n < length schema) same (small.child table e)) in
      omega (arith, kind, one, reference)

  column_length : (column : Column) → IsSmall column → length (column_text schema column) ≤ 55 + 42 * one_if (is_before (length schema) column.child)
  column_length column small =
      text_length column.name (kind_text column.kind) (reference_text schema column.child) (hidden_text column.hidden)
      (42 * one_if (is_before (length schema) column.child)) small.name (kind_and_reference column small column.child refl)
      (hidden_length column.hidden)

  columns_length : (columns : List Column) → ((j : ℕ) (column : Column) → slice_get columns j ≡ Some column → IsSmall column)
      → length (flat_map (column_text schema) columns) ≤ 55 * length columns + 42 * keys_before (length schema) columns
  unfolding tally
  columns_length [] small = omega arith
  columns_length (column ∷ columns) small =
      let this = column_length column (small 0 column refl) in
      let rest = columns_length columns (λ j other e. small (suc j) other e) in
      let both : length (column_text schema column ++ flat_map (column_text schema) columns) ≡ length (column_text schema column) + length (flat_map (column_text schema) columns)
      = length-append (column_text schema column) (flat_map (column_text schema) columns) in
      omega (arith, this, rest, both)

  later_length : (columns : List Column) → length columns ≤ 24 → ((j : ℕ) (column : Column) → slice_get columns j ≡ Some column → IsSmall column)
      → length (flat_map (column_text schema) (drop 1 columns)) ≤ 1265 + 42 * keys_before (length schema) columns
  unfolding tally
  later_length [] few small = omega arith
  later_length (column ∷ columns) few small =
      let rest = columns_length columns (λ j other e. small (suc j) other e) in
      omega (arith, rest, few)

  line_length : (name columns : List ℕ) (most : ℕ) → length name ≤ 32 → length columns ≤ 1265 + most
      → length (codes "CREATE TABLE " ++ (name ++ (codes " (id INTEGER PRIMARY KEY" ++ (columns ++ (codes ");" ++ 10 ∷ []))))) ≤ 1337 + most
  line_length name columns most a b = simp length-append (omega arith)

  record IsSmallTable (table : Table) : Type 0 where
    name : length table.name ≤ 32
    few : length table.columns ≤ 24
    small : (j : ℕ) (column : Column) → slice_get table.columns j ≡ Some column → IsSmall column

  table_length : (table : Table) → IsSmallTable table → length (table_text schema table) ≤ 1337 + 42 * keys_before (length schema) table.columns
  table_length table t =
      line_length table.name (flat_map (column_text schema) (drop 1 table.columns)) (42 * keys_before (length schema) table.columns) t.name
      (later_length table.columns t.few t.small)

  tables_length : (tables : List Table) → ((k : ℕ) (table : Table) → slice_get tables k ≡ Some table → IsSmallTable table)
      → length (flat_map (table_text schema) tables) ≤ 1337 * length tables + 42 * all_keys_before (length schema) tables
  unfolding all_keys_before
  tables_length [] small = omega arith
  tables_length (table ∷ tables) small =
      let this = table_length table (small 0 table refl) in
      let rest = tables_length tables (λ k other e. small (suc k) other e) in
      let both : length (table_text schema table ++ flat_map (table_text schema) tables) ≡ length (table_text schema table) + length (flat_map (table_text schema) tables)
      = length-append (table_text schema table) (flat_map (table_text schema) tables) in
      omega (arith, this, rest, both)

  small_table : (k : ℕ) (table : Table) → slice_get schema k ≡ Some table → IsSmallTable table
  small_table k table e = record {
    name = tree.short_table_names k table e;
    few = subst (λ o. length (columns_or_none o) ≤ 24) e (tree.few_columns k);
    small = λ j column h.
        let there = ap (λ o. slice_get (columns_or_none o) j) e ∙ h in
        record {
          name = tree.short_names k j column there;
          kind = λ most f. (tree.text_lengths k j most column there f).1;
          nullable = λ most f. (tree.nullable_text_lengths k j most column there f).1;
          key = λ child f. tree.references_are_integers k j child column there f;
          child = λ child f. tree.references_name_tables k j child column there f;
        };
  }

  pub canonical_length : length (canonical_text schema) ≤ 16548
  canonical_length =
      let text = tables_length schema small_table in
      let keys = few_keys schema (length schema) tree.one_parent in
      let few = tree.few_tables in
      omega (arith, text, keys, few)

four_bytes : (n : ℕ) → length (to_be_bytes w32 n) ≡ 4
four_bytes n = refl

pub counts_length : (counts : List ℕ) → length (counts_bytes counts) ≡ 4 * length counts
counts_length [] = refl
counts_length (count ∷ counts) =
    let rest = counts_length counts in
    let this = four_bytes count in
    let both : length (to_be_bytes w32 count ++ counts_bytes counts) ≡ length (to_be_bytes w32 count) + length (counts_bytes counts) = length-append (to_be_bytes w32 count) (counts_bytes counts) in
    omega (arith, rest, this, both)

parts_length : (a b c : List ℕ) (x y z : ℕ) → length a ≤ x → length b ≤ y → length c ≤ z → length (a ++ (b ++ c)) ≤ x + (y + z)
parts_length a b c x y z p q r = simp length-append (omega arith)

head_length : (version generation size : ℕ) → length (catalog_head version generation size) ≡ 16
head_length version generation size = refl

pub no_catalog_is_long : NoCatalogIsLong
no_catalog_is_long cat proper =
    let tree = schemas_are_trees (canonical_text cat.schema) cat.schema proper.meant in
    let few : length cat.schema ≤ 12 = tree.few_tables in
    let same : length cat.counts ≡ length cat.schema = proper.counted in
    let counted : length (counts_bytes cat.counts) ≡ 4 * length cat.counts = counts_length cat.counts in
    let head : length (catalog_head cat.version cat.generation (length (canonical_text cat.schema))) ≡ 16 = head_length cat.version cat.generation (length (canonical_text cat.schema)) in
    let all = parts_length (catalog_head cat.version cat.generation (length (canonical_text cat.schema))) (canonical_text cat.schema) (counts_bytes cat.counts) 16 16548 48
    (omega (arith, head)) (canonical_length cat.schema tree) (omega (arith, counted, same, few)) in
    omega (arith, all)
