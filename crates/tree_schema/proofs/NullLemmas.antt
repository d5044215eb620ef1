-- A tree in which a column may be NULL too meets the rules that the tree meets, and means the schema with that column. So some text
-- means that schema.
use Rattle.std.proofs.Common.{◌≡◌, ℕ, zero, suc, ◌+◌, ◌<◌, nat_lt, Bool, true, false, not, ◌||◌, ◌&&◌, ◌==◌, cond, if◌then◌else◌, List, [], ◌∷◌, ◌++◌, length, map, flat_map, find, position, take, drop, get_or, arith, Option, Some, None, is_none, option_map, Ok, slice_get, bytes_eq, refl, sym, ap, ◌∙◌, subst, append_assoc}
use Rattle.std.specs.Prelude.{count_by, fold, option_and_then, slice_set}
use Rattle.std.specs.List.{list_any, list_all, position_from, refill}
use Rattle.std.specs.Option.{option_or}
use Rattle.std.proofs.lemmas.Bool.{and_parts}
use Rattle.std.proofs.lemmas.Iterator.Adapters.{position_from-zero}
use Rattle.std.proofs.Math.Seq.{take-append_seam}
use Rattle.std.proofs.lemmas.Option.{slice_get-map}
use Rattle.ghost_model.specs.core.Schema as schema
use Rattle.ghost_model.specs.core.Schema.{Schema, Column, Table, places_from, places_of, is_empty, is_table, references_to, first_of, parent, ancestor, columns_or_none, column_at, is_nullable}
use Rattle.ghost_model.specs.core.Query.{Field}
use Rattle.ghost_model.specs.refusals.Tokens.{Symbol, Word, NullWord, Comma, Closing, Semicolon, EndOfText, number_of, symbols}
use Rattle.ghost_model.specs.refusals.Grammar.{separated}
use Rattle.ghost_model.specs.refusals.Rules.{broken_if, first_broken, MeetsAll}
use Rattle.ghost_model.specs.refusals.SchemaGrammar.{To, Reference, ColumnDeclaration, CharColumn, IntegerColumn, NullableColumn, TableText, SchemaText, spell_declaration, spell_heading, spell_declared_table, schema_spelling}
use Rattle.ghost_model.specs.refusals.SchemaMeaning.{declared_table, columns_written, column_of, table_of, schema_of}
use Rattle.ghost_model.specs.refusals.SchemaFaults.{OverLimit, NoId, TwoParents, Cycle, is_long, is_over, is_table_over, is_column_over, declared_name, columns_at, repeats, is_duplicate, fields_from, fields, is_identifier, is_primary, table_lacks_id, refers_nowhere, references_naming, returns, roots_of, rules_of_schemas, MeansSchema}
use Rattle.ghost_model.specs.laws.SchemaLaws.{OneSchemaReading}
use Rattle.ghost_model.specs.laws.Spelled.{TokensAreSpelled, is_spelled, text_of}
use Rattle.ghost_model.specs.laws.ShortWords.{is_unknown, table_repeats, column_repeats, lacks_id, is_shared, duplicate_at, unknown_at, wrong_roots}
use Rattle.ghost_model.specs.readings.SchemaReading.{schema_reading}
use Rattle.ghost_model.proofs.GrammarLemmas.{spelled_both, spelled_parts}
use Rattle.ghost_model.proofs.SchemaTreeLemmas.{none_at, mapped, table_spelled, identified, known, tables_spelled}
use Rattle.tree_schema.specs.Nulls.{or_null, column_or_null, is_free, may_be_null, changed_at, table_with_null, with_null}
use Rattle.tree_schema.specs.Catalogs.{IsCatalog, catalog_of_version}
use Rattle.tree_schema.specs.Schemas.{IsDeclared}

-- what does not see a change of one element is the same of the changed list

module _ {X : Type 0} (change : X → X) where
  map_same : {Y : Type 0} (f : X → Y) → ((x : X) → f (change x) ≡ f x) → (place : ℕ) (xs : List X) → map f (changed_at change place xs) ≡ map f xs
  unfolding changed_at
  map_same f same place [] = refl
  map_same f same zero (x ∷ xs) = ap (λ y. y ∷ map f xs) (same x)
  map_same f same (suc place) (x ∷ xs) = ap (λ ys. f x ∷ ys) (map_same f same place xs)

  pub length_same : (place : ℕ) (xs : List X) → length (changed_at change place xs) ≡ length xs
  unfolding changed_at
  length_same place [] = refl
  length_same zero (x ∷ xs) = refl
  length_same (suc place) (x ∷ xs) = ap suc (length_same place xs)

  any_same : (test : X → Bool) → ((x : X) → test (change x) ≡ test x) → (place : ℕ) (xs : List X) → list_any test (changed_at change place xs) ≡ list_any test xs
  unfolding changed_at
  any_same test same place [] = refl
  any_same test same zero (x ∷ xs) = ap (λ b. b || list_any test xs) (same x)
  any_same test same (suc place) (x ∷ xs) = ap (λ b. test x || b) (any_same test same place xs)

  sum_same : (size : X → ℕ) → ((x : X) → size (change x) ≡ size x) → (place n : ℕ) (xs : List X)
      → fold (λ a x. a + size x) n (changed_at change place xs) ≡ fold (λ a x. a + size x) n xs
  unfolding changed_at
  sum_same size same place n [] = refl
  sum_same size same zero n (x ∷ xs) = ap (λ more. fold (λ a y. a + size y) (n + more) xs) (same x)
  sum_same size same (suc place) n (x ∷ xs) = sum_same size same place (n + size x) xs

  places_same : (test : X → Bool) → ((x : X) → test (change x) ≡ test x) → (place at : ℕ) (xs : List X)
      → places_from test at (changed_at change place xs) ≡ places_from test at xs
  unfolding changed_at places_from
  places_same test same place at [] = refl
  places_same test same zero at (x ∷ xs) = ap (λ b. if b then at ∷ places_from test (at + 1) xs else places_from test (at + 1) xs) (same x)
  places_same test same (suc place) at (x ∷ xs) =
      ap (λ (places : List ℕ). if test x then at ∷ places else places) (places_same test same place (at + 1) xs)

  position_same : (test : X → Bool) → ((x : X) → test (change x) ≡ test x) → (place at : ℕ) (xs : List X)
      → position_from test at (changed_at change place xs) ≡ position_from test at xs
  unfolding changed_at
  position_same test same place at [] = refl
  position_same test same zero at (x ∷ xs) = ap (λ b. cond b (Some at) (position_from test (at + 1) xs)) (same x)
  position_same test same (suc place) at (x ∷ xs) = ap (λ o. cond (test x) (Some at) o) (position_same test same place (at + 1) xs)

  get_same : {Y : Type 0} (f : Option X → Y) → ((x : X) → f (Some (change x)) ≡ f (Some x)) → (place at : ℕ) (xs : List X)
      → f (slice_get (changed_at change place xs) at) ≡ f (slice_get xs at)
  unfolding changed_at
  get_same f same place at [] = refl
  get_same f same zero zero (x ∷ xs) = same x
  get_same f same zero (suc at) (x ∷ xs) = refl
  get_same f same (suc place) zero (x ∷ xs) = refl
  get_same f same (suc place) (suc at) (x ∷ xs) = get_same f same place at xs

  -- a map of the changed list is a change of the mapped list
  map_changed : {Y : Type 0} (f : X → Y) (other : Y → Y) (place : ℕ) (xs : List X) → ((x : X) → slice_get xs place ≡ Some x → f (change x) ≡ other (f x))
      → map f (changed_at change place xs) ≡ changed_at other place (map f xs)
  unfolding changed_at
  map_changed f other place [] same = refl
  map_changed f other zero (x ∷ xs) same = ap (λ y. y ∷ map f xs) (same x refl)
  map_changed f other (suc place) (x ∷ xs) same = ap (λ ys. f x ∷ ys) (map_changed f other place xs same)

  spelled_same : (spell : X → List Symbol) → ((x : X) → list_all is_spelled (spell x) ≡ true → list_all is_spelled (spell (change x)) ≡ true)
      → (place : ℕ) (xs : List X) → list_all is_spelled (flat_map spell xs) ≡ true → list_all is_spelled (flat_map spell (changed_at change place xs)) ≡ true
  unfolding changed_at
  spelled_same spell still place [] e = e
  spelled_same spell still zero (x ∷ xs) e =
      let both = spelled_parts (spell x) (flat_map spell xs) e in
      spelled_both (spell (change x)) (flat_map spell xs) (still x both.0) both.1
  spelled_same spell still (suc place) (x ∷ xs) e =
      let both = spelled_parts (spell x) (flat_map spell xs) e in
      spelled_both (spell x) (flat_map spell (changed_at change place xs)) both.0 (spelled_same spell still place xs both.1)

-- a declaration with NULL, where there is one

nullable : ColumnDeclaration → ColumnDeclaration
nullable (CharColumn name digits _ hidden) = CharColumn name digits true hidden
nullable (IntegerColumn name true reference hidden) = IntegerColumn name true reference hidden
nullable (IntegerColumn name false (Some reference) hidden) = IntegerColumn name false (Some reference) hidden
nullable (IntegerColumn name false None hidden) = NullableColumn name hidden
nullable (NullableColumn name hidden) = NullableColumn name hidden

same_over : (column : ColumnDeclaration) → is_column_over (nullable column) ≡ is_column_over column
unfolding nullable
same_over (CharColumn name digits null hidden) = refl
same_over (IntegerColumn name true reference hidden) = refl
same_over (IntegerColumn name false (Some reference) hidden) = refl
same_over (IntegerColumn name false None hidden) = refl
same_over (NullableColumn name hidden) = refl

same_name : (column : ColumnDeclaration) → declared_name (nullable column) ≡ declared_name column
unfolding nullable
same_name (CharColumn name digits null hidden) = refl
same_name (IntegerColumn name true reference hidden) = refl
same_name (IntegerColumn name false (Some reference) hidden) = refl
same_name (IntegerColumn name false None hidden) = refl
same_name (NullableColumn name hidden) = refl

same_primary : (column : ColumnDeclaration) → is_primary (nullable column) ≡ is_primary column
unfolding nullable
same_primary (CharColumn name digits null hidden) = refl
same_primary (IntegerColumn name true reference hidden) = refl
same_primary (IntegerColumn name false (Some reference) hidden) = refl
same_primary (IntegerColumn name false None hidden) = refl
same_primary (NullableColumn name hidden) = refl

still_spelled : (column : ColumnDeclaration) → list_all is_spelled (Comma ∷ spell_declaration column) ≡ true → list_all is_spelled (Comma ∷ spell_declaration (nullable column)) ≡ true
unfolding nullable
still_spelled (CharColumn name digits true hidden) e = e
still_spelled (CharColumn name digits false hidden) e = e
still_spelled (IntegerColumn name true reference hidden) e = e
still_spelled (IntegerColumn name false (Some reference) hidden) e = e
still_spelled (IntegerColumn name false None hidden) e = e
still_spelled (NullableColumn name hidden) e = e

refers_same : (tables others : SchemaText) → ((name : List ℕ) → declared_table others name ≡ declared_table tables name)
    → (column : Option ColumnDeclaration) → refers_nowhere others column ≡ refers_nowhere tables column
refers_same tables others same None = refl
refers_same tables others same (Some (CharColumn name digits null hidden)) = refl
refers_same tables others same (Some (IntegerColumn name primary None hidden)) = refl
refers_same tables others same (Some (IntegerColumn name primary (Some (To table says_id)) hidden)) = ap is_none (same table)
refers_same tables others same (Some (NullableColumn name hidden)) = refl

refers_changed : (tables : SchemaText) (column : ColumnDeclaration) → refers_nowhere tables (Some (nullable column)) ≡ refers_nowhere tables (Some column)
unfolding nullable
refers_changed tables (CharColumn name digits null hidden) = refl
refers_changed tables (IntegerColumn name true reference hidden) = refl
refers_changed tables (IntegerColumn name false (Some reference) hidden) = refl
refers_changed tables (IntegerColumn name false None hidden) = refl
refers_changed tables (NullableColumn name hidden) = refl

column_same : (tables others : SchemaText) → ((name : List ℕ) → declared_table others name ≡ declared_table tables name)
    → (column : ColumnDeclaration) → column_of others column ≡ column_of tables column
column_same tables others same (CharColumn name digits null hidden) = refl
column_same tables others same (IntegerColumn name primary None hidden) = refl
column_same tables others same (IntegerColumn name primary (Some (To table says_id)) hidden) =
    ap (λ child. record { name = name; kind = schema.Integer; hidden = true; child = child }) (same table)
column_same tables others same (NullableColumn name hidden) = refl

-- a column that the rules leave, and that is no foreign key, is the one with NULL
column_changed : (tables : SchemaText) (column : ColumnDeclaration) → is_primary column ≡ false → refers_nowhere tables (Some column) ≡ false
    → is_none (column_of tables column).child ≡ true → column_of tables (nullable column) ≡ column_or_null (column_of tables column)
unfolding nullable
column_changed tables (CharColumn name digits true hidden) later known free = refl
column_changed tables (CharColumn name digits false hidden) later known free = refl
column_changed tables (IntegerColumn name true reference hidden) later known free = absurd (cc)
column_changed tables (IntegerColumn name false (Some (To table says_id)) hidden) later known free =
    let clash : false ≡ true = sym known ∙ free in absurd (cc)
column_changed tables (IntegerColumn name false None hidden) later known free = refl
column_changed tables (NullableColumn name hidden) later known free = refl

-- the parts of lists of spelled symbols
spelled_others : (table : TableText) (changed : List ColumnDeclaration)
    → (list_all is_spelled (flat_map (λ other. Comma ∷ spell_declaration other) table.others) ≡ true → list_all is_spelled (flat_map (λ other. Comma ∷ spell_declaration other) changed) ≡ true)
    → list_all is_spelled (spell_declared_table table) ≡ true → list_all is_spelled (spell_declared_table (record table { others = changed })) ≡ true
spelled_others table changed still e =
    let heading = spelled_parts (spell_heading table.name) (separated Comma spell_declaration table.first table.others ++ Closing ∷ Semicolon ∷ []) e in
    let columns = spelled_parts (separated Comma spell_declaration table.first table.others) (Closing ∷ Semicolon ∷ []) heading.1 in
    let parts = spelled_parts (spell_declaration table.first) (flat_map (λ other. Comma ∷ spell_declaration other) table.others) columns.0 in
    spelled_both (spell_heading table.name) (separated Comma spell_declaration table.first changed ++ Closing ∷ Semicolon ∷ []) heading.0
    (spelled_both (separated Comma spell_declaration table.first changed) (Closing ∷ Semicolon ∷ [])
    (spelled_both (spell_declaration table.first) (flat_map (λ other. Comma ∷ spell_declaration other) changed) parts.0 (still parts.1)) columns.1)

-- a test that gives the same of each element

find_same : {X : Type 0} (p q : X → Bool) → ((x : X) → p x ≡ q x) → (xs : List X) → find p xs ≡ find q xs
find_same p q same [] = refl
find_same p q same (x ∷ xs) = ap (λ b. cond b (Some x) (find p xs)) (same x) ∙ ap (λ o. cond (q x) (Some x) o) (find_same p q same xs)

any_by : {X : Type 0} (p q : X → Bool) → ((x : X) → p x ≡ q x) → (xs : List X) → list_any p xs ≡ list_any q xs
any_by p q same [] = refl
any_by p q same (x ∷ xs) = ap (λ b. b || list_any p xs) (same x) ∙ ap (λ b. q x || b) (any_by p q same xs)

count_same : {X : Type 0} (p q : X → Bool) → ((x : X) → p x ≡ q x) → (n : ℕ) (xs : List X)
    → fold (λ a x. a + cond (p x) 1 0) n xs ≡ fold (λ a x. a + cond (q x) 1 0) n xs
count_same p q same n [] = refl
count_same p q same n (x ∷ xs) =
    ap (λ b. fold (λ a y. a + cond (p y) 1 0) (n + cond b 1 0) xs) (same x) ∙ count_same p q same (n + cond (q x) 1 0) xs

both_same : {X : Type 0} (a b c d : Option X) → a ≡ b → c ≡ d → option_or a c ≡ option_or b d
both_same a b c d e f = ap (λ x. option_or x c) e ∙ ap (λ x. option_or b x) f

-- two schemas whose foreign keys are the same

module _ (one other : Schema) (same : (child : ℕ) → schema.holders_of other child ≡ schema.holders_of one child) where
  parent_same : (table : ℕ) → parent other table ≡ parent one table
  parent_same table = ap first_of (same table)

  step_same : (o : Option ℕ) → option_and_then (parent other) o ≡ option_and_then (parent one) o
  step_same None = refl
  step_same (Some above) = parent_same above

  ancestor_same : (steps table : ℕ) → ancestor other steps table ≡ ancestor one steps table
  unfolding ancestor
  ancestor_same zero table = refl
  ancestor_same (suc steps) table = ap (option_and_then (parent other)) (ancestor_same steps table) ∙ step_same (ancestor one steps table)

  returns_same : (table : ℕ) → list_any (λ steps. is_table table (ancestor other (suc steps) table)) (places_of one) ≡ returns one table
  returns_same table =
      any_by (λ steps. is_table table (ancestor other (suc steps) table)) (λ steps. is_table table (ancestor one (suc steps) table))
      (λ steps. ap (is_table table) (ancestor_same (suc steps) table)) (places_of one)

  roots_same : count_by (λ table. is_none (parent other table)) (places_of one) ≡ roots_of one
  roots_same = count_same (λ table. is_none (parent other table)) (λ table. is_none (parent one table)) (λ table. ap is_none (parent_same table)) 0 (places_of one)

-- the tree in which a later column of a table may be NULL

abbrev changed_table : (column : ℕ) → TableText → TableText
changed_table column table = record { name = table.name; first = table.first; others = changed_at nullable column table.others }

module _ (column : ℕ) where
  columns_named : (table : TableText) → map declared_name (columns_written (changed_table column table)) ≡ map declared_name (columns_written table)
  columns_named table = ap (λ (names : List (List ℕ)). declared_name table.first ∷ names) (map_same nullable declared_name same_name column table.others)

  over_same : (table : TableText) → is_table_over (changed_table column table) ≡ is_table_over table
  over_same table =
      ap (λ n. (is_long table.name || nat_lt 24 (suc n)) || (is_column_over table.first || list_any is_column_over (changed_at nullable column table.others)))
      (length_same nullable column table.others)
      ∙ ap (λ b. (is_long table.name || nat_lt 24 (length (columns_written table))) || (is_column_over table.first || b))
      (any_same nullable is_column_over same_over column table.others)

  lack_same : (table : TableText) → table_lacks_id (Some (changed_table column table)) ≡ table_lacks_id (Some table)
  lack_same table = ap (λ b. not (is_identifier table.first) || b) (any_same nullable is_primary same_primary column table.others)

  -- the declaration at a place refers nowhere as before
  later_refers : (tables : SchemaText) (at : ℕ) (table : TableText)
      → refers_nowhere tables (slice_get (columns_written (changed_table column table)) at) ≡ refers_nowhere tables (slice_get (columns_written table) at)
  later_refers tables zero table = refl
  later_refers tables (suc at) table = get_same nullable (refers_nowhere tables) (refers_changed tables) column at table.others

  places_written : (table : TableText) → places_of (columns_written (changed_table column table)) ≡ places_of (columns_written table)
  unfolding places_from
  places_written table = ap (λ (places : List ℕ). 0 ∷ places) (places_same nullable (λ _. true) (λ x. refl) column 1 table.others)

  fields_same : (place at : ℕ) (tables : SchemaText) → fields_from at (changed_at (changed_table column) place tables) ≡ fields_from at tables
  unfolding fields_from changed_at
  fields_same place at [] = refl
  fields_same zero at (table ∷ later) =
      ap (λ (places : List ℕ). map (λ column. record { table = at; column = column }) places ++ fields_from (at + 1) later) (places_written table)
  fields_same (suc place) at (table ∷ later) =
      ap (λ (rest : List Field). map (λ column. record { table = at; column = column }) (places_of (columns_written table)) ++ rest)
      (fields_same place (at + 1) later)

module _ (tables : SchemaText) (table column : ℕ) where
  abbrev changed : SchemaText
  changed = changed_at (changed_table column) table tables

  declared_same : (name : List ℕ) → declared_table changed name ≡ declared_table tables name
  declared_same name =
      position_from-zero (λ (held : TableText). bytes_eq name held.name) changed
      ∙ (position_same (changed_table column) (λ (held : TableText). bytes_eq name held.name) (λ held. refl) table 0 tables
      ∙ sym (position_from-zero (λ (held : TableText). bytes_eq name held.name) tables))

  size_same : length changed ≡ length tables
  size_same = length_same (changed_table column) table tables

  over_all : is_over changed ≡ is_over tables
  over_all =
      ap (λ n. nat_lt 12 n || list_any is_table_over changed) size_same
      ∙ ap (λ b. nat_lt 12 (length tables) || b) (any_same (changed_table column) is_table_over (over_same column) table tables)

  all_places : places_of changed ≡ places_of tables
  all_places = places_same (changed_table column) (λ _. true) (λ x. refl) table 0 tables

  duplicate_same : (field : Field) → is_duplicate changed field ≡ is_duplicate tables field
  duplicate_same field =
      ap (λ (names : List (List ℕ)). (field.column == 0 && repeats names field.table) || column_repeats changed field)
      (map_same (changed_table column) (λ (held : TableText). held.name) (λ held. refl) table tables)
      ∙ ap (λ (names : List (List ℕ)). (field.column == 0 && table_repeats tables field.table) || repeats names field.column)
      (get_same (changed_table column) (λ o. map declared_name (columns_at o)) (columns_named column) table field.table tables)

  unknown_same : (field : Field) → is_unknown changed field ≡ is_unknown tables field
  unknown_same field =
      refers_same tables changed declared_same (slice_get (columns_at (slice_get changed field.table)) field.column)
      ∙ get_same (changed_table column) (λ o. refers_nowhere tables (slice_get (columns_at o) field.column)) (later_refers column tables field.column) table field.table tables

  lacks_same : (place : ℕ) → lacks_id changed place ≡ lacks_id tables place
  lacks_same place = get_same (changed_table column) table_lacks_id (lack_same column) table place tables

  spelled_changed : list_all is_spelled (flat_map spell_declared_table tables) ≡ true → list_all is_spelled (flat_map spell_declared_table changed) ≡ true
  spelled_changed e =
      spelled_same (changed_table column) spell_declared_table
      (λ held. spelled_others held (changed_at nullable column held.others) (spelled_same nullable (λ other. Comma ∷ spell_declaration other) still_spelled column held.others))
      table tables e

  -- its schema, where the column that changes is there as the schema has it
  module _ (leaves : (held : TableText) → slice_get tables table ≡ Some held → (written : ColumnDeclaration) → slice_get held.others column ≡ Some written
      → column_of tables (nullable written) ≡ column_or_null (column_of tables written)) where
    columns_same : (written : List ColumnDeclaration) → map (column_of changed) written ≡ map (column_of tables) written
    columns_same [] = refl
    columns_same (one ∷ others) =
        ap (λ (c : Column). c ∷ map (column_of changed) others) (column_same tables changed declared_same one)
        ∙ ap (λ (cs : List Column). column_of tables one ∷ cs) (columns_same others)

    table_as : (held : TableText) → table_of changed held ≡ table_of tables held
    table_as held = ap (λ (columns : List Column). record { name = held.name; columns = columns }) (columns_same (columns_written held))

    tables_as : (some : SchemaText) → map (table_of changed) some ≡ map (table_of tables) some
    tables_as [] = refl
    tables_as (held ∷ later) =
        ap (λ (t : Table). t ∷ map (table_of changed) later) (table_as held) ∙ ap (λ (ts : List Table). table_of tables held ∷ ts) (tables_as later)

    table_changed : (held : TableText) → slice_get tables table ≡ Some held → table_of tables (changed_table column held) ≡ table_with_null (suc column) (table_of tables held)
    unfolding changed_at
    table_changed held there =
        ap (λ (columns : List Column). record { name = held.name; columns = column_of tables held.first ∷ columns })
        (map_changed nullable (column_of tables) column_or_null column held.others (leaves held there))

    schema_changed : schema_of changed ≡ with_null (schema_of tables) table (suc column)
    schema_changed = tables_as changed ∙ map_changed (changed_table column) (table_of tables) (table_with_null (suc column)) table tables table_changed

  -- what only looks at the foreign keys of a schema
  references_same : (child : ℕ) (held : Table) → references_to child (table_with_null (suc column) held) ≡ references_to child held
  references_same child held = places_same column_or_null (λ (c : Column). is_table child c.child) (λ c. refl) (suc column) 0 held.columns

  holders_same : (all : Schema) (child : ℕ) → schema.holders_of (with_null all table (suc column)) child ≡ schema.holders_of all child
  holders_same all child =
      places_same (table_with_null (suc column)) (λ held. not (is_empty (references_to child held)))
      (λ held. ap (λ (places : List ℕ). not (is_empty places)) (references_same child held)) table 0 all

  naming_same : (all : Schema) (child : ℕ) → references_naming (with_null all table (suc column)) child ≡ references_naming all child
  naming_same all child =
      sum_same (table_with_null (suc column)) (λ (held : Table). length (references_to child held)) (λ held. ap length (references_same child held)) table 0 all

  schema_places : (all : Schema) → places_of (with_null all table (suc column)) ≡ places_of all
  schema_places all = places_same (table_with_null (suc column)) (λ _. true) (λ x. refl) table 0 all

  returning_same : (all : Schema) (from : ℕ) → returns (with_null all table (suc column)) from ≡ returns all from
  returning_same all from =
      ap (list_any (λ steps. is_table from (ancestor (with_null all table (suc column)) (suc steps) from))) (schema_places all)
      ∙ returns_same all (with_null all table (suc column)) (holders_same all) from

  rooted_same : (all : Schema) → roots_of (with_null all table (suc column)) ≡ roots_of all
  rooted_same all =
      ap (λ places. count_by (λ from. is_none (parent (with_null all table (suc column)) from)) places) (schema_places all)
      ∙ roots_same all (with_null all table (suc column)) (holders_same all)

  -- the same faults
  module _ (means : schema_of changed ≡ with_null (schema_of tables) table (suc column)) where
    fault_same : first_broken (rules_of_schemas changed) ≡ first_broken (rules_of_schemas tables)
    fault_same =
        both_same _ _ _ _ (ap (λ b. broken_if b OverLimit) over_all)
        (both_same _ _ _ _ (ap (option_map duplicate_at) (ap (find (is_duplicate changed)) (fields_same column table 0 tables) ∙ find_same (is_duplicate changed) (is_duplicate tables) duplicate_same (fields tables)))
        (both_same _ _ _ _ (ap (option_map NoId) (ap (find (lacks_id changed)) all_places ∙ find_same (lacks_id changed) (lacks_id tables) lacks_same (places_of tables)))
        (both_same _ _ _ _ (ap (option_map unknown_at) (ap (find (is_unknown changed)) (fields_same column table 0 tables) ∙ find_same (is_unknown changed) (is_unknown tables) unknown_same (fields tables)))
        (both_same _ _ _ _
        (ap (option_map TwoParents)
        (ap (find (is_shared changed)) all_places
        ∙ find_same (is_shared changed) (is_shared tables) (λ place. ap (λ n. nat_lt 1 n) (ap (λ (all : Schema). references_naming all place) means ∙ naming_same (schema_of tables) place)) (places_of tables)))
        (both_same _ _ _ _
        (ap (option_map Cycle)
        (ap (find (returns (schema_of changed))) all_places
        ∙ find_same (returns (schema_of changed)) (returns (schema_of tables)) (λ place. ap (λ (all : Schema). returns all place) means ∙ returning_same (schema_of tables) place) (places_of tables)))
        (both_same _ _ _ _ (ap wrong_roots (ap roots_of means ∙ rooted_same (schema_of tables))) refl))))))

-- the column that may be allowed NULL stands in the tree

leaves_at : (tables : SchemaText) → MeetsAll (rules_of_schemas tables) → list_all is_spelled (flat_map spell_declared_table tables) ≡ true → (table column : ℕ)
    → is_free (column_at (schema_of tables) table (suc column)) ≡ true
    → (held : TableText) → slice_get tables table ≡ Some held → (written : ColumnDeclaration) → slice_get held.others column ≡ Some written
    → column_of tables (nullable written) ≡ column_or_null (column_of tables written)
leaves_at tables obeys spelled table column free held there written within =
    let stands : column_at (schema_of tables) table (suc column) ≡ Some (column_of tables written) =
    ap (λ o. slice_get (columns_or_none o) (suc column)) (slice_get-map (table_of tables) tables table ∙ ap (option_map (table_of tables)) there)
    ∙ (slice_get-map (column_of tables) held.others column ∙ ap (option_map (column_of tables)) within) in
    let both = and_parts (is_none (column_of tables written).child) _ (sym (ap is_free stands) ∙ free) in
    column_changed tables written (none_at is_primary held.others column written (identified tables obeys spelled table held there).1 within)
    (known tables obeys spelled table (suc column) held written there within) both.0

-- some text means the schema with the column that may be NULL

module _ (reading : OneSchemaReading) (tokens : TokensAreSpelled) where
  widened : (text : List ℕ) (all : Schema) (table column : ℕ) → MeansSchema text all → is_free (column_at all table (suc column)) ≡ true
      → IsDeclared (with_null all table (suc column))
  widened text all table column means free =
      let tables = means.tables in
      let spelled = tables_spelled text all means in
      let free_here : is_free (column_at (schema_of tables) table (suc column)) ≡ true = ap (λ (one : Schema). is_free (column_at one table (suc column))) means.means ∙ free in
      let schema_is = schema_changed tables table column (leaves_at tables means.obeys spelled table column free_here) in
      let other = flat_map spell_declared_table (changed tables table column) in
      let meant : MeansSchema (text_of other) (with_null all table (suc column)) = record {
        tables = changed tables table column;
        spells = tokens.each_list_has_a_text other (spelled_changed tables table column spelled);
        obeys = fault_same tables table column schema_is ∙ means.obeys;
        means = schema_is ∙ ap (λ (one : Schema). with_null one table (suc column)) means.means;
      } in
      record { text = text_of other; means = (reading.read (text_of other) (with_null all table (suc column))).1 meant }

  pub still_declared : (all : Schema) (table column : ℕ) → IsDeclared all → may_be_null all table column ≡ true → IsDeclared (with_null all table column)
  still_declared all table zero declared may = absurd (cc)
  still_declared all table (suc column) declared may = widened declared.text all table column ((reading.read declared.text all).0 declared.means) (and_parts (nat_lt 0 (suc column)) _ may).1

-- a change of one element, where the list is set

pub changed_set : {X Y : Type 0} (f : X → Y) (change : Y → Y) (place : ℕ) (xs : List X) (x y : X) → place < length xs
    → f y ≡ change (f (get_or xs place x)) → map f (slice_set xs place y) ≡ changed_at change place (map f xs)
unfolding changed_at
changed_set f change place [] x y within same = absurd (omega (arith, within))
changed_set f change zero (first ∷ xs) x y within same = ap (λ z. z ∷ map f xs) same
changed_set f change (suc place) (first ∷ xs) x y within same =
    ap (λ zs. f first ∷ zs) (changed_set f change place xs x y (omega (arith, within)) same)

-- the elements of a vector whose slice was changed
pub refilled : {X : Type 0} (xs ws : List X) → length ws ≡ length xs → refill (length xs) xs ws ≡ ws
refilled xs ws same = ap (λ n. take n (ws ++ drop (length ws) xs)) (sym same) ∙ take-append_seam ws (drop (length ws) xs)

-- the catalog of that schema is one
pub still_catalog : (all other : Schema) (table column : ℕ) (counts : List ℕ) (generation version : ℕ) → IsCatalog (catalog_of_version version all counts generation)
    → other ≡ with_null all table column → IsDeclared other → IsCatalog (catalog_of_version version other counts generation)
still_catalog all other table column counts generation version is same declared = record {
  declared = declared;
  one_each = is.one_each ∙ sym (ap length same ∙ length_same (table_with_null column) table all);
  within = is.within;
  used = is.used;
  some_version = is.some_version;
}
