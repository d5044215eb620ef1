-- Each schema that a text means is a tree within the limits: each rule that is not broken leaves one of its facts.
use Rattle.std.proofs.Common.{◌≡◌, ℕ, zero, suc, ◌+◌, ◌<◌, ◌≤◌, Bool, true, false, not, ◌||◌, cond, List, [], ◌∷◌, ◌++◌, map, take, flat_map, length, find, position, Option, Some, None, option_map, slice_get, bytes_eq, codes, refl, sym, ap, ◌∙◌, subst, add-zero, zero-add, inl, inr, arith}
use Rattle.std.specs.List.{list_any, list_all, position_or_len}
use Rattle.std.proofs.lemmas.Bool.{ltb-true, ltb-false, leb-true, and_parts, or_right, cases_order}
use Rattle.std.proofs.lemmas.List.{length-map}
use Rattle.std.proofs.lemmas.Option.{slice_get-map}
use Rattle.std.proofs.lemmas.Slice.Eq.{bytes_eq-Decides}
use Rattle.ghost_model.specs.core.Schema.{Integer, Chars, CharsOrNull, Column, Table, Schema, columns_or_none, columns_of, column_at, places_of, parent, ancestor}
use Rattle.ghost_model.specs.core.Query.{Field}
use Rattle.ghost_model.specs.refusals.Tokens.{Symbol, Comma, Closing, Semicolon, EndOfText, number_of, is_between}
use Rattle.ghost_model.specs.refusals.Grammar.{separated}
use Rattle.ghost_model.specs.laws.Spelled.{is_spelled, is_name}
use Rattle.ghost_model.specs.refusals.SchemaGrammar.{To, ColumnDeclaration, CharColumn, IntegerColumn, NullableColumn, TableText, SchemaText, spell_declaration, spell_declared_table}
use Rattle.ghost_model.specs.refusals.SchemaMeaning.{columns_written, column_of, table_of, schema_of}
use Rattle.ghost_model.specs.refusals.SchemaFaults as faults
use Rattle.ghost_model.specs.refusals.SchemaFaults.{is_over, is_table_over, is_column_over, declared_name, columns_at, repeats, is_duplicate, fields_from, fields, is_identifier, table_lacks_id, is_primary, refers_nowhere, returns, rules_of_schemas, MeansSchema}
use Rattle.ghost_model.specs.laws.ShortWords.{is_unknown, table_repeats, lacks_id, is_shared}
use Rattle.ghost_model.specs.refusals.Rules.{MeetsAll}
use Rattle.ghost_model.specs.laws.SchemaTrees.{identifier, Returns, IsTree, SchemasAreTrees}
use Rattle.ghost_model.proofs.GrammarLemmas.{spelled_parts, spelled_front}
use Rattle.ghost_model.proofs.SchemaRuleLemmas.{KeptRules, kept_rules, place_passes, returns_no, one_less, parent_below}

pub never_true : (b : Bool) → (b ≡ true → ⊥) → b ≡ false
never_true true h = absurd (h refl)
never_true false h = refl

pub neither : (a b : Bool) → (a || b) ≡ false → (a ≡ false) × (b ≡ false)
neither false b e = (refl, e)
neither true b e = absurd (cc)

pub none_at : {X : Type 0} (test : X → Bool) (xs : List X) (k : ℕ) (x : X) → list_any test xs ≡ false → slice_get xs k ≡ Some x → test x ≡ false
none_at test [] k x e h = absurd (cc)
none_at test (y ∷ ys) zero x e h = let same : y ≡ x = cc in ap test (sym same) ∙ (neither (test y) (list_any test ys) e).0
none_at test (y ∷ ys) (suc k) x e h = none_at test ys k x (neither (test y) (list_any test ys) e).1 h

-- what no first place breaks, no place breaks
none_by : {X : Type 0} (test : X → Bool) (x : X) (rest : List X) (b : Bool) → test x ≡ b → cond b (Some x) (find test rest) ≡ None
    → (find test rest ≡ None → list_any test rest ≡ false) → (b || list_any test rest) ≡ false
none_by test x rest true e h later = absurd (cc)
none_by test x rest false e h later = later h

none_found : {X : Type 0} (test : X → Bool) (xs : List X) → find test xs ≡ None → list_any test xs ≡ false
none_found test [] e = refl
none_found test (x ∷ xs) e = none_by test x xs (test x) refl e (none_found test xs)

pub no_first : {X : Type 0} (found : Option X) → ((x : X) → found ≡ Some x → ⊥) → found ≡ None
no_first None h = refl
no_first (Some x) h = absurd (h x refl)

nowhere : {X : Type 0} (test : ℕ → Bool) (xs : List X) → find test (places_of xs) ≡ None → (k : ℕ) → k < length xs → test k ≡ false
nowhere test xs h k within =
    let none : list_any test (places_of xs) ≡ false = none_found test (places_of xs) h in
    never_true (test k) (λ e.
    let some : list_any test (places_of xs) ≡ true = place_passes test xs 0 k within (ap test (zero-add k) ∙ e) in
    let clash : false ≡ true = sym none ∙ some in absurd (cc))

-- the place of a name is one of the list
position_by : (at : ℕ) (size : ℕ) (b : Bool) (place : ℕ) → (b ≡ true → at < size) → cond b (Some at) None ≡ Some place → place < size
position_by at size true place h e = let same : at ≡ place = cc in subst (λ n. n < size) same (h refl)
position_by at size false place h e = absurd (cc)

position_within : {X : Type 0} (test : X → Bool) (xs : List X) (place : ℕ) → position test xs ≡ Some place → place < length xs
position_within test xs place e = position_by (position_or_len test xs) (length xs) _ place (ltb-true (position_or_len test xs) (length xs)) e

first_is_id : (tables : SchemaText) (column : ColumnDeclaration) → is_identifier column ≡ true → column_of tables column ≡ identifier
first_is_id tables (IntegerColumn name true None false) e =
    ap (λ (given : List ℕ). column_of tables (IntegerColumn given true None false)) ((bytes_eq-Decides name (codes "id")).0 e)
first_is_id tables _ e = absurd (cc)

pub not_false : (b : Bool) → not b ≡ false → b ≡ true
not_false true e = refl
not_false false e = absurd (cc)

key_of : (tables : SchemaText) (column : ColumnDeclaration) (child : ℕ) → (column_of tables column).child ≡ Some child
    → ((column_of tables column).hidden ≡ true) × (child < length tables)
key_of tables (IntegerColumn name primary (Some (To table says_id)) hidden) child e =
    (refl, position_within (λ (other : TableText). bytes_eq table other.name) tables child e)
key_of tables (CharColumn name digits nullable hidden) child e = absurd (cc)
key_of tables (IntegerColumn name primary None hidden) child e = absurd (cc)
key_of tables (NullableColumn name hidden) child e = absurd (cc)

pub mapped : {X Y : Type 0} (f : X → Y) (o : Option X) (y : Y) → option_map f o ≡ Some y → (x : X) × (o ≡ Some x) × (f x ≡ y)
mapped f None y e = absurd (cc)
mapped f (Some x) y e = let same : f x ≡ y = cc in (x, refl, same)

-- each column of the schema is the meaning of a column of the text
pub record IsWritten (tables : SchemaText) (table column : ℕ) (held : Column) : Type 0 where
  pub holder : TableText
  pub text : ColumnDeclaration
  pub in_tables : slice_get tables table ≡ Some holder
  pub in_columns : slice_get (columns_written holder) column ≡ Some text
  pub means : column_of tables text ≡ held

column_in : (tables : SchemaText) (table column : ℕ) (o : Option TableText) (held : Column) → slice_get tables table ≡ o
    → slice_get (columns_or_none (option_map (table_of tables) o)) column ≡ Some held → IsWritten tables table column held
column_in tables table column None held there e = absurd (cc)
column_in tables table column (Some holder) held there e =
    let m = mapped (column_of tables) (slice_get (columns_written holder) column) held (sym (slice_get-map (column_of tables) (columns_written holder) column) ∙ e) in
    record { holder = holder; text = m.0; in_tables = there; in_columns = m.1; means = m.2 }

there_is : {X : Type 0} (xs : List X) (k : ℕ) → k < length xs → (x : X) × (slice_get xs k ≡ Some x)
there_is [] k h = absurd (omega arith)
there_is (x ∷ xs) zero h = (x, refl)
there_is (x ∷ xs) (suc k) h = there_is xs k (omega arith)

pub place_within : {X : Type 0} (xs : List X) (k : ℕ) (x : X) → slice_get xs k ≡ Some x → k < length xs
place_within [] k x e = absurd (cc)
place_within (y ∷ ys) zero x e = omega arith
place_within (y ∷ ys) (suc k) x e = let h : k < length ys = place_within ys k x e in omega arith

-- the columns of all tables, in text order, are the places of some column

any_mapped : {X Y : Type 0} (test : Y → Bool) (f : X → Y) (xs : List X) → list_any test (map f xs) ≡ list_any (λ x. test (f x)) xs
any_mapped test f [] = refl
any_mapped test f (x ∷ xs) = ap (λ b. test (f x) || b) (any_mapped test f xs)

left_or : (a b c : Bool) → (a || b) ≡ true → (b ≡ true → c ≡ true) → (a || c) ≡ true
left_or true b c e later = refl
left_or false b c e later = later e

any_left : {X : Type 0} (test : X → Bool) (xs ys : List X) → list_any test xs ≡ true → list_any test (xs ++ ys) ≡ true
any_left test [] ys e = absurd (cc)
any_left test (x ∷ xs) ys e = left_or (test x) (list_any test xs) (list_any test (xs ++ ys)) e (any_left test xs ys)

any_right : {X : Type 0} (test : X → Bool) (xs ys : List X) → list_any test ys ≡ true → list_any test (xs ++ ys) ≡ true
any_right test [] ys e = e
any_right test (x ∷ xs) ys e = or_right (test x) _ (any_right test xs ys e)

abbrev field_at : (table column : ℕ) → Field
field_at table column = record { table = table; column = column }

field_passes : (test : Field → Bool) (tables : SchemaText) (at k j : ℕ) (holder : TableText) → slice_get tables k ≡ Some holder
    → j < length (columns_written holder) → test (field_at (at + k) j) ≡ true → list_any test (fields_from at tables) ≡ true
unfolding fields_from
field_passes test [] at k j holder e h t = absurd (cc)
field_passes test (table ∷ later) at zero j holder e h t =
    let same : holder ≡ table = cc in
    let within : j < length (columns_written table) = subst (λ (other : TableText). j < length (columns_written other)) same h in
    any_left test (map (field_at at) (places_of (columns_written table))) (fields_from (at + 1) later)
    (any_mapped test (field_at at) (places_of (columns_written table))
    ∙ place_passes (λ column. test (field_at at column)) (columns_written table) 0 j within
    (ap (λ n. test (field_at at n)) (zero-add j) ∙ (ap (λ n. test (field_at n j)) (sym (add-zero at)) ∙ t)))
field_passes test (table ∷ later) at (suc k) j holder e h t =
    let same : (at + 1) + k ≡ at + suc k = omega arith in
    any_right test (map (field_at at) (places_of (columns_written table))) (fields_from (at + 1) later)
    (field_passes test later (at + 1) k j holder e h (ap (λ n. test (field_at n j)) same ∙ t))

pub nowhere_in : (test : Field → Bool) (tables : SchemaText) → find test (fields tables) ≡ None
    → (k j : ℕ) (holder : TableText) → slice_get tables k ≡ Some holder → j < length (columns_written holder) → test (field_at k j) ≡ false
nowhere_in test tables h k j holder e within =
    let none : list_any test (fields tables) ≡ false = none_found test (fields tables) h in
    never_true (test (field_at k j)) (λ t.
    let some : list_any test (fields tables) ≡ true = field_passes test tables 0 k j holder e within (ap (λ n. test (field_at n j)) (zero-add k) ∙ t) in
    let clash : false ≡ true = sym none ∙ some in absurd (cc))

-- a name that stands at two places is repeated at the later one

in_front : {X : Type 0} (test : X → Bool) (xs : List X) (p q : ℕ) (x : X) → slice_get xs p ≡ Some x → p < q → test x ≡ true → list_any test (take q xs) ≡ true
in_front test [] p q x e h t = absurd (cc)
in_front test (y ∷ ys) p zero x e h t = absurd (omega arith)
in_front test (y ∷ ys) zero (suc q) x e h t = let same : y ≡ x = cc in ap (λ b. b || list_any test (take q ys)) (ap test same ∙ t)
in_front test (y ∷ ys) (suc p) (suc q) x e h t = or_right (test y) _ (in_front test ys p q x e (omega arith) t)

repeated : (names : List (List ℕ)) (p q : ℕ) (name : List ℕ) → slice_get names p ≡ Some name → slice_get names q ≡ Some name → p < q → repeats names q ≡ true
repeated names p q name e f h =
    ap (λ o. list_any (faults.is_this_name o) (take q names)) f ∙ in_front (bytes_eq name) names p q name e h ((bytes_eq-Decides name name).1 refl)

-- places whose names are never repeated have two names
distinct : (names : List (List ℕ)) → ((q : ℕ) (name : List ℕ) → slice_get names q ≡ Some name → repeats names q ≡ false)
    → (p q : ℕ) (name : List ℕ) → slice_get names p ≡ Some name → slice_get names q ≡ Some name → p ≡ q
distinct names none p q name e f = elim (cases_order p q) [
  | inl same ↦ same
  | inr (inl less) ↦ (let clash : false ≡ true = sym (none q name f) ∙ repeated names p q name e f less in absurd (cc))
  | inr (inr more) ↦ (let clash : false ≡ true = sym (none p name e) ∙ repeated names q p name f e more in absurd (cc))
]

-- what is spelled in a text is spelled in its tables and columns

each_spelled : {X : Type 0} (spell : X → List Symbol) (xs : List X) (k : ℕ) (x : X) → list_all is_spelled (flat_map spell xs) ≡ true
    → slice_get xs k ≡ Some x → list_all is_spelled (spell x) ≡ true
each_spelled spell [] k x e h = absurd (cc)
each_spelled spell (y ∷ ys) zero x e h =
    let same : y ≡ x = cc in
    ap (λ z. list_all is_spelled (spell z)) (sym same) ∙ (spelled_parts (spell y) (flat_map spell ys) e).0
each_spelled spell (y ∷ ys) (suc k) x e h = each_spelled spell ys k x (spelled_parts (spell y) (flat_map spell ys) e).1 h

inside_table : (table : TableText) → list_all is_spelled (spell_declared_table table) ≡ true
    → (is_name table.name ≡ true) × (list_all is_spelled (spell_declaration table.first) ≡ true)
    × (list_all is_spelled (flat_map (λ other. Comma ∷ spell_declaration other) table.others) ≡ true)
inside_table table e =
    let named = and_parts (is_name table.name) (list_all is_spelled (separated Comma spell_declaration table.first table.others ++ Closing ∷ Semicolon ∷ [])) e in
    let columns = spelled_parts (separated Comma spell_declaration table.first table.others) (Closing ∷ Semicolon ∷ []) named.1 in
    let parts = spelled_parts (spell_declaration table.first) (flat_map (λ other. Comma ∷ spell_declaration other) table.others) columns.0 in
    (named.0, parts.0, parts.1)

pub column_spelled : (table : TableText) (j : ℕ) (column : ColumnDeclaration) → list_all is_spelled (spell_declared_table table) ≡ true
    → slice_get (columns_written table) j ≡ Some column → list_all is_spelled (spell_declaration column) ≡ true
column_spelled table zero column e h =
    let same : table.first ≡ column = cc in
    ap (λ c. list_all is_spelled (spell_declaration c)) (sym same) ∙ (inside_table table e).1
column_spelled table (suc j) column e h = each_spelled (λ other. Comma ∷ spell_declaration other) table.others j column (inside_table table e).2 h

pub column_named : (column : ColumnDeclaration) → list_all is_spelled (spell_declaration column) ≡ true → is_name (declared_name column) ≡ true
column_named (CharColumn name digits nullable hidden) e = (and_parts (is_name name) _ e).0
column_named (IntegerColumn name primary reference hidden) e = (and_parts (is_name name) _ e).0
column_named (NullableColumn name hidden) e = (and_parts (is_name name) _ e).0

-- a column's name and kind in the schema

name_kept : (tables : SchemaText) (column : ColumnDeclaration) → (column_of tables column).name ≡ declared_name column
name_kept tables (CharColumn name digits nullable hidden) = refl
name_kept tables (IntegerColumn name primary None hidden) = refl
name_kept tables (IntegerColumn name primary (Some (To table says_id)) hidden) = refl
name_kept tables (NullableColumn name hidden) = refl

short_column : (column : ColumnDeclaration) → is_column_over column ≡ false → length (declared_name column) ≤ 32
short_column (CharColumn name digits nullable hidden) e = ltb-false 32 (length name) (neither _ _ e).0
short_column (IntegerColumn name primary None hidden) e = ltb-false 32 (length name) e
short_column (IntegerColumn name primary (Some (To table says_id)) hidden) e = ltb-false 32 (length name) (neither _ _ e).0
short_column (NullableColumn name hidden) e = ltb-false 32 (length name) e

pub length_within : (name digits : List ℕ) (nullable hidden : Bool) → is_column_over (CharColumn name digits nullable hidden) ≡ false → (1 ≤ number_of digits) × (number_of digits ≤ 64)
length_within name digits nullable hidden e =
    let between = and_parts _ _ (not_false (is_between 1 64 (number_of digits)) (neither _ _ e).1) in
    (leb-true 1 (number_of digits) between.0, leb-true (number_of digits) 64 between.1)

lengths_kept : (tables : SchemaText) (column : ColumnDeclaration) (most : ℕ) → is_column_over column ≡ false → (column_of tables column).kind ≡ Chars most
    → (1 ≤ most) × (most ≤ 64)
lengths_kept tables (CharColumn name digits false hidden) most e k =
    let same : number_of digits ≡ most = cc in
    subst (λ n. (1 ≤ n) × (n ≤ 64)) same (length_within name digits false hidden e)
lengths_kept tables (CharColumn name digits true hidden) most e k = absurd (cc)
lengths_kept tables (IntegerColumn name primary None hidden) most e k = absurd (cc)
lengths_kept tables (IntegerColumn name primary (Some (To table says_id)) hidden) most e k = absurd (cc)
lengths_kept tables (NullableColumn name hidden) most e k = absurd (cc)

nullable_lengths_kept : (tables : SchemaText) (column : ColumnDeclaration) (most : ℕ) → is_column_over column ≡ false
    → (column_of tables column).kind ≡ CharsOrNull most → (1 ≤ most) × (most ≤ 64)
nullable_lengths_kept tables (CharColumn name digits true hidden) most e k =
    let same : number_of digits ≡ most = cc in
    subst (λ n. (1 ≤ n) × (n ≤ 64)) same (length_within name digits true hidden e)
nullable_lengths_kept tables (CharColumn name digits false hidden) most e k = absurd (cc)
nullable_lengths_kept tables (IntegerColumn name primary None hidden) most e k = absurd (cc)
nullable_lengths_kept tables (IntegerColumn name primary (Some (To table says_id)) hidden) most e k = absurd (cc)
nullable_lengths_kept tables (NullableColumn name hidden) most e k = absurd (cc)

key_is_integer : (tables : SchemaText) (column : ColumnDeclaration) (child : ℕ) → (column_of tables column).child ≡ Some child
    → (column_of tables column).kind ≡ Integer
key_is_integer tables (CharColumn name digits nullable hidden) child e = absurd (cc)
key_is_integer tables (IntegerColumn name primary None hidden) child e = absurd (cc)
key_is_integer tables (IntegerColumn name primary (Some (To table says_id)) hidden) child e = refl
key_is_integer tables (NullableColumn name hidden) child e = absurd (cc)

module _ (tables : SchemaText) (obeys : MeetsAll (rules_of_schemas tables)) (spelled : list_all is_spelled (flat_map spell_declared_table tables) ≡ true) where
  kept : KeptRules tables
  kept = kept_rules tables obeys

  size : length (schema_of tables) ≡ length tables
  size = length-map tables (table_of tables)

  table_in : (table : ℕ) → columns_of (schema_of tables) table ≡ columns_or_none (option_map (table_of tables) (slice_get tables table))
  table_in table = ap columns_or_none (slice_get-map (table_of tables) tables table)

  written : (table column : ℕ) (held : Column) → column_at (schema_of tables) table column ≡ Some held → IsWritten tables table column held
  written table column held e =
      column_in tables table column (slice_get tables table) held refl (ap (λ columns. slice_get columns column) (sym (table_in table)) ∙ e)

  declared : (table : ℕ) (held : Table) → slice_get (schema_of tables) table ≡ Some held → (text : TableText) × (slice_get tables table ≡ Some text) × (table_of tables text ≡ held)
  declared table held e = mapped (table_of tables) (slice_get tables table) held (sym (slice_get-map (table_of tables) tables table) ∙ e)

  limits : (is_over tables) ≡ false
  limits = kept.limits

  few_columns_in : (table : ℕ) (o : Option TableText) → slice_get tables table ≡ o → length (columns_or_none (option_map (table_of tables) o)) ≤ 24
  few_columns_in table None e = omega arith
  few_columns_in table (Some text) e =
      let all = (neither _ _ limits).1 in
      let this : is_table_over text ≡ false = none_at is_table_over tables table text all e in
      let few = (neither _ _ (neither _ _ this).0).1 in
      let h : length (columns_written text) ≤ 24 = ltb-false 24 (length (columns_written text)) few in
      subst (λ n. n ≤ 24) (sym (length-map (columns_written text) (column_of tables))) h

  -- each table of the text begins with its identifier, and no other column is one
  pub identified : (table : ℕ) (text : TableText) → slice_get tables table ≡ Some text
      → (is_identifier text.first ≡ true) × (list_any is_primary text.others ≡ false)
  identified table text e =
      let lacks : lacks_id tables table ≡ false = nowhere (lacks_id tables) tables kept.identifiers table (place_within tables table text e) in
      let both = neither _ _ (ap table_lacks_id (sym e) ∙ lacks) in
      (not_false _ both.0, both.1)

  -- each reference of the text names a table
  pub known : (table column : ℕ) (holder : TableText) (text : ColumnDeclaration) → slice_get tables table ≡ Some holder
      → slice_get (columns_written holder) column ≡ Some text → refers_nowhere tables (Some text) ≡ false
  known table column holder text e h =
      ap (refers_nowhere tables) (sym (ap (λ o. slice_get (columns_at o) column) e ∙ h))
      ∙ nowhere_in (is_unknown tables) tables kept.references table column holder e (place_within (columns_written holder) column text h)

  begins : (table : ℕ) → table < length tables → column_at (schema_of tables) table 0 ≡ Some identifier
  begins table h =
      let t = there_is tables table h in
      ap (λ columns. slice_get columns 0) (table_in table ∙ ap (λ o. columns_or_none (option_map (table_of tables) o)) t.1)
      ∙ ap Some (first_is_id tables t.0.first (identified table t.0 t.1).0)

  return_within : (table steps : ℕ) → 0 < steps → ancestor (schema_of tables) steps table ≡ Some table → table < length tables
  unfolding ancestor
  return_within table zero m e = absurd (omega arith)
  return_within table (suc steps) m e =
      let back = one_less (ancestor (schema_of tables) steps table) (parent (schema_of tables)) table e in
      subst (λ n. table < n) size (parent_below (schema_of tables) back.0 table back.2)

  no_return : (table : ℕ) → Returns (schema_of tables) table → ⊥
  no_return table r =
      let within : table < length tables = return_within table r.steps r.moves r.back in
      let no : returns (schema_of tables) table ≡ false = nowhere (returns (schema_of tables)) tables kept.cycles table within in
      let clash : false ≡ true = sym no ∙ returns_no (schema_of tables) table r in
      absurd (cc)

  key : (table column child : ℕ) (held : Column) → column_at (schema_of tables) table column ≡ Some held → held.child ≡ Some child
      → (held.hidden ≡ true) × (child < length tables)
  key table column child held e h =
      let w = written table column held e in
      let k = key_of tables w.text child (ap (λ (c : Column). c.child) w.means ∙ h) in
      (ap (λ (c : Column). c.hidden) (sym w.means) ∙ k.0, k.1)

  table_kept : (table : ℕ) (text : TableText) → slice_get tables table ≡ Some text → is_table_over text ≡ false
  table_kept table text e = none_at is_table_over tables table text (neither _ _ limits).1 e

  pub column_kept : (table column : ℕ) (holder : TableText) (text : ColumnDeclaration) → slice_get tables table ≡ Some holder
      → slice_get (columns_written holder) column ≡ Some text → is_column_over text ≡ false
  column_kept table column holder text e h =
      none_at is_column_over (columns_written holder) column text (neither _ _ (table_kept table holder e)).1 h

  short_text : (text : TableText) → is_table_over text ≡ false → length text.name ≤ 32
  short_text text e = ltb-false 32 (length text.name) (neither _ _ (neither _ _ e).0).0

  pub table_spelled : (table : ℕ) (text : TableText) → slice_get tables table ≡ Some text → list_all is_spelled (spell_declared_table text) ≡ true
  table_spelled table text e = each_spelled spell_declared_table tables table text spelled e

  pub table_named_well : (table : ℕ) (text : TableText) → slice_get tables table ≡ Some text → is_name text.name ≡ true
  table_named_well table text e = (inside_table text (table_spelled table text e)).0

  -- no name is repeated
  fresh : (table column : ℕ) (holder : TableText) → slice_get tables table ≡ Some holder → column < length (columns_written holder)
      → is_duplicate tables (field_at table column) ≡ false
  fresh = nowhere_in (is_duplicate tables) tables kept.names

  fresh_table : (table : ℕ) (name : List ℕ) → slice_get (map (λ (text : TableText). text.name) tables) table ≡ Some name → table_repeats tables table ≡ false
  fresh_table table name e =
      let m = mapped (λ (text : TableText). text.name) (slice_get tables table) name (sym (slice_get-map (λ (text : TableText). text.name) tables table) ∙ e) in
      (neither _ _ (fresh table 0 m.0 m.1 (omega arith))).0

  fresh_column : (table : ℕ) (holder : TableText) → slice_get tables table ≡ Some holder → (column : ℕ) (name : List ℕ)
      → slice_get (map declared_name (columns_written holder)) column ≡ Some name → repeats (map declared_name (columns_written holder)) column ≡ false
  fresh_column table holder there column name e =
      let m = mapped declared_name (slice_get (columns_written holder) column) name (sym (slice_get-map declared_name (columns_written holder) column) ∙ e) in
      ap (λ o. repeats (map declared_name (columns_at o)) column) (sym there)
      ∙ (neither _ _ (fresh table column holder there (place_within (columns_written holder) column m.0 m.1))).1

  two_tables : (table other : ℕ) (held same : Table) → slice_get (schema_of tables) table ≡ Some held → slice_get (schema_of tables) other ≡ Some same
      → held.name ≡ same.name → table ≡ other
  two_tables table other held same e f names =
      let d = declared table held e in
      let b = declared other same f in
      let list = map (λ (text : TableText). text.name) tables in
      distinct list fresh_table table other held.name
      (slice_get-map (λ (text : TableText). text.name) tables table ∙ (ap (option_map (λ (text : TableText). text.name)) d.1 ∙ ap (λ (t : Table). Some t.name) d.2))
      (slice_get-map (λ (text : TableText). text.name) tables other
      ∙ (ap (option_map (λ (text : TableText). text.name)) b.1 ∙ (ap (λ (t : Table). Some t.name) b.2 ∙ ap Some (sym names))))

  column_name_at : (holder : TableText) (column : ℕ) (text : ColumnDeclaration) (held : Column) → slice_get (columns_written holder) column ≡ Some text
      → column_of tables text ≡ held → slice_get (map declared_name (columns_written holder)) column ≡ Some held.name
  column_name_at holder column text held e means =
      slice_get-map declared_name (columns_written holder) column
      ∙ (ap (option_map declared_name) e ∙ ap Some (sym (name_kept tables text) ∙ ap (λ (c : Column). c.name) means))

  two_columns : (table column other : ℕ) (held same : Column) → column_at (schema_of tables) table column ≡ Some held
      → column_at (schema_of tables) table other ≡ Some same → held.name ≡ same.name → column ≡ other
  two_columns table column other held same e f names =
      let d = written table column held e in
      let b = written table other same f in
      let one : Some b.holder ≡ Some d.holder = sym b.in_tables ∙ d.in_tables in
      let one_holder : b.holder ≡ d.holder = cc in
      distinct (map declared_name (columns_written d.holder)) (fresh_column table d.holder d.in_tables) column other held.name
      (column_name_at d.holder column d.text held d.in_columns d.means)
      (ap (λ (h : TableText). slice_get (map declared_name (columns_written h)) other) (sym one_holder)
      ∙ (column_name_at b.holder other b.text same b.in_columns b.means ∙ ap Some (sym names)))

  tree_of : IsTree (schema_of tables)
  tree_of = record {
    few_tables = subst (λ n. n ≤ 12) (sym size) (ltb-false 12 (length tables) (neither _ _ limits).0);
    few_columns = λ table. subst (λ columns. length columns ≤ 24) (sym (table_in table)) (few_columns_in table (slice_get tables table) refl);
    begins_with_id = λ table h. begins table (subst (λ n. table < n) size h);
    references_are_hidden = λ table column child held e h. (key table column child held e h).0;
    references_name_tables = λ table column child held e h. subst (λ n. child < n) (sym size) (key table column child held e h).1;
    one_parent = λ table h.
        ltb-false 1 _ (nowhere (is_shared tables) tables kept.parents table (subst (λ n. table < n) size h));
    no_cycle = no_return;
    one_root = kept.root;
    text_lengths = λ table column most held e k.
        let w = written table column held e in
        lengths_kept tables w.text most (column_kept table column w.holder w.text w.in_tables w.in_columns) (ap (λ (c : Column). c.kind) w.means ∙ k);
    nullable_text_lengths = λ table column most held e k.
        let w = written table column held e in
        nullable_lengths_kept tables w.text most (column_kept table column w.holder w.text w.in_tables w.in_columns) (ap (λ (c : Column). c.kind) w.means ∙ k);
    references_are_integers = λ table column child held e h.
        let w = written table column held e in
        ap (λ (c : Column). c.kind) (sym w.means) ∙ key_is_integer tables w.text child (ap (λ (c : Column). c.child) w.means ∙ h);
    short_table_names = λ table held e.
        let d = declared table held e in
        subst (λ (t : Table). length t.name ≤ 32) d.2 (short_text d.0 (table_kept table d.0 d.1));
    short_names = λ table column held e.
        let w = written table column held e in
        subst (λ (name : List ℕ). length name ≤ 32) (sym (name_kept tables w.text) ∙ ap (λ (c : Column). c.name) w.means)
        (short_column w.text (column_kept table column w.holder w.text w.in_tables w.in_columns));
    table_names_are_names = λ table held e.
        let d = declared table held e in
        ap (λ (t : Table). is_name t.name) (sym d.2) ∙ table_named_well table d.0 d.1;
    names_are_names = λ table column held e.
        let w = written table column held e in
        ap is_name (sym (sym (name_kept tables w.text) ∙ ap (λ (c : Column). c.name) w.means))
        ∙ column_named w.text (column_spelled w.holder column w.text (table_spelled table w.holder w.in_tables) w.in_columns);
    distinct_tables = two_tables;
    distinct_columns = two_columns;
  }

-- the symbols of a text's tree before its end are spelled
pub tables_spelled : (text : List ℕ) (schema : Schema) → (means : MeansSchema text schema) → list_all is_spelled (flat_map spell_declared_table means.tables) ≡ true
tables_spelled text schema means = spelled_front text (flat_map spell_declared_table means.tables) EndOfText [] means.spells

pub schemas_are_trees : SchemasAreTrees
schemas_are_trees text schema means = subst IsTree means.means (tree_of means.tables means.obeys (tables_spelled text schema means))
