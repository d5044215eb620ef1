-- The foreign keys of a table in memory are those of the database.
use Rattle.std.proofs.Common.{◌≡◌, refl, ap, sym, ◌∙◌, subst, ℕ, zero, suc, ◌+◌, ◌<◌, ◌≤◌, ℤ, pos, negsuc, true, not, inl, inr, List, [], ◌∷◌, ◌++◌, append_assoc, length, map, take, get_or, slice_index_or, Option, Some, None, slice_get, option_and_then, arith}
use Rattle.std.specs.Prelude.{IsTrue, IfSome, IfNone}
use Rattle.std.specs.Option.{option_map}
use Rattle.std.proofs.lemmas.Bool.{cases_lt}
use Rattle.std.proofs.lemmas.Option.{slice_get-get_or, slice_get-map}
use Rattle.std.proofs.lemmas.List.{length-map, get_or-map, take_all}
use Rattle.ghost_model.specs.core.Schema.{Schema, Table, Column, columns_of, columns_or_none, column_at, first_of, references_to, is_table, is_empty, parent}
use Rattle.ghost_model.specs.core.Values.{Value, Null, Number, Text, Row, Database}
use Rattle.ghost_model.specs.core.Channel.{Catalog}
use Rattle.ghost_model.specs.laws.SchemaTrees.{IsTree}
use Rattle.ghost_model.specs.core.Database.{rows_of, row_numbered, row_count, value_at_row, is_row_among, identifier_in, reference_column, points_to}
use Rattle.ghost_model.specs.core.Split as split
use Rattle.ghost_model.specs.core.Split.{Hidden}
use Rattle.ghost_model.specs.core.Replies.{hidden_places}
use Rattle.ghost_model.specs.forms.Layout.{is_hidden, count_of}
use Rattle.ghost_model.specs.forms.Flash.{IsHidden}
use Rattle.ghost_model.specs.laws.FlashLaws.{GoesWith, hidden_before, HiddenValuesByPlace, HiddenValuesOfDatabases, HiddenPartsGoWithCatalogs}
use Rattle.ghost_model.proofs.LayoutLemmas.Columns.{hidden_or_none}
use Rattle.ghost_model.proofs.MeaningLemmas.OneRow.{child_is}
use Rattle.ghost_model.proofs.MeaningLemmas.Leading.{told_place, get_within, place_within, first_some, not_to_false}
use Rattle.ghost_model.proofs.FlashLemmas.Values.{count_there}
use Rattle.csv_split.specs.declared.cells.Cells.{Cells}
use Rattle.csv_split.specs.declared.cells.Cells.TheVariants as cells
use Rattle.csv_split.specs.Cells.{values_in}
use Rattle.csv_split.specs.Tables.{IsColumn, value_in}
use Rattle.index_lists.specs.Ranks.{identifier_of}
use Rattle.flash_build.specs.Cells.{ReadAsNumbers, numbers_among}
use Rattle.flash_build.specs.Levels.{AreKeys}

-- a column that is a foreign key is declared, and so hidden
pub record IsKeyColumn (schema : Schema) (table child column : ℕ) : Type 0 where
  pub held : Column
  pub declared : column_at schema table column ≡ Some held
  pub child_of : held.child ≡ Some child
  pub hidden : is_hidden schema table column ≡ true

key_column : (schema : Schema) → IsTree schema → (table child column : ℕ) (o : Option Table) → slice_get schema table ≡ o
    → option_and_then (λ held. first_of (references_to child held)) o ≡ Some column → IsKeyColumn schema table child column
key_column schema tree table child column None there h = absurd (cc (h))
key_column schema tree table child column (Some held) there h =
    let told = told_place (λ (c : Column). is_table child c.child) 0 held.columns column h in
    let at = told.2 in
    let same : column ≡ told.0 = omega (arith, at) in
    let declared : column_at schema table column ≡ Some told.1 = ap (column_at schema table) same ∙ (ap (λ o. slice_get (columns_or_none o) told.0) there ∙ told.3) in
    let child_of = child_is child told.1.child told.4 in
    record {
      held = told.1;
      declared = declared;
      child_of = child_of;
      hidden = ap hidden_or_none declared ∙ tree.references_are_hidden table column child told.1 declared child_of;
    }

-- values each of which is an integer
all_numbers : (values : List Value) → ((p : ℕ) → p < length values → (n : ℤ) × (slice_get values p ≡ Some (Number n))) → map Number (numbers_among values) ≡ values
all_numbers [] are = refl
all_numbers (Null ∷ values) are = let first = are 0 (omega arith) in absurd (cc (first.1))
all_numbers (Text text ∷ values) are = let first = are 0 (omega arith) in absurd (cc (first.1))
all_numbers (Number n ∷ values) are = ap (λ later. Number n ∷ later) (all_numbers values (λ p low. are (suc p) (omega (arith, low))))

among_more : (xs ys : List Value) → numbers_among (xs ++ ys) ≡ numbers_among xs ++ numbers_among ys
among_more [] ys = refl
among_more (Null ∷ xs) ys = among_more xs ys
among_more (Number n ∷ xs) ys = ap (λ later. n ∷ later) (among_more xs ys)
among_more (Text text ∷ xs) ys = among_more xs ys

-- the integers among the values before a place are put
abbrev pub ArePutSoFar : (values : List Value) (before : List ℤ) (place : ℕ) → (out : List ℤ) → Type 0
ArePutSoFar values before place out = out ≡ before ++ numbers_among (take place values)

next_taken : (values : List Value) (place : ℕ) (value : Value) → slice_get values place ≡ Some value → take (place + 1) values ≡ take place values ++ value ∷ []
next_taken [] place value at = absurd (cc (at))
next_taken (v ∷ vs) zero value at = let e : v ≡ value = cc (at) in ap (λ v. v ∷ []) e
next_taken (v ∷ vs) (suc place) value at =
    let e : suc place + 1 ≡ suc (place + 1) = omega arith in
    ap (λ n. take n (v ∷ vs)) e ∙ ap (λ later. v ∷ later) (next_taken vs place value at)

pub one_put : (values : List Value) (before : List ℤ) (place : ℕ) (out more : List ℤ) (value : Value) → ArePutSoFar values before place out
    → slice_get values place ≡ Some value → more ≡ out ++ numbers_among (value ∷ []) → ArePutSoFar values before (place + 1) more
one_put values before place out more value so_far at grown =
    grown ∙ ap (λ front. front ++ numbers_among (value ∷ [])) so_far
    ∙ append_assoc before (numbers_among (take place values)) (numbers_among (value ∷ []))
    ∙ ap (λ later. before ++ later) (sym (ap numbers_among (next_taken values place value at) ∙ among_more (take place values) (value ∷ [])))

pub all_put : (values : List Value) (before : List ℤ) (place : ℕ) (out : List ℤ) → ArePutSoFar values before place out → length values ≤ place
    → out ≡ before ++ numbers_among values
all_put values before place out so_far past = so_far ∙ ap (λ vs. before ++ numbers_among vs) (take_all place values past)

number_among : (count : ℕ) (v : Value) → is_row_among count v ≡ true → (m : ℕ) × (v ≡ Number (pos m))
number_among count Null h = absurd (cc (h))
number_among count (Text text) h = absurd (cc (h))
number_among count (Number (negsuc n)) h = absurd (cc (h))
number_among count (Number (pos m)) h = (m, refl)

-- the key of a row
pub record IsKey (cat : Catalog) (hidden : Hidden) (database : Database) (table child place p : ℕ) : Type 0 where
  pub to : ℕ
  pub stands : value_in (rows_of hidden.hidden table) (p + 1) place ≡ Some (Number (pos to))
  pub good : is_row_among (count_of cat child) (Number (pos to)) ≡ true
  pub points : points_to cat.schema database table (p + 1) child ≡ Some to

of_rows : (f g : Row → Option Value) (o : Option Row) → ((row : Row) → f row ≡ g row) → option_and_then f o ≡ option_and_then g o
of_rows f g None same = refl
of_rows f g (Some row) same = same row

module _ (cat : Catalog) (hidden : Hidden) (tree : IsTree cat.schema) (by_place : HiddenValuesByPlace) (of_databases : HiddenValuesOfDatabases) where
  count_is : (part : IsHidden cat hidden) (table : ℕ) → count_of cat table ≡ row_count part.database table
  count_is part table = sym (ap (λ (ns : List ℕ). get_or ns table 0) part.counted) ∙ count_there part.database table

  field_is : (part : IsHidden cat hidden) (table identifier column : ℕ) → is_hidden cat.schema table column ≡ true
      → value_in (rows_of hidden.hidden table) identifier (hidden_before cat.schema table column) ≡ value_at_row part.database table identifier column
  field_is part table identifier column h =
      let rows = rows_of hidden.hidden table in
      let by_columns =
      of_rows (λ row. split.value_at (hidden_places cat.schema table) row column) (λ row. slice_get row (hidden_before cat.schema table column))
      (row_numbered rows identifier) (λ row. by_place cat.schema tree table column h row) in
      let parts : hidden.hidden ≡ (split.hidden_of cat.schema part.database).hidden = ap (λ (p : Hidden). p.hidden) part.part in
      let same =
      ap (λ tables. option_and_then (λ row. split.value_at (hidden_places cat.schema table) row column) (row_numbered (rows_of tables table) identifier)) parts in
      sym by_columns ∙ (same ∙ of_databases cat.schema part.database tree part.proper table identifier column h)

  key_at : (part : IsHidden cat hidden) (table child column : ℕ) → reference_column cat.schema table child ≡ Some column
      → (p : ℕ) → p < count_of cat table → IsKey cat hidden part.database table child (hidden_before cat.schema table column) p
  key_at part table child column key p low =
      let database = part.database in
      let is = part.proper in
      let declared : IsKeyColumn cat.schema table child column = key_column cat.schema tree table child column (slice_get cat.schema table) refl key in
      let size = count_is part table in
      let row = get_within (rows_of database table) p (omega (arith, size, low)) in
      let width = is.widths table (suc p) row.0 row.1 in
      let within = place_within (columns_of cat.schema table) column declared.held declared.declared in
      let v = get_within row.0 column (omega (arith, width, within)) in
      let stands : value_at_row database table (suc p) column ≡ Some v.0 = ap (option_and_then (λ w. slice_get w column)) row.1 ∙ v.1 in
      let good = is.references table (suc p) column child v.0 declared.held stands declared.declared declared.child_of in
      let m = number_among (row_count database child) v.0 good in
      let e : p + 1 ≡ suc p = omega arith in
      let here : value_at_row database table (p + 1) column ≡ Some (Number (pos m.0)) = ap (λ n. value_at_row database table n column) e ∙ (stands ∙ ap Some m.1) in
      record {
        to = m.0;
        stands = field_is part table (p + 1) column declared.hidden ∙ here;
        good = ap (λ n. is_row_among n (Number (pos m.0))) (count_is part child) ∙ (ap (is_row_among (row_count database child)) (sym m.1) ∙ good);
        points = ap (option_and_then (λ c. identifier_in (value_at_row database table (p + 1) c))) key ∙ ap identifier_in here;
      }

  -- where no row can be
  none_there : (part : IsHidden cat hidden) (table child : ℕ) → ((p : ℕ) → p < count_of cat table → ⊥) → AreKeys cat hidden table child []
  none_there part table child none = record {
    long =
        elim (cases_lt 0 (count_of cat table)) [
          | inl some ↦ absurd (none 0 some)
          | inr few ↦ omega (arith, few)
        ];
    named = λ k d low. absurd (omega (arith, low));
    each = λ other p low. absurd (none p low);
  }

  -- a key among the integers of its column
  number_is : (part : IsHidden cat hidden) (table child column : ℕ) (key : reference_column cat.schema table child ≡ Some column)
      (numbers : List ℤ) → IsColumn (rows_of hidden.hidden table) (hidden_before cat.schema table column) (map Number numbers)
      → length (rows_of hidden.hidden table) ≡ count_of cat table → (p : ℕ) (low : p < count_of cat table)
      → get_or numbers p (pos 0) ≡ pos (key_at part table child column key p low).to
  number_is part table child column key numbers stand size p low =
      let k = key_at part table child column key p low in
      let long : length numbers ≡ count_of cat table = sym (length-map numbers Number) ∙ (stand.long ∙ size) in
      let at : slice_get (map Number numbers) p ≡ Some (Number (pos k.to)) = stand.placed p (omega (arith, low, size)) ∙ k.stands in
      let other : slice_get (map Number numbers) p ≡ Some (Number (get_or numbers p (pos 0))) =
      slice_get-map Number numbers p ∙ ap (option_map Number) (slice_get-get_or numbers p (pos 0) (omega (arith, long, low))) in
      ap number_or_zero (sym other ∙ at)
    where
      number_or_zero : Option Value → ℤ
      number_or_zero (Some (Number number)) = number
      number_or_zero _ = pos 0

  numbers_are : (part : IsHidden cat hidden) (table child column : ℕ) → reference_column cat.schema table child ≡ Some column
      → (numbers : List ℤ) → IsColumn (rows_of hidden.hidden table) (hidden_before cat.schema table column) (map Number numbers)
      → length (rows_of hidden.hidden table) ≡ count_of cat table → AreKeys cat hidden table child numbers
  numbers_are part table child column key numbers stand size =
      let long : length numbers ≡ count_of cat table = sym (length-map numbers Number) ∙ (stand.long ∙ size) in
      record {
        long = long;
        named = λ p d low.
            let within : p < count_of cat table = omega (arith, long, low) in
            let same = same_default numbers p d (pos 0) low in
            subst (λ (n : ℤ). IsTrue (is_row_among (count_of cat child) (Number n)))
            (sym (same ∙ number_is part table child column key numbers stand size p within))
            (key_at part table child column key p within).good;
        each = λ other p low.
            (key_at other table child column key p low).points
            ∙ ap Some (sym (get_or-map identifier_of numbers p (pos 0) 0 (omega (arith, long, low))
            ∙ ap identifier_of (number_is other table child column key numbers stand size p low)));
      }
    where
      same_default : (xs : List ℤ) (k : ℕ) (d e : ℤ) → k < length xs → slice_index_or xs k d ≡ get_or xs k e
      same_default [] k d e low = absurd (omega (arith, low))
      same_default (x ∷ xs) zero d e low = refl
      same_default (x ∷ xs) (suc k) d e low = same_default xs k d e (omega (arith, low))

  pub keys_are : (part : IsHidden cat hidden) (table child column : ℕ) → reference_column cat.schema table child ≡ Some column
      → length (rows_of hidden.hidden table) ≡ count_of cat table
      → (found : Option Cells) (keys : List ℤ) → ReadAsNumbers found keys
      → IfSome found (λ held. IsColumn (rows_of hidden.hidden table) (hidden_before cat.schema table column) (values_in held))
      → IfNone found ((identifier : ℕ) → value_in (rows_of hidden.hidden table) identifier (hidden_before cat.schema table column) ≡ None)
      → AreKeys cat hidden table child keys
  keys_are part table child column key size None keys read held none =
      subst (AreKeys cat hidden table child) (sym read)
      (none_there part table child (λ p low.
      let k = key_at part table child column key p low in
      let bad : None ≡ Some (Number (pos k.to)) = sym (none (p + 1)) ∙ k.stands in cc (bad)))
  keys_are part table child column key size (Some (cells.Numbers numbers)) keys read held none =
      subst (AreKeys cat hidden table child) (sym read) (numbers_are part table child column key numbers.items held size)
  keys_are part table child column key size (Some (cells.Texts texts)) keys read held none =
      subst (AreKeys cat hidden table child) (sym read)
      (none_there part table child (λ p low.
      let k = key_at part table child column key p low in
      let at : slice_get (map Text texts.texts) p ≡ Some (Number (pos k.to)) = held.placed p (omega (arith, low, size)) ∙ k.stands in
      no_number texts.texts p (pos k.to) at))
    where
      no_number : (xs : List (List ℕ)) (p : ℕ) (n : ℤ) → slice_get (map Text xs) p ≡ Some (Number n) → ⊥
      no_number [] p n h = cc (h)
      no_number (x ∷ xs) zero n h = cc (h)
      no_number (x ∷ xs) (suc p) n h = no_number xs p n h
  keys_are part table child column key size (Some (cells.Nullable stored)) keys read held none =
      let all : map Number (numbers_among stored.values) ≡ stored.values =
      all_numbers stored.values (λ p low.
      let within : p < count_of cat table = omega (arith, low, held.long, size) in
      let k = key_at part table child column key p within in
      (pos k.to, held.placed p (omega (arith, within, size)) ∙ k.stands)) in
      let rows = rows_of hidden.hidden table in
      subst (AreKeys cat hidden table child) (sym read)
      (numbers_are part table child column key (numbers_among stored.values) (subst (IsColumn rows (hidden_before cat.schema table column)) (sym all) held) size)

-- the table above has a foreign key to the one below
pub reference_there : (schema : Schema) (table child : ℕ) → parent schema child ≡ Some table → (column : ℕ) × (reference_column schema table child ≡ Some column)
reference_there schema table child up =
    let f = told_place (λ (t : Table). not (is_empty (references_to child t))) 0 schema table up in
    let at_above : f.0 ≡ table = (let e = f.2 in omega arith) in
    let held : slice_get schema table ≡ Some f.1 = ap (slice_get schema) (sym at_above) ∙ f.3 in
    let c = first_some (references_to child f.1) (not_to_false (is_empty (references_to child f.1)) f.4) in
    (c.0, ap (option_and_then (λ t. first_of (references_to child t))) held ∙ c.1)

-- a hidden part has as many rows as its catalog says
pub rows_counted : (cat : Catalog) (hidden : Hidden) → HiddenPartsGoWithCatalogs → IsHidden cat hidden → (table : ℕ)
    → length (rows_of hidden.hidden table) ≡ count_of cat table
rows_counted cat hidden parts is table =
    let goes : GoesWith cat hidden = subst (λ h. GoesWith cat h) (sym is.part) (parts cat is.database is.proper is.counted) in
    sym (count_there hidden.hidden table) ∙ ap (λ (ns : List ℕ). get_or ns table 0) goes.counted

-- what holds of what is found, and where nothing is, in another form
pub some_mapped : {A B : Type 0} (f : A → B) (P : B → Type 0) (o : Option A) → IfSome o (λ a. P (f a)) → IfSome (option_map f o) P
some_mapped f P None h = tt
some_mapped f P (Some a) h = h

pub none_mapped : {A B : Type 0} (f : A → B) (Q : Type 0) (o : Option A) → IfNone o Q → IfNone (option_map f o) Q
none_mapped f Q None h = h
none_mapped f Q (Some a) h = tt
