-- Files that keep every rule spell a database: a faultless field is of its kind, a faultless record is a row, and
-- faultless keys are identifiers of rows.
use Rattle.std.proofs.Common.{◌≡◌, refl, sym, ap, subst, ℕ, zero, suc, ◌+◌, ◌-◌, ◌^◌, ◌≤◌, ◌<◌, ℤ, pos, neg_ℤ, Bool, true, false, ◌&&◌, nat_eq, nat_le, List, [], ◌∷◌, ◌++◌, length, map, drop, Option, Some, None, slice_get, unwrap_or, is_some, option_and_then, arith, leb-true, eqb-true, le-leb, if◌then◌else◌}
use Rattle.std.proofs.lemmas.List.{length-map}
use Rattle.std.proofs.lemmas.Bool.{lt-leb}
use Rattle.std.proofs.lemmas.Bool.Decides.{Decides-int_eq}
use Rattle.ghost_model.specs.core.Schema.{Schema, Column, Kind, Integer, Chars, IntegerOrNull, CharsOrNull, columns_of, column_at}
use Rattle.ghost_model.specs.core.Values.{Value, Number, Row, Rows, Database}
use Rattle.ghost_model.specs.refusals.Tokens.{number_of}
use Rattle.ghost_model.specs.core.Database.{IsDatabase, row_of, rows_of, row_count, value_at_row, fits_integer, is_text, is_of_kind, is_row_among, is_numeral, signed_within, integer_of, value_of_field, row_spelled, records_of, database_of}
use Rattle.ghost_model.specs.laws.SchemaTrees.{IsTree, identifier}
use Rattle.ghost_model.specs.refusals.LoadFaults
use Rattle.ghost_model.specs.refusals.LoadFaults.{LoadFault, FileLimit, Header, RowLimit, FieldCount, BadId, BadInt, BadChars, BadReference, Place, unless, value_faults, field_faults, is_number, fields_faults, row_faults, rows_faults, is_header, record_faults, file_faults, files_faults, reference_fault_in, row_reference_faults, table_references, references_from, load_faults, most_rows, most_bytes}
use Rattle.ghost_model.specs.laws.ShortWords.{id_faults}
use Rattle.ghost_model.specs.laws.LoadLaws.{IsFirst}

-- two lists that make none
pub both_empty : {X : Type 0} (xs ys : List X) → xs ++ ys ≡ [] → (xs ≡ []) × (ys ≡ [])
both_empty [] ys h = (refl, h)
both_empty (x ∷ xs) ys h = let no : ⊥ = cc in absurd no

pub both_true : (a b : Bool) → (a && b) ≡ true → (a ≡ true) × (b ≡ true)
both_true true true h = (refl, refl)
both_true true false h = let no : ⊥ = cc in absurd no
both_true false b h = let no : ⊥ = cc in absurd no

-- a rule that has no fault holds
pub kept : (rule : Bool) (fault : LoadFault) → unless rule fault ≡ [] → rule ≡ true
kept true fault h = refl
kept false fault h = let no : ⊥ = cc in absurd no

pub if_some : {X : Type 0} (b : Bool) (x z : X) → (if b then Some x else None) ≡ Some z → (b ≡ true) × (x ≡ z)
if_some true x z h = (refl, ap (λ o. unwrap_or o x) h)
if_some false x z h = let no : ⊥ = cc in absurd no

-- the parts of a digits' number with a sign
pub within : (greatest : ℕ) (sign : ℕ → ℤ) (digits : List ℕ) (z : ℤ) → signed_within greatest sign digits ≡ Some z
    → (number_of digits ≤ greatest) × (sign (number_of digits) ≡ z)
within greatest sign digits z h =
    let p = if_some (is_numeral digits && nat_le (number_of digits) greatest) (sign (number_of digits)) z h in
    let q = both_true (is_numeral digits) (nat_le (number_of digits) greatest) p.0 in
    (leb-true (number_of digits) greatest q.1, p.1)

pub plus_fits : (digits : List ℕ) (z : ℤ) → signed_within (2 ^ 63 - 1) pos digits ≡ Some z → fits_integer z ≡ true
plus_fits digits z h =
    let p = within (2 ^ 63 - 1) pos digits z h in
    let small = p.0 in
    subst (λ w. fits_integer w ≡ true) p.1 (le-leb (suc (number_of digits)) (2 ^ 63) (omega arith))

pub neg_fits : (n : ℕ) → n ≤ 2 ^ 63 → fits_integer (neg_ℤ (pos n)) ≡ true
neg_fits zero h = refl
neg_fits (suc n) h = le-leb (suc n) (2 ^ 63) h

pub minus_fits : (digits : List ℕ) (z : ℤ) → signed_within (2 ^ 63) (λ number. neg_ℤ (pos number)) digits ≡ Some z
    → fits_integer z ≡ true
minus_fits digits z h =
    let p = within (2 ^ 63) (λ number. neg_ℤ (pos number)) digits z h in
    subst (λ w. fits_integer w ≡ true) p.1 (neg_fits (number_of digits) p.0)

-- a field's integer is one of 64 bits
pub integer_fits : (text : List ℕ) (z : ℤ) → integer_of text ≡ Some z → fits_integer z ≡ true
integer_fits [] z h = let no : ⊥ = cc in absurd no
integer_fits (b ∷ bs) z h =
    let minus = signed_within (2 ^ 63) (λ number. neg_ℤ (pos number)) bs in
    let plus = signed_within (2 ^ 63 - 1) pos bs in
    let plain = signed_within (2 ^ 63 - 1) pos (b ∷ bs) in
    (elim (nat_eq b 45) as (λ v. (if v then minus else (if nat_eq b 43 then plus else plain)) ≡ Some z → fits_integer z ≡ true) [
      | true ↦ λ e. minus_fits bs z e
      | false ↦ λ e.
          (elim (nat_eq b 43) as (λ v. (if v then plus else plain) ≡ Some z → fits_integer z ≡ true) [
            | true ↦ λ e. plus_fits bs z e
            | false ↦ λ e. plus_fits (b ∷ bs) z e
          ]) e
    ]) h

pub some_fits : (text : List ℕ) (o : Option ℤ) → integer_of text ≡ o → is_some o ≡ true
    → fits_integer (unwrap_or o (pos 0)) ≡ true
some_fits text None e h = let no : ⊥ = cc in absurd no
some_fits text (Some z) e h = integer_fits text z e

pub integer_is : (text : List ℕ) → is_some (integer_of text) ≡ true → is_of_kind Integer (value_of_field Integer text) ≡ true
integer_is text h = some_fits text (integer_of text) refl h

-- a field without a fault is of its column's kind
pub field_is : (at : Place) (kind : Kind) (text : List ℕ) → value_faults at kind text ≡ []
    → is_of_kind kind (value_of_field kind text) ≡ true
field_is at Integer text h = integer_is text (kept (is_some (integer_of text)) (BadInt at) h)
field_is at (Chars most) text h = kept (is_text most text) (BadChars at) h
field_is at IntegerOrNull [] h = refl
field_is at IntegerOrNull (b ∷ bs) h = integer_is (b ∷ bs) (kept (is_some (integer_of (b ∷ bs))) (BadInt at) h)
field_is at (CharsOrNull most) [] h = refl
field_is at (CharsOrNull most) (b ∷ bs) h = kept (is_text most (b ∷ bs)) (BadChars at) h

-- the same of each field of a record
pub fields_are : (table rec at : ℕ) (columns : List Column) (fields : List (List ℕ))
    → field_faults table rec at columns fields ≡ []
    → (place : ℕ) (value : Value) (declared : Column) → slice_get (row_spelled columns fields) place ≡ Some value
    → slice_get columns place ≡ Some declared → is_of_kind declared.kind value ≡ true
unfolding field_faults
fields_are table rec at [] fields h place value declared hv hd = let no : ⊥ = cc in absurd no
fields_are table rec at (k ∷ ks) [] h place value declared hv hd = let no : ⊥ = cc in absurd no
fields_are table rec at (k ∷ ks) (f ∷ fs) h zero value declared hv hd =
    let p = both_empty (value_faults (LoadFaults.place table rec at) k.kind f) (field_faults table rec (at + 1) ks fs) h in
    let v : value_of_field k.kind f ≡ value = ap (λ o. unwrap_or o (value_of_field k.kind f)) hv in
    let d : k ≡ declared = ap (λ o. unwrap_or o k) hd in
    subst (λ w. is_of_kind declared.kind w ≡ true) v (subst (λ c. is_of_kind c.kind (value_of_field k.kind f) ≡ true) d (field_is (LoadFaults.place table rec at) k.kind f p.0))
fields_are table rec at (k ∷ ks) (f ∷ fs) h (suc place) value declared hv hd =
    let p = both_empty (value_faults (LoadFaults.place table rec at) k.kind f) (field_faults table rec (at + 1) ks fs) h in
    fields_are table rec (at + 1) ks fs p.1 place value declared hv hd

pub spelled_width : (columns : List Column) (fields : List (List ℕ)) → length fields ≡ length columns
    → length (row_spelled columns fields) ≡ length columns
spelled_width [] fields h = refl
spelled_width (k ∷ ks) [] h = cc
spelled_width (k ∷ ks) (f ∷ fs) h = ap suc (spelled_width ks fs (omega arith))

-- what a row without a fault is
pub record IsRow (columns : List Column) (identifier : ℕ) (row : Row) : Type 0 where
  pub width : length row ≡ length columns
  pub number : slice_get row 0 ≡ Some (Number (pos identifier))
  pub kinds : (column : ℕ) (value : Value) (declared : Column) → slice_get row column ≡ Some value → slice_get columns column ≡ Some declared → is_of_kind declared.kind value ≡ true

pub number_is : (n : ℕ) (o : Option ℤ) → is_number n o ≡ true → o ≡ Some (pos n)
number_is n None h = cc
number_is n (Some z) h = ap Some ((Decides-int_eq z (pos n)).0 h)

pub row_kinds : (table rec : ℕ) (k : Column) (ks : List Column) (f : List ℕ) (fs : List (List ℕ))
    → is_of_kind k.kind (value_of_field k.kind f) ≡ true → field_faults table rec 1 ks fs ≡ []
    → (column : ℕ) (value : Value) (declared : Column) → slice_get (row_spelled (k ∷ ks) (f ∷ fs)) column ≡ Some value
    → slice_get (k ∷ ks) column ≡ Some declared → is_of_kind declared.kind value ≡ true
row_kinds table rec k ks f fs first h zero value declared hv hd =
    let v : value_of_field k.kind f ≡ value = ap (λ o. unwrap_or o (value_of_field k.kind f)) hv in
    let d : k ≡ declared = ap (λ o. unwrap_or o k) hd in
    subst (λ w. is_of_kind declared.kind w ≡ true) v (subst (λ c. is_of_kind c.kind (value_of_field k.kind f) ≡ true) d first)
row_kinds table rec k ks f fs first h (suc column) value declared hv hd =
    fields_are table rec 1 ks fs h column value declared hv hd

pub row_is : (table n : ℕ) (columns : List Column) (fields : List (List ℕ)) → slice_get columns 0 ≡ Some identifier
    → row_faults table n columns fields ≡ [] → IsRow columns n (row_spelled columns fields)
row_is table n [] fields b h = let no : ⊥ = cc in absurd no
row_is table n (k ∷ ks) fields b h =
    let at = LoadFaults.place table (n + 1) 0 in
    let p = both_empty (unless (nat_le n most_rows) (RowLimit at)) (unless (nat_eq (length fields) (length (k ∷ ks))) (FieldCount at) ++ fields_faults table n (k ∷ ks) fields) h in
    let q = both_empty (unless (nat_eq (length fields) (length (k ∷ ks))) (FieldCount at)) (fields_faults table n (k ∷ ks) fields) p.1 in
    counted fields (eqb-true (length fields) (length (k ∷ ks)) (kept (nat_eq (length fields) (length (k ∷ ks))) (FieldCount at) q.0)) q.1
  where
    counted : (fields : List (List ℕ)) → length fields ≡ length (k ∷ ks) → fields_faults table n (k ∷ ks) fields ≡ [] → IsRow (k ∷ ks) n (row_spelled (k ∷ ks) fields)
    counted [] same none = let no : ⊥ = cc in absurd no
    counted (f ∷ fs) same none =
        let r = both_empty (id_faults table n f) (field_faults table (n + 1) 1 ks fs) none in
        let spelled = number_is n (integer_of f) (kept (is_number n (integer_of f)) (BadId (LoadFaults.place table (n + 1) 0)) r.0) in
        let of_integers : k.kind ≡ Integer = ap (λ o. (unwrap_or o k).kind) b in
        let first : value_of_field Integer f ≡ Number (pos n) = ap (λ o. Number (unwrap_or o (pos 0))) spelled in
        let first_kind : is_of_kind Integer (value_of_field Integer f) ≡ true = integer_is f (ap is_some spelled) in
        record {
          width = spelled_width (k ∷ ks) (f ∷ fs) same;
          number = ap Some (subst (λ kind. value_of_field kind f ≡ Number (pos n)) (sym of_integers) first);
          kinds = row_kinds table (n + 1) k ks f fs (subst (λ kind. is_of_kind kind (value_of_field kind f) ≡ true) (sym of_integers) first_kind) r.1;
        }

-- the rows of a file without a fault
pub rows_are : (table n : ℕ) (columns : List Column) (records : List (List (List ℕ))) → slice_get columns 0 ≡ Some identifier
    → rows_faults table n columns records ≡ []
    → (place : ℕ) (row : Row) → slice_get (map (row_spelled columns) records) place ≡ Some row
    → IsRow columns (n + place) row
unfolding rows_faults
rows_are table n columns [] b h place row hr = let no : ⊥ = cc in absurd no
rows_are table n columns (r ∷ rs) b h zero row hr =
    let p = both_empty (row_faults table n columns r) (rows_faults table (n + 1) columns rs) h in
    let e : n + 0 ≡ n = omega arith in
    let it : row_spelled columns r ≡ row = ap (λ o. unwrap_or o (row_spelled columns r)) hr in
    subst (λ m. IsRow columns m row) (sym e) (subst (λ w. IsRow columns n w) it (row_is table n columns r b p.0))
rows_are table n columns (r ∷ rs) b h (suc place) row hr =
    let p = both_empty (row_faults table n columns r) (rows_faults table (n + 1) columns rs) h in
    let e : n + 1 + place ≡ n + suc place = omega arith in
    subst (λ m. IsRow columns m row) e (rows_are table (n + 1) columns rs b p.1 place row hr)

pub records_are : (table : ℕ) (columns : List Column) (records : List (List (List ℕ))) → slice_get columns 0 ≡ Some identifier
    → record_faults table columns records ≡ []
    → (place : ℕ) (row : Row) → slice_get (map (row_spelled columns) (drop 1 records)) place ≡ Some row
    → IsRow columns (1 + place) row
records_are table columns [] b h place row hr = let no : ⊥ = cc in absurd no
records_are table columns (header ∷ rows) b h place row hr =
    let p = both_empty (unless (is_header columns header) (Header (LoadFaults.place table 1 0))) (rows_faults table 1 columns rows) h in
    rows_are table 1 columns rows b p.1 place row hr

-- the rows of all files without a fault
pub tables_are : (table : ℕ) (schema : Schema) (files : List (List ℕ))
    → ((at : ℕ) → at < length schema → column_at schema at 0 ≡ Some identifier) → files_faults table schema files ≡ []
    → (at place : ℕ) (row : Row) → slice_get (rows_of (database_of schema files) at) place ≡ Some row
    → IsRow (columns_of schema at) (1 + place) row
unfolding files_faults
tables_are table [] files b h at place row hr = let no : ⊥ = cc in absurd no
tables_are table (d ∷ ds) [] b h at place row hr = let no : ⊥ = cc in absurd no
tables_are table (d ∷ ds) (f ∷ fs) b h zero place row hr =
    let p = both_empty (file_faults table d.columns f) (files_faults (table + 1) ds fs) h in
    let q = both_empty (unless (nat_le (length f) most_bytes) (FileLimit (LoadFaults.place table 0 0))) (record_faults table d.columns (records_of f)) p.0 in
    records_are table d.columns (records_of f) (b 0 (omega arith)) q.1 place row hr
tables_are table (d ∷ ds) (f ∷ fs) b h (suc at) place row hr =
    let p = both_empty (file_faults table d.columns f) (files_faults (table + 1) ds fs) h in
    tables_are (table + 1) ds fs (λ spot within. b (suc spot) (omega arith)) p.1 at place row hr

pub length-database_of : (schema : Schema) (files : List (List ℕ)) → length files ≡ length schema
    → length (database_of schema files) ≡ length schema
length-database_of [] files h = refl
length-database_of (d ∷ ds) [] h = cc
length-database_of (d ∷ ds) (f ∷ fs) h = ap suc (length-database_of ds fs (omega arith))

-- keys without a fault are identifiers of rows: of a row, of a table, of all tables
pub keys_are : (database : Database) (table rec at : ℕ) (columns : List Column) (row : Row)
    → row_reference_faults database table rec at columns row ≡ []
    → (column child : ℕ) (value : Value) (declared : Column) → slice_get row column ≡ Some value
    → slice_get columns column ≡ Some declared → declared.child ≡ Some child
    → is_row_among (row_count database child) value ≡ true
unfolding row_reference_faults
keys_are database table rec at [] row h column child value declared hv hd hc = let no : ⊥ = cc in absurd no
keys_are database table rec at (k ∷ ks) [] h column child value declared hv hd hc = let no : ⊥ = cc in absurd no
keys_are database table rec at (k ∷ ks) (v ∷ vs) h zero child value declared hv hd hc =
    let spot = LoadFaults.place table rec at in
    let p = both_empty (reference_fault_in database spot k.child v) (row_reference_faults database table rec (at + 1) ks vs) h in
    let it : v ≡ value = ap (λ o. unwrap_or o v) hv in
    let d : declared ≡ k = sym (ap (λ o. unwrap_or o k) hd) in
    let c : k.child ≡ Some child = subst (λ (w : Column). w.child ≡ Some child) d hc in
    let none : reference_fault_in database spot (Some child) v ≡ [] = subst (λ w. reference_fault_in database spot w v ≡ []) c p.0 in
    subst (λ w. is_row_among (row_count database child) w ≡ true) it (kept (is_row_among (row_count database child) v) (BadReference spot) none)
keys_are database table rec at (k ∷ ks) (v ∷ vs) h (suc column) child value declared hv hd hc =
    let p = both_empty (reference_fault_in database (LoadFaults.place table rec at) k.child v) (row_reference_faults database table rec (at + 1) ks vs) h in
    keys_are database table rec (at + 1) ks vs p.1 column child value declared hv hd hc

pub row_keys_are : (database : Database) (table rec : ℕ) (columns : List Column) (rows : Rows)
    → table_references database table rec columns rows ≡ []
    → (place : ℕ) (row : Row) → slice_get rows place ≡ Some row
    → (column child : ℕ) (value : Value) (declared : Column) → slice_get row column ≡ Some value
    → slice_get columns column ≡ Some declared → declared.child ≡ Some child
    → is_row_among (row_count database child) value ≡ true
unfolding table_references
row_keys_are database table rec columns [] h place row hr column child value declared hv hd hc = let no : ⊥ = cc in absurd no
row_keys_are database table rec columns (r ∷ rs) h zero row hr column child value declared hv hd hc =
    let p = both_empty (row_reference_faults database table rec 0 columns r) (table_references database table (rec + 1) columns rs) h in
    let it : row ≡ r = sym (ap (λ o. unwrap_or o r) hr) in
    keys_are database table rec 0 columns r p.0 column child value declared (subst (λ w. slice_get w column ≡ Some value) it hv) hd hc
row_keys_are database table rec columns (r ∷ rs) h (suc place) row hr column child value declared hv hd hc =
    let p = both_empty (row_reference_faults database table rec 0 columns r) (table_references database table (rec + 1) columns rs) h in
    row_keys_are database table (rec + 1) columns rs p.1 place row hr column child value declared hv hd hc

pub table_keys_are : (database : Database) (table : ℕ) (schema : Schema) (later : Database)
    → references_from database table schema later ≡ []
    → (at place : ℕ) (row : Row) → slice_get (rows_of later at) place ≡ Some row
    → (column child : ℕ) (value : Value) (declared : Column) → slice_get row column ≡ Some value
    → column_at schema at column ≡ Some declared → declared.child ≡ Some child
    → is_row_among (row_count database child) value ≡ true
unfolding references_from
table_keys_are database table [] later h at place row hr column child value declared hv hd hc = let no : ⊥ = cc in absurd no
table_keys_are database table (d ∷ ds) [] h at place row hr column child value declared hv hd hc = let no : ⊥ = cc in absurd no
table_keys_are database table (d ∷ ds) (rows ∷ later) h zero place row hr column child value declared hv hd hc =
    let p = both_empty (table_references database table 2 d.columns rows) (references_from database (table + 1) ds later) h in
    row_keys_are database table 2 d.columns rows p.0 place row hr column child value declared hv hd hc
table_keys_are database table (d ∷ ds) (rows ∷ later) h (suc at) place row hr column child value declared hv hd hc =
    let p = both_empty (table_references database table 2 d.columns rows) (references_from database (table + 1) ds later) h in
    table_keys_are database (table + 1) ds later p.1 at place row hr column child value declared hv hd hc

-- a field stands in a row
pub record Found (database : Database) (table identifier column : ℕ) (value : Value) : Type 0 where
  pub place : ℕ
  pub row : Row
  pub number : identifier ≡ suc place
  pub stands : slice_get (rows_of database table) place ≡ Some row
  pub holds : slice_get row column ≡ Some value

pub in_row : (o : Option Row) (column : ℕ) (value : Value) → option_and_then (λ row. slice_get row column) o ≡ Some value
    → (row : Row) × (o ≡ Some row) × (slice_get row column ≡ Some value)
in_row None column value h = let no : ⊥ = cc in absurd no
in_row (Some row) column value h = (row, refl, h)

pub found : (database : Database) (table identifier column : ℕ) (value : Value)
    → value_at_row database table identifier column ≡ Some value → Found database table identifier column value
found database table zero column value h = let no : ⊥ = cc in absurd no
found database table (suc place) column value h =
    let p = in_row (slice_get (rows_of database table) place) column value h in
    record { place = place; row = p.0; number = refl; stands = p.1; holds = p.2 }

-- the facts of a row by its identifier
pub by_identifier : (schema : Schema) (database : Database)
    → ((table place : ℕ) (row : Row) → slice_get (rows_of database table) place ≡ Some row → IsRow (columns_of schema table) (1 + place) row)
    → (table identifier : ℕ) (row : Row) → row_of database table identifier ≡ Some row
    → IsRow (columns_of schema table) identifier row
by_identifier schema database are table zero row h = let no : ⊥ = cc in absurd no
by_identifier schema database are table (suc place) row h =
    let e : 1 + place ≡ suc place = omega arith in
    subst (λ n. IsRow (columns_of schema table) n row) e (are table place row h)

pub files_are : (schema : Schema) (files : List (List ℕ))
    → IsTree schema
    → length files ≡ length schema → load_faults schema files ≡ [] → IsDatabase schema (database_of schema files)
files_are schema files tree many none =
    let database = database_of schema files in
    let p = both_empty (files_faults 0 schema files) (references_from database 0 schema database) none in
    let rows = tables_are 0 schema files tree.begins_with_id p.0 in
    let each = by_identifier schema database rows in
    record {
      tables = length-database_of schema files many;
      widths = λ table identifier row h. (each table identifier row h).width;
      identifiers = λ table identifier row h. (each table identifier row h).number;
      kinds = λ table identifier column value declared h hd.
          let f = found database table identifier column value h in (rows table f.place f.row f.stands).kinds column value declared f.holds hd;
      references = λ table identifier column child value declared h hd hc.
          let f = found database table identifier column value h in
          table_keys_are database 0 schema database p.1 table f.place f.row f.stands column child value declared f.holds hd hc;
    }

-- no table has more rows than it may have

pub row_count_from : (table n : ℕ) (columns : List Column) (records : List (List (List ℕ))) → n ≤ most_rows + 1
    → rows_faults table n columns records ≡ [] → n + length records ≤ most_rows + 1
unfolding rows_faults
row_count_from table n columns [] within h = omega arith
row_count_from table n columns (r ∷ rs) within h =
    let p = both_empty (row_faults table n columns r) (rows_faults table (n + 1) columns rs) h in
    let at = LoadFaults.place table (n + 1) 0 in
    let q = both_empty (unless (nat_le n most_rows) (RowLimit at)) (unless (nat_eq (length r) (length columns)) (FieldCount at) ++ fields_faults table n columns r) p.0 in
    let few = leb-true n most_rows (kept (nat_le n most_rows) (RowLimit at) q.0) in
    let later = row_count_from table (n + 1) columns rs (omega arith) p.1 in
    omega arith

pub rows_within : (table : ℕ) (columns : List Column) (records : List (List (List ℕ)))
    → record_faults table columns records ≡ [] → length (map (row_spelled columns) (drop 1 records)) ≤ most_rows
rows_within table columns [] h = omega arith
rows_within table columns (header ∷ rows) h =
    let p = both_empty (unless (is_header columns header) (Header (LoadFaults.place table 1 0))) (rows_faults table 1 columns rows) h in
    let all = row_count_from table 1 columns rows (omega arith) p.1 in
    let same = length-map rows (row_spelled columns) in
    omega arith

pub tables_within : (table : ℕ) (schema : Schema) (files : List (List ℕ)) → files_faults table schema files ≡ [] → (at : ℕ)
    → row_count (database_of schema files) at ≤ most_rows
unfolding files_faults
tables_within table [] files h at = omega arith
tables_within table (d ∷ ds) [] h at = omega arith
tables_within table (d ∷ ds) (f ∷ fs) h zero =
    let p = both_empty (file_faults table d.columns f) (files_faults (table + 1) ds fs) h in
    let q = both_empty (unless (nat_le (length f) most_bytes) (FileLimit (LoadFaults.place table 0 0))) (record_faults table d.columns (records_of f)) p.0 in
    rows_within table d.columns (records_of f) q.1
tables_within table (d ∷ ds) (f ∷ fs) h (suc at) =
    let p = both_empty (file_faults table d.columns f) (files_faults (table + 1) ds fs) h in
    tables_within (table + 1) ds fs p.1 at

pub files_within : (schema : Schema) (files : List (List ℕ)) → load_faults schema files ≡ [] → (at : ℕ)
    → row_count (database_of schema files) at ≤ most_rows
files_within schema files none =
    let p = both_empty (files_faults 0 schema files) (references_from (database_of schema files) 0 schema (database_of schema files)) none in
    tables_within 0 schema files p.0

pub long_file : (table : ℕ) (columns : List Column) (file : List ℕ) → most_bytes < length file
    → IsFirst (FileLimit (LoadFaults.place table 0 0)) (file_faults table columns file)
long_file table columns file h =
    let rest = record_faults table columns (records_of file) in
    let over : nat_le (length file) most_bytes ≡ false = lt-leb (length file) most_bytes h in
    record { later = rest; first = ap (λ v. unless v (FileLimit (LoadFaults.place table 0 0)) ++ rest) over }
