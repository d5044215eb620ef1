-- The faults of foreign keys that are left: of the columns of a row, of the rows of a table, of the tables of a schema.
use Rattle.std.proofs.Common.{◌≡◌, ◌≤◌, ◌<◌, ◌+◌, ◌∙◌, ℕ, suc, List, [], ◌∷◌, ◌++◌, map, length, drop, get_or, Option, Some, None, sym, ap, ap₂, refl, arith, inl, inr, ◌⊎◌}
use Rattle.std.specs.Prelude.{slice_get, option_and_then}
use Rattle.std.proofs.lemmas.List.{drop_all, length-map}
use Rattle.std.proofs.lemmas.Option.{slice_get-get_or, slice_get_past, slice_get_cases}
use Rattle.ghost_model.specs.refusals.LoadFaults.{row_reference_faults, place, references_from, table_references}
use Rattle.ghost_model.specs.core.Schema as schema
use Rattle.ghost_model.specs.laws.SchemaTrees.{identifier}
use Rattle.ghost_model.specs.core.Values.{Value, Row, Rows, Database}
use Rattle.ghost_model.specs.core.Database.{value_at_row, row_of, rows_of}
use Rattle.tree_schema.specs.declared.schema.Column.{Column}
use Rattle.tree_schema.specs.Views.{column_of}
use Rattle.csv_split.specs.References.{key_faults_in, row_or_none}
use Rattle.csv_split.proofs.FieldPlaces.{next}
use Rattle.csv_split.proofs.Headers.{column_there}

-- no values, no faults
no_values : (database : Database) (table rec at : ℕ) (columns : List schema.Column) → row_reference_faults database table rec at columns [] ≡ []
unfolding row_reference_faults
no_values database table rec at [] = refl
no_values database table rec at (_ ∷ _) = refl

-- the faults from a column on begin with its own
keys_next : (database : Database) (table rec i : ℕ) (column : schema.Column) (columns : List schema.Column) (row : Row)
    → row_reference_faults database table rec i (column ∷ columns) (drop i row)
    ≡ key_faults_in database (place table rec i) column.child (slice_get row i) ++ row_reference_faults database table rec (i + 1) columns (drop (i + 1) row)
unfolding row_reference_faults
keys_next database table rec i column columns row = by (slice_get_cases row i).1
  where
    by : ((value : Value) × (i < length row) × (slice_get row i ≡ Some value) × (get_or row i value ≡ value)) ⊎ ((length row ≤ i) × (slice_get row i ≡ None))
        → row_reference_faults database table rec i (column ∷ columns) (drop i row)
        ≡ key_faults_in database (place table rec i) column.child (slice_get row i) ++ row_reference_faults database table rec (i + 1) columns (drop (i + 1) row)
    by (inl here) =
        let there : drop i row ≡ here.0 ∷ drop (i + 1) row = next row i here.0 here.1 ∙ ap (λ value. value ∷ drop (i + 1) row) here.3 in
        rw (there, here.2) refl
    by (inr past) =
        let none : drop i row ≡ [] = drop_all i row past.0 in
        let none_later : drop (i + 1) row ≡ [] = drop_all (i + 1) row (let h = past.0 in omega arith) in
        rw (none, none_later, past.1) (sym (no_values database table rec (i + 1) columns))

pub key_next : (database : Database) (table rec id : ℕ) (declared : List Column) (i : ℕ) (column : Column) → i < length declared → column ≡ get_or declared i column
    → row_reference_faults database table rec i (drop i (map column_of declared)) (drop i (row_or_none (row_of database table id)))
    ≡ key_faults_in database (place table rec i) column.child (value_at_row database table id i)
    ++ row_reference_faults database table rec (i + 1) (drop (i + 1) (map column_of declared)) (drop (i + 1) (row_or_none (row_of database table id)))
key_next database table rec id declared i column within is =
    let wide : length (map column_of declared) ≡ length declared = length-map declared column_of in
    let here : drop i (map column_of declared) ≡ column_of column ∷ drop (i + 1) (map column_of declared) =
    next (map column_of declared) i identifier (omega arith) ∙ ap (λ held. held ∷ drop (i + 1) (map column_of declared)) (column_there declared i column within is) in
    let later = drop (i + 1) (map column_of declared) in
    ap (λ columns. row_reference_faults database table rec i columns (drop i (row_or_none (row_of database table id)))) here
    ∙ keys_next database table rec i (column_of column) later (row_or_none (row_of database table id))
    ∙ ap (λ value. key_faults_in database (place table rec i) column.child value ++ row_reference_faults database table rec (i + 1) later (drop (i + 1) (row_or_none (row_of database table id)))) (there (row_of database table id))
  where
    there : (o : Option Row) → slice_get (row_or_none o) i ≡ option_and_then (λ row. slice_get row i) o
    there None = slice_get_past [] i (omega arith)
    there (Some row) = refl

pub no_key : (database : Database) (table rec i : ℕ) (declared : List Column) (row : Row) → length declared ≤ i
    → row_reference_faults database table rec i (drop i (map column_of declared)) (drop i row) ≡ []
unfolding row_reference_faults
no_key database table rec i declared row past =
    let wide : length (map column_of declared) ≡ length declared = length-map declared column_of in
    ap (λ columns. row_reference_faults database table rec i columns (drop i row)) (drop_all i (map column_of declared) (omega arith))

-- the faults from a row on begin with its own
pub row_next : (database : Database) (table : ℕ) (columns : List schema.Column) (i : ℕ) → i < length (rows_of database table)
    → table_references database table (i + 2) columns (drop i (rows_of database table))
    ≡ row_reference_faults database table (i + 2) 0 columns (row_or_none (row_of database table (i + 1)))
    ++ table_references database table (i + 1 + 2) columns (drop (i + 1) (rows_of database table))
unfolding table_references
row_next database table columns i within =
    let number : i + 1 ≡ suc i = omega arith in
    let rec : i + 2 + 1 ≡ i + 1 + 2 = omega arith in
    let here : row_of database table (suc i) ≡ Some (get_or (rows_of database table) i []) = slice_get-get_or (rows_of database table) i [] within in
    let row : row_or_none (row_of database table (i + 1)) ≡ get_or (rows_of database table) i [] = ap (λ n. row_or_none (row_of database table n)) number ∙ ap row_or_none here in
    ap (table_references database table (i + 2) columns) (next (rows_of database table) i [] within)
    ∙ ap₂ (λ row rec. row_reference_faults database table (i + 2) 0 columns row ++ table_references database table rec columns (drop (i + 1) (rows_of database table))) (sym row) rec

pub no_row : (database : Database) (table i : ℕ) (columns : List schema.Column) → length (rows_of database table) ≤ i
    → table_references database table (i + 2) columns (drop i (rows_of database table)) ≡ []
unfolding table_references
no_row database table i columns past = ap (table_references database table (i + 2) columns) (drop_all i (rows_of database table) past)

-- the faults from a table on begin with its own
no_rows : (database : Database) (table : ℕ) (tables : schema.Schema) → references_from database table tables [] ≡ []
unfolding references_from
no_rows database table [] = refl
no_rows database table (_ ∷ _) = refl

nowhere : schema.Table
nowhere = record { name = []; columns = [] }

pub table_next : (tables : schema.Schema) (database : Database) (i : ℕ) → i < length tables
    → references_from database i (drop i tables) (drop i database)
    ≡ table_references database i 2 (schema.columns_of tables i) (rows_of database i)
    ++ references_from database (i + 1) (drop (i + 1) tables) (drop (i + 1) database)
unfolding references_from table_references
table_next tables database i within = by (slice_get_cases database i).1
  where
    here : drop i tables ≡ get_or tables i nowhere ∷ drop (i + 1) tables
    here = next tables i nowhere within

    columns : schema.columns_of tables i ≡ (get_or tables i nowhere).columns
    columns = ap schema.columns_or_none (slice_get-get_or tables i nowhere within)

    by : ((rows : Rows) × (i < length database) × (slice_get database i ≡ Some rows) × (get_or database i rows ≡ rows)) ⊎ ((length database ≤ i) × (slice_get database i ≡ None))
        → references_from database i (drop i tables) (drop i database)
        ≡ table_references database i 2 (schema.columns_of tables i) (rows_of database i) ++ references_from database (i + 1) (drop (i + 1) tables) (drop (i + 1) database)
    by (inl found) =
        let there : drop i database ≡ found.0 ∷ drop (i + 1) database = next database i found.0 found.1 ∙ ap (λ rows. rows ∷ drop (i + 1) database) found.3 in
        rw (here, columns, there, found.2) refl
    by (inr past) =
        let none : drop i database ≡ [] = drop_all i database past.0 in
        let none_later : drop (i + 1) database ≡ [] = drop_all (i + 1) database (let h = past.0 in omega arith) in
        rw (none, none_later, past.1) (no_rows database i (drop i tables) ∙ sym (no_rows database (i + 1) (drop (i + 1) tables)))

pub no_table : (tables : schema.Schema) (database : Database) (i : ℕ) → length tables ≤ i → references_from database i (drop i tables) (drop i database) ≡ []
unfolding references_from
no_table tables database i past = ap (λ left. references_from database i left (drop i database)) (drop_all i tables past)
