-- The parts of columns, of rows and of tables, and what is left to part.
use Rattle.std.proofs.Common.{◌≡◌, ◌≤◌, ◌<◌, ◌+◌, ◌∙◌, ℕ, zero, suc, pos, Bool, true, false, List, [], ◌∷◌, ◌++◌, map, length, take, drop, get_or, Some, sym, ap, ap₂, refl, arith, append_assoc, append-nil}
use Rattle.std.specs.Prelude.{slice_get}
use Rattle.std.specs.List.{range_with_len}
use Rattle.std.proofs.lemmas.List.{drop_all, length-map, get_or-map}
use Rattle.std.proofs.lemmas.Option.{slice_get-get_or}
use Rattle.std.proofs.lemmas.Simd.{map-map}
use Rattle.ghost_model.specs.core.Schema as schema
use Rattle.ghost_model.specs.laws.SchemaTrees.{identifier}
use Rattle.ghost_model.specs.laws.SplitByFlags.{hidden_flags, hidden_values, rows_by, tables_by, visible_values}
use Rattle.ghost_model.specs.core.Values.{Value, Number, Row, Rows, Database}
use Rattle.tree_schema.specs.declared.schema.Column.{Column}
use Rattle.csv_split.specs.declared.cells.Cells.{Cells}
use Rattle.csv_split.specs.Cells.{values_in}
use Rattle.csv_split.specs.Parts.{part_in}
use Rattle.csv_split.specs.Reading.{HaveAll, columns_of, with_identifier}
use Rattle.csv_split.specs.Tables.{column_values, row_at, rows_in, values_at}
use Rattle.csv_split.proofs.FieldPlaces.{next}
use Rattle.csv_split.proofs.Headers.{column_there}
use Rattle.csv_split.proofs.ReadRows.{made_same}

-- whether each column after the identifier is hidden
abbrev pub flags_of : List Column → List Bool
flags_of declared = hidden_flags (with_identifier (columns_of declared))

no_visible : {X : Type 0} (flags : List Bool) → visible_values {X = X} flags [] ≡ []
no_visible [] = refl
no_visible (true ∷ flags) = refl
no_visible (false ∷ flags) = refl

no_hidden : {X : Type 0} (flags : List Bool) → hidden_values {X = X} flags [] ≡ []
no_hidden [] = refl
no_hidden (true ∷ flags) = refl
no_hidden (false ∷ flags) = refl

-- the first one, and those after it
visible_first : {X : Type 0} (flag : Bool) (flags : List Bool) (xs : List X) → visible_values (flag ∷ flags) xs ≡ visible_values (flag ∷ []) xs ++ visible_values flags (drop 1 xs)
visible_first true flags [] = sym (no_visible flags)
visible_first false flags [] = sym (no_visible flags)
visible_first true flags (x ∷ xs) = refl
visible_first false flags (x ∷ xs) = refl

hidden_first : {X : Type 0} (flag : Bool) (flags : List Bool) (xs : List X) → hidden_values (flag ∷ flags) xs ≡ hidden_values (flag ∷ []) xs ++ hidden_values flags (drop 1 xs)
hidden_first true flags [] = sym (no_hidden flags)
hidden_first false flags [] = sym (no_hidden flags)
hidden_first true flags (x ∷ xs) = refl
hidden_first false flags (x ∷ xs) = refl

-- the columns before `i` are parted
pub record AreParted (flags : List Bool) (i : ℕ) (columns left visible kept : List Cells) : Type 0 where
  pub shown : visible_values flags columns ≡ visible ++ visible_values (drop i flags) left
  pub held : hidden_values flags columns ≡ kept ++ hidden_values (drop i flags) left

pub none_parted : (flags : List Bool) (columns left visible kept : List Cells) → left ≡ columns → visible ≡ [] → kept ≡ []
    → AreParted flags 0 columns left visible kept
none_parted flags columns left visible kept all unseen none = record {
  shown = ap₂ (λ front cells. front ++ visible_values flags cells) (sym unseen) (sym all);
  held = ap₂ (λ front cells. front ++ hidden_values flags cells) (sym none) (sym all);
}

flag_there : (declared : List Column) (i : ℕ) (column : Column) → i < length declared → column ≡ get_or declared i column
    → get_or (flags_of declared) i column.hidden ≡ column.hidden
flag_there declared i column within is =
    let wide : length (columns_of declared) ≡ length declared = length-map declared _ in
    get_or-map (λ (column : schema.Column). column.hidden) (columns_of declared) i identifier column.hidden (omega arith)
    ∙ ap (λ (column : schema.Column). column.hidden) (column_there declared i column within is)

pub flags_next : (declared : List Column) (i : ℕ) (column : Column) → i < length declared → column ≡ get_or declared i column
    → drop i (flags_of declared) ≡ column.hidden ∷ drop (i + 1) (flags_of declared)
flags_next declared i column within is =
    let wide : length (columns_of declared) ≡ length declared = length-map declared _ in
    let many : length (flags_of declared) ≡ length (columns_of declared) = length-map (columns_of declared) _ in
    next (flags_of declared) i column.hidden (omega arith)
    ∙ ap (λ flag. flag ∷ drop (i + 1) (flags_of declared)) (flag_there declared i column within is)

pub one_parted : (declared : List Column) (i : ℕ) (column : Column) (columns left later visible more kept rest : List Cells)
    → AreParted (flags_of declared) i columns left visible kept → i < length declared → column ≡ get_or declared i column
    → more ≡ visible ++ visible_values (column.hidden ∷ []) left → rest ≡ kept ++ hidden_values (column.hidden ∷ []) left → later ≡ drop 1 left
    → AreParted (flags_of declared) (i + 1) columns later more rest
one_parted declared i column columns left later visible more kept rest so_far within is shown hid one =
    let flags = drop (i + 1) (flags_of declared) in
    record {
      shown = so_far.shown ∙ ap (λ flags. visible ++ visible_values flags left) (flags_next declared i column within is)
          ∙ ap (λ cells. visible ++ cells) (visible_first column.hidden flags left)
          ∙ sym (append_assoc visible (visible_values (column.hidden ∷ []) left) (visible_values flags (drop 1 left)))
          ∙ ap₂ (λ front cells. front ++ visible_values flags cells) (sym shown) (sym one);
      held = so_far.held ∙ ap (λ flags. kept ++ hidden_values flags left) (flags_next declared i column within is)
          ∙ ap (λ cells. kept ++ cells) (hidden_first column.hidden flags left)
          ∙ sym (append_assoc kept (hidden_values (column.hidden ∷ []) left) (hidden_values flags (drop 1 left)))
          ∙ ap₂ (λ front cells. front ++ hidden_values flags cells) (sym hid) (sym one);
    }

pub all_parted : (declared : List Column) (i : ℕ) (columns left visible kept : List Cells) → AreParted (flags_of declared) i columns left visible kept → length declared ≤ i
    → (visible ≡ visible_values (flags_of declared) columns) × (kept ≡ hidden_values (flags_of declared) columns)
all_parted declared i columns left visible kept so_far past =
    let wide : length (columns_of declared) ≡ length declared = length-map declared _ in
    let many : length (flags_of declared) ≡ length (columns_of declared) = length-map (columns_of declared) _ in
    let none : drop i (flags_of declared) ≡ [] = drop_all i (flags_of declared) (omega arith) in (
      sym (so_far.shown ∙ ap (λ flags. visible ++ visible_values flags left) none ∙ append-nil visible),
      sym (so_far.held ∙ ap (λ flags. kept ++ hidden_values flags left) none ∙ append-nil kept),
    )

-- a part of the values is made of that part
visible_map : {X Y : Type 0} (flags : List Bool) (make : X → Y) (xs : List X) → visible_values flags (map make xs) ≡ map make (visible_values flags xs)
visible_map [] make xs = refl
visible_map (true ∷ flags) make [] = refl
visible_map (false ∷ flags) make [] = refl
visible_map (true ∷ flags) make (x ∷ xs) = visible_map flags make xs
visible_map (false ∷ flags) make (x ∷ xs) = ap (λ ys. make x ∷ ys) (visible_map flags make xs)

hidden_map : {X Y : Type 0} (flags : List Bool) (make : X → Y) (xs : List X) → hidden_values flags (map make xs) ≡ map make (hidden_values flags xs)
hidden_map [] make xs = refl
hidden_map (true ∷ flags) make [] = refl
hidden_map (false ∷ flags) make [] = refl
hidden_map (true ∷ flags) make (x ∷ xs) = ap (λ ys. make x ∷ ys) (hidden_map flags make xs)
hidden_map (false ∷ flags) make (x ∷ xs) = hidden_map flags make xs

pub no_column : (count : ℕ) → HaveAll count []
no_column count = record { each = λ column values is. cc is }

pub more_columns : (count : ℕ) (values : List Value) (columns : List (List Value)) → length values ≡ count → HaveAll count columns → HaveAll count (values ∷ columns)
more_columns count values columns long all = record { each = at }
  where
    at : (column : ℕ) (held : List Value) → slice_get (values ∷ columns) column ≡ Some held → length held ≡ count
    at zero held is = let same : values ≡ held = cc is in rw (← same) long
    at (suc column) held is = all.each column held is

pub later : (count : ℕ) (values : List Value) (columns : List (List Value)) → HaveAll count (values ∷ columns) → HaveAll count columns
later count values columns all = record { each = λ column held is. all.each (suc column) held is }

visible_have_all : (count : ℕ) (flags : List Bool) (columns : List (List Value)) → HaveAll count columns → HaveAll count (visible_values flags columns)
visible_have_all count [] columns all = no_column count
visible_have_all count (true ∷ flags) [] all = no_column count
visible_have_all count (false ∷ flags) [] all = no_column count
visible_have_all count (true ∷ flags) (values ∷ columns) all = visible_have_all count flags columns (later count values columns all)
visible_have_all count (false ∷ flags) (values ∷ columns) all =
    more_columns count values (visible_values flags columns) (all.each 0 values refl) (visible_have_all count flags columns (later count values columns all))

hidden_have_all : (count : ℕ) (flags : List Bool) (columns : List (List Value)) → HaveAll count columns → HaveAll count (hidden_values flags columns)
hidden_have_all count [] columns all = no_column count
hidden_have_all count (true ∷ flags) [] all = no_column count
hidden_have_all count (false ∷ flags) [] all = no_column count
hidden_have_all count (false ∷ flags) (values ∷ columns) all = hidden_have_all count flags columns (later count values columns all)
hidden_have_all count (true ∷ flags) (values ∷ columns) all =
    more_columns count values (hidden_values flags columns) (all.each 0 values refl) (hidden_have_all count flags columns (later count values columns all))

-- the values of the parted columns are those of all columns, parted
visible_cells : (flags : List Bool) (columns visible : List Cells) → visible ≡ visible_values flags columns → column_values visible ≡ visible_values flags (column_values columns)
visible_cells flags columns visible is = ap column_values is ∙ sym (visible_map flags values_in columns)

hidden_cells : (flags : List Bool) (columns kept : List Cells) → kept ≡ hidden_values flags columns → column_values kept ≡ hidden_values flags (column_values columns)
hidden_cells flags columns kept is = ap column_values is ∙ sym (hidden_map flags values_in columns)

pub visible_all : (count : ℕ) (flags : List Bool) (columns visible : List Cells) → visible ≡ visible_values flags columns → HaveAll count (column_values columns)
    → HaveAll count (column_values visible)
visible_all count flags columns visible is all = rw (visible_cells flags columns visible is) (visible_have_all count flags (column_values columns) all)

pub hidden_all : (count : ℕ) (flags : List Bool) (columns kept : List Cells) → kept ≡ hidden_values flags columns → HaveAll count (column_values columns)
    → HaveAll count (column_values kept)
hidden_all count flags columns kept is all = rw (hidden_cells flags columns kept is) (hidden_have_all count flags (column_values columns) all)

-- the parts of all rows
pub visible_rows : (count : ℕ) (declared : List Column) (columns visible : List Cells) (rows : Rows) → visible ≡ visible_values (flags_of declared) columns
    → rows ≡ rows_in count (column_values columns) → part_in count (column_values visible) ≡ rows_by visible_values (with_identifier (columns_of declared)) rows
visible_rows count declared columns visible rows is are =
    let values = column_values columns in
    let flags = flags_of declared in
    ap (part_in count) (visible_cells flags columns visible is)
    ∙ made_same (values_at (visible_values flags values)) (λ place. visible_values flags (values_at values place)) 0 count
    (λ place within. sym (visible_map flags (λ (values : List Value). get_or values place (Number (pos 0))) values))
    ∙ sym (map-map (λ (row : Row). visible_values flags (drop 1 row)) (row_at values) (range_with_len 0 count))
    ∙ ap (rows_by visible_values (with_identifier (columns_of declared))) (sym are)

pub hidden_rows : (count : ℕ) (declared : List Column) (columns kept : List Cells) (rows : Rows) → kept ≡ hidden_values (flags_of declared) columns
    → rows ≡ rows_in count (column_values columns) → part_in count (column_values kept) ≡ rows_by hidden_values (with_identifier (columns_of declared)) rows
hidden_rows count declared columns kept rows is are =
    let values = column_values columns in
    let flags = flags_of declared in
    ap (part_in count) (hidden_cells flags columns kept is)
    ∙ made_same (values_at (hidden_values flags values)) (λ place. hidden_values flags (values_at values place)) 0 count
    (λ place within. sym (hidden_map flags (λ (values : List Value). get_or values place (Number (pos 0))) values))
    ∙ sym (map-map (λ (row : Row). hidden_values flags (drop 1 row)) (row_at values) (range_with_len 0 count))
    ∙ ap (rows_by hidden_values (with_identifier (columns_of declared))) (sym are)

-- the tables before `i` are parted
pub record TablesAreParted (tables : schema.Schema) (i : ℕ) (database left : Database) (visible kept : List Rows) : Type 0 where
  pub shown : tables_by visible_values tables database ≡ visible ++ tables_by visible_values (drop i tables) left
  pub held : tables_by hidden_values tables database ≡ kept ++ tables_by hidden_values (drop i tables) left

pub no_table_parted : (tables : schema.Schema) (database left : Database) (visible kept : List Rows) → left ≡ database → visible ≡ [] → kept ≡ []
    → TablesAreParted tables 0 database left visible kept
no_table_parted tables database left visible kept all unseen none = record {
  shown = ap₂ (λ front rows. front ++ tables_by visible_values tables rows) (sym unseen) (sym all);
  held = ap₂ (λ front rows. front ++ tables_by hidden_values tables rows) (sym none) (sym all);
}

nowhere : schema.Table
nowhere = record { name = []; columns = [] }

no_tables : (part : List Bool → Row → Row) (tables : schema.Schema) → tables_by part tables [] ≡ []
no_tables part [] = refl
no_tables part (table ∷ tables) = refl

table_first : (part : List Bool → Row → Row) (table : schema.Table) (tables : schema.Schema) (left : Database)
    → tables_by part (table ∷ tables) left ≡ map (rows_by part table.columns) (take 1 left) ++ tables_by part tables (drop 1 left)
table_first part table tables [] = sym (no_tables part tables)
table_first part table tables (rows ∷ left) = refl

tables_next : (part : List Bool → Row → Row) (tables : schema.Schema) (i : ℕ) (columns : List schema.Column) (left later : Database) (parts more : List Rows) → i < length tables
    → columns ≡ schema.columns_of tables i → more ≡ parts ++ map (rows_by part columns) (take 1 left) → later ≡ drop 1 left
    → parts ++ tables_by part (drop i tables) left ≡ more ++ tables_by part (drop (i + 1) tables) later
tables_next part tables i columns left later parts more within are grown one =
    let table = get_or tables i nowhere in
    let there : table.columns ≡ columns = sym (ap schema.columns_or_none (slice_get-get_or tables i nowhere within)) ∙ sym are in
    ap (λ tables. parts ++ tables_by part tables left) (next tables i nowhere within)
    ∙ ap (λ rows. parts ++ rows) (table_first part table (drop (i + 1) tables) left)
    ∙ sym (append_assoc parts (map (rows_by part table.columns) (take 1 left)) (tables_by part (drop (i + 1) tables) (drop 1 left)))
    ∙ ap (λ columns. (parts ++ map (rows_by part columns) (take 1 left)) ++ tables_by part (drop (i + 1) tables) (drop 1 left)) there
    ∙ ap₂ (λ front rows. front ++ tables_by part (drop (i + 1) tables) rows) (sym grown) (sym one)

pub one_table_parted : (tables : schema.Schema) (i : ℕ) (columns : List schema.Column) (database left later : Database) (visible more kept rest : List Rows)
    → TablesAreParted tables i database left visible kept → i < length tables → columns ≡ schema.columns_of tables i
    → more ≡ visible ++ map (rows_by visible_values columns) (take 1 left) → rest ≡ kept ++ map (rows_by hidden_values columns) (take 1 left) → later ≡ drop 1 left
    → TablesAreParted tables (i + 1) database later more rest
one_table_parted tables i columns database left later visible more kept rest so_far within are shown hid one = record {
  shown = so_far.shown ∙ tables_next visible_values tables i columns left later visible more within are shown one;
  held = so_far.held ∙ tables_next hidden_values tables i columns left later kept rest within are hid one;
}

pub all_tables_parted : (tables : schema.Schema) (i : ℕ) (database left : Database) (visible kept : List Rows) → TablesAreParted tables i database left visible kept
    → length tables ≤ i → (visible ≡ tables_by visible_values tables database) × (kept ≡ tables_by hidden_values tables database)
all_tables_parted tables i database left visible kept so_far past =
    let none : drop i tables ≡ [] = drop_all i tables past in (
      sym (so_far.shown ∙ ap (λ tables. visible ++ tables_by visible_values tables left) none ∙ append-nil visible),
      sym (so_far.held ∙ ap (λ tables. kept ++ tables_by hidden_values tables left) none ∙ append-nil kept),
    )

-- both parts have as many rows in each table
pub same_counts : (tables : schema.Schema) (database : Database)
    → map length (tables_by visible_values tables database) ≡ map length (tables_by hidden_values tables database)
same_counts [] database = refl
same_counts (table ∷ tables) [] = refl
same_counts (table ∷ tables) (rows ∷ database) =
    ap₂ (λ n counts. n ∷ counts) (length-map rows _ ∙ sym (length-map rows _)) (same_counts tables database)
