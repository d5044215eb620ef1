-- The two parts of a database once more, taken by walks along the flags that say which columns are hidden, and rejoined
-- by such a walk. The walks take lists of values, and of whole columns too. Nothing here is a definition that a promise
-- cites; the law says that the parts and the rejoined rows are the same.
use Rattle.std.specs.Prelude.{◌≡◌, ℕ, ◌+◌, pos, Bool, true, false, List, [], ◌∷◌, map, drop}
use Rattle.ghost_model.specs.core.Schema.{Schema, Column}
use Rattle.ghost_model.specs.core.Values.{Number, Row, Rows, Database}
use Rattle.ghost_model.specs.core.Split.{Public, Hidden, is_closed, public_of, hidden_of, rejoined}

-- which columns of a table are hidden, its identifier not being among them
abbrev pub hidden_flags : List Column → List Bool
hidden_flags columns = map is_closed (drop 1 columns)

-- of one value a column, those of the visible columns
abbrev pub visible_values : {X : Type 0} → (flags : List Bool) → List X → List X
visible_values [] values = []
visible_values (_ ∷ _) [] = []
visible_values (true ∷ flags) (_ ∷ values) = visible_values flags values
visible_values (false ∷ flags) (value ∷ values) = value ∷ visible_values flags values

-- of one value a column, those of the hidden columns
abbrev pub hidden_values : {X : Type 0} → (flags : List Bool) → List X → List X
hidden_values [] values = []
hidden_values (_ ∷ _) [] = []
hidden_values (true ∷ flags) (value ∷ values) = value ∷ hidden_values flags values
hidden_values (false ∷ flags) (_ ∷ values) = hidden_values flags values

-- what a function takes from the values of each row, the identifier not being among them
abbrev pub rows_by : (List Bool → Row → Row) → List Column → Rows → Rows
rows_by part columns rows = map (λ row. part (hidden_flags columns) (drop 1 row)) rows

abbrev pub tables_by : (List Bool → Row → Row) → Schema → Database → List Rows
tables_by part [] database = []
tables_by part (_ ∷ _) [] = []
tables_by part (table ∷ tables) (rows ∷ database) =
    rows_by part table.columns rows ∷ tables_by part tables database

-- one value a column again: the next hidden one where the column is hidden, else the next visible one
abbrev pub merged : {X : Type 0} → (flags : List Bool) → (visible kept : List X) → List X
merged [] visible kept = []
merged (true ∷ flags) visible [] = []
merged (true ∷ flags) visible (value ∷ kept) = value ∷ merged flags visible kept
merged (false ∷ flags) [] kept = []
merged (false ∷ flags) (value ∷ visible) kept = value ∷ merged flags visible kept

-- the rows whose two parts these are, the first of them having identifier `identifier`
abbrev pub rejoined_rows : (identifier : ℕ) → List Column → (visible kept : Rows) → Rows
rejoined_rows identifier columns [] kept = []
rejoined_rows identifier columns (_ ∷ _) [] = []
rejoined_rows identifier columns (one ∷ visible) (other ∷ kept) =
    (Number (pos identifier) ∷ merged (hidden_flags columns) one other)
    ∷ rejoined_rows (identifier + 1) columns visible kept

abbrev pub rejoined_tables : Schema → (visible kept : List Rows) → Database
rejoined_tables [] visible kept = []
rejoined_tables (_ ∷ _) [] kept = []
rejoined_tables (_ ∷ _) (_ ∷ _) [] = []
rejoined_tables (table ∷ tables) (one ∷ visible) (other ∷ kept) =
    rejoined_rows 1 table.columns one other ∷ rejoined_tables tables visible kept

-- the parts of every list of rows, and the rows of every two parts, are those that the walks give
pub record PartsByFlags : Type 0 where
  pub visible : (schema : Schema) (database : Database) → (public_of schema database).visible ≡ tables_by visible_values schema database
  pub hidden : (schema : Schema) (database : Database) → (hidden_of schema database).hidden ≡ tables_by hidden_values schema database
  pub again : (schema : Schema) (public : Public) (kept : Hidden) → rejoined schema public kept ≡ rejoined_tables schema public.visible kept.hidden
