-- The part of each row of a table that some of its columns hold, the identifier standing in none of them, and the two
-- parts of a database as one list of rows for each table.
use Rattle.std.specs.Prelude.{◌≡◌, ◌≤◌, ◌<◌, ℕ, Bool, List, [], ◌∷◌, length, Option, Some, None, slice_get}
use Rattle.ghost_model.specs.refusals.LoadFaults.{most_rows}
use Rattle.ghost_model.specs.core.Schema as schema
use Rattle.ghost_model.specs.core.Split.{Public, Hidden}
use Rattle.ghost_model.specs.laws.SplitByFlags.{merged, rejoined_rows}
use Rattle.ghost_model.specs.core.Values.{Value, Rows, Database}
use Rattle.csv_split.specs.declared.part.Part.TheInside.{Inside}
use Rattle.csv_split.specs.Tables.{column_values, rows_made, values_at}

abbrev pub part_in : (count : ℕ) → (columns : List (List Value)) → Rows
part_in count columns = rows_made (values_at columns) count

-- what each part keeps
pub record IsPart (part : Inside) : Type 0 where
  pub few : part.rows ≤ most_rows
  pub long : (column : ℕ) (values : List Value) → slice_get (column_values part.columns.items) column ≡ Some values
      → length values ≡ part.rows

abbrev pub rows_of_part : Inside → Rows
rows_of_part part = part_in part.rows (column_values part.columns.items)

abbrev pub public_with : List Rows → Public
public_with parts = record { visible = parts }

abbrev pub hidden_with : List Rows → Hidden
hidden_with parts = record { hidden = parts }

-- each column has a value at a place
pub record HaveRow (place : ℕ) (columns : List (List Value)) : Type 0 where
  pub each : (column : ℕ) (values : List Value) → slice_get columns column ≡ Some values → place < length values

-- two parts of one table have as many rows, where there are both
pub record HaveAsMany (one other : Option Rows) : Type 0 where
  pub same : (visible kept : Rows) → one ≡ Some visible → other ≡ Some kept → length visible ≡ length kept

-- the table of two parts, where there are both
abbrev pub both_rejoined : List schema.Column → (one other : Option Rows) → Database
both_rejoined columns None other = []
both_rejoined columns (Some _) None = []
both_rejoined columns (Some one) (Some other) = rejoined_rows 1 columns one other ∷ []

-- of visible and hidden columns, from which the next in order was taken: what they merge to begins with it
abbrev pub NextMerged : {X : Type 0} → (hidden : Bool) → (taken : Option X) → (visible kept later_visible later_kept : List X) → Type 0
NextMerged hidden None visible kept later_visible later_kept = (flags : List Bool) → merged (hidden ∷ flags) visible kept ≡ []
NextMerged hidden (Some taken) visible kept later_visible later_kept =
    (flags : List Bool) → merged (hidden ∷ flags) visible kept ≡ taken ∷ merged flags later_visible later_kept
