-- Which hidden columns are read for a query.
use Rattle.std.specs.Prelude.{◌≡◌, ℕ, ◌&&◌, ◌||◌, Bool, true, false, Some, nat_eq}
use Rattle.std.specs.List.{list_any}
use Rattle.ghost_model.specs.core.Schema.{Schema, parent, IsAtOrBelow}
use Rattle.ghost_model.specs.core.Database.{reference_column}
use Rattle.ghost_model.specs.core.Query.{Query, Field, Condition, OneOf, Join}
use Rattle.ghost_model.specs.core.Groups.{some_of}

-- whether a query has a column of some kind in its select list, or tests one
abbrev pub compares : (is : Field → Bool) → Condition → Bool
compares is (OneOf first others) = some_of (λ one. is one.field) first others
compares is (Join one other) = false

abbrev pub uses : Query → (is : Field → Bool) → Bool
uses asked is = list_any is asked.select || list_any (compares is) asked.conditions

-- whether a column is this one, and whether it is one of a table
abbrev pub is_at : (table column : ℕ) → Field → Bool
is_at table column field = nat_eq field.table table && nat_eq field.column column

abbrev pub is_of : (table : ℕ) → Field → Bool
is_of table field = nat_eq field.table table

-- The column is a foreign key on the way down from one table to another: its table is the first one or lies below it, and the other
-- one is the table that it names or lies below that.
pub record IsOnWay (schema : Schema) (from to table column : ℕ) : Type 0 where
  pub child : ℕ
  pub parent_is : parent schema child ≡ Some table
  pub key_is : reference_column schema table child ≡ Some column
  pub starts : IsAtOrBelow schema from table
  pub ends : IsAtOrBelow schema child to

-- A query with that top table reads a column where it selects or compares it, or where it is a foreign key on the way from the
-- top table to one of which the query selects or compares some column.
pub data IsReadFor (schema : Schema) (asked : Query) (top table column : ℕ) : Type 0 where
  AsColumn : uses asked (is_at table column) ≡ true → IsReadFor schema asked top table column
  AsKey : (to : ℕ) → uses asked (is_of to) ≡ true → IsOnWay schema top to table column → IsReadFor schema asked top table column
