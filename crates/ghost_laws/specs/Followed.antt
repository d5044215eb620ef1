-- What a loop over the rows of the top table may rely on where a query was accepted: its FROM tables are the top one and
-- tables below it, each with its parent in FROM too and joined with it; its columns are columns of FROM tables; a join is of a
-- foreign key and the identifier that it names. The query without its groups that are left is such a one too. And the rows of an answer come row by row of the top table.
use Rattle.std.specs.Prelude.{◌≡◌, ◌≢◌, ℕ, suc, ◌≤◌, Bool, false, ◌&&◌, ◌||◌, List, [], ◌++◌, length, flat_map, Some, is_some, IsTrue}
use Rattle.std.specs.List.{list_all, list_any, range_with_len}
use Rattle.ghost_model.specs.core.Schema.{Schema, column_at, parent, IsAtOrBelow}
use Rattle.ghost_model.specs.laws.SchemaTrees.{IsTree}
use Rattle.ghost_model.specs.core.Values.{Row}
use Rattle.ghost_model.specs.core.Query.{Query, Field, Condition, OneOf, Join, members_in, is_among, top_of}
use Rattle.ghost_model.specs.core.Groups.{each_of}
use Rattle.ghost_model.specs.refusals.QueryMeaning.{has_repeat, is_join_of, is_of_one_table, is_reference_to, Means}
use Rattle.ghost_model.specs.forms.Left.{without_left}

-- whether a column is one of a FROM table
abbrev pub is_column_from : Schema → (from : List ℕ) → Field → Bool
is_column_from schema from one = is_among from one.table && is_some (column_at schema one.table one.column)

abbrev pub is_condition_from : Schema → (from : List ℕ) → Condition → Bool
is_condition_from schema from (OneOf first others) = each_of (λ one. is_column_from schema from one.field) first others
is_condition_from schema from (Join one other) =
    is_column_from schema from one && is_column_from schema from other
    && (is_reference_to schema one other || is_reference_to schema other one)

pub record HasParentFrom (schema : Schema) (from : List ℕ) (table : ℕ) : Type 0 where
  pub above : ℕ
  pub is_parent : parent schema table ≡ Some above
  pub stands : IsTrue (is_among from above)

pub record IsFollowed (schema : Schema) (asked : Query) (top : ℕ) : Type 0 where
  pub top_stands : IsTrue (is_among asked.from top)
  pub once : has_repeat asked.from ≡ false
  pub below : (table : ℕ) → IsTrue (is_among asked.from table) → IsAtOrBelow schema top table
  pub parents : (table : ℕ) → IsTrue (is_among asked.from table) → table ≢ top → HasParentFrom schema asked.from table
  pub joined : (table : ℕ) → IsTrue (is_among asked.from table) → table ≢ top → IsTrue (list_any (is_join_of schema table) asked.conditions)
  pub selected : IsTrue (list_all (is_column_from schema asked.from) asked.select)
  pub conditions : IsTrue (list_all (is_condition_from schema asked.from) asked.conditions)
  pub groups : IsTrue (list_all is_of_one_table asked.conditions)
  pub few_selected : length asked.select ≤ 32
  pub few_members : length (members_in asked.conditions) ≤ 16

abbrev pub AcceptedQueriesAreFollowed : Type 0
AcceptedQueriesAreFollowed =
    (schema : Schema) → IsTree schema → (text : List ℕ) (asked : Query) → Means schema text asked
    → (top : ℕ) → top_of schema asked ≡ Some top → IsFollowed schema asked top

abbrev pub WithoutLeftIsFollowed : Type 0
WithoutLeftIsFollowed =
    (schema : Schema) (asked : Query) (top : ℕ) → IsFollowed schema asked top → IsFollowed schema (without_left schema asked) top

-- the rows for the first identifiers, and those for one more
pub record RowsComeOneByOne : Type 0 where
  pub none : (rows : ℕ → List Row) → flat_map rows (range_with_len 1 0) ≡ []
  pub more : (rows : ℕ → List Row) (count : ℕ)
      → flat_map rows (range_with_len 1 (suc count)) ≡ flat_map rows (range_with_len 1 count) ++ rows (suc count)
