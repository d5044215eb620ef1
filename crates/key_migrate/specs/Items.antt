-- The columns that the items of `--null` name, each by its table's name, a point and its own name, without regard to case. An item is
-- taken where it names a column that may be allowed NULL, which is neither the identifier nor a foreign key nor NULL already, and that no
-- item before it names.
use Rattle.std.specs.Prelude.{ℕ, ◌+◌, Bool, false, not, ◌&&◌, ◌==◌, List, [], ◌∷◌, ◌++◌, length, map, Option, Some, None, option_map, option_and_then, if◌then◌else◌}
use Rattle.std.specs.List.{fold, list_any, before_first, after_first}
use Rattle.ghost_model.specs.core.Channel.{Catalog}
use Rattle.ghost_model.specs.core.Query.{Field}
use Rattle.ghost_model.specs.core.Schema.{Schema, column_named}
use Rattle.ghost_model.specs.forms.Catalog.{current_version}
use Rattle.ghost_model.specs.forms.Left.{is_same_field}
use Rattle.ghost_model.specs.refusals.QueryMeaning.{field, table_named}
use Rattle.ghost_model.specs.refusals.Tokens.{in_lower_case}
use Rattle.tree_schema.specs.Nulls.{may_be_null, with_null}

abbrev pub is_point : (letter : ℕ) → Bool
is_point letter = letter == 46

-- the column of a table, both by their names
abbrev pub field_called : Schema → (table column : List ℕ) → Option Field
field_called schema table column =
    option_and_then (λ place. option_map (field place) (column_named schema place (in_lower_case column)))
    (table_named schema (in_lower_case table))

-- the column that an item names, if it names one: one without a point does not
abbrev pub item_field : Schema → (item : List ℕ) → Option Field
item_field schema item =
    if list_any is_point item then field_called schema (before_first is_point item) (after_first is_point item) else None

abbrev pub is_field : Field → Option Field → Bool
is_field one None = false
is_field one (Some other) = is_same_field one other

-- whether an item names that column
abbrev pub names : Schema → Field → (item : List ℕ) → Bool
names schema one item = is_field one (item_field schema item)

-- whether a column that an item names is taken, behind these items
abbrev pub is_free_field : Schema → (earlier : List (List ℕ)) → Option Field → Bool
is_free_field schema earlier None = false
is_free_field schema earlier (Some one) = may_be_null schema one.table one.column && not (list_any (names schema one) earlier)

abbrev pub is_taken : Schema → (earlier : List (List ℕ)) → (item : List ℕ) → Bool
is_taken schema earlier item = is_free_field schema earlier (item_field schema item)

-- the number, from 1, of the first of some items that is not taken, behind these that are
unfoldable pub refused_behind : Schema → (earlier items : List (List ℕ)) → Option ℕ
refused_behind schema earlier [] = None
refused_behind schema earlier (item ∷ items) =
    if is_taken schema earlier item then refused_behind schema (earlier ++ item ∷ []) items else Some (length earlier + 1)

abbrev pub refused_item : Schema → (items : List (List ℕ)) → Option ℕ
refused_item schema items = refused_behind schema [] items

-- the schema in which a column, where there is one, may be NULL too
abbrev pub with_field : Schema → Option Field → Schema
with_field schema None = schema
with_field schema (Some one) = with_null schema one.table one.column

-- the schema in which the columns that items name may be NULL too
abbrev pub with_items : Schema → (items : List (List ℕ)) → Schema
with_items schema items = fold with_field schema (map (item_field schema) items)

-- the catalog of as many rows and of the same generation, in which these columns may be NULL too, of the version that is made
abbrev pub migrated : Catalog → (items : List (List ℕ)) → Catalog
migrated cat items = record {
  schema = with_items cat.schema items;
  counts = cat.counts;
  generation = cat.generation;
  version = current_version;
}
