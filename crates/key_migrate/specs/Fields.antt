-- Columns that were taken, in the order in which items name them.
use Rattle.std.specs.Prelude.{◌≡◌, ℕ, Bool, true, false, List, map, take, Some, None, slice_get}
use Rattle.std.specs.List.{fold, list_any}
use Rattle.ghost_model.specs.core.Channel.{Catalog}
use Rattle.ghost_model.specs.core.Query.{Field}
use Rattle.ghost_model.specs.core.Schema.{Schema}
use Rattle.ghost_model.specs.forms.Left.{is_same_field}
use Rattle.tree_schema.specs.Catalogs.{catalog_of_version}
use Rattle.tree_schema.specs.Nulls.{may_be_null}
use Rattle.key_migrate.specs.Items.{item_field, refused_item, is_taken, with_field}

-- a column may be allowed NULL, and is none of the earlier ones
pub record IsFree (schema : Schema) (earlier : List Field) (one : Field) : Type 0 where
  pub may : may_be_null schema one.table one.column ≡ true
  pub first : list_any (is_same_field one) earlier ≡ false

pub record AreFree (schema : Schema) (fields : List Field) : Type 0 where
  pub each : (place : ℕ) (one : Field) → slice_get fields place ≡ Some one → IsFree schema (take place fields) one

-- these columns are those that items name
abbrev pub AreOfItems : Schema → (items : List (List ℕ)) → List Field → Type 0
AreOfItems schema items fields = map (item_field schema) items ≡ map Some fields

-- an item is taken behind any that name these columns, or is not
pub record IsTakenBehind (schema : Schema) (earlier : List Field) (item : List ℕ) (is : Bool) : Type 0 where
  pub each : (items : List (List ℕ)) → AreOfItems schema items earlier → is_taken schema items item ≡ is

pub record IsTaken (schema : Schema) (earlier : List Field) (item : List ℕ) (one : Field) : Type 0 where
  pub names : item_field schema item ≡ Some one
  pub free : IsFree schema earlier one
  pub taken : IsTakenBehind schema earlier item true

-- all items are taken, and name these columns
pub record AreTaken (schema : Schema) (items : List (List ℕ)) (fields : List Field) : Type 0 where
  pub none : refused_item schema items ≡ None
  pub named : AreOfItems schema items fields
  pub free : AreFree schema fields

-- the catalog in which these columns may be NULL too
abbrev pub with_fields : Schema → List Field → Schema
with_fields schema fields = fold with_field schema (map Some fields)

abbrev pub catalog_with : Catalog → List Field → Catalog
catalog_with cat fields = catalog_of_version cat.version (with_fields cat.schema fields) cat.counts cat.generation
