-- What the rules leave: each schema that a text means is a tree within the limits. It has at most 12 tables with at most
-- 24 columns each; names are names that a text can write, of at most 32 bytes, and no two tables and no two columns of a
-- table share one; a column of texts holds at least 1 and at most 64 bytes. Every table begins with its identifier,
-- foreign keys are hidden integers and never NULL, at most one of them names a table, following parents never returns, and exactly one
-- table, the root, has no parent.
use Rattle.std.specs.Prelude.{◌≡◌, ℕ, ◌<◌, ◌≤◌, true, false, List, length, codes, Some, None, slice_get}
use Rattle.ghost_model.specs.core.Schema.{Integer, Chars, CharsOrNull, Column, Table, Schema, columns_of, column_at, ancestor}
use Rattle.ghost_model.specs.laws.Spelled.{is_name}
use Rattle.ghost_model.specs.refusals.SchemaFaults.{references_naming, roots_of, MeansSchema}

-- `id`, which both sides know
abbrev pub identifier : Column
identifier = record { name = codes "id"; kind = Integer; hidden = false; child = None }

-- following parents from a table returns to it
pub record Returns (schema : Schema) (table : ℕ) : Type 0 where
  pub steps : ℕ
  pub moves : 0 < steps
  pub back : ancestor schema steps table ≡ Some table

pub record IsTree (schema : Schema) : Type 0 where
  pub few_tables : length schema ≤ 12
  pub few_columns : (table : ℕ) → length (columns_of schema table) ≤ 24
  pub begins_with_id : (table : ℕ) → table < length schema → column_at schema table 0 ≡ Some identifier
  pub references_are_hidden :
      (table column child : ℕ) (held : Column)
      → column_at schema table column ≡ Some held → held.child ≡ Some child → held.hidden ≡ true
  pub references_name_tables :
      (table column child : ℕ) (held : Column)
      → column_at schema table column ≡ Some held → held.child ≡ Some child → child < length schema
  pub one_parent : (table : ℕ) → table < length schema → references_naming schema table ≤ 1
  pub no_cycle : (table : ℕ) → Returns schema table → ⊥
  pub one_root : roots_of schema ≡ 1
  pub text_lengths :
      (table column most : ℕ) (held : Column)
      → column_at schema table column ≡ Some held → held.kind ≡ Chars most → (1 ≤ most) × (most ≤ 64)
  -- the same of texts beside which NULL may stand
  pub nullable_text_lengths :
      (table column most : ℕ) (held : Column)
      → column_at schema table column ≡ Some held → held.kind ≡ CharsOrNull most → (1 ≤ most) × (most ≤ 64)
  pub references_are_integers :
      (table column child : ℕ) (held : Column)
      → column_at schema table column ≡ Some held → held.child ≡ Some child → held.kind ≡ Integer
  pub short_table_names : (table : ℕ) (held : Table) → slice_get schema table ≡ Some held → length held.name ≤ 32
  pub short_names :
      (table column : ℕ) (held : Column) → column_at schema table column ≡ Some held → length held.name ≤ 32
  pub table_names_are_names :
      (table : ℕ) (held : Table) → slice_get schema table ≡ Some held → is_name held.name ≡ true
  pub names_are_names :
      (table column : ℕ) (held : Column) → column_at schema table column ≡ Some held → is_name held.name ≡ true
  pub distinct_tables :
      (table other : ℕ) (held same : Table)
      → slice_get schema table ≡ Some held → slice_get schema other ≡ Some same → held.name ≡ same.name → table ≡ other
  pub distinct_columns :
      (table column other : ℕ) (held same : Column)
      → column_at schema table column ≡ Some held → column_at schema table other ≡ Some same
      → held.name ≡ same.name → column ≡ other

abbrev pub SchemasAreTrees : Type 0
SchemasAreTrees = (text : List ℕ) (schema : Schema) → MeansSchema text schema → IsTree schema
