-- Laws of schemas' texts: the functions that read a text say what the relations say of it.
use Rattle.std.specs.Prelude.{◌≡◌, ◌⊎◌, ◌↔◌, ℕ, true, List, Ok, Err, ◌+◌, [], ◌∷◌, if◌then◌else◌}
use Rattle.ghost_model.specs.core.Schema.{Schema, Table, is_table, parent}
use Rattle.ghost_model.specs.refusals.Grammar.{Spells, IsSyntaxFault}
use Rattle.ghost_model.specs.refusals.SchemaGrammar.{SchemaText, schema_spelling}
use Rattle.ghost_model.specs.readings.SchemaPlaces.{schema_syntax_of}
use Rattle.ghost_model.specs.refusals.SchemaFaults.{SchemaFault, MeansSchema, IsSchemaFault, returns}
use Rattle.ghost_model.specs.readings.SchemaReading.{schema_reading}
use Rattle.ghost_model.specs.laws.SchemaTrees.{Returns}

-- the places, from `at` on, of the tables whose parent is this one; the last list has one element for each table from `at` on
unfoldable pub children_from : Schema → (table at : ℕ) → List Table → List ℕ
children_from schema table at [] = []
children_from schema table at (_ ∷ later) =
    if is_table table (parent schema at) then at ∷ children_from schema table (at + 1) later
    else children_from schema table (at + 1) later

-- the tables that a table's foreign keys name, ascending
abbrev pub children : Schema → ℕ → List ℕ
children schema table = children_from schema table 0 schema

-- the places say of each text what the grammar says
pub record SchemaPlacesAreExact : Type 0 where
  pub tree : (text : List ℕ) (tables : SchemaText) → (schema_syntax_of text ≡ Ok tables) ↔ Spells schema_spelling text tables
  pub fault : (text : List ℕ) (at : ℕ) → (schema_syntax_of text ≡ Err at) ↔ IsSyntaxFault schema_spelling text at

-- what returns in any number of steps does so in at most as many as there are tables
abbrev pub ReturnsAreShort : Type 0
ReturnsAreShort = (schema : Schema) (table : ℕ) → (returns schema table ≡ true) ↔ Returns schema table

-- each text means one schema or has one fault, and not both; and this is what it is read as
pub record OneSchemaReading : Type 0 where
  pub read : (text : List ℕ) (schema : Schema) → (schema_reading text ≡ Ok schema) ↔ MeansSchema text schema
  pub refused : (text : List ℕ) (fault : SchemaFault) → (schema_reading text ≡ Err fault) ↔ IsSchemaFault text fault
  pub one_schema : (text : List ℕ) (schema other : Schema) → MeansSchema text schema → MeansSchema text other → schema ≡ other
  pub one_fault :
      (text : List ℕ) (fault other : SchemaFault) → IsSchemaFault text fault → IsSchemaFault text other → fault ≡ other
  pub not_both : (text : List ℕ) (schema : Schema) (fault : SchemaFault) → MeansSchema text schema → IsSchemaFault text fault → ⊥
  pub some :
      (text : List ℕ)
      → ((schema : Schema) × MeansSchema text schema) ⊎ ((fault : SchemaFault) × IsSchemaFault text fault)
