-- The reading of a schema's text, which computes: its tree by the places of the grammar, then the first of the rules that
-- it breaks. Outside, what a text declares is named by `schema_reading` alone. Nothing in this module need be believed:
-- the law OneSchemaReading (function `one_schema_reading`) makes `schema_reading` the relations MeansSchema and
-- IsSchemaFault.
use Rattle.std.specs.Prelude.{ℕ, List, Option, Some, None, Result, Ok, Err}
use Rattle.ghost_model.specs.core.Schema.{Schema}
use Rattle.ghost_model.specs.refusals.Rules.{first_broken}
use Rattle.ghost_model.specs.refusals.SchemaGrammar.{SchemaText}
use Rattle.ghost_model.specs.readings.SchemaPlaces.{schema_syntax_of}
use Rattle.ghost_model.specs.refusals.SchemaMeaning.{schema_of}
use Rattle.ghost_model.specs.refusals.SchemaFaults.{SchemaFault, BadSyntax, rules_of_schemas}

abbrev pub schema_or : Schema → Option SchemaFault → Result Schema SchemaFault
schema_or schema None = Ok schema
schema_or schema (Some fault) = Err fault

-- what a tree is read as, or the offset of a text that spells none
abbrev pub schema_judged : Result SchemaText ℕ → Result Schema SchemaFault
schema_judged (Err at) = Err (BadSyntax at)
schema_judged (Ok tables) = schema_or (schema_of tables) (first_broken (rules_of_schemas tables))

abbrev pub schema_reading : List ℕ → Result Schema SchemaFault
schema_reading text = schema_judged (schema_syntax_of text)
