-- The rule that a fault tells is broken, and where: its numbers alone, whatever names it shows.
use Rattle.ghost_model.specs.refusals.LoadFaults as load
use Rattle.ghost_model.specs.refusals.SchemaFaults as schemas
use Rattle.csv_split.specs.Faults.{place_of}
use Rattle.key_inputs.specs.declared.broken_schema.BrokenSchema.{BrokenSchema}
use Rattle.key_inputs.specs.declared.broken_schema.BrokenSchema.TheVariants as broken_schema
use Rattle.key_inputs.specs.declared.broken_table.BrokenTable.{BrokenTable}
use Rattle.key_inputs.specs.declared.broken_table.BrokenTable.TheVariants as broken_table

abbrev pub schema_rule : BrokenSchema → schemas.SchemaFault
schema_rule (broken_schema.Syntax at) = schemas.BadSyntax at
schema_rule broken_schema.Limit = schemas.OverLimit
schema_rule (broken_schema.DuplicateTable named) = schemas.DuplicateName named.table 0
schema_rule (broken_schema.DuplicateColumn named) = schemas.DuplicateName named.table named.column
schema_rule (broken_schema.NoId named) = schemas.NoId named.table
schema_rule (broken_schema.UnknownTable named) = schemas.UnknownChild named.table named.column
schema_rule (broken_schema.TwoParents named) = schemas.TwoParents named.table
schema_rule (broken_schema.Cycle named) = schemas.Cycle named.table
schema_rule (broken_schema.NotOneRoot roots) = schemas.NotOneRoot roots

abbrev pub table_rule : BrokenTable → load.LoadFault
table_rule (broken_table.FileLimit named) = load.FileLimit (place_of named.at)
table_rule (broken_table.Header named) = load.Header (place_of named.at)
table_rule (broken_table.Empty named) = load.Header (place_of named.at)
table_rule (broken_table.RowLimit named) = load.RowLimit (place_of named.at)
table_rule (broken_table.FieldCount named) = load.FieldCount (place_of named.at)
table_rule (broken_table.BadId field value) = load.BadId (place_of field.at)
table_rule (broken_table.BadInt field value) = load.BadInt (place_of field.at)
table_rule (broken_table.BadChars field value) = load.BadChars (place_of field.at)
table_rule (broken_table.BadReference field child value) = load.BadReference (place_of field.at)
