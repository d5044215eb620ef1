-- What the tables, columns and versions of the code stand for, in the words of the definitions.
use Rattle.std.specs.Prelude.{ℕ, List, map}
use Rattle.ghost_model.specs.core.Schema as schema
use Rattle.ghost_base.specs.Views.{kind_of}
use Rattle.tree_schema.specs.declared.schema.Column.{Column}
use Rattle.tree_schema.specs.declared.schema.Table.{Table}
use Rattle.tree_schema.specs.declared.version.Version.{Version}
use Rattle.tree_schema.specs.declared.version.Version.TheVariants as version

abbrev pub column_of : Column → schema.Column
column_of column = record { name = column.name.items; kind = kind_of column.kind; hidden = column.hidden; child = column.child }

abbrev pub table_of : Table → schema.Table
table_of table = record { name = table.name.items; columns = map column_of table.columns.items }

abbrev pub schema_of : List Table → schema.Schema
schema_of tables = map table_of tables

abbrev pub version_of : Version → ℕ
version_of version.One = 1
version_of version.Two = 2
