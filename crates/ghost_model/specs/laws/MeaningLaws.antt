-- Laws of databases and their meaning: what rows lead to, one row of an answer for each row of the top table, a database as
-- its two parts, and files that keep every rule.
use Rattle.std.specs.Prelude.{◌≡◌, ℕ, ◌+◌, ◌*◌, ◌≤◌, ◌<◌, List, [], Some, length, map, sum, sum_by, option_and_then}
use Rattle.std.specs.List.{zip}
use Rattle.ghost_model.specs.core.Schema.{Schema, Column, parent, ancestor, IsAtOrBelow}
use Rattle.ghost_model.specs.core.Values.{Row, Database}
use Rattle.ghost_model.specs.core.Query.{Query, top_of}
use Rattle.ghost_model.specs.core.Channel.{Catalog}
use Rattle.ghost_model.specs.core.Database.{row_of, row_count, row_counts, leads, points_to, database_of, IsDatabase}
use Rattle.ghost_model.specs.core.Split.{Public, public_of, hidden_of, rejoined, visible_kinds, image, IsPublic}
use Rattle.ghost_model.specs.core.Meaning.{all_of, answer_of_row}
use Rattle.ghost_model.specs.forms.Cells.{cell_width}
use Rattle.ghost_model.specs.forms.Catalog.{catalog_bytes}
use Rattle.ghost_model.specs.refusals.QueryMeaning.{Means}
use Rattle.ghost_model.specs.refusals.LoadFaults.{FileLimit, place, most_rows, most_bytes, load_faults, file_faults}
use Rattle.ghost_model.specs.laws.LoadLaws.{IsFirst}
use Rattle.ghost_model.specs.laws.SchemaTrees.{IsTree}

-- a row of a table that another row leads to
pub record Lands (schema : Schema) (database : Database) (from identifier to : ℕ) : Type 0 where
  pub reached : ℕ
  pub row : Row
  pub led : leads schema database from identifier to ≡ Some reached
  pub stands : row_of database to reached ≡ Some row

-- what rows lead to, whatever the number of tables between
pub record LeadsFollowKeys (schema : Schema) (database : Database) : Type 0 where
  pub to_itself : (table identifier : ℕ) → leads schema database table identifier table ≡ Some identifier
  pub along_a_reference : (from above to identifier : ℕ) → IsAtOrBelow schema from above → parent schema to ≡ Some above
      → leads schema database from identifier to
      ≡ option_and_then (λ reached. points_to schema database above reached to) (leads schema database from identifier above)
  pub lands : (from to identifier : ℕ) (row : Row) → IsAtOrBelow schema from to → row_of database from identifier ≡ Some row
      → Lands schema database from identifier to

-- in a database of a tree of tables each row leads to one row of each table below
abbrev pub RowsLeadToRows : Type 0
RowsLeadToRows =
    (schema : Schema) (database : Database) → IsTree schema → IsDatabase schema database → LeadsFollowKeys schema database

-- a query that a text means has at most one row in its answer for each row of its top table
abbrev pub OneRowEach : Type 0
OneRowEach =
    (schema : Schema) → IsTree schema → (database : Database) → IsDatabase schema database
    → (text : List ℕ) (asked : Query) → Means schema text asked
    → (top : ℕ) → top_of schema asked ≡ Some top
    → (identifier : ℕ) → 1 ≤ identifier → identifier ≤ row_count database top
    → length (answer_of_row (all_of database) asked top identifier) ≤ 1

-- the public part of a database goes with its catalog
abbrev pub PublicPartsGoWithCatalogs : Type 0
PublicPartsGoWithCatalogs =
    (cat : Catalog) (database : Database) → IsDatabase cat.schema database → row_counts database ≡ cat.counts
    → IsPublic cat (public_of cat.schema database)

-- an image has the bytes of its catalog, and for each row of a table the cells of its visible columns
abbrev pub ImagesAreAsLong : Type 0
ImagesAreAsLong =
    (cat : Catalog) (public : Public) → IsPublic cat public
    → length (image cat public)
    ≡ length (catalog_bytes cat)
    + sum_by (λ held. held.1 * sum (map cell_width (visible_kinds held.0))) (zip cat.schema cat.counts)

-- a database is its two parts rejoined
abbrev pub SplitIsRejoined : Type 0
SplitIsRejoined =
    (schema : Schema) (database : Database) → IsDatabase schema database
    → rejoined schema (public_of schema database) (hidden_of schema database) ≡ database

-- files that keep every rule spell a database, one file for each table
abbrev pub FilesSpellADatabase : Type 0
FilesSpellADatabase =
    (schema : Schema) (files : List (List ℕ)) → IsTree schema → length files ≡ length schema
    → load_faults schema files ≡ [] → IsDatabase schema (database_of schema files)

-- and each table has at most as many rows as it may have
abbrev pub FilesKeepTheRowLimit : Type 0
FilesKeepTheRowLimit =
    (schema : Schema) (files : List (List ℕ)) → load_faults schema files ≡ []
    → (table : ℕ) → row_count (database_of schema files) table ≤ most_rows

-- a file that is too long has that fault first, whatever else is in it
abbrev pub LongFilesAreToldFirst : Type 0
LongFilesAreToldFirst =
    (table : ℕ) (columns : List Column) (file : List ℕ) → most_bytes < length file
    → IsFirst (FileLimit (place table 0 0)) (file_faults table columns file)
