-- What both sides of the channel know beforehand, as bytes. The canonical text of a schema has one line a table, names
-- in lower case, one space between words, NULL after the kind of a column that may be NULL, `REFERENCES` with the child's name
-- and `(id)` at a foreign key, and then HIDDEN at each hidden column. The catalog's bytes are `GHOSTDB`, the
-- version of the format, the generation, the length of the canonical text, that text, and each table's number of rows.
use Rattle.std.specs.Prelude.{ℕ, Bool, true, false, ◌||◌, ◌==◌, List, [], ◌∷◌, ◌++◌, length, drop, flat_map, codes, decimal, Option, Some, None, slice_get, ◌≡◌, ◌<◌, ◌^◌, nat_le}
use Rattle.std.specs.List.{list_all}
use Rattle.std.specs.Int.{to_be_bytes, w32}
use Rattle.ghost_model.specs.core.Schema.{Schema, Table, Column, Kind, Integer, Chars, IntegerOrNull, CharsOrNull}
use Rattle.ghost_model.specs.core.Channel.{Catalog}
use Rattle.ghost_model.specs.refusals.SchemaFaults.{MeansSchema}
use Rattle.ghost_model.specs.refusals.LoadFaults.{most_rows}

abbrev pub kind_text : Kind → List ℕ
kind_text Integer = codes "INTEGER"
kind_text (Chars most) = codes "CHAR(" ++ (decimal most ++ codes ")")
kind_text IntegerOrNull = codes "INTEGER NULL"
kind_text (CharsOrNull most) = codes "CHAR(" ++ (decimal most ++ codes ") NULL")

abbrev pub name_or_none : Option Table → List ℕ
name_or_none None = []
name_or_none (Some table) = table.name

abbrev pub table_name : Schema → ℕ → List ℕ
table_name schema table = name_or_none (slice_get schema table)

abbrev pub reference_text : Schema → Option ℕ → List ℕ
reference_text schema None = []
reference_text schema (Some child) = codes " REFERENCES " ++ (table_name schema child ++ codes "(id)")

abbrev pub hidden_text : Bool → List ℕ
hidden_text true = codes " HIDDEN"
hidden_text false = []

abbrev pub column_text : Schema → Column → List ℕ
column_text schema column =
    codes ", " ++ (column.name ++ (codes " " ++ (kind_text column.kind
    ++ (reference_text schema column.child ++ hidden_text column.hidden))))

-- one line: the identifier in its fixed words, then the other columns
abbrev pub table_text : Schema → Table → List ℕ
table_text schema table =
    codes "CREATE TABLE " ++ (table.name ++ (codes " (id INTEGER PRIMARY KEY"
    ++ (flat_map (column_text schema) (drop 1 table.columns) ++ (codes ");" ++ 10 ∷ []))))

abbrev pub canonical_text : Schema → List ℕ
canonical_text schema = flat_map (table_text schema) schema

-- the versions of the format, and the one that is made
abbrev pub is_version : ℕ → Bool
is_version version = version == 1 || version == 2

abbrev pub current_version : ℕ
current_version = 2

-- the bytes before the canonical text: the mark, the version, the generation and the text's length
abbrev pub catalog_head : (version generation length : ℕ) → List ℕ
catalog_head version generation length =
    codes "GHOSTDB" ++ version ∷ (to_be_bytes w32 generation ++ to_be_bytes w32 length)

abbrev pub counts_bytes : List ℕ → List ℕ
counts_bytes counts = flat_map (to_be_bytes w32) counts

abbrev pub catalog_bytes : Catalog → List ℕ
catalog_bytes cat =
    catalog_head cat.version cat.generation (length (canonical_text cat.schema))
    ++ (canonical_text cat.schema ++ counts_bytes cat.counts)

-- a catalog that both sides may share
pub record IsCatalog (cat : Catalog) : Type 0 where
  pub meant : MeansSchema (canonical_text cat.schema) cat.schema
  pub counted : length cat.counts ≡ length cat.schema
  pub few_rows : list_all (λ count. nat_le count most_rows) cat.counts ≡ true
  pub some_generation : 0 < cat.generation
  pub generation_fits : cat.generation < 2 ^ 32
  pub some_version : is_version cat.version ≡ true

-- a catalog of the version that is made, which a key and a host need
pub record IsCurrent (cat : Catalog) : Type 0 where
  pub proper : IsCatalog cat
  pub version : cat.version ≡ current_version

pub record SpellsCatalog (bytes : List ℕ) (cat : Catalog) : Type 0 where
  pub proper : IsCatalog cat
  pub spelled : bytes ≡ catalog_bytes cat

pub record BeginsWithCatalog (bytes : List ℕ) (cat : Catalog) : Type 0 where
  pub proper : IsCatalog cat
  pub rest : List ℕ
  pub begins : bytes ≡ catalog_bytes cat ++ rest
