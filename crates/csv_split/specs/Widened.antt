-- Schemas of which the later differs from the earlier at most in that some columns may be NULL. What was a database stays one, an
-- empty text as an empty text, and it has the same two parts. Names play no part in it.
use Rattle.std.specs.Prelude.{◌≡◌, ◌⊎◌, ℕ, length, Some}
use Rattle.ghost_model.specs.core.Schema.{Schema, Column, Kind, Integer, Chars, IntegerOrNull, CharsOrNull, columns_of, column_at}
use Rattle.ghost_model.specs.core.Values.{Database}
use Rattle.ghost_model.specs.core.Database.{IsDatabase}
use Rattle.ghost_model.specs.core.Channel.{Catalog}
use Rattle.ghost_model.specs.core.Split.{Public, Hidden, IsPublic, public_of, hidden_of}
use Rattle.ghost_model.specs.forms.Flash.{IsHidden}

-- the kind that has NULL beside the values of a kind
abbrev pub or_null : Kind → Kind
or_null Integer = IntegerOrNull
or_null (Chars most) = CharsOrNull most
or_null IntegerOrNull = IntegerOrNull
or_null (CharsOrNull most) = CharsOrNull most

-- a column of the earlier schema, and the one in its place
pub record IsWidenedColumn (before after : Column) : Type 0 where
  pub hidden : after.hidden ≡ before.hidden
  pub child : after.child ≡ before.child
  pub kind : (after.kind ≡ before.kind) ⊎ (after.kind ≡ or_null before.kind)

pub record IsWidened (before after : Schema) : Type 0 where
  pub tables : length after ≡ length before
  pub widths : (table : ℕ) → length (columns_of after table) ≡ length (columns_of before table)
  pub columns : (table column : ℕ) (old new : Column) → column_at before table column ≡ Some old → column_at after table column ≡ Some new
      → IsWidenedColumn old new

pub record WidenedSchemasKeepDatabases : Type 0 where
  pub databases : (before after : Schema) (database : Database) → IsWidened before after → IsDatabase before database → IsDatabase after database
  -- the two parts of a database are the same under both
  pub public : (before after : Schema) (database : Database) → IsWidened before after → public_of after database ≡ public_of before database
  pub hidden : (before after : Schema) (database : Database) → IsWidened before after → hidden_of after database ≡ hidden_of before database
  -- and what goes with a catalog goes with one of the later schema
  pub hidden_parts : (before after : Catalog) (kept : Hidden) → IsWidened before.schema after.schema → after.counts ≡ before.counts
      → IsHidden before kept → IsHidden after kept
  pub public_parts : (before after : Catalog) (public : Public) → IsWidened before.schema after.schema → after.counts ≡ before.counts
      → IsPublic before public → IsPublic after public
