-- Columns that are to be allowed NULL beside what they hold: any but the identifier, a foreign key and one that is NULL already.
use Rattle.std.specs.Prelude.{ℕ, zero, suc, Bool, true, false, not, ◌&&◌, nat_lt, List, [], ◌∷◌, Option, Some, None, is_none, if◌then◌else◌}
use Rattle.ghost_model.specs.core.Schema.{Schema, Table, Column, Kind, Integer, Chars, IntegerOrNull, CharsOrNull, is_nullable, column_at}

-- the kind that has NULL too
abbrev pub or_null : Kind → Kind
or_null Integer = IntegerOrNull
or_null (Chars most) = CharsOrNull most
or_null IntegerOrNull = IntegerOrNull
or_null (CharsOrNull most) = CharsOrNull most

abbrev pub column_or_null : Column → Column
column_or_null column = record { name = column.name; kind = or_null column.kind; hidden = column.hidden; child = column.child }

abbrev pub is_free : Option Column → Bool
is_free None = false
is_free (Some column) = is_none column.child && not (is_nullable column.kind)

abbrev pub may_be_null : Schema → (table column : ℕ) → Bool
may_be_null schema table column = nat_lt 0 column && is_free (column_at schema table column)

-- a list in which the element at a place is another
unfoldable pub changed_at : {X : Type 0} → (X → X) → (place : ℕ) → List X → List X
changed_at change place [] = []
changed_at change zero (x ∷ xs) = change x ∷ xs
changed_at change (suc place) (x ∷ xs) = x ∷ changed_at change place xs

abbrev pub table_with_null : (column : ℕ) → Table → Table
table_with_null column table = record { name = table.name; columns = changed_at column_or_null column table.columns }

-- the schema in which a column may be NULL too
abbrev pub with_null : Schema → (table column : ℕ) → Schema
with_null schema table column = changed_at (table_with_null column) table schema

-- that schema, where the column may be allowed NULL
abbrev pub allowing : Schema → (table column : ℕ) → Option Schema
allowing schema table column = if may_be_null schema table column then Some (with_null schema table column) else None
