-- A schema: a list of tables, each a list of columns. Tables and columns are numbered by place from 0, in the order
-- of their declaration; column 0 of each table is its identifier, `id`. A name is a list of bytes in lower case.
-- A foreign key names its child table; the parent of a table is the table that holds the foreign key to it.
use Rattle.std.specs.Prelude.{◌≡◌, ℕ, ◌+◌, Bool, true, false, not, ◌&&◌, ◌==◌, List, [], ◌∷◌, Option, Some, None, option_map, slice_get, if◌then◌else◌, nat_lt, zero, suc, option_and_then, bytes_eq}

-- what a column holds: 64-bit signed integers, or texts of at most so many bytes; or, beside these, NULL
pub data Kind : Type 0 where
  Integer : Kind
  Chars : ℕ → Kind
  IntegerOrNull : Kind
  CharsOrNull : ℕ → Kind

abbrev pub is_nullable : Kind → Bool
is_nullable Integer = false
is_nullable (Chars _) = false
is_nullable IntegerOrNull = true
is_nullable (CharsOrNull _) = true

-- the kind of the literals that may stand beside a column
abbrev pub plain_of : Kind → Kind
plain_of Integer = Integer
plain_of (Chars most) = Chars most
plain_of IntegerOrNull = Integer
plain_of (CharsOrNull most) = Chars most

pub record Column : Type 0 where
  pub name : List ℕ
  pub kind : Kind
  pub hidden : Bool
  -- the table that a foreign key names, by its place
  pub child : Option ℕ

pub record Table : Type 0 where
  pub name : List ℕ
  pub columns : List Column

abbrev pub Schema : Type 0
Schema = List Table

abbrev pub columns_or_none : Option Table → List Column
columns_or_none None = []
columns_or_none (Some table) = table.columns

abbrev pub columns_of : Schema → ℕ → List Column
columns_of schema table = columns_or_none (slice_get schema table)

abbrev pub column_at : Schema → ℕ → ℕ → Option Column
column_at schema table column = slice_get (columns_of schema table) column

abbrev pub column_kind : Schema → (table column : ℕ) → Option Kind
column_kind schema table column = option_map (λ column. column.kind) (column_at schema table column)

-- the places of the elements that pass a test, ascending, the first element having place `at`
unfoldable pub places_from : {X : Type 0} → (X → Bool) → ℕ → List X → List ℕ
places_from test at [] = []
places_from test at (x ∷ xs) = if test x then at ∷ places_from test (at + 1) xs else places_from test (at + 1) xs

abbrev pub places_where : {X : Type 0} → (X → Bool) → List X → List ℕ
places_where test xs = places_from test 0 xs

abbrev pub places_of : {X : Type 0} → List X → List ℕ
places_of xs = places_where (λ _. true) xs

abbrev pub is_empty : {X : Type 0} → List X → Bool
is_empty [] = true
is_empty (_ ∷ _) = false

abbrev pub first_of : {X : Type 0} → List X → Option X
first_of [] = None
first_of (x ∷ _) = Some x

-- the column of a table with that name, by its place
abbrev pub column_named : Schema → (table : ℕ) → (name : List ℕ) → Option ℕ
column_named schema table name = first_of (places_where (λ column. bytes_eq column.name name) (columns_of schema table))

-- whether a place, where there is one, is this table's
abbrev pub is_table : ℕ → Option ℕ → Bool
is_table table None = false
is_table table (Some other) = other == table

-- the columns of a table that are foreign keys to another, by place
abbrev pub references_to : ℕ → Table → List ℕ
references_to child table = places_where (λ column. is_table child column.child) table.columns

abbrev pub holders_of : Schema → ℕ → List ℕ
holders_of schema child = places_where (λ table. not (is_empty (references_to child table))) schema

-- the table that holds the foreign key to this one; the root has none
abbrev pub parent : Schema → ℕ → Option ℕ
parent schema table = first_of (holders_of schema table)

-- a visible column is one that is neither hidden nor the identifier, which both sides know
abbrev pub is_shown : Option Column → Bool
is_shown None = false
is_shown (Some column) = not column.hidden

abbrev pub is_visible : Schema → ℕ → ℕ → Bool
is_visible schema table column = nat_lt 0 column && is_shown (column_at schema table column)

-- the table to which so many steps to the parent lead, where there are so many
unfoldable pub ancestor : Schema → (steps table : ℕ) → Option ℕ
ancestor schema zero table = Some table
ancestor schema (suc steps) table = option_and_then (parent schema) (ancestor schema steps table)

-- a table is another one or lies below it: following parents from it comes there
abbrev pub IsAtOrBelow : Schema → (from to : ℕ) → Type 0
IsAtOrBelow schema from to = (steps : ℕ) × (ancestor schema steps to ≡ Some from)
