-- Values, rows and databases: what the tables hold. A value is an integer, a text or NULL, which says that there is none; a
-- row has one value for each column, the identifier among them; a database has for each table of its schema the list of its rows.
use Rattle.std.specs.Prelude.{ℕ, ◌^◌, ℤ, pos, negsuc, Bool, true, false, nat_lt, List}

pub data Value : Type 0 where
  Null : Value
  Number : ℤ → Value
  Text : List ℕ → Value

abbrev pub is_null : Value → Bool
is_null Null = true
is_null (Number _) = false
is_null (Text _) = false

-- whether a number is a signed one of 64 bits
abbrev pub fits_integer : ℤ → Bool
fits_integer (pos n) = nat_lt n (2 ^ 63)
fits_integer (negsuc n) = nat_lt n (2 ^ 63)

abbrev pub Row : Type 0
Row = List Value

-- the rows of one table; the row at place i, from 1, has identifier i
abbrev pub Rows : Type 0
Rows = List Row

abbrev pub Database : Type 0
Database = List Rows
