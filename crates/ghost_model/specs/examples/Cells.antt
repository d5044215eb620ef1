-- Cells and catalogs of the worked databases.
use Rattle.std.specs.Prelude.{◌≡◌, ℕ, ℤ, pos, negsuc, List, [], ◌∷◌, ◌++◌, codes, length, map, replicate, Some, None}
use Rattle.std.specs.Cmp.Lexicographic.{slice_cmp}
use Rattle.std.specs.Ordering.{nat_cmp}
use Rattle.std.specs.declared.cmp.Ordering.{Ordering}
use Rattle.std.specs.declared.cmp.Ordering.TheVariants as order
use Rattle.ghost_model.specs.core.Schema.{Kind, Integer, Chars, IntegerOrNull, CharsOrNull, parent}
use Rattle.ghost_model.specs.laws.SchemaLaws.{children}
use Rattle.ghost_model.specs.core.Values.{Value, Null, Number, Text}
use Rattle.ghost_model.specs.forms.Cells.{encode_cell}
use Rattle.ghost_model.specs.readings.CellReading.{decode_cell}
use Rattle.ghost_model.specs.forms.Catalog.{canonical_text, table_text, catalog_bytes}
use Rattle.ghost_model.specs.examples.Clinic.{clinic_schema, clinic_catalog, note_schema, note_catalog}

pub record CellsOfValues : Type 0 where
  pub five : encode_cell Integer (Number (pos 5)) ≡ 0x80 ∷ 0 ∷ 0 ∷ 0 ∷ 0 ∷ 0 ∷ 0 ∷ 5 ∷ []
  pub lowest : encode_cell Integer (Number (negsuc 9223372036854775807)) ≡ replicate 8 0
  pub minus_one : encode_cell Integer (Number (negsuc 0)) ≡ 0x7f ∷ replicate 7 0xff
  pub highest : encode_cell Integer (Number (pos 9223372036854775807)) ≡ replicate 8 0xff
  pub cardio : encode_cell (Chars 8) (Text (codes "cardio")) ≡ codes "cardio" ++ 0 ∷ 0 ∷ []
  pub full_text_has_no_zero : encode_cell (Chars 2) (Text (codes "FR")) ≡ codes "FR"
  pub five_is_read : decode_cell Integer (0x80 ∷ 0 ∷ 0 ∷ 0 ∷ 0 ∷ 0 ∷ 0 ∷ 5 ∷ []) ≡ Some (Number (pos 5))
  pub lowest_is_read : decode_cell Integer (replicate 8 0) ≡ Some (Number (negsuc 9223372036854775807))
  pub cardio_is_read : decode_cell (Chars 8) (codes "cardio" ++ 0 ∷ 0 ∷ []) ≡ Some (Text (codes "cardio"))
  pub a_byte_after_zero : decode_cell (Chars 3) (97 ∷ 0 ∷ 97 ∷ []) ≡ None
  pub a_byte_past_the_printable : decode_cell (Chars 2) (127 ∷ 0 ∷ []) ≡ None
  pub a_short_cell : decode_cell Integer (replicate 7 0) ≡ None

abbrev pub least_integer : ℤ
least_integer = negsuc 9223372036854775807

-- in columns that may be NULL
pub record CellsOfNullOrValues : Type 0 where
  pub no_integer : encode_cell IntegerOrNull Null ≡ replicate 9 0
  pub five : encode_cell IntegerOrNull (Number (pos 5)) ≡ 1 ∷ 0x80 ∷ 0 ∷ 0 ∷ 0 ∷ 0 ∷ 0 ∷ 0 ∷ 5 ∷ []
  pub lowest : encode_cell IntegerOrNull (Number least_integer) ≡ 1 ∷ replicate 8 0
  pub no_text : encode_cell (CharsOrNull 8) Null ≡ replicate 9 0
  pub cardio : encode_cell (CharsOrNull 8) (Text (codes "cardio")) ≡ 1 ∷ (codes "cardio" ++ 0 ∷ 0 ∷ [])
  pub an_empty_text : encode_cell (CharsOrNull 3) (Text []) ≡ 1 ∷ 0 ∷ 0 ∷ 0 ∷ []
  pub no_integer_is_read : decode_cell IntegerOrNull (replicate 9 0) ≡ Some Null
  pub five_is_read : decode_cell IntegerOrNull (1 ∷ 0x80 ∷ 0 ∷ 0 ∷ 0 ∷ 0 ∷ 0 ∷ 0 ∷ 5 ∷ []) ≡ Some (Number (pos 5))
  pub lowest_is_read : decode_cell IntegerOrNull (1 ∷ replicate 8 0) ≡ Some (Number least_integer)
  pub no_text_is_read : decode_cell (CharsOrNull 8) (replicate 9 0) ≡ Some Null
  pub cardio_is_read : decode_cell (CharsOrNull 8) (1 ∷ (codes "cardio" ++ 0 ∷ 0 ∷ [])) ≡ Some (Text (codes "cardio"))
  pub an_empty_text_is_read : decode_cell (CharsOrNull 3) (1 ∷ 0 ∷ 0 ∷ 0 ∷ []) ≡ Some (Text [])
  pub no_column_of_integers_has_null : decode_cell Integer (replicate 9 0) ≡ None

-- what bytes spell no value there
pub record CellsThatSpellNothing : Type 0 where
  pub two_before_an_integer : decode_cell IntegerOrNull (2 ∷ replicate 8 0) ≡ None
  pub two_before_a_text : decode_cell (CharsOrNull 3) (2 ∷ codes "abc") ≡ None
  pub a_byte_behind_zero : decode_cell IntegerOrNull (0 ∷ 0x80 ∷ replicate 7 0) ≡ None
  pub the_last_byte_behind_zero : decode_cell IntegerOrNull (replicate 8 0 ++ 1 ∷ []) ≡ None
  pub a_text_behind_zero : decode_cell (CharsOrNull 3) (0 ∷ codes "abc") ≡ None
  pub a_byte_after_the_text : decode_cell (CharsOrNull 3) (1 ∷ 97 ∷ 0 ∷ 97 ∷ []) ≡ None
  pub an_integer_without_its_first_byte : decode_cell IntegerOrNull (0x80 ∷ 0 ∷ 0 ∷ 0 ∷ 0 ∷ 0 ∷ 0 ∷ 5 ∷ []) ≡ None
  pub a_byte_too_few : decode_cell IntegerOrNull (replicate 8 0) ≡ None
  pub a_byte_too_many : decode_cell (CharsOrNull 3) (replicate 5 0) ≡ None
  pub no_byte : decode_cell IntegerOrNull [] ≡ None

-- the order of two cells of a kind
abbrev pub cell_order : Kind → Value → Value → Ordering
cell_order kind one other = slice_cmp nat_cmp (encode_cell kind one) (encode_cell kind other)

-- NULL is below all that a column may hold
pub record OrderOfNullCells : Type 0 where
  pub below_integers : (number : ℤ) → cell_order IntegerOrNull Null (Number number) ≡ order.Less
  pub below_texts : (most : ℕ) (text : List ℕ) → cell_order (CharsOrNull most) Null (Text text) ≡ order.Less
  pub below_the_lowest : cell_order IntegerOrNull Null (Number least_integer) ≡ order.Less
  pub below_the_empty_text : cell_order (CharsOrNull 3) Null (Text []) ≡ order.Less
  pub itself : cell_order IntegerOrNull Null Null ≡ order.Equal
  pub integers : cell_order IntegerOrNull (Number (negsuc 0)) (Number (pos 0)) ≡ order.Less
  pub texts : cell_order (CharsOrNull 3) (Text (codes "ab")) (Text (codes "abc")) ≡ order.Less

pub record TreeOfTheClinic : Type 0 where
  pub parents : map (parent clinic_schema) (0 ∷ 1 ∷ 2 ∷ []) ≡ Some 2 ∷ Some 2 ∷ None ∷ []
  pub children : map (children clinic_schema) (0 ∷ 1 ∷ 2 ∷ []) ≡ [] ∷ [] ∷ (0 ∷ 1 ∷ []) ∷ []

pub record CatalogsOfDatabases : Type 0 where
  pub lines : map (λ table. length (table_text clinic_schema table)) clinic_schema ≡ 89 ∷ 81 ∷ 167 ∷ []
  pub text : length (canonical_text clinic_schema) ≡ 337
  pub clinic : length (catalog_bytes clinic_catalog) ≡ 365
  pub note_text : canonical_text note_schema ≡ codes "CREATE TABLE note (id INTEGER PRIMARY KEY, topic CHAR(4), body CHAR(8) HIDDEN);" ++ 10 ∷ []
  pub note : length (catalog_bytes note_catalog) ≡ 100
