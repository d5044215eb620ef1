-- What the slots of the static files may hold, kind by kind. By itself a slot may hold what is in its range: a cell that
-- spells a value, an identifier of a row, a place within a level file, a code of a number of the rows. After the slot before it, it
-- has to keep the order: values ascend in a directory, and lists do not begin before those before them end; where an order is broken
-- the later slot is the damaged one. A slot of a level file is the offset of a code that reading of some entry's list gets to; it is
-- damaged where no code stands, or one with which the identifiers pass the level's rows. That the lists which one search gives have
-- together at most as many identifiers as their level has rows is a rule of the search and not of a slot; it is not said here.
use Rattle.std.specs.Prelude.{◌≡◌, ◌⊎◌, ℕ, zero, suc, ◌+◌, ◌*◌, ◌<◌, ◌≤◌, Bool, true, false, not, ◌&&◌, ◌||◌, ◌==◌, nat_le, nat_lt, min, List, [], ◌∷◌, take, drop, length, slice_index, Option, Some, None, is_some, option_map, if◌then◌else◌}
use Rattle.std.specs.Cmp.Lexicographic.{slice_cmp}
use Rattle.std.specs.Ordering.{nat_cmp, is_lt}
use Rattle.ghost_model.specs.core.Schema.{Schema, Column, Kind, column_at, is_empty}
use Rattle.ghost_model.specs.core.Values.{Value}
use Rattle.ghost_model.specs.core.Channel.{Catalog}
use Rattle.ghost_model.specs.core.Database.{is_row_among}
use Rattle.ghost_model.specs.readings.CellReading.{decode_cell}
use Rattle.ghost_model.specs.core.Asks.{kind_at}
use Rattle.ghost_model.specs.forms.Runs.{page_bytes, pages_of, page_of, slot_of, record_at, number_in, found_in}
use Rattle.ghost_model.specs.forms.Gaps.{code_in, code_at, reading_at, rest_at}
use Rattle.ghost_model.specs.forms.Layout.{is_hidden, width_at, count_of, levels_of, above_of, descendants_of, File, Cells, Subtrees, IndexHeader, IndexDirectory, IndexLevel, IdDirectory, IdLevel, run_of_file}

abbrev pub has_file : Schema → File → Bool
has_file schema (Cells table column) = is_hidden schema table column
has_file schema (Subtrees table) = not (is_empty (descendants_of schema table))
has_file schema (IndexHeader table column) = is_hidden schema table column
has_file schema (IndexDirectory table column) = is_hidden schema table column
has_file schema (IndexLevel table column level) =
    is_hidden schema table column && nat_lt level (length (levels_of schema table))
has_file schema (IdDirectory table) = not (is_empty (above_of schema table))
has_file schema (IdLevel table level) = nat_lt level (length (above_of schema table))

-- the table that a column names, if it is a foreign key
abbrev pub child_or_none : Option Column → Option ℕ
child_or_none None = None
child_or_none (Some column) = column.child

abbrev pub child_at : Schema → (table column : ℕ) → Option ℕ
child_at schema table column = child_or_none (column_at schema table column)

-- how many rows that table has
abbrev pub child_rows : Catalog → (table column : ℕ) → Option ℕ
child_rows cat table column = option_map (count_of cat) (child_at cat.schema table column)

-- whether a value may stand in a column: in a foreign key it is the identifier of one of so many rows
abbrev pub is_in_range : (rows : Option ℕ) → Value → Bool
is_in_range None value = true
is_in_range (Some rows) value = is_row_among rows value

abbrev pub only_in_range : (rows : Option ℕ) → Option Value → Option Value
only_in_range rows None = None
only_in_range rows (Some value) = if is_in_range rows value then Some value else None

-- the value that bytes spell in a column of a kind, if they spell one that may stand there
abbrev pub spelled : Kind → (rows : Option ℕ) → List ℕ → Option Value
spelled kind rows bytes = only_in_range rows (decode_cell kind bytes)

-- whether a number is the identifier of a row of a table
abbrev pub is_row : Catalog → (table identifier : ℕ) → Bool
is_row cat table identifier = nat_le 1 identifier && nat_le identifier (count_of cat table)

-- whether a record has an identifier of a row of each of these tables
abbrev pub are_rows : Catalog → (tables bytes : List ℕ) → Bool
are_rows cat [] bytes = true
are_rows cat (table ∷ tables) bytes = is_row cat table (number_in bytes 0) && are_rows cat tables (drop 4 bytes)

-- a place that a list does not end before, by eight bytes of a directory: where it begins, and a byte for each identifier
abbrev pub list_end : List ℕ → ℕ
list_end bytes = number_in bytes 0 + number_in bytes 4

-- the bytes of the level file of a table
abbrev pub level_room : Catalog → (table : ℕ) → ℕ
level_room cat table = page_bytes * pages_of (count_of cat table) 4

-- whether places of lists end within the level files of these tables
abbrev pub are_places : Catalog → (tables bytes : List ℕ) → Bool
are_places cat [] bytes = true
are_places cat (table ∷ tables) bytes = nat_le (list_end bytes) (level_room cat table) && are_places cat tables (drop 8 bytes)

-- whether no list begins before the end of the one before it
abbrev pub follow : (tables before bytes : List ℕ) → Bool
follow [] before bytes = true
follow (_ ∷ tables) before bytes = nat_le (list_end before) (number_in bytes 0) && follow tables (drop 8 before) (drop 8 bytes)

abbrev pub places_keep_order : (tables : List ℕ) → (before : Option (List ℕ)) → List ℕ → Bool
places_keep_order tables None bytes = true
places_keep_order tables (Some before) bytes = follow tables before bytes

-- the bytes of a record of a climbing index's directory that spell a value, and those that say where its lists are
abbrev pub cell_part : Schema → (table column : ℕ) → List ℕ → List ℕ
cell_part schema table column bytes = take (width_at schema table column) bytes

abbrev pub places_part : Schema → (table column : ℕ) → List ℕ → List ℕ
places_part schema table column bytes = drop (width_at schema table column) bytes

-- whether a code that was read is one of a number up to so many rows
abbrev pub code_stands : (rows : ℕ) → Option (ℕ × ℕ) → Bool
code_stands rows None = false
code_stands rows (Some code) = nat_le code.0 rows

-- whether bytes may stand in a slot of a file, whatever stands in others
abbrev pub may_stand : Catalog → File → List ℕ → Bool
may_stand cat (Cells table column) bytes = is_some (spelled (kind_at cat.schema table column) (child_rows cat table column) bytes)
may_stand cat (Subtrees table) bytes = are_rows cat (descendants_of cat.schema table) bytes
may_stand cat (IndexHeader table column) bytes =
    nat_le (number_in bytes 0) (count_of cat table) && (nat_lt 0 (number_in bytes 0) || count_of cat table == 0)
may_stand cat (IndexDirectory table column) bytes =
    is_some (decode_cell (kind_at cat.schema table column) (cell_part cat.schema table column bytes))
    && are_places cat (levels_of cat.schema table) (places_part cat.schema table column bytes)
may_stand cat (IndexLevel table column level) bytes = code_stands (count_of cat (slice_index (levels_of cat.schema table) level)) (code_in bytes)
may_stand cat (IdDirectory table) bytes = are_places cat (above_of cat.schema table) bytes
may_stand cat (IdLevel table level) bytes = code_stands (count_of cat (slice_index (above_of cat.schema table) level)) (code_in bytes)

abbrev pub ascends : (before : Option (List ℕ)) → List ℕ → Bool
ascends None bytes = true
ascends (Some before) bytes = is_lt (slice_cmp nat_cmp before bytes)

-- whether they may stand there after those of the slot before
abbrev pub may_follow : Catalog → File → (before : Option (List ℕ)) → List ℕ → Bool
may_follow cat (IndexDirectory table column) before bytes =
    ascends (option_map (cell_part cat.schema table column) before) (cell_part cat.schema table column bytes)
    && places_keep_order (levels_of cat.schema table) (option_map (places_part cat.schema table column) before)
    (places_part cat.schema table column bytes)
may_follow cat (IdDirectory table) before bytes = places_keep_order (above_of cat.schema table) before bytes
may_follow cat _ before bytes = true

-- what stands in a slot: a record, and in a level file all bytes from an offset to the page's end
abbrev pub in_slot : (ℕ → List ℕ) → Catalog → File → (place : ℕ) → List ℕ
in_slot page cat (IndexLevel table column level) place = rest_at page (run_of_file cat (IndexLevel table column level)).first place
in_slot page cat (IdLevel table level) place = rest_at page (run_of_file cat (IdLevel table level)).first place
in_slot page cat file place = record_at page (run_of_file cat file) place

-- how many slots of a file have a record, in the directory of a climbing index as many as its header says; and how many bytes a level
-- file has
abbrev pub slots_in : (ℕ → List ℕ) → Catalog → File → ℕ
slots_in page cat (Cells table column) = count_of cat table
slots_in page cat (Subtrees table) = count_of cat table
slots_in page cat (IndexHeader table column) = 1
slots_in page cat (IndexDirectory table column) =
    min (count_of cat table) (number_in (in_slot page cat (IndexHeader table column) 0) 0)
slots_in page cat (IndexLevel table column level) = (run_of_file cat (IndexLevel table column level)).count
slots_in page cat (IdDirectory table) = count_of cat table
slots_in page cat (IdLevel table level) = (run_of_file cat (IdLevel table level)).count

abbrev pub before_slot : (ℕ → List ℕ) → Catalog → File → (place : ℕ) → Option (List ℕ)
before_slot page cat file zero = None
before_slot page cat file (suc place) = Some (in_slot page cat file place)

-- reading of the list of some entry, which may stand in its directory, gets to a place of a level file by identifiers that do not
-- pass the rows; the directory says after so many bytes where the list stands. And no code stands there, or one with which the
-- identifiers pass the rows
pub record IsBrokenCode (page : ℕ → List ℕ) (cat : Catalog) (file directory : File) (skipped rows place : ℕ) : Type 0 where
  pub entry : ℕ
  pub there : entry < slots_in page cat directory
  pub stands : may_stand cat directory (in_slot page cat directory entry) ≡ true
  pub i : ℕ
  pub within : i < number_in (drop skipped (in_slot page cat directory entry)) 4
  pub last : ℕ
  pub gets :
      reading_at page (run_of_file cat file).first (run_of_file cat file).count (number_in (drop skipped (in_slot page cat directory entry)) 0) i
      ≡ Some (record { place = place; last = last })
  pub kept : last ≤ rows
  pub broken : code_stands rows (option_map (λ code. (last + code.0, code.1)) (code_at page (run_of_file cat file).first (run_of_file cat file).count place)) ≡ false

-- the slot of a record is out of range, or breaks the order of its file; that of a code is one that reading gets to
abbrev pub IsWrongRecord : (ℕ → List ℕ) → Catalog → File → (place : ℕ) → Type 0
IsWrongRecord page cat file place =
    (may_stand cat file (in_slot page cat file place) ≡ false)
    ⊎ (may_follow cat file (before_slot page cat file place) (in_slot page cat file place) ≡ false)

abbrev pub IsWrong : (ℕ → List ℕ) → Catalog → File → (place : ℕ) → Type 0
IsWrong page cat (IndexLevel table column level) place =
    IsBrokenCode page cat (IndexLevel table column level) (IndexDirectory table column) (width_at cat.schema table column + 8 * level)
    (count_of cat (slice_index (levels_of cat.schema table) level)) place
IsWrong page cat (IdLevel table level) place =
    IsBrokenCode page cat (IdLevel table level) (IdDirectory table) (8 * level) (count_of cat (slice_index (above_of cat.schema table) level)) place
IsWrong page cat file place = IsWrongRecord page cat file place

-- a slot of a file that is damaged, by its page and its place in it, and what was found there
pub record IsDamagedIn (cat : Catalog) (page : ℕ → List ℕ) (file : File) (place number slot found : ℕ) : Type 0 where
  pub has : has_file cat.schema file ≡ true
  pub within : place < slots_in page cat file
  pub page_is : number ≡ page_of (run_of_file cat file) place
  pub slot_is : slot ≡ slot_of (run_of_file cat file) place
  pub damaged : IsWrong page cat file place
  pub found_is : found ≡ found_in (in_slot page cat file place)

pub record IsDamagedSlot (cat : Catalog) (page : ℕ → List ℕ) (number slot found : ℕ) : Type 0 where
  pub file : File
  pub place : ℕ
  pub at : IsDamagedIn cat page file place number slot found
