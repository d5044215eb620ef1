-- The files of one index, by the ranks of the rows at each of its levels. The level files stand one after another from a
-- page on, each in the room of four bytes for each row of its level.
use Rattle.std.specs.Prelude.{◌≡◌, ℕ, ◌+◌, ◌<◌, List, [], length, take, map, sum_by, get_or, slice_index}
use Rattle.std.specs.Global.{Vec}
use Rattle.ghost_model.specs.forms.Runs.{Run, pages_of}
use Rattle.ghost_model.specs.forms.Gaps.{level_bytes, room_of}
use Rattle.index_lists.specs.Lists.{lists_of}

-- the numbers of a vector, and those of several
abbrev pub items_of : Vec ℕ → List ℕ
items_of numbers = numbers.items

abbrev pub ranks_of : List (Vec ℕ) → List (List ℕ)
ranks_of levels = map items_of levels

-- how many rows each level has
abbrev pub counts_of : (levels : List (List ℕ)) → List ℕ
counts_of levels = map length levels

-- the pages of the room of level files with so many rows each
abbrev pub level_pages : (counts : List ℕ) → ℕ
level_pages counts = sum_by (λ count. pages_of count 4) counts

-- the pages of a level file that hold a byte of it, and those of all
abbrev pub level_written : (entries : ℕ) → (ranks : List ℕ) → ℕ
level_written entries ranks = pages_of (length (level_bytes (lists_of ranks entries))) 1

abbrev pub written_pages : (levels : List (List ℕ)) → (entries : ℕ) → ℕ
written_pages levels entries = sum_by (level_written entries) levels

-- the file of a level, where that of the first one begins at a page
abbrev pub level_file : (begin : ℕ) → (counts : List ℕ) → (level : ℕ) → Run
level_file begin counts level =
    room_of (record { first = begin + level_pages (take level counts); count = slice_index counts level; width = 4 })

-- ranks are those of the levels of an index: its entries have these lists at the levels of these tables, and these are the
-- level files
pub record AreLevels (levels : List (List ℕ)) (entries begin : ℕ) (tables : List ℕ) (lists : ℕ → List (List ℕ)) (file : ℕ → Run) : Type 0 where
  pub many : length tables ≡ length levels
  pub lists_are :
      (level : ℕ) → level < length levels → lists_of (get_or levels level []) entries ≡ lists (slice_index tables level)
  pub files_are : (level : ℕ) → level < length levels → file level ≡ level_file begin (counts_of levels) level
