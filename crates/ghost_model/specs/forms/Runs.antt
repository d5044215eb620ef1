-- Records on pages. A page has 2,048 bytes. Records of one width are stored as a run: from its first page on, as many in
-- each page as whole ones fit, slot 0 at the page's beginning; no record is cut by a page's end, and what is left over in
-- a page is 0xFF. Pages are seen as a function from their numbers to their bytes. A number in a page has four bytes, most
-- significant first, and so has an identifier.
use Rattle.std.specs.Prelude.{◌≡◌, ℕ, zero, suc, ◌+◌, ◌-◌, ◌*◌, ◌/◌, ◌%◌, ◌<◌, min, List, [], ◌∷◌, ◌++◌, length, take, drop, replicate, get_or}
use Rattle.std.specs.List.{slice_range}
use Rattle.std.specs.Int.{to_be_bytes, from_be_bytes, w32, w64}

-- the bytes of a page, and the pages of a block
abbrev pub page_bytes : ℕ
page_bytes = 2048

abbrev pub block_pages : ℕ
block_pages = 64

-- so many records of one width, from a page on
pub record Run : Type 0 where
  pub first : ℕ
  pub count : ℕ
  pub width : ℕ

-- how many records of a width one page takes
abbrev pub per_page : (width : ℕ) → ℕ
per_page width = 2048 / width

-- how many pages so many records of a width need; none where the width is 0, as a division by 0 gives 0
abbrev pub pages_of : (count width : ℕ) → ℕ
pages_of count width = (count + (per_page width - 1)) / per_page width

abbrev pub run_pages : Run → ℕ
run_pages run = pages_of run.count run.width

abbrev pub run_end : Run → ℕ
run_end run = run.first + run_pages run

-- the page and the slot in which a record of a run stands
abbrev pub page_of : Run → ℕ → ℕ
page_of run i = run.first + i / per_page run.width

abbrev pub slot_of : Run → ℕ → ℕ
slot_of run i = i % per_page run.width

abbrev pub cell_in : (bytes : List ℕ) (width slot : ℕ) → List ℕ
cell_in bytes width slot = slice_range bytes (slot * width) (slot * width + width)

unfoldable pub record_at : (ℕ → List ℕ) → Run → ℕ → List ℕ
record_at page run i = cell_in (page (page_of run i)) run.width (slot_of run i)

pub record HasRecords (page : ℕ → List ℕ) (run : Run) (records : List (List ℕ)) : Type 0 where
  pub count : run.count ≡ length records
  pub each : (i : ℕ) → i < run.count → record_at page run i ≡ get_or records i []

-- how many records stand in the page of a run that is `place` after its first
abbrev pub records_in : Run → (place : ℕ) → ℕ
records_in run place = min (per_page run.width) (run.count - place * per_page run.width)

-- what a run's pages have after their last records is 0xFF
abbrev pub HasBlankRest : (ℕ → List ℕ) → Run → Type 0
HasBlankRest page run =
    (place : ℕ) → place < run_pages run
    → drop (records_in run place * run.width) (page (run.first + place))
    ≡ replicate (2048 - records_in run place * run.width) 0xff

-- the pages of a run have these records and nothing else
pub record Stores (page : ℕ → List ℕ) (run : Run) (records : List (List ℕ)) : Type 0 where
  pub has : HasRecords page run records
  pub rest : HasBlankRest page run

-- the number at an offset of a page or of a record
unfoldable pub number_in : (bytes : List ℕ) (at : ℕ) → ℕ
number_in bytes at = from_be_bytes w32 (slice_range bytes at (at + 4))

-- a number in four bytes, as an identifier stands on a page
abbrev pub number_cell : ℕ → List ℕ
number_cell number = to_be_bytes w32 number

-- the identifier with which a record of a run begins
abbrev pub id_at : (ℕ → List ℕ) → Run → ℕ → ℕ
id_at page run i = number_in (record_at page run i) 0

-- the identifiers of so many records from a place on
unfoldable pub ids_from : (ℕ → List ℕ) → Run → (place count : ℕ) → List ℕ
ids_from page run place zero = []
ids_from page run place (suc count) = id_at page run place ∷ ids_from page run (place + 1) count

-- the first eight bytes of a record, 0 after a shorter one, as a number
unfoldable pub found_in : List ℕ → ℕ
found_in bytes = from_be_bytes w64 (take 8 bytes ++ drop (length bytes) (replicate 8 0))
