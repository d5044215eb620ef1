-- Ascending identifiers as gaps. A level file has the lists of its entries one after another. The first code of a list is its first
-- identifier, each later one the difference to the identifier before it. A code is one to three bytes of seven bits, the most
-- significant first, with the top bit set in all but the last, and it does not begin with seven bits 0. It lies in one page: one for
-- which the rest of a page is too short begins the next page, and the bytes left, one or two, are 0x80. Read back, a list gives the
-- sums of its codes up to the first that is broken: none where no whole code stands.
use Rattle.std.specs.Prelude.{◌≡◌, ℕ, zero, suc, ◌+◌, ◌-◌, ◌*◌, ◌/◌, ◌%◌, ◌&&◌, ◌==◌, Bool, List, [], ◌∷◌, ◌++◌, length, take, drop, map, flat_map, replicate, get_or, slice_get, nat_le, nat_lt, Option, Some, None, option_map, option_and_then, if◌then◌else◌}
use Rattle.ghost_model.specs.forms.Runs.{Run, Stores, id_at, number_in, page_bytes, record_at, run_pages}

-- the code of a number below 2,097,152
abbrev pub code_of : ℕ → List ℕ
code_of number =
    if nat_lt number 128 then number ∷ []
    else if nat_lt number 16384 then (128 + number / 128) ∷ number % 128 ∷ []
    else (128 + number / 16384) ∷ (128 + number / 128 % 128) ∷ number % 128 ∷ []

-- the gaps of ascending identifiers, the first of which comes after one
abbrev pub gaps_after : (before : ℕ) → List ℕ → List ℕ
gaps_after before [] = []
gaps_after before (identifier ∷ later) = (identifier - before) ∷ gaps_after identifier later

-- what stands between so many bytes of a file and a code: nothing, or what fills the page that is too short for it
abbrev pub filling : (place : ℕ) → (code : List ℕ) → List ℕ
filling place code = if nat_le (place % page_bytes + length code) page_bytes then [] else replicate (page_bytes - place % page_bytes) 0x80

abbrev pub with_code : List ℕ → (code : List ℕ) → List ℕ
with_code bytes code = bytes ++ (filling (length bytes) code ++ code)

unfoldable pub with_codes : List ℕ → (numbers : List ℕ) → List ℕ
with_codes bytes [] = bytes
with_codes bytes (number ∷ numbers) = with_codes (with_code bytes (code_of number)) numbers

unfoldable pub with_lists : List ℕ → (lists : List (List ℕ)) → List ℕ
with_lists bytes [] = bytes
with_lists bytes (identifiers ∷ lists) = with_lists (with_codes bytes (gaps_after 0 identifiers)) lists

-- the bytes of a level file with these lists
abbrev pub level_bytes : (lists : List (List ℕ)) → List ℕ
level_bytes lists = with_lists [] lists

abbrev pub begin_code : List ℕ → List ℕ
begin_code [] = []
begin_code (identifier ∷ later) = code_of identifier

-- the place of the first code of an entry's list; a list without an identifier begins where the one before it ends
abbrev pub list_begin : (lists : List (List ℕ)) → (entry : ℕ) → ℕ
list_begin lists entry =
    length (level_bytes (take entry lists))
    + length (filling (length (level_bytes (take entry lists))) (begin_code (get_or lists entry [])))

-- the numbers of all codes of such a file, and where the one at a place among them stands; behind the last, where the bytes end
abbrev pub gaps_of : (lists : List (List ℕ)) → List ℕ
gaps_of lists = flat_map (gaps_after 0) lists

abbrev pub code_or_none : Option ℕ → List ℕ
code_or_none None = []
code_or_none (Some number) = code_of number

abbrev pub bytes_before : (numbers : List ℕ) → (k : ℕ) → List ℕ
bytes_before numbers k = with_codes [] (take k numbers)

abbrev pub code_place : (numbers : List ℕ) → (k : ℕ) → ℕ
code_place numbers k =
    length (bytes_before numbers k) + length (filling (length (bytes_before numbers k)) (code_or_none (slice_get numbers k)))

-- a run of single bytes with the pages of another
abbrev pub room_of : Run → Run
room_of run = record { first = run.first; count = page_bytes * run_pages run; width = 1 }

-- the pages of a run of single bytes have these from its first page on, and 0xFF behind the last in its page
abbrev pub StoresBytes : (ℕ → List ℕ) → Run → (bytes : List ℕ) → Type 0
StoresBytes page run bytes = Stores page (record run { count = length bytes }) (map (λ byte. byte ∷ []) bytes)

-- Reading: the number and the length of the code with which bytes begin; none for 0, and where no whole or no shortest one stands
abbrev pub code_third : (high middle : ℕ) → List ℕ → Option (ℕ × ℕ)
code_third high middle [] = None
code_third high middle (low ∷ _) = if nat_lt low 128 then Some ((high * 128 + middle) * 128 + low, 3) else None

abbrev pub code_second : (high : ℕ) → List ℕ → Option (ℕ × ℕ)
code_second high [] = None
code_second high (byte ∷ later) = if nat_lt byte 128 then Some (high * 128 + byte, 2) else code_third high (byte - 128) later

abbrev pub code_in : List ℕ → Option (ℕ × ℕ)
code_in [] = None
code_in (byte ∷ later) =
    if nat_lt byte 128 then (if byte == 0 then None else Some (byte, 1))
    else if byte == 128 then None else code_second (byte - 128) later

-- the bytes of a page from a place of the file on
abbrev pub rest_at : (ℕ → List ℕ) → (first place : ℕ) → List ℕ
rest_at page first place = drop (place % page_bytes) (page (first + place / page_bytes))

-- in a file of so many bytes no code reaches its end, and one that does is none
abbrev pub within : (room place : ℕ) → ℕ × ℕ → Option (ℕ × ℕ)
within room place code = if nat_lt (place + code.1) room then Some code else None

abbrev pub code_at : (ℕ → List ℕ) → (first room place : ℕ) → Option (ℕ × ℕ)
code_at page first room place = option_and_then (within room place) (code_in (rest_at page first place))

-- Behind a code filling may stand in the last two bytes of a page, but not of the file's last page.
abbrev pub is_filling : (ℕ → List ℕ) → (first room place : ℕ) → Bool
is_filling page first room place =
    nat_lt 2045 (place % page_bytes) && nat_lt ((place / page_bytes + 1) * page_bytes) room && get_or (rest_at page first place) 0 0 == 128

abbrev pub past_filling : (ℕ → List ℕ) → (first room place : ℕ) → ℕ
past_filling page first room place = if is_filling page first room place then (place / page_bytes + 1) * page_bytes else place

-- a code of a level file is read at its place, and where the next one stands behind it
pub record ReadsCode (page : ℕ → List ℕ) (run : Run) (numbers : List ℕ) (k : ℕ) : Type 0 where
  pub code : code_at page run.first run.count (code_place numbers k) ≡ Some (get_or numbers k 0, length (code_of (get_or numbers k 0)))
  pub next :
      past_filling page run.first run.count (code_place numbers k + length (code_of (get_or numbers k 0))) ≡ code_place numbers (k + 1)

-- where reading of a list stands: the place of what is next, and the last identifier, 0 before the first
pub record Reading : Type 0 where
  pub place : ℕ
  pub last : ℕ

abbrev pub after_code : (ℕ → List ℕ) → (first room : ℕ) → Reading → ℕ × ℕ → Reading
after_code page first room reading code =
    record { place = past_filling page first room (reading.place + code.1); last = reading.last + code.0 }

abbrev pub read_on : (ℕ → List ℕ) → (first room : ℕ) → Reading → Option Reading
read_on page first room reading = option_map (after_code page first room reading) (code_at page first room reading.place)

-- where it stands before the code number `i` of a list that begins at a place; nowhere behind a broken code
unfoldable pub reading_at : (ℕ → List ℕ) → (first room begin i : ℕ) → Option Reading
reading_at page first room begin zero = Some (record { place = begin; last = 0 })
reading_at page first room begin (suc i) = option_and_then (read_on page first room) (reading_at page first room begin i)

-- The same of a list in any run: of one of single bytes by its codes, of another record by record. A run of single bytes that is read
-- as a list is a level file.
abbrev pub are_codes : Run → Bool
are_codes run = run.width == 1

abbrev pub reading_on : (ℕ → List ℕ) → Run → (begin i : ℕ) → Option Reading
reading_on page run begin i =
    if are_codes run then reading_at page run.first run.count begin (suc i)
    else Some (record { place = begin + suc i; last = id_at page run (begin + i) })

abbrev pub reading_of : (ℕ → List ℕ) → Run → (begin i : ℕ) → Option Reading
reading_of page run begin zero = Some (record { place = begin; last = 0 })
reading_of page run begin (suc i) = reading_on page run begin i

abbrev pub last_of : Option Reading → ℕ
last_of None = 0
last_of (Some reading) = reading.last

-- The identifier number `i` of a list that begins at a place of a run. Of codes it is 0 from the first broken one on.
unfoldable pub listed : (ℕ → List ℕ) → Run → (begin i : ℕ) → ℕ
listed page run begin i = last_of (reading_on page run begin i)

-- so many of them, from a number on
unfoldable pub listed_from : (ℕ → List ℕ) → Run → (begin i count : ℕ) → List ℕ
listed_from page run begin i zero = []
listed_from page run begin i (suc count) = listed page run begin i ∷ listed_from page run begin (i + 1) count

-- what stands at a place of such a run, as a slot is judged: a record, or all bytes from the place to the page's end
abbrev pub bytes_at : (ℕ → List ℕ) → Run → (place : ℕ) → List ℕ
bytes_at page run place = if are_codes run then rest_at page run.first place else record_at page run place

-- the identifier that these bytes tell after the last one, 0 where no code stands
abbrev pub sum_or_none : (last : ℕ) → Option (ℕ × ℕ) → ℕ
sum_or_none last None = 0
sum_or_none last (Some code) = last + code.0

abbrev pub told_by : Run → (place last : ℕ) → List ℕ → ℕ
told_by run place last bytes =
    if are_codes run then sum_or_none last (option_and_then (within run.count place) (code_in bytes)) else number_in bytes 0
