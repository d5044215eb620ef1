-- Lists in runs of records and of codes: what stays of their reading where other pages change, and their identifiers one by one.
use Rattle.std.proofs.Common.{◌≡◌, ℕ, zero, suc, ◌+◌, ◌-◌, ◌*◌, ◌/◌, ◌%◌, ◌<◌, ◌≤◌, ◌&&◌, ◌==◌, ◌∙◌, ap, sym, refl, subst, inl, inr, Bool, true, false, nat_lt, List, [], ◌∷◌, length, drop, get_or, if◌then◌else◌, arith}
use Rattle.std.specs.Prelude.{Option, Some, None, option_map, option_and_then}
use Rattle.std.proofs.lemmas.Bool.{cases_lt, lt-ltb, le-ltb, eqb-true, eq-eqb, false_from_ne_true}
use Rattle.ghost_model.specs.forms.Runs.{Run, page_of, slot_of, id_at, ids_from, number_in, record_at, cell_in}
use Rattle.ghost_model.specs.forms.Gaps.{Reading, reading_at, reading_of, read_on, after_code, code_at, code_in, rest_at, within, past_filling, are_codes, listed, listed_from, last_of, bytes_at, told_by, sum_or_none}
use Rattle.edge_traits.specs.Devices.{Device}
use Rattle.ghost_base.specs.Runs.{run_of}
use Rattle.flash_pages.specs.Reads.{WasRead, WasListed, bytes_in}
use Rattle.flash_pages.specs.Cursors.{StandsInRun, ids_left}
use Rattle.flash_pages.specs.declared.cursor.RunCursor.{RunCursor}
use Rattle.flash_pages.proofs.RunFrames.{record_kept}

-- the pages of a file of so many bytes are the same
abbrev pub SamePages : (page now : ℕ → List ℕ) → (first room : ℕ) → Type 0
SamePages page now first room = (place : ℕ) → place < room → now (first + place / 2048) ≡ page (first + place / 2048)

-- reading goes on as before
pub past_filling_kept :
    (page now : ℕ → List ℕ) (first room place : ℕ) → now (first + place / 2048) ≡ page (first + place / 2048)
    → past_filling now first room place ≡ past_filling page first room place
past_filling_kept page now first room place same =
    ap (λ (bytes : List ℕ).
    if nat_lt 2045 (place % 2048) && nat_lt ((place / 2048 + 1) * 2048) room && get_or (drop (place % 2048) bytes) 0 0 == 128
    then (place / 2048 + 1) * 2048 else place)
    same

code_kept :
    (page now : ℕ → List ℕ) (first room : ℕ) (reading : Reading) (code : ℕ × ℕ) → SamePages page now first room
    → option_map (after_code now first room reading) (within room reading.place code)
    ≡ option_map (after_code page first room reading) (within room reading.place code)
code_kept page now first room reading code same =
    let P : Bool → Type 0 = λ inside.
    option_map (after_code now first room reading) (if inside then Some code else None)
    ≡ option_map (after_code page first room reading) (if inside then Some code else None) in
    elim (cases_lt (reading.place + code.1) room) [
      | inl less ↦
          subst P (sym (lt-ltb (reading.place + code.1) room less))
          (ap (λ place. Some (record { place = place; last = reading.last + code.0 }))
          (past_filling_kept page now first room (reading.place + code.1) (same (reading.place + code.1) less)))
      | inr over ↦ subst P (sym (le-ltb (reading.place + code.1) room over)) refl
    ]

codes_kept :
    (page now : ℕ → List ℕ) (first room : ℕ) (reading : Reading) (code : Option (ℕ × ℕ)) → SamePages page now first room
    → option_map (after_code now first room reading) (option_and_then (within room reading.place) code)
    ≡ option_map (after_code page first room reading) (option_and_then (within room reading.place) code)
codes_kept page now first room reading None same = refl
codes_kept page now first room reading (Some code) same = code_kept page now first room reading code same

-- no code is one that begins behind the room's end
none_outside : (room place : ℕ) (code : Option (ℕ × ℕ)) → room ≤ place → option_and_then (within room place) code ≡ None
none_outside room place None over = refl
none_outside room place (Some code) over =
    ap (λ (inside : Bool). if inside then Some code else None) (le-ltb (place + code.1) room (omega (arith, over)))

pub read_on_kept :
    (page now : ℕ → List ℕ) (first room : ℕ) (reading : Reading) → SamePages page now first room
    → read_on now first room reading ≡ read_on page first room reading
read_on_kept page now first room reading same =
    let place = reading.place in
    elim (cases_lt place room) [
      | inl less ↦
          codes_kept page now first room reading (code_in (rest_at now first place)) same
          ∙ ap (λ (bytes : List ℕ). option_map (after_code page first room reading) (option_and_then (within room place) (code_in (drop (place % 2048) bytes))))
          (same place less)
      | inr over ↦
          ap (λ code. option_map (after_code now first room reading) code) (none_outside room place (code_in (rest_at now first place)) over)
          ∙ sym (ap (λ code. option_map (after_code page first room reading) code) (none_outside room place (code_in (rest_at page first place)) over))
    ]

then_same : {A B : Type 0} (f g : A → Option B) → ((a : A) → f a ≡ g a) → (value : Option A) → option_and_then f value ≡ option_and_then g value
then_same f g same None = refl
then_same f g same (Some a) = same a

pub reading_at_kept :
    (page now : ℕ → List ℕ) (first room begin i : ℕ) → SamePages page now first room
    → reading_at now first room begin i ≡ reading_at page first room begin i
unfolding reading_at
reading_at_kept page now first room begin zero same = refl
reading_at_kept page now first room begin (suc i) same =
    ap (λ reading. option_and_then (read_on now first room) reading) (reading_at_kept page now first room begin i same)
    ∙ then_same (read_on now first room) (read_on page first room) (λ reading. read_on_kept page now first room reading same)
    (reading_at page first room begin i)

-- a list is of codes exactly where the run's width is 1
pub codes_by_width : (run : Run) → run.width ≡ 1 → are_codes run ≡ true
codes_by_width run is = eq-eqb run.width 1 is

pub records_by_width : (run : Run) → 4 ≤ run.width → are_codes run ≡ false
records_by_width run wide = false_from_ne_true (run.width == 1) (λ is. omega (arith, eqb-true run.width 1 is, wide))

-- what a list has of its codes, and of its records
pub reading_of_codes :
    (page : ℕ → List ℕ) (run : Run) (begin i : ℕ) → are_codes run ≡ true → reading_of page run begin i ≡ reading_at page run.first run.count begin i
unfolding reading_at
reading_of_codes page run begin zero codes = refl
reading_of_codes page run begin (suc i) codes =
    ap (λ (is : Bool). if is then reading_at page run.first run.count begin (suc i) else Some (record { place = begin + suc i; last = id_at page run (begin + i) })) codes

pub reading_of_record :
    (page : ℕ → List ℕ) (run : Run) (begin i : ℕ) → are_codes run ≡ false
    → reading_of page run begin (suc i) ≡ Some (record { place = begin + suc i; last = id_at page run (begin + i) })
reading_of_record page run begin i records =
    ap (λ (is : Bool). if is then reading_at page run.first run.count begin (suc i) else Some (record { place = begin + suc i; last = id_at page run (begin + i) })) records

pub listed_is_last : (page : ℕ → List ℕ) (run : Run) (begin i : ℕ) → listed page run begin i ≡ last_of (reading_of page run begin (suc i))
unfolding listed
listed_is_last page run begin i = refl

pub listed_code :
    (page : ℕ → List ℕ) (run : Run) (begin i : ℕ) → are_codes run ≡ true
    → listed page run begin i ≡ last_of (reading_at page run.first run.count begin (suc i))
listed_code page run begin i codes = listed_is_last page run begin i ∙ ap last_of (reading_of_codes page run begin (suc i) codes)

pub listed_record :
    (page : ℕ → List ℕ) (run : Run) (begin i : ℕ) → are_codes run ≡ false → listed page run begin i ≡ id_at page run (begin + i)
listed_record page run begin i records = listed_is_last page run begin i ∙ ap last_of (reading_of_record page run begin i records)

pub listed_by_width :
    (page : ℕ → List ℕ) (run : Run) (begin i : ℕ) → 4 ≤ run.width → listed page run begin i ≡ id_at page run (begin + i)
listed_by_width page run begin i wide = listed_record page run begin i (records_by_width run wide)

pub listed_from_records :
    (page : ℕ → List ℕ) (run : Run) (begin i count : ℕ) → are_codes run ≡ false
    → listed_from page run begin i count ≡ ids_from page run (begin + i) count
unfolding listed_from ids_from
listed_from_records page run begin i zero records = refl
listed_from_records page run begin i (suc count) records =
    let on : begin + (i + 1) ≡ begin + i + 1 = omega arith in
    ap (λ id. id ∷ listed_from page run begin (i + 1) count) (listed_record page run begin i records)
    ∙ ap (λ ids. id_at page run (begin + i) ∷ ids)
    (listed_from_records page run begin (i + 1) count records ∙ ap (λ place. ids_from page run place count) on)

-- where the pages of a run are the same, so is a list of it
abbrev pub KeepsRun : (page now : ℕ → List ℕ) → Run → Type 0
KeepsRun page now run = (place : ℕ) → place < run.count → now (page_of run place) ≡ page (page_of run place)

width_of_codes : (run : Run) → are_codes run ≡ true → run.width ≡ 1
width_of_codes run codes = eqb-true run.width 1 codes

same_pages : (page now : ℕ → List ℕ) (run : Run) → are_codes run ≡ true → KeepsRun page now run → SamePages page now run.first run.count
same_pages page now run codes same place within =
    let P : ℕ → Type 0 = λ width. now (run.first + place / (2048 / width)) ≡ page (run.first + place / (2048 / width)) in
    subst P (width_of_codes run codes) (same place within)

reading_kept_by :
    (page now : ℕ → List ℕ) (run : Run) (begin i : ℕ) (codes : Bool) → are_codes run ≡ codes → (codes ≡ false → begin + i ≤ run.count)
    → KeepsRun page now run → reading_of now run begin i ≡ reading_of page run begin i
reading_kept_by page now run begin i true is within same =
    reading_of_codes now run begin i is
    ∙ reading_at_kept page now run.first run.count begin i (same_pages page now run is same)
    ∙ sym (reading_of_codes page run begin i is)
reading_kept_by page now run begin zero false is within same = refl
reading_kept_by page now run begin (suc i) false is within same =
    let inside : begin + i < run.count = omega (arith, within refl) in
    reading_of_record now run begin i is
    ∙ ap (λ (cell : List ℕ). Some (record { place = begin + suc i; last = number_in cell 0 })) (record_kept page now run (begin + i) (same (begin + i) inside))
    ∙ sym (reading_of_record page run begin i is)

pub reading_of_kept :
    (page now : ℕ → List ℕ) (run : Run) (begin i : ℕ) → begin + i ≤ run.count → KeepsRun page now run
    → reading_of now run begin i ≡ reading_of page run begin i
reading_of_kept page now run begin i within same = reading_kept_by page now run begin i (are_codes run) refl (λ _. within) same

pub listed_kept :
    (page now : ℕ → List ℕ) (run : Run) (begin i : ℕ) → begin + i < run.count → KeepsRun page now run
    → listed now run begin i ≡ listed page run begin i
listed_kept page now run begin i within same =
    listed_is_last now run begin i
    ∙ ap last_of (reading_of_kept page now run begin (suc i) (omega (arith, within)) same)
    ∙ sym (listed_is_last page run begin i)

pub listed_from_kept :
    (page now : ℕ → List ℕ) (run : Run) (begin i count : ℕ) → ((k : ℕ) → i ≤ k → k < i + count → begin + k < run.count) → KeepsRun page now run
    → listed_from now run begin i count ≡ listed_from page run begin i count
unfolding listed_from
listed_from_kept page now run begin i zero within same = refl
listed_from_kept page now run begin i (suc count) within same =
    ap (λ id. id ∷ listed_from now run begin (i + 1) count) (listed_kept page now run begin i (within i (omega arith) (omega arith)) same)
    ∙ ap (λ ids. listed page run begin i ∷ ids)
    (listed_from_kept page now run begin (i + 1) count (λ k from to. within k (omega arith) (omega arith)) same)

-- the identifiers from one on, by their numbers
pub listed_from-length : (page : ℕ → List ℕ) (run : Run) (begin i count : ℕ) → length (listed_from page run begin i count) ≡ count
unfolding listed_from
listed_from-length page run begin i zero = refl
listed_from-length page run begin i (suc count) = omega (arith, listed_from-length page run begin (i + 1) count)

pub listed_from-get :
    (page : ℕ → List ℕ) (run : Run) (begin i count k : ℕ) → k < count
    → get_or (listed_from page run begin i count) k 0 ≡ listed page run begin (i + k)
unfolding listed_from
listed_from-get page run begin i zero k within = absurd (omega arith)
listed_from-get page run begin i (suc count) zero within =
    let e : i ≡ i + 0 = omega arith in
    ap (λ n. listed page run begin n) e
listed_from-get page run begin i (suc count) (suc k) within =
    let e : i + 1 + k ≡ i + suc k = omega arith in
    listed_from-get page run begin (i + 1) count k (omega arith) ∙ ap (λ n. listed page run begin n) e

-- those from one on are that one and the others, and none at the end
pub listed_step :
    (page : ℕ → List ℕ) (run : Run) (begin at count : ℕ) → at < count
    → listed_from page run begin at (count - at) ≡ listed page run begin at ∷ listed_from page run begin (at + 1) (count - (at + 1))
unfolding listed_from
listed_step page run begin at count within =
    let left : count - at ≡ suc (count - (at + 1)) = omega arith in
    ap (λ n. listed_from page run begin at n) left

pub listed_end : (page : ℕ → List ℕ) (run : Run) (begin at count : ℕ) → count ≤ at → listed_from page run begin at (count - at) ≡ []
unfolding listed_from
listed_end page run begin at count end =
    let left : count - at ≡ 0 = omega arith in
    ap (λ n. listed_from page run begin at n) left

-- behind a broken code there is none
pub reading_ends :
    (page : ℕ → List ℕ) (first room begin i more : ℕ) → reading_at page first room begin i ≡ None → reading_at page first room begin (i + more) ≡ None
unfolding reading_at
reading_ends page first room begin i zero none =
    let e : i + 0 ≡ i = omega arith in
    ap (λ n. reading_at page first room begin n) e ∙ none
reading_ends page first room begin i (suc more) none =
    let e : i + suc more ≡ suc (i + more) = omega arith in
    ap (λ n. reading_at page first room begin n) e
    ∙ ap (λ reading. option_and_then (read_on page first room) reading) (reading_ends page first room begin i more none)

-- the sum that the next code tells is the next identifier
pub sum_of_code :
    (page : ℕ → List ℕ) (first room : ℕ) (reading : Reading) (code : Option (ℕ × ℕ))
    → last_of (option_map (after_code page first room reading) code) ≡ sum_or_none reading.last code
sum_of_code page first room reading None = refl
sum_of_code page first room reading (Some code) = refl

pub next_reading :
    (page : ℕ → List ℕ) (first room begin i : ℕ) (reading : Reading) → reading_at page first room begin i ≡ Some reading
    → reading_at page first room begin (suc i) ≡ read_on page first room reading
unfolding reading_at
next_reading page first room begin i reading is = ap (λ value. option_and_then (read_on page first room) value) is

-- what stands where reading is tells the next identifier
pub told_by_codes :
    (run : Run) (place last : ℕ) (bytes : List ℕ) → are_codes run ≡ true
    → told_by run place last bytes ≡ sum_or_none last (option_and_then (within run.count place) (code_in bytes))
told_by_codes run place last bytes codes =
    ap (λ (is : Bool). if is then sum_or_none last (option_and_then (within run.count place) (code_in bytes)) else number_in bytes 0) codes

pub told_by_record : (run : Run) (place last : ℕ) (bytes : List ℕ) → are_codes run ≡ false → told_by run place last bytes ≡ number_in bytes 0
told_by_record run place last bytes records =
    ap (λ (is : Bool). if is then sum_or_none last (option_and_then (within run.count place) (code_in bytes)) else number_in bytes 0) records

pub bytes_at_codes : (page : ℕ → List ℕ) (run : Run) (place : ℕ) → are_codes run ≡ true → bytes_at page run place ≡ rest_at page run.first place
bytes_at_codes page run place codes = ap (λ (is : Bool). if is then rest_at page run.first place else record_at page run place) codes

pub bytes_at_record : (page : ℕ → List ℕ) (run : Run) (place : ℕ) → are_codes run ≡ false → bytes_at page run place ≡ record_at page run place
bytes_at_record page run place records = ap (λ (is : Bool). if is then rest_at page run.first place else record_at page run place) records

abbrev place_or : Option Reading → ℕ
place_or None = 0
place_or (Some reading) = reading.place

record_place :
    (page : ℕ → List ℕ) (run : Run) (begin i place last : ℕ) → are_codes run ≡ false
    → reading_of page run begin i ≡ Some (record { place = place; last = last }) → place ≡ begin + i
record_place page run begin zero place last is gets =
    let same : begin ≡ place = ap place_or gets in
    omega (arith, same)
record_place page run begin (suc i) place last is gets = sym (ap place_or gets) ∙ ap place_or (reading_of_record page run begin i is)

told_is :
    (page : ℕ → List ℕ) (run : Run) (begin i place last : ℕ) (codes : Bool) → are_codes run ≡ codes
    → reading_of page run begin i ≡ Some (record { place = place; last = last })
    → told_by run place last (bytes_at page run place) ≡ listed page run begin i
told_is page run begin i place last true is gets =
    told_by_codes run place last (bytes_at page run place) is
    ∙ ap (λ bytes. sum_or_none last (option_and_then (within run.count place) (code_in bytes))) (bytes_at_codes page run place is)
    ∙ sym (sum_of_code page run.first run.count (record { place = place; last = last }) (code_at page run.first run.count place))
    ∙ sym (ap last_of (next_reading page run.first run.count begin i (record { place = place; last = last }) (sym (reading_of_codes page run begin i is) ∙ gets)))
    ∙ sym (listed_code page run begin i is)
told_is page run begin i place last false is gets =
    told_by_record run place last (bytes_at page run place) is
    ∙ ap (λ bytes. number_in bytes 0) (bytes_at_record page run place is)
    ∙ ap (λ n. id_at page run n) (record_place page run begin i place last is gets)
    ∙ sym (listed_record page run begin i is)

pub told_is_listed :
    (page : ℕ → List ℕ) (run : Run) (begin i place last : ℕ) → reading_of page run begin i ≡ Some (record { place = place; last = last })
    → told_by run place last (bytes_at page run place) ≡ listed page run begin i
told_is_listed page run begin i place last gets = told_is page run begin i place last (are_codes run) refl gets

pub bytes_in_record :
    (bytes : List ℕ) (run : Run) (place : ℕ) → are_codes run ≡ false → bytes_in bytes run place ≡ cell_in bytes run.width (slot_of run place)
bytes_in_record bytes run place records =
    ap (λ (is : Bool). if is then drop (slot_of run place) bytes else cell_in bytes run.width (slot_of run place)) records

-- what was read of a record was read of a list
pub was_listed :
    {since : ℕ} {device : Device} {run : Run} {place : ℕ} {cell : List ℕ} → are_codes run ≡ false → WasRead since device run place cell
    → WasListed since device run place cell
was_listed {run = run} {place = place} records was = record {
  bytes = was.bytes;
  gave = was.gave;
  are = was.record_is ∙ sym (bytes_in_record was.bytes run place records);
}

pub was_listed_kept :
    {since : ℕ} {before now : Device} {run : Run} {place : ℕ} {bytes : List ℕ}
    → ((at number : ℕ) (bytes : List ℕ) → before.gave at number bytes ≡ true → now.gave at number bytes ≡ true)
    → WasListed since before run place bytes → WasListed since now run place bytes
was_listed_kept {run = run} {place = place} gave was = record {
  bytes = was.bytes;
  gave = record { at = was.gave.at; from = was.gave.from; gave = gave was.gave.at (page_of run place) was.bytes was.gave.gave };
  are = was.are;
}

-- a cursor that begins stands at its list's beginning
pub stands_at_begin :
    {told : Bool} {page : ℕ → List ℕ} {cursor : RunCursor} → cursor.at ≡ 0 → cursor.place ≡ cursor.list.first → cursor.last ≡ 0
    → cursor.list.first + cursor.list.count ≤ cursor.list.run.count → StandsInRun told page cursor
stands_at_begin {page = page} {cursor = cursor} at place last list = record {
  record_is = λ _. omega (arith, at, place);
  within = λ more. omega (arith, more, at, place, list);
  reading = λ _.
      ap (λ n. reading_of page (run_of cursor.list.run) cursor.list.first n) at
      ∙ ap (λ n. Some (record { place = n; last = 0 })) (sym place)
      ∙ ap (λ n. Some (record { place = cursor.place; last = n })) (sym last);
}

-- it stands where it stood where the pages of its run stayed
pub stands_kept :
    {told : Bool} {page now : ℕ → List ℕ} {cursor : RunCursor} → cursor.at ≤ cursor.list.count
    → cursor.list.first + cursor.list.count ≤ cursor.list.run.count → (told ≡ true → KeepsRun page now (run_of cursor.list.run))
    → StandsInRun told page cursor → StandsInRun told now cursor
stands_kept {page = page} {now = now} {cursor = cursor} at list same stands = record {
  record_is = stands.record_is;
  within = stands.within;
  reading = λ is_told.
      reading_of_kept page now (run_of cursor.list.run) cursor.list.first cursor.at (omega (arith, at, list)) (same is_told)
      ∙ stands.reading is_told;
}

pub ids_left_kept :
    (page now : ℕ → List ℕ) (cursor : RunCursor) → cursor.list.first + cursor.list.count ≤ cursor.list.run.count
    → KeepsRun page now (run_of cursor.list.run) → ids_left now cursor ≡ ids_left page cursor
ids_left_kept page now cursor list same =
    listed_from_kept page now (run_of cursor.list.run) cursor.list.first cursor.at (cursor.list.count - cursor.at)
    (λ k from to. omega (arith, from, to, list)) same
