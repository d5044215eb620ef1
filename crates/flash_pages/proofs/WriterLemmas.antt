-- A run that is written: one more record in the buffer, a page that is full, and the run at the end.
use Rattle.std.proofs.Common.{◌≡◌, ℕ, zero, suc, ◌+◌, ◌-◌, ◌*◌, ◌/◌, ◌%◌, ◌<◌, ◌≤◌, ◌++◌, ◌∷◌, [], ◌∙◌, ap, sym, inl, inr, Bool, true, List, length, take, drop, replicate, get_or, append_assoc, below_more, subst, arith}
use Rattle.std.specs.List.{slice_range}
use Rattle.std.proofs.lemmas.Bool.{cases_lt}
use Rattle.std.proofs.lemmas.List.{take-take, drop-drop, drop_at, drop-replicate, get_or_append_left, get_or_push, length-append}
use Rattle.std.proofs.lemmas.Slice.{between_is}
use Rattle.std.proofs.lemmas.Nat.{div-mul-add, mod-mul-add, div_below, div-add-mod', mul-add-lt}
use Rattle.ghost_model.specs.forms.Runs.{Run, Stores, per_page, cell_in, record_at, records_in}
use Rattle.flash_pages.specs.Writing.{IsWriting}

-- a part below a place is the same where all below it is
cell_same :
    (now bytes : List ℕ) (at i j : ℕ) → j ≤ at → take at now ≡ take at bytes → slice_range now i j ≡ slice_range bytes i j
cell_same now bytes at i j within same =
    between_is now i j
    ∙ ap (λ part. drop i part) (sym (take-take j at now within) ∙ ap (λ part. take j part) same ∙ take-take j at bytes within)
    ∙ sym (between_is bytes i j)

-- what is left over after a record that was put
pub rest_kept :
    (bytes cell : List ℕ) (at : ℕ) → length (take at bytes) ≡ at → drop at bytes ≡ replicate (2048 - at) 255
    → drop (at + length cell) (take at bytes ++ (cell ++ drop (at + length cell) bytes)) ≡ replicate (2048 - (at + length cell)) 255
rest_kept bytes cell at size rest =
    let less : 2048 - at - length cell ≡ 2048 - (at + length cell) = omega arith in
    ap (λ b. drop (at + length cell) b) (sym (append_assoc (take at bytes) cell (drop (at + length cell) bytes)))
    ∙ drop_at (take at bytes ++ cell) (drop (at + length cell) bytes) (at + length cell) (omega (arith, length-append (take at bytes) cell))
    ∙ sym (drop-drop (length cell) at bytes)
    ∙ ap (λ b. drop (length cell) b) rest
    ∙ drop-replicate (length cell) (2048 - at) 255
    ∙ ap (λ n. replicate n 255) less

some_held : (held width : ℕ) → 0 < held * width → 0 < held
some_held zero width some = absurd (omega arith)
some_held (suc held) width some = omega arith

-- slots of a page end before the next one
slot_below : (slot held width : ℕ) → slot < held → slot * width + width ≤ held * width
slot_below slot held zero below = omega arith
slot_below slot held (suc width) below =
    omega (arith, mul-add-lt slot (suc width) width held below (omega arith))

-- one more record in the buffer
pub one_more :
    {told : Bool} {page : ℕ → List ℕ} {bytes now cell : List ℕ} {first width pages held : ℕ} {records : List (List ℕ)}
    → length cell ≡ width
    → IsWriting told page bytes first width pages held records
    → take (held * width) now ≡ take (held * width) bytes
    → slice_range now (held * width) (held * width + length cell) ≡ cell
    → ((0 < held * width → drop (held * width) bytes ≡ replicate (2048 - held * width) 255)
    → drop (held * width + length cell) now ≡ replicate (2048 - (held * width + length cell)) 255)
    → IsWriting told page now first width pages (held + 1) (records ++ cell ∷ [])
one_more {bytes = bytes} {now = now} {cell = cell} {width = width} {pages = pages} {held = held} {records = records} size was front put rest = record {
  count = omega (arith, was.count, length-append records (cell ∷ []));
  written = λ told i within.
      was.written told i within ∙ sym (get_or_append_left records (cell ∷ []) [] i (omega (arith, was.count)));
  written_rest = was.written_rest;
  buffered =
      below_more (λ slot. cell_in now width slot ≡ get_or (records ++ cell ∷ []) (pages * per_page width + slot) []) held
      (λ slot below.
      cell_same now bytes (held * width) (slot * width) (slot * width + width) (slot_below slot held width below) front
      ∙ was.buffered slot below
      ∙ sym (get_or_append_left records (cell ∷ []) [] (pages * per_page width + slot) (omega (arith, was.count))))
      (ap (λ n. slice_range now (held * width) (held * width + n)) (sym size)
      ∙ put
      ∙ sym (get_or_push records cell [] (pages * per_page width + held) (sym was.count)));
  rest = λ some.
      let end : (held + 1) * width ≡ held * width + length cell = omega (arith, size) in
      ap (λ n. drop n now) end
      ∙ rest (λ later. was.rest (some_held held width later))
      ∙ ap (λ n. replicate (2048 - n) 255) (sym end);
}

-- every record so far, with the buffer written as the next page
each_cell :
    (page now : ℕ → List ℕ) (bytes : List ℕ) (first width pages held n : ℕ) (records : List (List ℕ))
    → 0 < n → held ≤ n
    → ((i : ℕ) → i < pages * n → cell_in (page (first + i / n)) width (i % n) ≡ get_or records i [])
    → ((slot : ℕ) → slot < held → cell_in bytes width slot ≡ get_or records (pages * n + slot) [])
    → ((number : ℕ) → number < first + pages → now number ≡ page number)
    → (0 < held → now (first + pages) ≡ bytes)
    → (i : ℕ) → i < pages * n + held → cell_in (now (first + i / n)) width (i % n) ≡ get_or records i []
each_cell page now bytes first width pages held n records some most written buffered same last i within =
    elim (cases_lt i (pages * n)) [
      | inl before ↦
          ap (λ b. cell_in b width (i % n)) (same (first + i / n) (omega (arith, div_below i n pages some before)))
          ∙ written i before
      | inr behind ↦
          let slot = i - pages * n in
          let whole : pages * n + slot ≡ i = omega arith in
          let small : slot < n = omega arith in
          let place : i / n ≡ pages = ap (λ k. k / n) (sym whole) ∙ div-mul-add pages n slot small in
          let left : i % n ≡ slot = ap (λ k. k % n) (sym whole) ∙ mod-mul-add pages n slot small in
          ap (λ k. cell_in (now (first + k)) width (i % n)) place
          ∙ ap (λ b. cell_in b width (i % n)) (last (omega arith))
          ∙ ap (λ k. cell_in bytes width k) left
          ∙ buffered slot (omega arith)
          ∙ ap (λ k. get_or records k []) whole
    ]

-- the buffer was full and is written
pub page_done :
    {told : Bool} {page : ℕ → List ℕ} {bytes : List ℕ} {first width pages held : ℕ} {records : List (List ℕ)}
    (now : ℕ → List ℕ) → held ≡ per_page width → 0 < held
    → IsWriting told page bytes first width pages held records
    → (told ≡ true → (number : ℕ) → number < first + pages → now number ≡ page number)
    → (told ≡ true → now (first + pages) ≡ bytes)
    → IsWriting told now bytes first width (pages + 1) 0 records
page_done {page = page} {bytes = bytes} {first = first} {width = width} {pages = pages} {held = held} {records = records} now full some was same last = record {
  count = omega (arith, was.count, full);
  written = λ told i within.
      each_cell page now bytes first width pages held (per_page width) records (omega arith) (omega arith) (was.written told) was.buffered (same told) (λ waits. last told) i (omega arith);
  written_rest = λ told place within.
      elim (cases_lt place pages) [
        | inl before ↦
            ap (λ b. drop (per_page width * width) b) (same told (first + place) (omega arith)) ∙ was.written_rest told place before
        | inr behind ↦
            let here : place ≡ pages = omega arith in
            ap (λ k. drop (per_page width * width) (now (first + k))) here
            ∙ ap (λ b. drop (per_page width * width) b) (last told)
            ∙ ap (λ k. drop (k * width) bytes) (sym full)
            ∙ was.rest some
            ∙ ap (λ k. replicate (2048 - k * width) 255) full
      ];
  buffered = λ slot none. absurd (omega arith);
  rest = λ none. absurd (omega arith);
}

-- which page of a run of so many records a place in it is
last_place :
    (place pages held n : ℕ) → held < n → pages ≤ place → place < (pages * n + held + (n - 1)) / n → (place ≡ pages) × (0 < held)
last_place place pages held n most from to =
    let all = pages * n + held + (n - 1) in
    let upper = mul-add-lt place n (n - 1) (all / n) to (omega arith) in
    let whole = div-add-mod' all n in
    let below : place * n < pages * n + held = omega (arith, upper, whole) in
    let here : place ≡ pages =
    elim (cases_lt pages place) [
      | inl above ↦ absurd (omega (arith, below, mul-add-lt pages n held place above most))
      | inr up ↦ omega arith
    ] in
    let same : place * n ≡ pages * n = ap (λ k. k * n) here in
    (here, omega (arith, below, same))

-- the run at the end
pub stored :
    {told : Bool} {page : ℕ → List ℕ} {bytes : List ℕ} {first width pages held count : ℕ} {records : List (List ℕ)}
    (now : ℕ → List ℕ) → told ≡ true → held < per_page width → count ≡ pages * per_page width + held
    → IsWriting told page bytes first width pages held records
    → ((number : ℕ) → number < first + pages → now number ≡ page number)
    → (0 < held → now (first + pages) ≡ bytes)
    → Stores now (record { first = first; count = count; width = width }) records
unfolding record_at
stored {page = page} {bytes = bytes} {first = first} {width = width} {pages = pages} {held = held} {count = count} {records = records} now told most size was same last =
    let n = per_page width in
    let some : 0 < n = omega arith in
    let run : Run = record { first = first; count = count; width = width } in
    record {
      has = record {
        count = size ∙ was.count;
        each = λ i within.
            each_cell page now bytes first width pages held n records some (omega arith) (was.written told) was.buffered same last i (omega (arith, size));
      };
      rest = λ place within.
          elim (cases_lt place pages) [
            | inl before ↦
                let full : records_in run place ≡ n = omega (arith, size, mul-add-lt place n (n - 1) pages before (omega arith)) in
                ap (λ k. drop (k * width) (now (first + place))) full
                ∙ ap (λ b. drop (n * width) b) (same (first + place) (omega arith))
                ∙ was.written_rest told place before
                ∙ ap (λ k. replicate (2048 - k * width) 255) (sym full)
            | inr behind ↦
                let where_is = last_place place pages held n most behind (let P : ℕ → Type 0 = λ c. place < (c + (n - 1)) / n in subst P size within) in
                let here = where_is.0 in
                let same_n : place * n ≡ pages * n = ap (λ k. k * n) here in
                let part : records_in run place ≡ held = omega (arith, size, same_n, where_is.1) in
                ap (λ k. drop (k * width) (now (first + place))) part
                ∙ ap (λ k. drop (held * width) (now (first + k))) here
                ∙ ap (λ b. drop (held * width) b) (last where_is.1)
                ∙ was.rest where_is.1
                ∙ ap (λ k. replicate (2048 - k * width) 255) (sym part)
          ];
    }

-- a blank page from its beginning on
pub rest_of_blank : (at : ℕ) → at ≡ 0 → drop at (replicate {A = ℕ} 2048 255) ≡ replicate (2048 - at) 255
rest_of_blank at begins = drop-replicate at 2048 255
