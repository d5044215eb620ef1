-- Reading a list code by code: where it gets, that it stays in the file, and that behind a code out of its range nothing is a row.
use Rattle.std.proofs.Common.{◌≡◌, refl, ap, sym, ◌∙◌, ℕ, zero, suc, ◌+◌, ◌-◌, ◌*◌, ◌/◌, ◌%◌, ◌<◌, ◌≤◌, Bool, true, false, ◌&&◌, nat_le, nat_lt, ◌==◌, inl, inr, subst, length, List, [], ◌∷◌, get_or, Option, Some, None, option_and_then, option_map, arith}
use Rattle.std.specs.Prelude.{⊤, if◌then◌else◌}
use Rattle.std.proofs.lemmas.Bool.Decides.{nat_tests}
use Rattle.std.proofs.lemmas.Bool.{cases_lt, and_right, leb-false, ltb-true, false_from_ne_true, leb-true}
use Rattle.ghost_model.specs.core.Channel.{Catalog}
use Rattle.ghost_model.specs.forms.Layout.{count_of}
use Rattle.ghost_model.specs.forms.Runs.{Run, id_at, page_bytes}
use Rattle.ghost_model.specs.forms.Gaps.{Reading, after_code, are_codes, code_at, code_in, code_second, code_third, last_of, listed, listed_from, past_filling, read_on, reading_at, reading_of, rest_at, within}
use Rattle.ghost_model.specs.forms.Slots.{code_stands, is_row}

-- what is read passes the rows, or there is nothing to read any more
abbrev pub IsPast : (rows : ℕ) → Option Reading → Type 0
IsPast rows None = ⊤
IsPast rows (Some reading) = rows < reading.last

-- ---- a code has a number, and ends inside the file

some_third : (high middle : ℕ) (bytes : List ℕ) (code : ℕ × ℕ) → 0 < high → code_third high middle bytes ≡ Some code → 0 < code.0
some_third high middle [] code some e = absurd (cc (e))
some_third high middle (low ∷ rest) code some e = by_test (nat_lt low 128) e
  where
    by_test : (t : Bool) → (if t then Some ((high * 128 + middle) * 128 + low, 3) else None) ≡ Some code → 0 < code.0
    by_test true e = let number : (high * 128 + middle) * 128 + low ≡ code.0 = cc (e) in omega (arith, number, some)
    by_test false e = absurd (cc (e))

some_second : (high : ℕ) (bytes : List ℕ) (code : ℕ × ℕ) → 0 < high → code_second high bytes ≡ Some code → 0 < code.0
some_second high [] code some e = absurd (cc (e))
some_second high (byte ∷ rest) code some e = by_test (nat_lt byte 128) e
  where
    by_test : (t : Bool) → (if t then Some (high * 128 + byte, 2) else code_third high (byte - 128) rest) ≡ Some code → 0 < code.0
    by_test true e = let number : high * 128 + byte ≡ code.0 = cc (e) in omega (arith, number, some)
    by_test false e = some_third high (byte - 128) rest code some e

pub some_code : (bytes : List ℕ) (code : ℕ × ℕ) → code_in bytes ≡ Some code → 0 < code.0
some_code [] code e = absurd (cc (e))
some_code (byte ∷ rest) code e = by_tests (nat_lt byte 128) (byte == 0) (byte == 128) refl refl refl e
  where
    by_tests : (small none least : Bool) → nat_lt byte 128 ≡ small → (byte == 0) ≡ none → (byte == 128) ≡ least
        → (if small then (if none then None else Some (byte, 1)) else if least then None else code_second (byte - 128) rest) ≡ Some code → 0 < code.0
    by_tests true true least es en el e = absurd (cc (e))
    by_tests true false least es en el e = let number : byte ≡ code.0 = cc (e) in grind (arith, nat_tests)
    by_tests false none true es en el e = absurd (cc (e))
    by_tests false none false es en el e = let some : 0 < byte - 128 = grind (arith, nat_tests) in some_second (byte - 128) rest code some e

-- what is read by `within`
inside_by : (room place : ℕ) (found : Option (ℕ × ℕ)) (code : ℕ × ℕ) → option_and_then (within room place) found ≡ Some code
    → (found ≡ Some code) × (place + code.1 < room)
inside_by room place None code e = absurd (cc (e))
inside_by room place (Some found) code e = by_test (nat_lt (place + found.1) room) refl e
  where
    by_test : (t : Bool) → nat_lt (place + found.1) room ≡ t → (if t then Some found else None) ≡ Some code → (Some found ≡ Some code) × (place + code.1 < room)
    by_test true less e = let size : found.1 ≡ code.1 = cc (e) in let low = ltb-true (place + found.1) room less in (e, omega (arith, low, size))
    by_test false less e = absurd (cc (e))

none_over : (room place : ℕ) (found : Option (ℕ × ℕ)) → room ≤ place → option_and_then (within room place) found ≡ None
none_over room place None over = refl
none_over room place (Some code) over = ap (λ t. if t then Some code else None) (false_from_ne_true (nat_lt (place + code.1) room) (λ e. let low = ltb-true (place + code.1) room e in omega (arith, low, over)))

filling_inside : (room place : ℕ) (t u : Bool) → (place < room) → (if (t && nat_lt ((place / page_bytes + 1) * page_bytes) room && u) then (place / page_bytes + 1) * page_bytes else place) < room
filling_inside room place t u low = by_tests t (nat_lt ((place / page_bytes + 1) * page_bytes) room) u refl
  where
    by_tests : (t less u : Bool) → nat_lt ((place / page_bytes + 1) * page_bytes) room ≡ less
        → (if (t && less && u) then (place / page_bytes + 1) * page_bytes else place) < room
    by_tests true true true e = ltb-true ((place / page_bytes + 1) * page_bytes) room e
    by_tests true true false e = low
    by_tests true false u e = low
    by_tests false less u e = low

module _ (page : ℕ → List ℕ) (first room : ℕ) where
  pub code_inside : (place : ℕ) (code : ℕ × ℕ) → code_at page first room place ≡ Some code → (code_in (rest_at page first place) ≡ Some code) × (place + code.1 < room)
  code_inside place code e = inside_by room place (code_in (rest_at page first place)) code e

  past_inside : (place : ℕ) → place < room → past_filling page first room place < room
  past_inside place low = filling_inside room place (nat_lt 2045 (place % page_bytes)) (get_or (rest_at page first place) 0 0 == 128) low

  inside_after : (reading : Reading) (found : Option (ℕ × ℕ)) → code_at page first room reading.place ≡ found → (next : Reading)
      → option_map (after_code page first room reading) found ≡ Some next → next.place < room
  inside_after reading None e next is = absurd (cc (is))
  inside_after reading (Some code) e next is =
      let place : past_filling page first room (reading.place + code.1) ≡ next.place = ap (λ o. place_or_none o) is in
      let low = past_inside (reading.place + code.1) (code_inside reading.place code e).1 in
      omega (arith, place, low)
    where
      place_or_none : Option Reading → ℕ
      place_or_none None = 0
      place_or_none (Some reading) = reading.place

  inside_next : (o : Option Reading) (next : Reading) → option_and_then (read_on page first room) o ≡ Some next → next.place < room
  inside_next None next is = absurd (cc (is))
  inside_next (Some reading) next is = inside_after reading (code_at page first room reading.place) refl next is

  pub reading_inside : (begin i : ℕ) (reading : Reading) → reading_at page first room begin (suc i) ≡ Some reading → reading.place < room
  unfolding reading_at
  reading_inside begin i reading is = inside_next (reading_at page first room begin i) reading is

  -- one code on
  pub reading_begins : (begin : ℕ) → reading_at page first room begin 0 ≡ Some (record { place = begin; last = 0 })
  unfolding reading_at
  reading_begins begin = refl

  pub reading_next : (begin i : ℕ) (o : Option Reading) → reading_at page first room begin i ≡ o
      → reading_at page first room begin (suc i) ≡ option_and_then (read_on page first room) o
  unfolding reading_at
  reading_next begin i o is = ap (option_and_then (read_on page first room)) is

  -- ---- behind a code with which identifiers pass the rows

  past_after : (rows : ℕ) (reading : Reading) (found : Option (ℕ × ℕ)) → rows < reading.last → IsPast rows (option_map (after_code page first room reading) found)
  past_after rows reading None past = tt
  past_after rows reading (Some code) past = omega (arith, past)

  past_next : (rows : ℕ) (o : Option Reading) → IsPast rows o → IsPast rows (option_and_then (read_on page first room) o)
  past_next rows None past = tt
  past_next rows (Some reading) past = past_after rows reading (code_at page first room reading.place) past

  pub past_one : (rows begin i : ℕ) → IsPast rows (reading_at page first room begin i) → IsPast rows (reading_at page first room begin (suc i))
  past_one rows begin i past =
      let next = reading_next begin i (reading_at page first room begin i) refl in
      subst (IsPast rows) (sym next) (past_next rows (reading_at page first room begin i) past)

  pub past_later : (rows begin i more : ℕ) → IsPast rows (reading_at page first room begin i) → IsPast rows (reading_at page first room begin (i + more))
  past_later rows begin i zero past = let e : i ≡ i + 0 = omega arith in subst (λ n. IsPast rows (reading_at page first room begin n)) e past
  past_later rows begin i (suc more) past =
      let e : suc (i + more) ≡ i + suc more = omega arith in
      subst (λ n. IsPast rows (reading_at page first room begin n)) e (past_one rows begin (i + more) (past_later rows begin i more past))

  -- a code that may not stand by itself
  past_within : (rows place last : ℕ) (found : Option (ℕ × ℕ)) → code_stands rows found ≡ false → (kept : Option (ℕ × ℕ)) → option_and_then (within room place) found ≡ kept
      → IsPast rows (option_map (after_code page first room (record { place = place; last = last })) kept)
  past_within rows place last found wrong None e = tt
  past_within rows place last None wrong (Some code) e = absurd (cc (e))
  past_within rows place last (Some found) wrong (Some code) e =
      let same = (inside_by room place (Some found) code e).0 in
      let number : found.0 ≡ code.0 = cc (same) in
      let out = leb-false found.0 rows wrong in
      omega (arith, number, out)

  pub past_wrong : (rows place last : ℕ) → code_stands rows (code_in (rest_at page first place)) ≡ false
      → IsPast rows (read_on page first room (record { place = place; last = last }))
  past_wrong rows place last wrong =
      past_within rows place last (code_in (rest_at page first place)) wrong (code_at page first room place) refl

pub no_row : (cat : Catalog) (from : ℕ) (o : Option Reading) → IsPast (count_of cat from) o → is_row cat from (last_of o) ≡ false
no_row cat from None past = refl
no_row cat from (Some reading) past =
    and_right (nat_le 1 reading.last) (nat_le reading.last (count_of cat from))
    (false_from_ne_true (nat_le reading.last (count_of cat from)) (λ e. let most = leb-true reading.last (count_of cat from) e in omega (arith, most, past)))

-- ---- reading a list, where its run has codes

pub of_codes : (page : ℕ → List ℕ) (run : Run) → are_codes run ≡ true → (begin i : ℕ) → reading_of page run begin i ≡ reading_at page run.first run.count begin i
of_codes page run codes begin zero = sym (reading_begins page run.first run.count begin)
of_codes page run codes begin (suc i) =
    ap (λ b. if b then reading_at page run.first run.count begin (suc i) else Some (record { place = begin + suc i; last = id_at page run (begin + i) })) codes

pub listed_is : (page : ℕ → List ℕ) (run : Run) → are_codes run ≡ true → (begin i : ℕ) → listed page run begin i ≡ last_of (reading_at page run.first run.count begin (suc i))
unfolding listed
listed_is page run codes begin i = ap last_of (of_codes page run codes begin (suc i))

pub listed_are : (page : ℕ → List ℕ) (run : Run) (begin at : ℕ) (ids : List ℕ)
    → ((i : ℕ) → i < length ids → listed page run begin (at + i) ≡ get_or ids i 0) → listed_from page run begin at (length ids) ≡ ids
unfolding listed_from
listed_are page run begin at [] each = refl
listed_are page run begin at (id ∷ ids) each =
    let here : at + 0 ≡ at = omega arith in
    let first : listed page run begin at ≡ id = sym (ap (listed page run begin) here) ∙ each 0 (omega arith) in
    let rest = listed_are page run begin (at + 1) ids (λ i low. let next : at + 1 + i ≡ at + suc i = omega arith in ap (listed page run begin) next ∙ each (suc i) (omega (arith, low))) in
    λ i. first i ∷ rest i

-- ---- pages that have the same bytes in the file's room

module _ (page now : ℕ → List ℕ) (first room : ℕ) (same : (place : ℕ) → place < room → rest_at now first place ≡ rest_at page first place) where
  pub code_same : (place : ℕ) → code_at now first room place ≡ code_at page first room place
  code_same place =
      elim (cases_lt place room) [
        | inl low ↦ ap (λ bytes. option_and_then (within room place) (code_in bytes)) (same place low)
        | inr over ↦ none_over room place (code_in (rest_at now first place)) over ∙ sym (none_over room place (code_in (rest_at page first place)) over)
      ]

  pub filling_same : (place : ℕ) → place < room → past_filling now first room place ≡ past_filling page first room place
  filling_same place low =
      ap (λ bytes. if nat_lt 2045 (place % page_bytes) && nat_lt ((place / page_bytes + 1) * page_bytes) room && get_or bytes 0 0 == 128 then (place / page_bytes + 1) * page_bytes else place)
      (same place low)

  after_same : (reading : Reading) (found : Option (ℕ × ℕ)) → code_at page first room reading.place ≡ found
      → option_map (after_code now first room reading) found ≡ option_map (after_code page first room reading) found
  after_same reading None e = refl
  after_same reading (Some code) e =
      ap (λ n. Some (record { place = n; last = reading.last + code.0 })) (filling_same (reading.place + code.1) (code_inside page first room reading.place code e).1)

  on_same : (o : Option Reading) → option_and_then (read_on now first room) o ≡ option_and_then (read_on page first room) o
  on_same None = refl
  on_same (Some reading) =
      ap (option_map (after_code now first room reading)) (code_same reading.place) ∙ after_same reading (code_at page first room reading.place) refl

  pub reading_same : (begin i : ℕ) → reading_at now first room begin i ≡ reading_at page first room begin i
  unfolding reading_at
  reading_same begin zero = refl
  reading_same begin (suc i) =
      ap (option_and_then (read_on now first room)) (reading_same begin i) ∙ on_same (reading_at page first room begin i)
