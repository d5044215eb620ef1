-- Where a cursor stands after a call, and what a slot that it blames is.
use Rattle.std.proofs.Common.{◌≡◌, ◌∙◌, ℕ, suc, ◌+◌, ◌-◌, ◌/◌, ◌%◌, ◌<◌, ◌≤◌, ◌⊎◌, inl, inr, Bool, true, false, min, List, ◌∷◌, drop, ap, sym, refl, subst, arith}
use Rattle.std.proofs.lemmas.Bool.{cases_lt, cases_order}
use Rattle.std.proofs.lemmas.Nat.{le-div}
use Rattle.std.specs.Prelude.{Option, Some, IfSome, option_and_then}
use Rattle.ghost_model.specs.forms.Runs as runs
use Rattle.ghost_model.specs.forms.Gaps.{Reading, are_codes, code_at, code_in, last_of, listed, listed_from, reading_at, reading_of, sum_or_none, within}
use Rattle.ghost_base.specs.Runs.{run_of}
use Rattle.edge_traits.specs.Devices.{Device, KeepsPages, GaveSince}
use Rattle.page_pool.specs.Pools.{Pool, bytes_at, page_at}
use Rattle.flash_pages.specs.declared.cursor.RunCursor.{RunCursor}
use Rattle.flash_pages.specs.declared.standing.Stand.{Stand}
use Rattle.flash_pages.specs.Codes.{StopsAt, TakesCode, TakesCodes, reading, stand_of, sum_in}
use Rattle.flash_pages.specs.Cursors.{GivesId, IsListWidth, IsPageOf, IsReady, PassesTo, StandsInRun, StopsAtCode, id_in, page_next}
use Rattle.flash_pages.specs.Cursors.IsListWidth.{Codes, Records}
use Rattle.flash_pages.specs.Cursors.StopsAtCode.{AtBound, AtDamage, AtEnd, AtPage}
use Rattle.flash_pages.specs.Reads.{CanRead, WasGiven, WasListed, bytes_in}
use Rattle.flash_pages.proofs.ListFrames.{bytes_in_record, codes_by_width, listed_by_width, listed_code, listed_step, next_reading, reading_of_codes, reading_of_record, records_by_width, sum_of_code}
use Rattle.flash_pages.proofs.RunFrames.{run_kept}

-- behind a record of the list
pub stands_at_record :
    {told : Bool} {page : ℕ → List ℕ} (cursor : RunCursor) (at next place id : ℕ) → 4 ≤ cursor.list.run.width → next ≡ at + 1
    → place ≡ cursor.list.first + next → cursor.list.first + cursor.list.count ≤ cursor.list.run.count
    → (told ≡ true → id ≡ id_in page cursor at) → StandsInRun told page (record cursor { at = next; place = place; last = id })
stands_at_record {page = page} cursor at next place id wide on is list gets =
    let run = run_of cursor.list.run in
    let first = cursor.list.first in
    record {
      record_is = λ _. is;
      within = λ more. omega (arith, more, is, list);
      reading = λ told.
          let next_is : next ≡ suc at = omega (arith, on) in
          let place_is : first + suc at ≡ place = omega (arith, is, on) in
          ap (λ n. reading_of page run first n) next_is
          ∙ reading_of_record page run first at (records_by_width run wide)
          ∙ ap (λ n. Some (record { place = n; last = runs.id_at page run (first + at) })) place_is
          ∙ ap (λ n. Some (record { place = place; last = n })) (sym (gets told ∙ listed_by_width page run first at wide));
    }

-- behind a code of it
pub stands_at_code :
    {told : Bool} {page : ℕ → List ℕ} (cursor : RunCursor) (next : Stand) → cursor.list.run.width ≡ 1 → next.place < cursor.list.run.count
    → (told ≡ true → reading_at page cursor.list.run.first cursor.list.run.count cursor.list.first next.at ≡ Some (reading next))
    → StandsInRun told page (record cursor { at = next.at; place = next.place; last = next.last })
stands_at_code {page = page} cursor next codes inside gets = record {
  record_is = λ wide. absurd (omega (arith, wide, codes));
  within = λ _. inside;
  reading = λ told. reading_of_codes page (run_of cursor.list.run) cursor.list.first next.at (codes_by_width (run_of cursor.list.run) codes) ∙ gets told;
}

-- reading of codes stands where their cursor does
pub reads_at :
    {told : Bool} {page : ℕ → List ℕ} (cursor : RunCursor) → cursor.list.run.width ≡ 1 → StandsInRun told page cursor → told ≡ true
    → reading_at page cursor.list.run.first cursor.list.run.count cursor.list.first cursor.at ≡ Some (record { place = cursor.place; last = cursor.last })
reads_at {page = page} cursor codes stands told =
    sym (reading_of_codes page (run_of cursor.list.run) cursor.list.first cursor.at (codes_by_width (run_of cursor.list.run) codes)) ∙ stands.reading told

-- the next call may be made
pub ready_on :
    {told : Bool} {before now : Device} {pool later : Pool} (old : RunCursor) (at place last : ℕ) → KeepsPages before now
    → page_at later old.lease ≡ Some (page_next old) → old.at < old.list.count → CanRead told now later old.lease → at ≤ old.list.count
    → StandsInRun told before.page (record old { at = at; place = place; last = last }) → IsReady told before pool old
    → IsReady told now later (record old { at = at; place = place; last = last })
ready_on {told = told} old at place last kept held more can within stands ready =
    let run = run_of old.list.run in
    record {
      run = run_kept kept.page_count ready.run;
      width = ready.width;
      list = ready.list;
      at = within;
      stands = let P : (ℕ → List ℕ) → Type 0 = λ page. StandsInRun told page (record old { at = at; place = place; last = last }) in subst P (sym kept.page) stands;
      page =
          let P : Option ℕ → Type 0 = λ value. IfSome value (IsPageOf run) in
          subst P (sym held) (record { place = old.place; within = ready.stands.within more; is = refl });
      buffer = can;
    }

-- what a read gave of a place of a list's run
pub listed_read :
    {since : ℕ} {device : Device} (pool : Pool) (lease : ℕ) {run : runs.Run} {place : ℕ} {bytes : List ℕ}
    → page_at pool lease ≡ Some (runs.page_of run place) → WasGiven since device pool lease → bytes ≡ bytes_in (bytes_at pool lease) run place
    → WasListed since device run place bytes
listed_read {since = since} {device = device} pool lease held given are = record {
  bytes = bytes_at pool lease;
  gave = let P : Option ℕ → Type 0 = λ value. IfSome value (GaveSince since device (bytes_at pool lease)) in subst P held given;
  are = are;
}

-- a record that was read from a page
pub record_listed :
    (run : runs.Run) (place slot : ℕ) (page bytes cell : List ℕ) → are_codes run ≡ false → slot ≡ runs.slot_of run place
    → cell ≡ runs.cell_in page run.width slot → page ≡ bytes → cell ≡ bytes_in bytes run place
record_listed run place slot page bytes cell records is read held =
    read
    ∙ ap (λ b. runs.cell_in b run.width slot) held
    ∙ ap (λ s. runs.cell_in bytes run.width s) is
    ∙ sym (bytes_in_record bytes run place records)

-- a list's run that has no codes has records
pub wide_of : {width : ℕ} → IsListWidth width → (width ≡ 1 → ⊥) → 4 ≤ width
wide_of (Codes is) none = absurd (none is)
wide_of (Records wide) none = wide

pub some_records : {told : Bool} {device : Device} {pool : Pool} {cursor : RunCursor} → IsReady told device pool cursor → 0 < runs.per_page cursor.list.run.width
some_records {cursor = cursor} ready = omega (arith, le-div 1 2048 cursor.list.run.width ready.run.some (omega (arith, ready.run.fits)))

-- the page of a code
pub page_of_code : (run : runs.Run) (place : ℕ) → run.width ≡ 1 → runs.page_of run place ≡ run.first + place / 2048
page_of_code run place codes = ap (λ width. run.first + place / (2048 / width)) codes

-- the sum that a page tells next is the list's next identifier
pub sum_is_next :
    {told : Bool} {page : ℕ → List ℕ} (cursor : RunCursor) (bytes : List ℕ) → cursor.list.run.width ≡ 1 → StandsInRun told page cursor → told ≡ true
    → page (page_next cursor) ≡ bytes → sum_in bytes cursor.list.run.count (stand_of cursor) ≡ id_in page cursor cursor.at
sum_is_next {page = page} cursor bytes codes stands told held =
    let run = run_of cursor.list.run in
    let room = run.count in
    let begin = cursor.list.first in
    let place = cursor.place in
    let here : Reading = record { place = place; last = cursor.last } in
    let same : bytes ≡ page (run.first + place / 2048) = sym held ∙ ap page (page_of_code run place codes) in
    ap (λ (b : List ℕ). sum_or_none cursor.last (option_and_then (within room place) (code_in (drop (place % 2048) b)))) same
    ∙ sym (sum_of_code page run.first room here (code_at page run.first room place))
    ∙ sym (ap last_of (next_reading page run.first room begin cursor.at here (reads_at cursor codes stands told)))
    ∙ sym (listed_code page run begin cursor.at (codes_by_width run codes))

-- what a code gives that was taken
pub reads_next :
    {told : Bool} {page : ℕ → List ℕ} (cursor : RunCursor) (bytes : List ℕ) (limit : ℕ) (next : Stand) → cursor.list.run.width ≡ 1
    → StandsInRun told page cursor → told ≡ true → page (page_next cursor) ≡ bytes → TakesCode bytes cursor.list.run.count limit (stand_of cursor) next
    → reading_at page cursor.list.run.first cursor.list.run.count cursor.list.first (suc cursor.at) ≡ Some (reading next)
reads_next {page = page} cursor bytes limit next codes stands told held takes =
    let run = run_of cursor.list.run in
    next_reading page run.first run.count cursor.list.first cursor.at (record { place = cursor.place; last = cursor.last }) (reads_at cursor codes stands told)
    ∙ takes.reads page run.first (sym (ap page (page_of_code run cursor.place codes)) ∙ held)

pub gives_code :
    {told : Bool} {page : ℕ → List ℕ} (cursor : RunCursor) (bytes : List ℕ) (next : Stand) → cursor.list.run.width ≡ 1
    → StandsInRun told page cursor → told ≡ true → cursor.at < cursor.list.count → page (page_next cursor) ≡ bytes
    → TakesCode bytes cursor.list.run.count cursor.rows (stand_of cursor) next
    → GivesId page cursor (record cursor { at = next.at; place = next.place; last = next.last }) next.last
gives_code {page = page} cursor bytes next codes stands told more held takes =
    let run = run_of cursor.list.run in
    let begin = cursor.list.first in
    let count = cursor.list.count in
    let on : cursor.at + 1 ≡ next.at = omega (arith, takes.at) in
    let is : listed page run begin cursor.at ≡ next.last =
    listed_code page run begin cursor.at (codes_by_width run codes)
    ∙ ap last_of (reads_next cursor bytes cursor.rows next codes stands told held takes) in
    record {
      left =
          listed_step page run begin cursor.at count more
          ∙ ap (λ id. id ∷ listed_from page run begin (cursor.at + 1) (count - (cursor.at + 1))) is
          ∙ ap (λ n. next.last ∷ listed_from page run begin n (count - n)) on;
      is_next = record { above = takes.above; within = takes.below };
      last = refl;
    }

-- where codes of a page were passed
pub stands_behind :
    {told : Bool} {page : ℕ → List ℕ} (cursor : RunCursor) (bytes : List ℕ) (limit : ℕ) (next : Stand) → cursor.list.run.width ≡ 1
    → StandsInRun told page cursor → (told ≡ true → page (page_next cursor) ≡ bytes)
    → TakesCodes bytes cursor.list.count cursor.list.run.count limit (stand_of cursor) next
    → StandsInRun told page (record cursor { at = next.at; place = next.place; last = next.last })
stands_behind {page = page} cursor bytes limit next codes stands held takes =
    let run = run_of cursor.list.run in
    stands_at_code cursor next codes takes.inside
    (λ told. takes.reads page run.first cursor.list.first (sym (ap page (page_of_code run cursor.place codes)) ∙ held told) (reads_at cursor codes stands told))

pub passes_to :
    {told : Bool} {page : ℕ → List ℕ} (cursor : RunCursor) → cursor.list.run.width ≡ 1 → StandsInRun told page cursor → told ≡ true → 0 < cursor.at
    → PassesTo page cursor
passes_to {page = page} cursor codes stands told some =
    let run = run_of cursor.list.run in
    let on : cursor.at ≡ suc (cursor.at - 1) = omega (arith, some) in
    sym (listed_code page run cursor.list.first (cursor.at - 1) (codes_by_width run codes)
    ∙ ap (λ n. last_of (reading_at page run.first run.count cursor.list.first n)) (sym on)
    ∙ ap last_of (reads_at cursor codes stands told))

cases_equal : (a b : ℕ) → (a ≡ b) ⊎ (a ≡ b → ⊥)
cases_equal a b =
    elim (cases_order a b) [
      | inl same ↦ inl same
      | inr apart ↦ elim apart [ inl less ↦ inr (λ same. omega (arith, less, same)) | inr greater ↦ inr (λ same. omega (arith, greater, same)) ]
    ]

-- where they stop
pub stops_at :
    {told : Bool} {page : ℕ → List ℕ} (before : RunCursor) (bytes : List ℕ) (bound low limit : ℕ) (next : Stand) → before.list.run.width ≡ 1
    → StandsInRun told page (record before { at = next.at; place = next.place; last = next.last }) → told ≡ true → page (page_next before) ≡ bytes
    → next.at ≤ before.list.count → limit ≡ min before.rows low → low ≡ bound - 1
    → (next.at < before.list.count → next.place / 2048 ≡ before.place / 2048 → StopsAt bytes before.list.run.count limit next)
    → StopsAtCode page before (record before { at = next.at; place = next.place; last = next.last }) bound
stops_at {page = page} before bytes bound low limit next codes stands told held inside is below stops =
    let run = run_of before.list.run in
    let now : RunCursor = record before { at = next.at; place = next.place; last = next.last } in
    let here = page_of_code run before.place codes in
    let there = page_of_code run next.place codes in
    elim (cases_lt next.at before.list.count) [
      | inr end ↦ AtEnd (omega (arith, end, inside))
      | inl more ↦ elim (cases_equal (next.place / 2048) (before.place / 2048)) [
        | inr apart ↦ AtPage (λ same. apart (omega (arith, same, here, there)))
        | inl same ↦
            let held_now : page (page_next now) ≡ bytes = ap page (there ∙ ap (λ q. run.first + q) same ∙ sym here) ∙ held in
            let sum : sum_in bytes run.count next ≡ id_in page now next.at = sum_is_next now bytes codes stands told held_now in
            elim (cases_lt (id_in page now next.at) bound) [
              | inl less ↦ AtDamage (λ n. stops more same (omega (arith, sum, n.above)) (omega (arith, sum, n.within, less, is, below)))
              | inr over ↦ AtBound over
            ]
      ]
    ]
