-- Laws for those who make a merge, or do other work between its steps.
use Rattle.std.proofs.Common.{◌≡◌, ◌∙◌, ℕ, zero, suc, ◌+◌, ◌-◌, ◌*◌, ◌/◌, ◌<◌, ◌≤◌, ◌⊎◌, inl, inr, Bool, true, false, if◌then◌else◌, nat_lt, List, [], ◌∷◌, ◌++◌, length, ap, sym, refl, subst, IfSome, Option, None, Some, Result, Ok, Err, arith}
use Rattle.std.specs.Bool.{⊤}
use Rattle.std.proofs.lemmas.Bool.{ltb-true}
use Rattle.std.proofs.lemmas.List.Sums.{sum_by-cons}
use Rattle.ghost_model.specs.forms.Runs as runs
use Rattle.ghost_model.specs.forms.Runs.{page_of, per_page}
use Rattle.ghost_base.specs.Runs.{run_of}
use Rattle.edge_traits.specs.Devices.{Device}
use Rattle.page_pool.specs.Pools.{Pool, IsOut, AreOut, bytes_at, page_at}
use Rattle.page_pool.specs.Laws.{SameBuffer}
use Rattle.flash_pages.specs.declared.cursor.RunCursor.{RunCursor}
use Rattle.flash_pages.specs.declared.fault.PageFault.{PageFault}
use Rattle.flash_pages.specs.declared.fault.PageFault.TheVariants.{Flash, Damaged}
use Rattle.flash_pages.specs.Cursors.{IsReady, IsPageOf, id_in, unread_list}
use Rattle.flash_pages.specs.Faults.{BlamesNoSlot}
use Rattle.flash_pages.proofs.ListFrames.{KeepsRun, listed_kept, stands_kept}
use Rattle.id_merge.specs.declared.cursor.Cursor.{Cursor}
use Rattle.id_merge.specs.declared.cursor.Cursor.TheVariants.{List as OfList, Range}
use Rattle.id_merge.specs.Cursors.{cursor_at, leases_of, left_of, left_in, at_hand_of, at_hand_in, unread_of, unread_in, id_before, ListAscends, IsOfRows, IsRight, CursorRight, AreRight, CursorReady, AllReady, GoesOn, BlamesOutOfRows}
use Rattle.id_merge.proofs.Holding.{lease_out, sum_same}
use Rattle.id_merge.proofs.ListReads.{before_same}
use Rattle.id_merge.proofs.Unread.{few_codes, few_unread}
use Rattle.id_merge.proofs.Setting.{unread_other}

-- the leases of cursors that are joined
pub leases_of-append : (cursors later : List Cursor) → leases_of (cursors ++ later) ≡ leases_of cursors ++ leases_of later
leases_of-append [] later = refl
leases_of-append (OfList run ∷ cursors) later = ap (λ leases. run.lease ∷ leases) (leases_of-append cursors later)
leases_of-append (Range low high ∷ cursors) later = leases_of-append cursors later

nothing_added : (leases : List ℕ) → leases ++ [] ≡ leases
nothing_added [] = refl
nothing_added (lease ∷ leases) = ap (λ rest. lease ∷ rest) (nothing_added leases)

-- what holds of each cursor holds of each where one is added
pub each_pushed :
    (P : Cursor → Type 0) (cursors : List Cursor) (cursor : Cursor) → P (Range 1 0) → ((i : ℕ) → P (cursor_at cursors i)) → P cursor
    → (i : ℕ) → P (cursor_at (cursors ++ cursor ∷ []) i)
each_pushed P [] cursor none each last zero = last
each_pushed P [] cursor none each last (suc i) = none
each_pushed P (first ∷ cursors) cursor none each last zero = each zero
each_pushed P (first ∷ cursors) cursor none each last (suc i) = each_pushed P cursors cursor none (λ k. each (suc k)) last i

-- a list or a range is added to cursors that may be read
pub ready_list :
    {told : Bool} {device : Device} {pool : Pool} (cursors : List Cursor) (run : RunCursor) → AllReady told device pool cursors
    → IsReady told device pool run → AreOut pool (leases_of cursors ++ run.lease ∷ []) → AllReady told device pool (cursors ++ OfList run ∷ [])
ready_list {told = told} {device = device} {pool = pool} cursors run ready last out =
    let P : List ℕ → Type 0 = AreOut pool in
    record {
      each = each_pushed (CursorReady told device pool) cursors (OfList run) tt ready.each last;
      leases = subst P (sym (leases_of-append cursors (OfList run ∷ []))) out;
    }

pub ready_range :
    {told : Bool} {device : Device} {pool : Pool} (cursors : List Cursor) (low high : ℕ) → AllReady told device pool cursors
    → AllReady told device pool (cursors ++ Range low high ∷ [])
ready_range {told = told} {device = device} {pool = pool} cursors low high ready =
    let P : List ℕ → Type 0 = AreOut pool in
    record {
      each = each_pushed (CursorReady told device pool) cursors (Range low high) tt ready.each tt;
      leases = subst P (sym (leases_of-append cursors (Range low high ∷ []) ∙ nothing_added (leases_of cursors))) ready.leases;
    }

-- pages are as they were where the lists have their identifiers
pub record SamePages (before now : Device) (run : RunCursor) : Type 0 where
  pub page_count : now.page_count ≡ before.page_count
  pub pages : (number : ℕ) → IsPageOf (run_of run.list.run) number → now.page number ≡ before.page number

pub keeps_run : {before now : Device} (run : RunCursor) → SamePages before now run → KeepsRun before.page now.page (run_of run.list.run)
keeps_run run same place within = same.pages (page_of (run_of run.list.run) place) (record { place = place; within = within; is = refl })

filled_same :
    (told : Bool) (before now : Device) (run : RunCursor) (page : Option ℕ) (bytes : List ℕ) → SamePages before now run
    → IfSome page (IsPageOf (run_of run.list.run)) → IfSome page (λ number. told ≡ true → bytes ≡ before.page number)
    → IfSome page (λ number. told ≡ true → bytes ≡ now.page number)
filled_same told before now run None bytes same is was = tt
filled_same told before now run (Some number) bytes same is was = λ tells. was tells ∙ sym (same.pages number is)

-- a list may still be read after other work, which left its pages and its buffer as they were
pub ready_same :
    {told : Bool} {before now : Device} {pool later : Pool} (run : RunCursor) → SamePages before now run → IsOut later run.lease
    → SameBuffer pool later run.lease → IsReady told before pool run → IsReady told now later run
ready_same {told = told} {before = before} {now = now} {pool = pool} {later = later} run pages out same was =
    let P : Option ℕ → Type 0 = λ page. IfSome page (IsPageOf (run_of run.list.run)) in
    let Q : Option ℕ → Type 0 = λ page. IfSome page (λ number. told ≡ true → bytes_at later run.lease ≡ now.page number) in
    let R : List ℕ → Type 0 = λ bytes. IfSome (page_at pool run.lease) (λ number. told ≡ true → bytes ≡ now.page number) in
    record {
      run = record {
        some = was.run.some;
        fits = was.run.fits;
        pages = λ i within. omega (arith, was.run.pages i within, pages.page_count);
        small = omega (arith, was.run.small, pages.page_count);
      };
      width = was.width;
      list = was.list;
      at = was.at;
      stands = stands_kept was.at was.list (λ tells. keeps_run run pages) was.stands;
      page = subst P (sym same.filled) was.page;
      buffer = record {
        out = out;
        filled = subst Q (sym same.filled)
            (subst R (sym same.bytes)
            (filled_same told before now run (page_at pool run.lease) (bytes_at pool run.lease) pages was.page was.buffer.filled));
      };
    }

-- so may several
one_same :
    (told : Bool) (before now : Device) (pool later : Pool) (cursor : Cursor)
    → ((run : RunCursor) → cursor ≡ OfList run → SamePages before now run × (IsOut later run.lease × SameBuffer pool later run.lease))
    → CursorReady told before pool cursor → CursorReady told now later cursor
one_same told before now pool later (OfList run) same was = let s = same run refl in ready_same run s.0 s.1.0 s.1.1 was
one_same told before now pool later (Range low high) same was = tt

pub all_ready_same :
    (told : Bool) (before now : Device) (pool later : Pool) (cursors : List Cursor)
    → ((i : ℕ) (run : RunCursor) → cursor_at cursors i ≡ OfList run → SamePages before now run × SameBuffer pool later run.lease)
    → AreOut later (leases_of cursors) → AllReady told before pool cursors → AllReady told now later cursors
all_ready_same told before now pool later cursors same out was = record {
  each = λ i.
      one_same told before now pool later (cursor_at cursors i)
      (λ run is. let s = same i run is in (s.0, (lease_out later cursors i run is out, s.1))) (was.each i);
  leases = out;
}

-- and has the same identifiers ahead
pub id_same :
    (before now : Device) (run : RunCursor) (i : ℕ) → SamePages before now run → run.list.first + run.list.count ≤ run.list.run.count
    → i < run.list.count → id_in now.page run i ≡ id_in before.page run i
id_same before now run i same list within =
    listed_kept before.page now.page (run_of run.list.run) run.list.first i (omega (arith, list, within)) (keeps_run run same)

pub right_same :
    (before now : Device) (right : ℕ → List ℕ) (run : RunCursor) → SamePages before now run
    → run.list.first + run.list.count ≤ run.list.run.count → IsRight before.page right run → IsRight now.page right run
right_same before now right run same list was = record {
  ascends = was.ascends;
  same = λ i from within of.
      let is = id_same before now run i same list within in
      let P : ℕ → Type 0 = IsOfRows run in
      is ∙ was.same i from within (subst P is of);
}

right_one :
    (told : Bool) (before now : Device) (pool : Pool) (right : ℕ → List ℕ) (cursor : Cursor)
    → ((run : RunCursor) → cursor ≡ OfList run → SamePages before now run) → CursorReady told before pool cursor
    → CursorRight before.page right cursor → CursorRight now.page right cursor
right_one told before now pool right (OfList run) same ready was = right_same before now right run (same run refl) ready.list was
right_one told before now pool right (Range low high) same ready was = tt

-- the pages stay right after other work, which left those of the lists as they were
pub all_right_same :
    (told : Bool) (before now : Device) (pool : Pool) (right : ℕ → List ℕ) (cursors : List Cursor)
    → ((i : ℕ) (run : RunCursor) → cursor_at cursors i ≡ OfList run → SamePages before now run) → AllReady told before pool cursors
    → AreRight before.page right cursors → AreRight now.page right cursors
all_right_same told before now pool right cursors same ready was i =
    right_one told before now pool right (cursor_at cursors i) (same i) (ready.each i) (was i)

-- pages are right by themselves where the lists ascend
pub right_alone : (page : ℕ → List ℕ) (run : RunCursor) → ListAscends page run → IsRight page page run
right_alone page run ascends = record { ascends = ascends; same = λ i from within of. refl }

-- no slot is out of range there
none_out : (page : ℕ → List ℕ) (run : RunCursor) → run.at < run.list.count → ListAscends page run → IsOfRows run (id_in page run run.at)
none_out page run within ascends =
    record { some = omega (arith, ascends.above run.at (omega arith) within); within = ascends.within run.at (omega arith) within }

pub none_blamed :
    {T : Type 0} (page : ℕ → List ℕ) (cursors : List Cursor) (result : Result T PageFault) → AreRight page page cursors
    → BlamesOutOfRows page cursors result → BlamesNoSlot result
none_blamed page cursors (Ok answer) was out = tt
none_blamed page cursors (Err Flash) was out = tt
none_blamed page cursors (Err (Damaged number slot found)) was out =
    let P : Cursor → Type 0 = CursorRight page page in
    let of_run : IsRight page page out.run = subst P out.is (was out.at) in
    out.out (none_out page out.run out.within of_run.ascends)

-- where the last identifier is that before the next one, it still is after more of them
pub last_is_before :
    (told : Bool) (page : ℕ → List ℕ) (before now : RunCursor) → told ≡ true → GoesOn told page before now
    → before.last ≡ id_before page before before.at → now.last ≡ id_before page now now.at
last_is_before told page before now tells goes_on was =
    elim goes_on.stands [
      | inl stands ↦ stands.last ∙ was ∙ ap (id_before page before) (sym stands.at) ∙ sym (before_same page before now now.at goes_on.list)
      | inr passed ↦ passed.is tells ∙ sym (before_same page before now now.at goes_on.list)
    ]

-- as many pages are still to be read where the buffers are as they were
pub unread_same :
    (pool later : Pool) (cursors : List Cursor)
    → ((i : ℕ) (run : RunCursor) → cursor_at cursors i ≡ OfList run → SameBuffer pool later run.lease) → unread_in later cursors ≡ unread_in pool cursors
unread_same pool later cursors same =
    sum_same (unread_of pool) (unread_of later) cursors (λ i. unread_other (cursor_at cursors i) (same i))

-- few are of lists of identifiers alone, of four bytes each or as codes: one for 512, and two more for a list
abbrev pub IsOfIds : Cursor → Type 0
IsOfIds (OfList run) = ((run.list.run.width ≡ 1) ⊎ ((run.list.run.width ≡ 4) × (run.place ≡ run.list.first + run.at))) × (run.at ≤ run.list.count)
IsOfIds (Range low high) = ⊤

more_below : (n : ℕ) → n / 682 ≤ n / 512
more_below n = omega arith

pub few_of_list : (pool : Pool) (run : RunCursor) → IsOfIds (OfList run) → unread_list pool run ≤ (run.list.count - run.at) / 512 + 2
few_of_list pool run of =
    elim of.0 [
      | inl codes ↦ omega (arith, few_codes pool run codes, more_below (run.list.count - run.at))
      | inr plain ↦
          let P : ℕ → Type 0 = λ n. 0 < n → unread_list pool run ≤ (run.list.count - run.at) / n + 2 in
          let is : per_page run.list.run.width ≡ 512 = ap per_page plain.0 in
          subst P is (λ some. few_unread pool run (omega (arith, plain.0)) some plain.1 of.1) (omega arith)
    ]

pub few_in_all :
    (pool : Pool) (cursors : List Cursor) → ((i : ℕ) → IsOfIds (cursor_at cursors i))
    → unread_in pool cursors ≤ left_in cursors / 512 + 2 * length (leases_of cursors)
few_in_all pool [] of = omega arith
few_in_all pool (OfList run ∷ cursors) of =
    omega (
      arith,
      sum_by-cons (unread_of pool) (OfList run) cursors,
      sum_by-cons left_of (OfList run) cursors,
      few_of_list pool run (of zero),
      few_in_all pool cursors (λ i. of (suc i)),
    )
few_in_all pool (Range low high ∷ cursors) of =
    omega (
      arith,
      sum_by-cons (unread_of pool) (Range low high) cursors,
      sum_by-cons left_of (Range low high) cursors,
      few_in_all pool cursors (λ i. of (suc i)),
    )

-- what lists that are begun have at hand is no more than what is in them
abbrev pub IsBegun : Cursor → Type 0
IsBegun (OfList run) = run.last ≡ 0
IsBegun (Range low high) = ⊥

abbrev bit : Bool → ℕ
bit b = if b then 1 else 0

bit_none : (b : Bool) → (b ≡ true → ⊥) → bit b ≡ 0
bit_none true none = absurd (none refl)
bit_none false none = refl

none_looked_at : (last at : ℕ) → at ≡ 0 → bit (nat_lt last at) ≡ 0
none_looked_at last at is = bit_none (nat_lt last at) (λ less. omega (arith, is, ltb-true last at less))

pub hand_begun : (last : ℕ) (cursors : List Cursor) → ((i : ℕ) → i < length cursors → IsBegun (cursor_at cursors i)) → at_hand_in last cursors ≤ left_in cursors
hand_begun last [] begun = omega arith
hand_begun last (OfList run ∷ cursors) begun =
    let here : run.last ≡ 0 = begun zero (omega arith) in
    omega (
      arith,
      sum_by-cons (at_hand_of last) (OfList run) cursors,
      sum_by-cons left_of (OfList run) cursors,
      none_looked_at last run.last here,
      hand_begun last cursors (λ i within. begun (suc i) (omega (arith, within))),
    )
hand_begun last (Range low high ∷ cursors) begun = absurd (begun zero (omega arith))
