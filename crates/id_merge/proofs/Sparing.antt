-- What cursors keep where others write other pages and use other buffers, and how much is left of them at most.
use Rattle.std.proofs.Common.{◌≡◌, ℕ, zero, suc, ◌+◌, ◌-◌, ◌*◌, ◌/◌, ◌%◌, ◌^◌, ◌<◌, ◌≤◌, ◌⊎◌, inl, inr, Bool, true, List, [], ◌∷◌, length, get_or, nat_lt, ap, sym, refl, subst, arith}
use Rattle.std.proofs.lemmas.Bool.{cases_lt}
use Rattle.std.proofs.lemmas.Nat.{div-add-mod'}
use Rattle.std.proofs.Math.Nat.{mod-lt}
use Rattle.std.proofs.lemmas.List.Sums.{sum_by-cons}
use Rattle.ghost_model.specs.forms.Runs.{page_of}
use Rattle.ghost_base.specs.declared.runs.ListRef.{ListRef}
use Rattle.ghost_base.specs.Runs.{run_of}
use Rattle.edge_traits.specs.Devices.{Device, SamePage, ChangesOnly}
use Rattle.page_pool.specs.Pools.{Pool}
use Rattle.page_pool.specs.Laws.{SameBuffer}
use Rattle.page_pool.proofs.Leases.{outs_kept}
use Rattle.flash_pages.specs.declared.cursor.RunCursor.{RunCursor}
use Rattle.flash_pages.specs.Cursors.{IsReady, Codes, Records, page_last, page_next, unread_list, will_read}
use Rattle.flash_pages.proofs.LeaseFrames.{given_kept}
use Rattle.id_merge.specs.declared.cursor.Cursor.{Cursor}
use Rattle.id_merge.specs.declared.cursor.Cursor.TheVariants.{List as OfList, Range}
use Rattle.id_merge.specs.Since.{Since}
use Rattle.id_merge.specs.Cursors.{cursor_at, leases_of, unread_of, unread_in, at_hand_of, at_hand_in, IsAtMost, CursorReady, CursorGiven, ListAscends, SameSource}
use Rattle.id_merge.specs.Spared.{LiesOutside, CursorsStayReady, MergeStaysReady, CursorsStayRight, CursorsStayGiven, UnreadStays, OutsideStays, MergeIsSmall}
use Rattle.id_merge.proofs.Holding.{lease_of_same}
use Rattle.id_merge.proofs.SinceLaws.{may_then}
use Rattle.id_merge.proofs.Laws.{SamePages, id_same, all_ready_same, all_right_same, unread_same}
use Rattle.id_merge.proofs.Unread.{bit_most, few_codes, records_behind}

-- the buffer of a list is one of theirs
pub buffer_spared :
    {pool later : Pool} (cursors : List Cursor) (i : ℕ) (run : RunCursor) → cursor_at cursors i ≡ OfList run
    → ((k : ℕ) → k < length (leases_of cursors) → SameBuffer pool later (get_or (leases_of cursors) k 0)) → SameBuffer pool later run.lease
buffer_spared [] zero run is same = absurd (cc)
buffer_spared [] (suc i) run is same = absurd (cc)
buffer_spared {pool = pool} {later = later} (OfList first ∷ cursors) zero run is same =
    let P : ℕ → Type 0 = λ lease. SameBuffer pool later lease in subst P (lease_of_same first run is) (same 0 (omega arith))
buffer_spared (OfList first ∷ cursors) (suc i) run is same = buffer_spared cursors i run is (λ k within. same (suc k) (omega (arith, within)))
buffer_spared (Range low high ∷ cursors) zero run is same = absurd (cc)
buffer_spared (Range low high ∷ cursors) (suc i) run is same = buffer_spared cursors i run is same

-- a page outside of what others write is as it was
pub page_spared :
    {low high : ℕ} {before now : Device} (number : ℕ) → ChangesOnly low high before now → (number < low) ⊎ (high ≤ number) → SamePage before now number
page_spared number changes (inl below) = changes.below number below
page_spared number changes (inr above) = changes.above number above

-- so are the pages of a list
pub pages_spared :
    {low high : ℕ} {before now : Device} (run : RunCursor) → ChangesOnly low high before now → LiesOutside low high (OfList run) → SamePages before now run
pages_spared {before = before} {now = now} run changes outside = record {
  page_count = changes.page_count;
  pages = λ number is.
      let P : ℕ → Type 0 = λ n. now.page n ≡ before.page n in
      subst P (sym is.is) (page_spared (page_of (run_of run.list.run) is.place) changes (outside is.place is.within)).bytes;
}

pub cursors_stay_ready : CursorsStayReady
cursors_stay_ready low high told before now pool later cursors spares outside ready =
    let O : Cursor → Type 0 = LiesOutside low high in
    all_ready_same told before now pool later cursors
    (λ i run is. (pages_spared run spares.changes (subst O is (outside i)), buffer_spared cursors i run is spares.buffers))
    (outs_kept (leases_of cursors) spares.out ready.leases) ready

pub merge_stays_ready : MergeStaysReady
merge_stays_ready low high told before now pool later merge spares outside can = record {
  some = can.some;
  sums = can.sums;
  cursors = cursors_stay_ready low high told before now pool later merge.cursors.items spares outside can.cursors;
}

pub cursors_stay_right : CursorsStayRight
cursors_stay_right low high told before now pool right cursors changes outside ready was =
    let O : Cursor → Type 0 = LiesOutside low high in
    all_right_same told before now pool right cursors (λ i run is. pages_spared run changes (subst O is (outside i))) ready was

-- a list's identifiers are as they were where its pages are
pub ascends_spared :
    (before now : Device) (run : RunCursor) → SamePages before now run → run.list.first + run.list.count ≤ run.list.run.count
    → ListAscends before.page run → ListAscends now.page run
ascends_spared before now run same inside was = record {
  above = λ i from within. omega (arith, id_same before now run i same inside within, was.above i from within);
  order = λ i j from less within.
      omega (
        arith,
        id_same before now run i same inside (omega (arith, less, within)),
        id_same before now run j same inside within,
        was.order i j from less within,
      );
  within = λ i from within. omega (arith, id_same before now run i same inside within, was.within i from within);
}

given_spared :
    {pool later : Pool} (told : Bool) (since : Since) (before now : Device) (cursor : Cursor)
    → ((at number : ℕ) (bytes : List ℕ) → before.gave at number bytes ≡ true → now.gave at number bytes ≡ true)
    → ((run : RunCursor) → cursor ≡ OfList run → SamePages before now run × SameBuffer pool later run.lease) → CursorReady told before pool cursor
    → CursorGiven since before pool cursor → CursorGiven since now later cursor
given_spared told since before now (OfList run) gave same ready was =
    let s = same run refl in
    record {
      read = given_kept since.calls before now gave s.1 was.read;
      may = may_then (λ tells ascends. ascends_spared before now run s.0 ready.list ascends) was.may;
    }
given_spared told since before now (Range low high) gave same ready was = tt

pub cursors_stay_given : CursorsStayGiven
cursors_stay_given low high told since before now pool later cursors spares outside ready was i =
    let O : Cursor → Type 0 = LiesOutside low high in
    given_spared told since before now (cursor_at cursors i) spares.changes.gave
    (λ run is. (pages_spared run spares.changes (subst O is (outside i)), buffer_spared cursors i run is spares.buffers)) (ready.each i) (was i)

pub unread_stays : UnreadStays
unread_stays low high before now pool later cursors spares = unread_same pool later cursors (λ i run is. buffer_spared cursors i run is spares.buffers)

-- a cursor that goes on lies where it lay
pub outside_same :
    (told : Bool) (page : ℕ → List ℕ) (low high : ℕ) (before now : Cursor) → SameSource told page before now → LiesOutside low high before
    → LiesOutside low high now
outside_same told page low high (OfList before) (OfList now) same outside =
    let P : ListRef → Type 0 = λ list. (i : ℕ) → i < list.run.count → (page_of (run_of list.run) i < low) ⊎ (high ≤ page_of (run_of list.run) i) in
    subst P (sym same.list) outside
outside_same told page low high (OfList before) (Range first last) same outside = absurd same
outside_same told page low high (Range first last) now same outside =
    let P : Cursor → Type 0 = λ cursor. LiesOutside low high cursor in
    subst P (sym same) tt

pub outside_stays : OutsideStays
outside_stays low high told before now pool later old new moves outside i =
    outside_same told before.page low high (cursor_at old i) (cursor_at new i) (moves.same i) (outside i)

-- the places of a run are bounded by the pages that there are
few_places : (i pages : ℕ) → i / 2048 < pages → pages < 2 ^ 32 → i < 2 ^ 43
few_places i pages below small =
    let some : 0 < 2048 = omega arith in
    let slot : i % 2048 < 2048 = mod-lt i some in
    omega (arith, div-add-mod' i 2048, slot, below, small)

few_pages :
    (told : Bool) (device : Device) (pool : Pool) (run : RunCursor) → IsReady told device pool run → unread_list pool run ≤ 2 ^ 35
few_pages told device pool run ready =
    elim (cases_lt 0 run.list.count) [
      | inl some ↦
          let there = ready.run.pages (run.list.first + (run.list.count - 1)) (omega (arith, some, ready.list)) in
          elim ready.width [
            | Codes width ↦
                let P : ℕ → Type 0 = λ w. run.list.run.first + (run.list.first + (run.list.count - 1)) / (2048 / w) < device.page_count in
                let page = subst P width there in
                let few = few_places (run.list.first + (run.list.count - 1)) device.page_count (omega (arith, page)) ready.run.small in
                omega (arith, few_codes pool run width, few)
            | Records width ↦ omega (arith, records_behind run width, there, ready.run.small, bit_most (will_read pool run))
          ]
      | inr none ↦ elim ready.width [
        | Codes width ↦ omega (arith, few_codes pool run width, none)
        | Records width ↦
            let here : run.list.first + (run.list.count - 1) ≡ run.place = omega (arith, none, ready.at, ready.stands.record_is width) in
            let same : page_last run ≡ page_next run = ap (λ place. page_of (run_of run.list.run) place) here in
            omega (arith, records_behind run width, same, bit_most (will_read pool run))
      ]
    ]

few_of :
    (told : Bool) (device : Device) (pool : Pool) (rows last : ℕ) (cursor : Cursor) → rows < 2 ^ 32 → CursorReady told device pool cursor → IsAtMost rows cursor
    → unread_of pool cursor + at_hand_of last cursor ≤ 2 ^ 36
few_of told device pool rows last (OfList run) few ready most =
    omega (arith, few, most.0, few_pages told device pool run ready, bit_most (nat_lt last run.last))
few_of told device pool rows last (Range low high) few ready most = omega (arith, few, most)

few_in :
    (told : Bool) (device : Device) (pool : Pool) (rows last : ℕ) (cursors : List Cursor) → rows < 2 ^ 32
    → ((i : ℕ) → CursorReady told device pool (cursor_at cursors i)) → ((i : ℕ) → IsAtMost rows (cursor_at cursors i))
    → unread_in pool cursors + at_hand_in last cursors ≤ length cursors * 2 ^ 36
few_in told device pool rows last [] few ready most = omega arith
few_in told device pool rows last (cursor ∷ cursors) few ready most =
    omega (
      arith,
      sum_by-cons (unread_of pool) cursor cursors,
      sum_by-cons (at_hand_of last) cursor cursors,
      few_of told device pool rows last cursor few (ready 0) (most 0),
      few_in told device pool rows last cursors few (λ i. ready (suc i)) (λ i. most (suc i)),
    )

pub merge_is_small : MergeIsSmall
merge_is_small told device pool merge rows few length_few ready most =
    omega (arith, length_few, few_in told device pool rows merge.last merge.cursors.items few ready.each most)
