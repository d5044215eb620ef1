-- What one call on a list does to what its cursor has ahead.
use Rattle.std.proofs.Common.{◌≡◌, ◌∙◌, ℕ, zero, suc, ◌+◌, ◌-◌, ◌<◌, ◌≤◌, ◌⊎◌, inl, inr, Bool, true, false, nat_lt, List, ◌∷◌, ap, sym, refl, subst, Result, Ok, Err, Option, Some, None, arith}
use Rattle.std.proofs.Common.{IfOk, IfSome, OnErr, MatchOption}
use Rattle.std.proofs.lemmas.Bool.{cases_order}
use Rattle.edge_traits.proofs.DeviceFrames.{kept_trans}
use Rattle.page_pool.proofs.Leases.{change_trans}
use Rattle.edge_traits.specs.Devices.{Device, next_if}
use Rattle.page_pool.specs.Pools.{Pool, ChangesPage}
use Rattle.flash_pages.specs.declared.fault.PageFault.{PageFault}
use Rattle.flash_pages.specs.declared.fault.PageFault.TheVariants.{Flash, Damaged}
use Rattle.flash_pages.specs.Cursors.{IsReady, CursorReads, GivesNext, GivesPass, LeavesUnread, StandsAt, id_in, unread_list, will_read}
use Rattle.flash_pages.specs.Reads.{WasGiven}
use Rattle.ghost_model.specs.forms.Runs as runs
use Rattle.ghost_model.specs.forms.Gaps.{listed, listed_from}
use Rattle.ghost_base.specs.declared.runs.ListRef.{ListRef}
use Rattle.ghost_base.specs.Runs.{run_of}
use Rattle.flash_pages.specs.declared.cursor.RunCursor.{RunCursor}
use Rattle.flash_pages.specs.Cursors.{SameList, IsNext, GivesId, Passes, PassesTo, ids_left}
use Rattle.id_merge.specs.declared.cursor.Cursor.{Cursor}
use Rattle.id_merge.specs.declared.cursor.Cursor.TheVariants.{List as OfList}
use Rattle.id_merge.specs.Cursors.{IsLeft, ListAscends, IsOfRows, IsRight, IsAtMost, Passed, GoesOn, at_hand_of, id_before}
use Rattle.id_merge.specs.Merges.{MadeNone, FailedOne}
use Rattle.id_merge.specs.Moving.{Advances, RunMoves, CallIf, tries_left}
use Rattle.id_merge.proofs.Counts.{call_of, none_made}
use Rattle.id_merge.proofs.Unread.{bit_most}

-- the list's identifiers go by the list alone
pub id_same : (page : ℕ → List ℕ) (before now : RunCursor) → SameList before now → (i : ℕ) → id_in page now i ≡ id_in page before i
id_same page before now same i = ap (λ (list : ListRef). listed page (run_of list.run) list.first i) same.list

pub count_same : (before now : RunCursor) → SameList before now → now.list.count ≡ before.list.count
count_same before now same = ap (λ (list : ListRef). list.count) same.list

-- the first of the identifiers from a number on is that of the number
first_of :
    (page : ℕ → List ℕ) (run : runs.Run) (begin at n id : ℕ) (rest : List ℕ) → 0 < n → listed_from page run begin at n ≡ id ∷ rest
    → id ≡ listed page run begin at
unfolding listed_from
first_of page run begin at zero id rest some is = absurd (omega arith)
first_of page run begin at (suc n) id rest some is = cc

pub next_id :
    {page : ℕ → List ℕ} {before now : RunCursor} {id : ℕ} → before.at < before.list.count → GivesId page before now id
    → id ≡ id_in page before before.at
next_id {page = page} {before = before} {now = now} {id = id} more gives =
    first_of page (run_of before.list.run) before.list.first before.at (before.list.count - before.at) id (ids_left page now) (omega arith) gives.left

-- an identifier that is still to come after a call was so before it
still_left :
    (page : ℕ → List ℕ) (before now : RunCursor) (id : ℕ) → SameList before now → before.at ≤ now.at → IsLeft page now id → IsLeft page before id
still_left page before now id same further left = record {
  at = left.at;
  from = omega arith;
  within = omega (arith, left.within, count_same before now same);
  is = left.is ∙ id_same page before now same left.at;
}

-- an identifier to come of a cursor that goes on to a later one, from that one on
later_left :
    (page : ℕ → List ℕ) (before now : RunCursor) (id : ℕ) → SameList before now → (left : IsLeft page before id) → now.at ≤ left.at → IsLeft page now id
later_left page before now id same left from = record {
  at = left.at;
  from = from;
  within = omega (arith, left.within, count_same before now same);
  is = left.is ∙ sym (id_same page before now same left.at);
}

-- a cursor that stands after an identifier of the list, which is its last one, ascends as before
pub ascends_on :
    (page : ℕ → List ℕ) (before now : RunCursor) → SameList before now → before.at < now.at → now.at ≤ before.list.count
    → now.last ≡ id_in page before (now.at - 1) → ListAscends page before → ListAscends page now
ascends_on page before now same further within last was = record {
  above = λ i from below.
      omega (
        arith,
        id_same page before now same i,
        count_same before now same,
        was.order (now.at - 1) i (omega arith) (omega arith) (omega (arith, below, count_same before now same)),
      );
  order = λ i j from less below.
      omega (
        arith,
        id_same page before now same i,
        id_same page before now same j,
        was.order i j (omega arith) less (omega (arith, below, count_same before now same)),
      );
  within = λ i from below.
      omega (
        arith,
        id_same page before now same i,
        same.rows,
        was.within i (omega arith) (omega (arith, below, count_same before now same)),
      );
}

-- what was ahead of it, and is not below an identifier above each passed over, still is
pub advances_on :
    (page right : ℕ → List ℕ) (low : ℕ) (before now : RunCursor) → SameList before now → before.at < now.at → now.at ≤ before.list.count
    → now.last ≡ id_in page before (now.at - 1) → IsOfRows before now.last → before.last < low → now.last < low ⊎ (now.at ≡ before.at + 1)
    → IsRight page right before → Advances page right low (OfList before) (OfList now)
advances_on page right low before now same further within is rows below passed was =
    let last : now.last ≡ id_in right before (now.at - 1) =
    let P : ℕ → Type 0 = IsOfRows before in
    is ∙ was.same (now.at - 1) (omega arith) (omega arith) (subst P is rows) in
    record {
      still = record {
        ascends = ascends_on right before now same further within last was.ascends;
        same = λ i from inside.
            let P : ℕ → Type 0 = λ id. IsOfRows now id → id ≡ id_in right now i in
            subst P (sym (id_same page before now same i))
            (λ of. was.same i (omega arith) (omega (arith, inside, count_same before now same))
            (record { some = of.some; within = omega (arith, of.within, same.rows) })
            ∙ sym (id_same right before now same i));
      };
      fewer = λ id ahead.
          elim ahead [
            | inl is_last ↦ inr (record {
              at = now.at - 1;
              from = omega arith;
              within = omega arith;
              is = is_last ∙ last;
            })
            | inr left ↦ inr (still_left right before now id same (omega arith) left)
          ];
      same = λ id above ahead.
          elim ahead [
            | inl is_last ↦ absurd (omega arith)
            | inr left ↦ elim (cases_order left.at (now.at - 1)) [
              | inl same_place ↦ inl (left.is ∙ (ap (id_in right before) same_place ∙ sym last))
              | inr apart ↦ elim apart [
                | inl less ↦ elim passed [
                  | inl low_last ↦ absurd (omega (arith, left.is, was.ascends.order left.at (now.at - 1) left.from less (omega arith)))
                  | inr one ↦ absurd (omega (arith, left.from))
                ]
                | inr greater ↦ inr (later_left right before now id same left (omega arith))
              ]
            ]
          ];
    }

-- a cursor that stays has ahead what it had
stays_ahead : (page right : ℕ → List ℕ) (low : ℕ) (run : RunCursor) → IsRight page right run → Advances page right low (OfList run) (OfList run)
stays_ahead page right low run was = record { still = was; fewer = λ id ahead. ahead; same = λ id above ahead. ahead }

pub before_is : (page : ℕ → List ℕ) (run : RunCursor) (i : ℕ) → 0 < i → id_before page run i ≡ id_in page run (i - 1)
before_is page run zero some = absurd (omega arith)
before_is page run (suc i) some = let e : i ≡ suc i - 1 = omega arith in ap (id_in page run) e

pub run_stays :
    {T : Type 0} {told : Bool} {before now : Device} {pool later : Pool} (low : ℕ) (old new : RunCursor) {result : Result T PageFault}
    → CursorReads told before now pool later old result → IsReady told now later new → SameList old new → new ≡ old
    → RunMoves told low before now pool later old new
run_stays {told = told} {before = before} low old new read ready list is = record {
  kept = read.kept;
  buffer = read.buffer;
  ready = ready;
  given = read.given;
  goes_on = record {
    list = list.list;
    rows = list.rows;
    lease = list.lease;
    stands =
        inl (record {
          at = ap (λ (run : RunCursor). run.at) is;
          place = ap (λ (run : RunCursor). run.place) is;
          last = ap (λ (run : RunCursor). run.last) is;
        });
  };
  at_most = λ most was. let P : RunCursor → Type 0 = λ run. IsAtMost most (OfList run) in subst P (sym is) was;
  hand = λ last.
      let same : at_hand_of last (OfList new) ≡ at_hand_of last (OfList old) = ap (λ (run : RunCursor). at_hand_of last (OfList run)) is in
      omega (arith, same);
  advances = λ tells right was.
      let P : RunCursor → Type 0 = λ run. Advances before.page right low (OfList old) (OfList run) in
      subst P (sym is) (stays_ahead before.page right low old was);
}

run_goes :
    {T : Type 0} {told : Bool} {before now : Device} {pool later : Pool} (low : ℕ) (old new : RunCursor) {result : Result T PageFault}
    → CursorReads told before now pool later old result → IsReady told now later new → SameList old new
    → old.at < new.at → new.at ≤ old.list.count → old.last < new.last → new.last ≤ old.rows → old.last < low → new.last < low ⊎ (new.at ≡ old.at + 1)
    → (told ≡ true → new.last ≡ id_in before.page old (new.at - 1))
    → RunMoves told low before now pool later old new
run_goes {told = told} {before = before} low old new read ready list further within above rows below passed last = record {
  kept = read.kept;
  buffer = read.buffer;
  ready = ready;
  given = read.given;
  goes_on = record {
    list = list.list;
    rows = list.rows;
    lease = list.lease;
    stands = inr (record {
      further = further;
      above = above;
      within = rows;
      is = λ tells. last tells ∙ sym (before_is before.page old new.at (omega arith));
    });
  };
  at_most = λ most was. (omega (arith, was.0, list.rows), omega (arith, was.0));
  hand = λ floor. omega (arith, count_same old new list, list.rows, bit_most (nat_lt floor new.last));
  advances = λ tells right was.
      advances_on before.page right low old new list further within (last tells) (record { some = omega arith; within = rows }) below passed was;
}

-- what it passed to, where pages are told
pub gives_last :
    {told : Bool} {page : ℕ → List ℕ} {before now : RunCursor} {low : ℕ} (result : Result Bool PageFault)
    → (told ≡ true → GivesPass page before now low result) → IfOk result (λ passed. passed ≡ true → told ≡ true → PassesTo page now)
gives_last (Ok passed) gives = λ is tells. (gives tells).gives is
gives_last (Err fault) gives = tt

pub pass_moves :
    {told : Bool} {before now : Device} {pool later : Pool} (low : ℕ) (old new : RunCursor) (result : Result Bool PageFault)
    → old.last < low → CursorReads told before now pool later old result → IsReady told now later new → SameList old new
    → IfOk result (λ passed. passed ≡ true → Passes old new low) → IfOk result (λ passed. passed ≡ true → told ≡ true → PassesTo before.page new)
    → IfOk result (λ passed. passed ≡ false → new ≡ old) → OnErr result (new ≡ old)
    → RunMoves told low before now pool later old new
pass_moves low old new (Ok true) below read ready list passes gives stays fault =
    let p = passes refl in
    run_goes low old new read ready list p.further p.within p.above p.rows below (inl p.below)
    (λ tells. gives refl tells ∙ id_same _ old new list (new.at - 1))
pass_moves low old new (Ok false) below read ready list passes gives stays fault = run_stays low old new read ready list (stays refl)
pass_moves low old new (Err e) below read ready list passes gives stays fault = run_stays low old new read ready list fault

pub next_moves :
    {told : Bool} {before now : Device} {pool later : Pool} (low : ℕ) (old new : RunCursor) (result : Result (Option ℕ) PageFault)
    → old.last < low → old.at < old.list.count → CursorReads told before now pool later old result → IsReady told now later new
    → SameList old new → (told ≡ true → GivesNext before.page old new result)
    → IfOk result (λ next. MatchOption next ((old.at ≡ old.list.count) × (new ≡ old)) (λ _. (old.at < old.list.count) × (new.at ≡ old.at + 1)))
    → IfOk result (λ next. IfSome next (λ id. IsNext old id × (new.last ≡ id))) → OnErr result (new ≡ old)
    → RunMoves told low before now pool later old new
next_moves low old new (Ok (Some id)) below more read ready list gives step in_order fault =
    run_goes low old new read ready list (omega (arith, step.1)) (omega (arith, step.1)) (omega (arith, in_order.1, in_order.0.above))
    (omega (arith, in_order.1, in_order.0.within)) below (inr step.1)
    (λ tells. in_order.1 ∙ (next_id more (gives tells) ∙ ap (id_in _ old) (omega (arith, step.1))))
next_moves low old new (Ok None) below more read ready list gives step in_order fault = absurd (omega (arith, step.0))
next_moves low old new (Err e) below more read ready list gives step in_order fault = run_stays low old new read ready list fault

-- what the call counts, whether it read the page or not: only a read fails
abbrev pub ReadTells : {T : Type 0} → (reads : Bool) → (before now : Device) → (unread left : ℕ) → Result T PageFault → Type 0
ReadTells reads before now unread left (Ok answer) = CallIf reads before now unread left
ReadTells reads before now unread left (Err Flash) = (reads ≡ true) × FailedOne before now unread left
ReadTells reads before now unread left (Err (Damaged number slot found)) = CallIf reads before now unread left

pub read_tells :
    {T : Type 0} {told : Bool} {before now : Device} {pool later : Pool} (old new : RunCursor) (result : Result T PageFault)
    → CursorReads told before now pool later old result → LeavesUnread (will_read pool old) (unread_list pool old) (unread_list later new) result
    → ReadTells (will_read pool old) before now (unread_list pool old) (unread_list later new) result
read_tells {pool = pool} {later = later} old new (Ok answer) read unread =
    call_of _ _ _ (unread_list later new) (will_read pool old) read.calls read.deep_reads read.no_fault unread
read_tells {before = before} old new (Err Flash) read unread = (
  read.fault.made,
  record {
    calls = read.calls ∙ ap (λ (r : Bool). next_if r before.calls) read.fault.made;
    cause = read.fault.cause;
    last = read.fault.last;
    as_many = unread;
  },
)
read_tells {pool = pool} {later = later} old new (Err (Damaged number slot found)) read unread =
    call_of _ _ _ (unread_list later new) (will_read pool old) read.calls read.deep_reads read.fault unread

-- without a read, no call
pub quiet_read :
    {T : Type 0} {reads : Bool} {before now : Device} {unread left : ℕ} (result : Result T PageFault) → reads ≡ false
    → ReadTells reads before now unread left result → MadeNone before now unread left
quiet_read (Ok answer) none tells = none_made none tells
quiet_read (Err Flash) none tells = absurd (cc)
quiet_read (Err (Damaged number slot found)) none tells = none_made none tells

-- what is counted where an answer came
pub ok_tells :
    {T : Type 0} {reads called : Bool} (before now : Device) (unread left : ℕ) (result : Result T PageFault) (answer : T) → result ≡ Ok answer
    → reads ≡ called → ReadTells called before now unread left result → CallIf reads before now unread left
ok_tells {T = T} {called = called} before now unread left result answer is same tells =
    let P : Result T PageFault → Type 0 = ReadTells called before now unread left in
    let Q : Bool → Type 0 = λ reads. CallIf reads before now unread left in
    subst Q (sym same) (subst P is tells)

-- an identifier was taken
pub took_fewer :
    (old new : RunCursor) (result : Result (Option ℕ) PageFault) (answer : Option ℕ) → result ≡ Ok answer → old.at < old.list.count → SameList old new
    → IfOk result (λ next. MatchOption next ((old.at ≡ old.list.count) × (new ≡ old)) (λ _. (old.at < old.list.count) × (new.at ≡ old.at + 1)))
    → tries_left new false < tries_left old false
took_fewer old new result (Some id) is more list step =
    let P : Result (Option ℕ) PageFault → Type 0 = λ result.
    IfOk result (λ next. MatchOption next ((old.at ≡ old.list.count) × (new ≡ old)) (λ _. (old.at < old.list.count) × (new.at ≡ old.at + 1))) in
    let taken : (old.at < old.list.count) × (new.at ≡ old.at + 1) = subst P is step in
    omega (arith, count_same old new list, taken.1, more)
took_fewer old new result None is more list step =
    let P : Result (Option ℕ) PageFault → Type 0 = λ result.
    IfOk result (λ next. MatchOption next ((old.at ≡ old.list.count) × (new ≡ old)) (λ _. (old.at < old.list.count) × (new.at ≡ old.at + 1))) in
    let end : (old.at ≡ old.list.count) × (new ≡ old) = subst P is step in
    absurd (omega (arith, more, end.0))

-- two calls, one after the other
pub advance_trans :
    (page right : ℕ → List ℕ) {low low' : ℕ} {a b c : Cursor} → low ≤ low' → Advances page right low a b → Advances page right low' b c
    → Advances page right low' a c
advance_trans page right less first second = record {
  still = second.still;
  fewer = λ id ahead. first.fewer id (second.fewer id ahead);
  same = λ id above ahead. second.same id above (first.same id (omega arith) ahead);
}

-- a page was tried, and the cursor stands where it stood or farther on
pub tries_fewer : {told : Bool} {page : ℕ → List ℕ} {before now : RunCursor} → GoesOn told page before now → tries_left now false < tries_left before true
tries_fewer {before = before} {now = now} goes_on =
    let count : now.list.count ≡ before.list.count = ap (λ (list : ListRef). list.count) goes_on.list in
    elim goes_on.stands [
      | inl stands ↦ omega (arith, count, stands.at)
      | inr passed ↦ omega (arith, count, passed.further)
    ]

pub before_same : (page : ℕ → List ℕ) (before now : RunCursor) (i : ℕ) → now.list ≡ before.list → id_before page now i ≡ id_before page before i
before_same page before now zero same = refl
before_same page before now (suc i) same = ap (λ (list : ListRef). listed page (run_of list.run) list.first i) same

stands_trans :
    (told : Bool) (page : ℕ → List ℕ) (a b c : RunCursor) → b.list ≡ a.list → b.rows ≡ a.rows → StandsAt a b ⊎ Passed told page a b
    → StandsAt b c ⊎ Passed told page b c → StandsAt a c ⊎ Passed told page a c
stands_trans told page a b c list rows (inl first) (inl second) =
    inl (record { at = second.at ∙ first.at; place = second.place ∙ first.place; last = second.last ∙ first.last })
stands_trans told page a b c list rows (inl first) (inr second) = inr (record {
  further = omega (arith, first.at, second.further);
  above = omega (arith, first.last, second.above);
  within = omega (arith, second.within, rows);
  is = λ tells. second.is tells ∙ before_same page a b c.at list;
})
stands_trans told page a b c list rows (inr first) (inl second) = inr (record {
  further = omega (arith, second.at, first.further);
  above = omega (arith, second.last, first.above);
  within = omega (arith, second.last, first.within);
  is = λ tells. second.last ∙ first.is tells ∙ ap (id_before page a) (sym second.at);
})
stands_trans told page a b c list rows (inr first) (inr second) = inr (record {
  further = omega (arith, second.further, first.further);
  above = omega (arith, second.above, first.above);
  within = omega (arith, second.within, rows);
  is = λ tells. second.is tells ∙ before_same page a b c.at list;
})

pub goes_trans :
    {told : Bool} {page page' : ℕ → List ℕ} (a b c : RunCursor) → page' ≡ page → GoesOn told page a b → GoesOn told page' b c → GoesOn told page a c
goes_trans {told = told} {page = page} a b c same first second =
    let P : (ℕ → List ℕ) → Type 0 = λ page. StandsAt b c ⊎ Passed told page b c in
    record {
      list = second.list ∙ first.list;
      rows = second.rows ∙ first.rows;
      lease = second.lease ∙ first.lease;
      stands = stands_trans told page a b c first.list first.rows first.stands (subst P same second.stands);
    }

pub run_trans :
    {told : Bool} {a b c : Device} {p q r : Pool} (low : ℕ) (x y z : RunCursor)
    → RunMoves told low a b p q x y → RunMoves told low b c q r y z → RunMoves told low a c p r x z
run_trans {told = told} {a = a} {b = b} {c = c} {p = p} {q = q} {r = r} low x y z first second =
    let Buffer : ℕ → Type 0 = λ lease. ChangesPage q r lease in
    let Given : ℕ → Type 0 = λ lease. (since : ℕ) → since ≤ b.calls → WasGiven since b q lease → WasGiven since c r lease in
    let Goes : (ℕ → List ℕ) → (right : ℕ → List ℕ) → Type 0 = λ page right. IsRight page right y → Advances page right low (OfList y) (OfList z) in
    record {
      kept = kept_trans first.kept second.kept;
      buffer = change_trans first.buffer (subst Buffer first.goes_on.lease second.buffer);
      ready = second.ready;
      given = λ since from was. subst Given first.goes_on.lease second.given since (omega (arith, first.kept.never_falls)) (first.given since from was);
      goes_on = goes_trans x y z first.kept.page first.goes_on second.goes_on;
      at_most = λ most was. second.at_most most (first.at_most most was);
      hand = λ last. omega (arith, first.hand last, second.hand last);
      advances = λ tells right was.
          let one = first.advances tells right was in
          let P : (ℕ → List ℕ) → Type 0 = λ page. Goes page right in
          advance_trans a.page right (omega arith) one (subst P first.kept.page (second.advances tells right) one.still);
    }
