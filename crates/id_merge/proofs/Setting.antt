-- What a call on one list leaves of several cursors.
use Rattle.std.proofs.Common.{◌≡◌, ◌≢◌, ◌∙◌, ℕ, ◌+◌, ◌<◌, ◌≤◌, ◌⊎◌, inl, inr, Bool, true, false, not, ◌&&◌, nat_lt, if◌then◌else◌, List, length, ap, sym, refl, subst, get_or, slice_set, IfSome, IfOk, IfErr, Option, None, Some, Result, Ok, Err, arith}
use Rattle.std.proofs.lemmas.Bool.{cases_eq}
use Rattle.std.proofs.lemmas.List.{get_or-set_same, get_or-set_other, get_or_default, length-set}
use Rattle.edge_traits.specs.Devices.{Device, KeepsPages, GaveSince}
use Rattle.edge_traits.proofs.DeviceFrames.{gave_kept}
use Rattle.page_pool.specs.Pools.{Pool, AreOut, bytes_at, page_at}
use Rattle.page_pool.specs.Laws.{KeepsOut, SameBuffer}
use Rattle.page_pool.proofs.Leases.{out_kept, outs_kept, change_elsewhere}
use Rattle.flash_pages.specs.declared.cursor.RunCursor.{RunCursor}
use Rattle.flash_pages.specs.declared.fault.PageFault.{PageFault}
use Rattle.flash_pages.specs.declared.fault.PageFault.TheVariants.{Flash, Damaged}
use Rattle.flash_pages.specs.Cursors.{IsReady, IsPageOf, SameList, StandsAt, StandsInRun, BlamesNext, page_next, pages_behind, unread_list}
use Rattle.flash_pages.specs.Holding.{is_apart}
use Rattle.flash_pages.specs.Reads.{IsFilled, WasGiven}
use Rattle.ghost_model.specs.forms.Runs as runs
use Rattle.ghost_base.specs.declared.runs.ListRef.{ListRef}
use Rattle.ghost_base.specs.Runs.{run_of}
use Rattle.id_merge.specs.declared.cursor.Cursor.{Cursor}
use Rattle.id_merge.specs.declared.cursor.Cursor.TheVariants.{List as OfList, Range}
use Rattle.id_merge.specs.Since.{Since, IsSince, MayBlame, FaultIsBlamed}
use Rattle.id_merge.specs.Cursors.{cursor_at, nothing, leases_of, unread_of, unread_in, at_hand_of, CursorRight, IsAtMost, CursorReady, AllReady, ListAscends, ListGiven, CursorGiven, AllGiven, Passed, GoesOn, SameSource, FaultBlames, BlamesLists, DamagesLists}
use Rattle.id_merge.specs.Merges.{FailTells}
use Rattle.id_merge.specs.Moving.{Advances, RunMoves, Reaches, CallIf, DamagesRun, Stands, IsAtEndOrFrom}
use Rattle.id_merge.proofs.SinceLaws.{may_then, may_of, list_blamed, none_damaged}
use Rattle.id_merge.proofs.ListReads.{id_same, count_same, ascends_on, before_is}
use Rattle.id_merge.proofs.Holding.{leases_apart, beside_leases, leases_set, sum_set}

-- a buffer that is as it was has what a page has as before
filled_kept :
    (told : Bool) {before now : Device} {pool later : Pool} {lease : ℕ} → KeepsPages before now → SameBuffer pool later lease
    → IsFilled told before.page pool lease → IsFilled told now.page later lease
filled_kept told {before = before} {now = now} {pool = pool} {later = later} {lease = lease} kept same was =
    let P : Option ℕ → Type 0 = λ page. IfSome page (λ number. told ≡ true → bytes_at later lease ≡ before.page number) in
    let Q : List ℕ → Type 0 = λ bytes. IfSome (page_at pool lease) (λ number. told ≡ true → bytes ≡ before.page number) in
    let R : (ℕ → List ℕ) → Type 0 = λ page. IfSome (page_at later lease) (λ number. told ≡ true → bytes_at later lease ≡ page number) in
    subst R (sym kept.page) (subst P (sym same.filled) (subst Q (sym same.bytes) was))

gave_all :
    {before now : Device} (since : ℕ) → KeepsPages before now → (page : Option ℕ) (bytes : List ℕ) → IfSome page (GaveSince since before bytes)
    → IfSome page (GaveSince since now bytes)
gave_all since kept None bytes was = tt
gave_all since kept (Some number) bytes was = gave_kept kept was

pub given_still :
    {before now : Device} {pool later : Pool} {lease : ℕ} (since : ℕ) → KeepsPages before now → SameBuffer pool later lease
    → WasGiven since before pool lease → WasGiven since now later lease
given_still {before = before} {now = now} {pool = pool} {later = later} {lease = lease} since kept same was =
    let P : Option ℕ → Type 0 = λ page. IfSome page (GaveSince since now (bytes_at later lease)) in
    let Q : List ℕ → Type 0 = λ bytes. IfSome (page_at pool lease) (GaveSince since now bytes) in
    subst P (sym same.filled) (subst Q (sym same.bytes) (gave_all since kept (page_at pool lease) (bytes_at pool lease) was))

pub ready_still :
    {told : Bool} {before now : Device} {pool later : Pool} (run : RunCursor) → KeepsPages before now → KeepsOut pool later
    → SameBuffer pool later run.lease → IsReady told before pool run → IsReady told now later run
ready_still {told = told} {pool = pool} run kept out same was =
    let P : Option ℕ → Type 0 = λ page. IfSome page (IsPageOf (run_of run.list.run)) in
    let Q : (ℕ → List ℕ) → Type 0 = λ page. StandsInRun told page run in
    record {
      run = record {
        some = was.run.some;
        fits = was.run.fits;
        pages = λ i within. omega (arith, was.run.pages i within, kept.page_count);
        small = omega (arith, was.run.small, kept.page_count);
      };
      width = was.width;
      list = was.list;
      at = was.at;
      stands = subst Q (sym kept.page) was.stands;
      page = subst P (sym same.filled) was.page;
      buffer = record { out = out_kept out was.buffer.out; filled = filled_kept _ kept same was.buffer.filled };
    }

-- what holds of each cursor and what becomes of it, where one list's cursor changes
set_each :
    (cursors : List Cursor) (i : ℕ) (run new : RunCursor) (P : Cursor → Cursor → Type 0) → i < length cursors → cursor_at cursors i ≡ OfList run
    → P (OfList run) (OfList new) → ((k : ℕ) → k ≢ i → P (cursor_at cursors k) (cursor_at cursors k))
    → (k : ℕ) → P (cursor_at cursors k) (cursor_at (slice_set cursors i (OfList new)) k)
set_each cursors i run new P within is here others k =
    elim (cases_eq k i) [
      | inl same ↦
          let Q : ℕ → Type 0 = λ k. P (cursor_at cursors k) (cursor_at (slice_set cursors i (OfList new)) k) in
          let A : Cursor → Type 0 = λ cursor. P cursor (cursor_at (slice_set cursors i (OfList new)) i) in
          let B : Cursor → Type 0 = λ cursor. P (OfList run) cursor in
          subst Q (sym same) (subst A (sym is) (subst B (sym (get_or-set_same cursors i (OfList new) nothing within)) here))
      | inr apart ↦
          let B : Cursor → Type 0 = λ cursor. P (cursor_at cursors k) cursor in
          subst B (sym (get_or-set_other cursors i k (OfList new) nothing apart)) (others k apart)
    ]

-- the buffer of every other list is as it was
other_same :
    {pool later : Pool} (cursors : List Cursor) (i : ℕ) (run : RunCursor) → cursor_at cursors i ≡ OfList run → AreOut pool (leases_of cursors)
    → ((lease : ℕ) → lease ≢ run.lease → SameBuffer pool later lease)
    → (k : ℕ) → k ≢ i → (other : RunCursor) → cursor_at cursors k ≡ OfList other → SameBuffer pool later other.lease
other_same {pool = pool} cursors i run is out elsewhere k apart other was =
    elsewhere other.lease (leases_apart pool cursors i k run other (λ same. apart (sym same)) is was out)

ready_other :
    (told : Bool) {before now : Device} {pool later : Pool} (cursor : Cursor) → KeepsPages before now → KeepsOut pool later
    → ((run : RunCursor) → cursor ≡ OfList run → SameBuffer pool later run.lease) → CursorReady told before pool cursor → CursorReady told now later cursor
ready_other told (OfList run) kept out same was = ready_still run kept out (same run refl) was
ready_other told (Range low high) kept out same was = tt

-- where a list goes on, its identifiers to come ascend as before
stands_ascends :
    (page : ℕ → List ℕ) (before now : RunCursor) → SameList before now → StandsAt before now ⊎ Passed true page before now
    → now.at ≤ now.list.count → ListAscends page before → ListAscends page now
stands_ascends page before now same (inl stands) within was = record {
  above = λ i from below.
      omega (
        arith,
        id_same page before now same i,
        stands.last,
        was.above i (omega (arith, from, stands.at)) (omega (arith, below, count_same before now same)),
      );
  order = λ i j from less below.
      omega (
        arith,
        id_same page before now same i,
        id_same page before now same j,
        was.order i j (omega (arith, from, stands.at)) less (omega (arith, below, count_same before now same)),
      );
  within = λ i from below.
      omega (
        arith,
        id_same page before now same i,
        same.rows,
        was.within i (omega (arith, from, stands.at)) (omega (arith, below, count_same before now same)),
      );
}
stands_ascends page before now same (inr passed) within was =
    ascends_on page before now same passed.further (omega (arith, within, count_same before now same))
    (passed.is refl ∙ before_is page before now.at (omega (arith, passed.further))) was

goes_ascends :
    {told : Bool} {page : ℕ → List ℕ} (before now : RunCursor) → told ≡ true → now.at ≤ now.list.count → GoesOn told page before now
    → ListAscends page before → ListAscends page now
goes_ascends {page = page} before now tells within goes_on was =
    let P : Bool → Type 0 = λ told. StandsAt before now ⊎ Passed told page before now in
    stands_ascends page before now (record { list = goes_on.list; rows = goes_on.rows; lease = goes_on.lease }) (subst P tells goes_on.stands) within was

-- what was given for a list is given for it where it goes on
pub list_moves :
    {told : Bool} {low : ℕ} {before now : Device} {pool later : Pool} (since : Since) (old new : RunCursor)
    → RunMoves told low before now pool later old new → IsSince told before since → ListGiven since before pool old → ListGiven since now later new
list_moves {told = told} {before = before} {now = now} {later = later} since old new moves is was =
    let P : ℕ → Type 0 = λ lease. WasGiven since.calls now later lease in
    let Q : (ℕ → List ℕ) → Type 0 = λ page. ListAscends page new in
    let R : runs.Run → Type 0 = λ run. MayBlame since run (ListAscends now.page new) in
    record {
      read = subst P (sym moves.goes_on.lease) (moves.given since.calls is.calls was.read);
      may = subst R (sym (ap (λ (list : ListRef). run_of list.run) moves.goes_on.list))
          (may_then
          (λ tells ascends. subst Q (sym moves.kept.page) (goes_ascends old new (sym is.tells ∙ tells) moves.ready.at moves.goes_on ascends))
          was.may);
    }

-- a list that is as it was has what was given
pub list_still :
    {before now : Device} {pool later : Pool} (since : Since) (run : RunCursor) → KeepsPages before now → SameBuffer pool later run.lease
    → ListGiven since before pool run → ListGiven since now later run
list_still {now = now} since run kept same was =
    let P : (ℕ → List ℕ) → Type 0 = λ page. ListAscends page run in
    record {
      read = given_still since.calls kept same was.read;
      may = may_then (λ tells ascends. subst P (sym kept.page) ascends) was.may;
    }

given_other :
    {before now : Device} {pool later : Pool} (since : Since) (cursor : Cursor) → KeepsPages before now
    → ((run : RunCursor) → cursor ≡ OfList run → SameBuffer pool later run.lease) → CursorGiven since before pool cursor → CursorGiven since now later cursor
given_other since (OfList run) kept same was = list_still since run kept (same run refl) was
given_other since (Range low high) kept same was = tt

pub same_source : (told : Bool) (page : ℕ → List ℕ) (cursor : Cursor) → SameSource told page cursor cursor
same_source told page (OfList run) = record { list = refl; rows = refl; lease = refl; stands = inl (record { at = refl; place = refl; last = refl }) }
same_source told page (Range low high) = refl

pub advance_none : (page right : ℕ → List ℕ) (low : ℕ) (cursor : Cursor) → CursorRight page right cursor → Advances page right low cursor cursor
advance_none page right low cursor was = record { still = was; fewer = λ id ahead. ahead; same = λ id above ahead. ahead }

pub reaches_set :
    {told : Bool} {low : ℕ} {before now : Device} {pool later : Pool} (cursors : List Cursor) (i : ℕ) (run new : RunCursor)
    → i < length cursors → cursor_at cursors i ≡ OfList run → AllReady told before pool cursors → RunMoves told low before now pool later run new
    → Reaches told low before now pool later cursors (slice_set cursors i (OfList new))
reaches_set {told = told} {low = low} {before = before} {now = now} {pool = pool} {later = later} cursors i run new within is ready moves =
    let out : KeepsOut pool later = record { out = moves.buffer.out; size = moves.buffer.size } in
    let others = other_same cursors i run is ready.leases (λ lease apart. change_elsewhere moves.buffer apart) in
    let leases = leases_set cursors i run new is moves.goes_on.lease in
    let Out : List ℕ → Type 0 = λ leases. AreOut later leases in
    record {
      moves = record {
        kept = moves.kept;
        out = moves.buffer.out;
        others = record {
          size = moves.buffer.size;
          bytes = λ other was. moves.buffer.bytes other (beside_leases pool cursors i other run is was);
          filled = λ other was. moves.buffer.filled other (beside_leases pool cursors i other run is was);
        };
        given = λ since from was k. set_each cursors i run new (λ old cursor. CursorGiven since before pool old → CursorGiven since now later cursor) within is
            (list_moves since run new moves from)
            (λ k apart. given_other since (cursor_at cursors k) moves.kept (others k apart)) k (was k);
        count = length-set cursors i (OfList new);
        same = set_each cursors i run new (SameSource told before.page) within is moves.goes_on (λ k apart. same_source told before.page (cursor_at cursors k));
        leases = leases;
        at_most = λ most was k. set_each cursors i run new (λ old cursor. IsAtMost most old → IsAtMost most cursor) within is
            (moves.at_most most) (λ k apart at_most. at_most) k (was k);
      };
      ready = record {
        each = set_each cursors i run new (λ old cursor. CursorReady told now later cursor) within is moves.ready
            (λ k apart. ready_other told (cursor_at cursors k) moves.kept out (others k apart) (ready.each k));
        leases = subst Out (sym leases) (outs_kept (leases_of cursors) out ready.leases);
      };
      hand = λ last.
          let whole = sum_set (at_hand_of last) (at_hand_of last) cursors i (OfList new) within (λ k apart. refl) in
          let was : at_hand_of last (cursor_at cursors i) ≡ at_hand_of last (OfList run) = ap (at_hand_of last) is in
          omega (arith, whole, was, moves.hand last);
      advances = λ tells right was k.
          set_each cursors i run new (λ old cursor. CursorRight before.page right old → Advances before.page right low old cursor) within is
          (moves.advances tells right) (λ k apart. advance_none before.page right low (cursor_at cursors k)) k (was k);
    }

-- the other cursors stay as they are
pub others_set :
    (cursors : List Cursor) (i : ℕ) (cursor : Cursor) → (k : ℕ) → k ≢ i → cursor_at (slice_set cursors i cursor) k ≡ cursor_at cursors k
others_set cursors i cursor k apart = get_or-set_other cursors i k cursor nothing apart

-- the slot that is blamed is one of a list of theirs, in a run of which one may be: its identifiers do not ascend
pub blames_set :
    {told : Bool} {device : Device} {pool : Pool} (since : Since) (cursors : List Cursor) (i : ℕ) (new : RunCursor) → i < length cursors
    → (result : Result Bool PageFault) → since.told ≡ told → IsReady told device pool new → ListGiven since device pool new
    → (told ≡ true → DamagesRun device.page new result) → BlamesNext since.calls device new result
    → BlamesLists since device (slice_set cursors i (OfList new)) result
blames_set since cursors i new within (Ok stands) tells ready given damages blames = tt
blames_set since cursors i new within (Err Flash) tells ready given damages blames = tt
blames_set {device = device} since cursors i new within (Err (Damaged number slot found)) tells ready given damages blames = record {
  at = i;
  run = new;
  is = get_or-set_same cursors i (OfList new) nothing within;
  may = may_of (λ told ascends. none_damaged device.page new found ascends (damages (sym tells ∙ told)).damage) given.may;
  inside = ready.stands.within blames.within;
  blames = blames;
}

pub damages_set :
    (page : ℕ → List ℕ) (cursors : List Cursor) (i : ℕ) (new : RunCursor) → i < length cursors → (result : Result Bool PageFault)
    → DamagesRun page new result → DamagesLists page (slice_set cursors i (OfList new)) result
damages_set page cursors i new within (Ok stands) damage = tt
damages_set page cursors i new within (Err Flash) damage = tt
damages_set page cursors i new within (Err (Damaged number slot found)) damage = record {
  at = i;
  run = new;
  is = get_or-set_same cursors i (OfList new) nothing within;
  place = damage.place;
  damage = damage.damage;
}

pub given_at : (since : Since) (device : Device) (pool : Pool) (cursors : List Cursor) (i : ℕ) (run : RunCursor) → cursor_at cursors i ≡ OfList run
    → AllGiven since device pool cursors → ListGiven since device pool run
given_at since device pool cursors i run is given =
    let P : Cursor → Type 0 = λ cursor. CursorGiven since device pool cursor in subst P is (given i)

-- such a slot is blamed
pub lists_fault :
    (since : Since) (device : Device) (cursors : List Cursor) (fault : PageFault) → FaultBlames since device cursors fault → FaultIsBlamed since device fault
lists_fault since device cursors Flash blames = tt
lists_fault since device cursors (Damaged number slot found) blames = list_blamed since blames.run blames.may blames.inside blames.blames

-- the pages that are still to be read for several cursors, where those for one list's go down
pub unread_other :
    {pool later : Pool} (cursor : Cursor) → ((run : RunCursor) → cursor ≡ OfList run → SameBuffer pool later run.lease)
    → unread_of later cursor ≡ unread_of pool cursor
unread_other (OfList run) same =
    ap (λ (page : Option ℕ). pages_behind run + (if nat_lt run.at run.list.count && is_apart page (page_next run) then 1 else 0)) (same run refl).filled
unread_other (Range low high) same = refl

pub unread_set :
    {told : Bool} {low : ℕ} {before now : Device} {pool later : Pool} (cursors : List Cursor) (i : ℕ) (run new : RunCursor)
    → i < length cursors → cursor_at cursors i ≡ OfList run → AllReady told before pool cursors → RunMoves told low before now pool later run new
    → unread_in later (slice_set cursors i (OfList new)) + unread_list pool run ≡ unread_in pool cursors + unread_list later new
unread_set {pool = pool} {later = later} cursors i run new within is ready moves =
    let others = other_same cursors i run is ready.leases (λ lease apart. change_elsewhere moves.buffer apart) in
    let whole = sum_set (unread_of pool) (unread_of later) cursors i (OfList new) within (λ k apart. unread_other (cursor_at cursors k) (others k apart)) in
    let was : unread_of pool (cursor_at cursors i) ≡ unread_list pool run = ap (unread_of pool) is in
    omega (arith, whole, was)

call_set : (before now : Device) (u v a b : ℕ) (called : Bool) → b + u ≡ a + v → CallIf called before now u v → CallIf called before now a b
call_set before now u v a b true same made = record { calls = made.calls; faults = made.faults; fewer = omega (arith, same, made.fewer) }
call_set before now u v a b false same made = record { calls = made.calls; deep_reads = made.deep_reads; faults = made.faults; as_many = omega (arith, same, made.as_many) }

pub counts_set :
    (before now : Device) (u v a b : ℕ) (result : Result Bool PageFault) → b + u ≡ a + v
    → IfOk result (λ stands. CallIf (not stands) before now u v) → IfOk result (λ stands. CallIf (not stands) before now a b)
counts_set before now u v a b (Ok stands) same made = call_set before now u v a b (not stands) same made
counts_set before now u v a b (Err fault) same made = tt

pub fails_set :
    (before now : Device) (u v a b : ℕ) (result : Result Bool PageFault) → b + u ≡ a + v
    → IfErr result (FailTells before now u v) → IfErr result (FailTells before now a b)
fails_set before now u v a b (Ok stands) same tells = tt
fails_set before now u v a b (Err Flash) same tells = record { calls = tells.calls; cause = tells.cause; last = tells.last; as_many = omega (arith, same, tells.as_many) }
fails_set before now u v a b (Err (Damaged number slot found)) same tells = record {
  calls = tells.calls;
  deep_reads = tells.deep_reads;
  faults = tells.faults;
  as_many = omega (arith, same, tells.as_many);
}

pub at_place : (cursors : List Cursor) (i : ℕ) (d cursor : Cursor) → i < length cursors → get_or cursors i d ≡ cursor → cursor_at cursors i ≡ cursor
at_place cursors i d cursor within is = sym (get_or_default cursors i d nothing within) ∙ is

still : (told : Bool) (device : Device) (pool : Pool) (low : ℕ) (cursor : Cursor) → CursorReady told device pool cursor → IsAtEndOrFrom low cursor → Stands low cursor
still told device pool low (OfList run) ready stays =
    λ below. elim stays [ inl from ↦ absurd (omega (arith, from, below)) | inr end ↦ omega (arith, end, ready.at) ]
still told device pool low (Range first last) ready stays = tt

-- a cursor that is not behind stands where it is
pub stands_still :
    {told : Bool} {device : Device} {pool : Pool} (cursors : List Cursor) (i low : ℕ) (d : Cursor) → i < length cursors → AllReady told device pool cursors
    → IsAtEndOrFrom low (get_or cursors i d) → Stands low (cursor_at cursors i)
stands_still {told = told} {device = device} {pool = pool} cursors i low d within ready stays =
    let P : Cursor → Type 0 = IsAtEndOrFrom low in
    still told device pool low (cursor_at cursors i) (ready.each i) (subst P (get_or_default cursors i d nothing within) stays)
