-- What the steps of a filling leave: buffers, the list and the filter.
use Rattle.std.proofs.Common.{◌≡◌, ◌∙◌, ℕ, ◌+◌, ◌-◌, ◌<◌, ◌≤◌, Bool, true, false, List, [], ◌∷◌, ◌++◌, length, get_or, refl, ap, sym, subst, append-nil, arith}
use Rattle.std.proofs.lemmas.List.{append_assoc}
use Rattle.edge_traits.specs.Devices.{Device, Counts, KeepsPages, next}
use Rattle.edge_traits.proofs.DeviceFrames.{kept_same, kept_trans, counts_more, counts_next}
use Rattle.page_pool.specs.Pools.{Pool, AreOut, IsOut, ChangesPage, KeepsOthers, bytes_at, given, others_out}
use Rattle.page_pool.proofs.Marks.{other_was_out}
use Rattle.page_pool.proofs.Leases.{out_kept, outs_kept, others_kept, others_trans, others_fewer, same_of_others, outs_first, outs_from_front, outs_to_front, outs_swapped, all_given-append, all_given_swapped, all_given_to_front, change_keeps_out, change_keeps_others, head_apart, holder_keeps_outs}
use Rattle.flash_pages.specs.declared.cursor.RunCursor.{RunCursor}
use Rattle.std.specs.Prelude.{Option, Some, Ok, Err, MatchOption, slice_set}
use Rattle.ghost_base.specs.declared.runs.ListRef.{ListRef}
use Rattle.ghost_base.specs.Runs.{run_of}
use Rattle.flash_pages.specs.declared.fault.PageFault.{PageFault}
use Rattle.flash_pages.specs.declared.fault.PageFault.TheVariants.{Flash, Damaged}
use Rattle.flash_pages.specs.Faults.{BlamesNoSlot}
use Rattle.flash_pages.specs.Cursors.{BlamesNext, IsReady, SameList, GivesNext, GivesId, id_in, ids_left}
use Rattle.flash_pages.specs.Reads.{WasGiven}
use Rattle.flash_pages.proofs.LeaseFrames.{ready_kept, given_kept}
use Rattle.flash_pages.proofs.ListFrames.{listed_end}
use Rattle.bloom_post.specs.Filters.{StandsFor, KeepsBeside}
use Rattle.bloom_post.specs.Laws.{FiltersStay}
use Rattle.bloom_post.proofs.LeasedBits.{beside_keeps_out}
use Rattle.id_merge.specs.Cursors.{ListAscends, ListGiven}
use Rattle.id_merge.specs.Since.{Blames, IsSince, MayBlame, Since}
use Rattle.id_merge.proofs.ListReads.{id_same, next_id}
use Rattle.id_merge.proofs.SinceLaws.{list_blamed, may_of, may_then, none_damaged, since_later}
use Rattle.spill_pass.specs.Stepping.{Stepped}
use Rattle.candidate_lists.specs.Reduces.{TakesOver}
use Rattle.candidate_filter.specs.declared.filling.Filling.{Filling}
use Rattle.candidate_filter.specs.Fills.{Fills, IsFilling, GoesFilling, filling_leases}

-- the leases behind the first of some
pub rest_out : (pool : Pool) (lease : ℕ) (leases : List ℕ) → AreOut pool (lease ∷ leases) → AreOut pool leases
rest_out pool lease leases are =
    let P : List ℕ → Type 0 = λ ls. AreOut pool (lease ∷ ls) in
    outs_first pool leases (lease ∷ []) (outs_from_front pool leases lease [] (subst P (sym (append-nil leases)) are))

-- a lease is out beside the others, and what is out beside all is out beside the others
pub out_beside :
    (pool : Pool) (lease : ℕ) (leases : List ℕ) → AreOut pool (lease ∷ leases) → get_or (others_out pool leases) lease false ≡ true
out_beside pool lease [] are = are.0.out
out_beside pool lease (first ∷ leases) are = out_beside (given pool first) lease leases (outs_swapped pool lease first leases are).1

pub out_beside_fewer :
    (pool : Pool) (lease : ℕ) (leases : List ℕ) (other : ℕ) → get_or (others_out pool (lease ∷ leases)) other false ≡ true
    → get_or (others_out pool leases) other false ≡ true
out_beside_fewer pool lease [] other is = other_was_out pool.out lease other is
out_beside_fewer pool lease (first ∷ leases) other is =
    let P : Pool → Type 0 = λ pool. get_or pool.out other false ≡ true in
    out_beside_fewer (given pool first) lease leases other (subst P (all_given_swapped pool lease first leases) is)

-- a lease that is out beside a new holder's leases
pub joins_out :
    (before now : Pool) (lease : ℕ) (leases : List ℕ) → IsOut before lease → AreOut now leases → others_out now leases ≡ before.out
    → length now.pages ≡ length before.pages → AreOut now (lease ∷ leases)
joins_out before now lease leases is are others size =
    let P : List ℕ → Type 0 = λ ls. AreOut now (lease ∷ ls) in
    subst P (append-nil leases)
    (outs_to_front now leases lease [] (holder_keeps_outs before now [] leases (lease ∷ []) (is, tt) are others size))

-- a filter that was leased beside a lease is held with it
pub joins_takes :
    (before now : Pool) (lease : ℕ) (leases : List ℕ) → IsOut before lease → AreOut now leases → others_out now leases ≡ before.out
    → KeepsOthers before.out before now → TakesOver before now (lease ∷ []) (lease ∷ leases)
joins_takes before now lease leases is are others keeps = record {
  still = joins_out before now lease leases is are others keeps.size;
  beside =
      ap (λ (ls : List ℕ). others_out now (lease ∷ ls)) (sym (append-nil leases))
      ∙ ap (λ (p : Pool). p.out) (sym (all_given_to_front now leases lease []) ∙ all_given-append now leases (lease ∷ []))
      ∙ ap (λ (out : List Bool). slice_set out lease false) others;
  others = others_fewer (λ other out. other_was_out before.out lease other out) keeps;
}

-- the buffers of a filter stay where another lease was used
pub filter_bytes :
    {pool later : Pool} {lease : ℕ} (leases : List ℕ) → AreOut pool (lease ∷ leases) → ChangesPage pool later lease
    → (i : ℕ) → i < length leases → bytes_at later (get_or leases i 0) ≡ bytes_at pool (get_or leases i 0)
filter_bytes {pool = pool} {lease = lease} leases are changes i within =
    changes.bytes (get_or leases i 0) (head_apart pool lease leases i 0 within are)

-- the list was read
pub went_next :
    {told : Bool} {before now : Device} {pool later : Pool} (filling : Filling) (cursor : RunCursor) → IsFilling told before pool filling
    → KeepsPages before now → ChangesPage pool later filling.cursor.lease → SameList filling.cursor cursor → IsReady told now later cursor
    → ((since : ℕ) → since ≤ before.calls → WasGiven since before pool filling.cursor.lease → WasGiven since now later filling.cursor.lease)
    → (told ≡ true → ListAscends before.page filling.cursor → ListAscends now.page cursor)
    → GoesFilling told before now pool later filling (record { cursor = cursor; filter = filling.filter })
went_next {told = told} {before = before} {now = now} {later = later} filling cursor is kept buffer list ready gives ascends =
    let P : ℕ → Type 0 = λ lease. AreOut later (lease ∷ filling.filter) in
    record {
      kept = kept;
      out = buffer.out;
      others = change_keeps_others (filling_leases filling) 0 0 (omega arith) buffer;
      list = list;
      filter = refl;
      given = λ since from given.
          let W : ℕ → Type 0 = λ lease. WasGiven since.calls now later lease in
          let M : ListRef → Type 0 = λ l. MayBlame since (run_of l.run) (ListAscends now.page cursor) in
          record {
            read = subst W (sym list.lease) (gives since.calls from.calls given.read);
            may = subst M (sym list.list) (may_then (λ tells was. ascends (sym from.tells ∙ tells) was) given.may);
          };
      filling = record { ready = ready; leases = subst P (sym list.lease) (outs_kept (filling_leases filling) (change_keeps_out buffer) is.leases); some = is.some };
    }

-- the filter was written
pub went_add :
    {told : Bool} {device : Device} {pool later : Pool} (filling : Filling) → IsFilling told device pool filling
    → KeepsBeside filling.filter pool later → GoesFilling told device device pool later filling filling
went_add {device = device} {pool = pool} filling is beside =
    let same = same_of_others beside.kept (out_beside pool filling.cursor.lease filling.filter is.leases) in
    let keeps = beside_keeps_out beside in
    record {
      kept = kept_same device;
      out = beside.out;
      others = others_fewer (λ other out. out_beside_fewer pool filling.cursor.lease filling.filter other out) beside.kept;
      list = record { list = refl; rows = refl; lease = refl };
      filter = refl;
      given = λ since from given. record { read = given_kept since.calls device device (λ at number bytes gave. gave) same given.read; may = given.may };
      filling = record {
        ready = ready_kept refl (λ is_told i within. refl) (out_kept keeps is.ready.buffer.out) same is.ready;
        leases = outs_kept (filling_leases filling) keeps is.leases;
        some = is.some;
      };
    }

-- one after another
pub goes_again :
    {told : Bool} {a b c : Device} {pool then later : Pool} {old mid new : Filling} → GoesFilling told a b pool then old mid
    → GoesFilling told b c then later mid new → GoesFilling told a c pool later old new
goes_again {pool = pool} {then = then} {later = later} {old = old} {mid = mid} one two =
    let P : List Bool → Type 0 = λ others. KeepsOthers others then later in
    let held : filling_leases mid ≡ filling_leases old = ap (λ lease. lease ∷ mid.filter) one.list.lease ∙ ap (λ (ls : List ℕ). old.cursor.lease ∷ ls) one.filter in
    record {
      kept = kept_trans one.kept two.kept;
      out = two.out ∙ one.out;
      others =
          others_trans one.others
          (subst P (ap (λ leases. others_out then leases) held ∙ others_kept (filling_leases old) (record { out = one.out; size = one.others.size })) two.others);
      list = record { list = two.list.list ∙ one.list.list; rows = two.list.rows ∙ one.list.rows; lease = two.list.lease ∙ one.list.lease };
      filter = two.filter ∙ one.filter;
      given = λ since from given. two.given since (since_later one.kept.never_falls from) (one.given since from given);
      filling = two.filling;
    }

pub goes_none : {told : Bool} {device : Device} {pool : Pool} (filling : Filling) → IsFilling told device pool filling → GoesFilling told device device pool pool filling filling
goes_none {device = device} {pool = pool} filling is = record {
  kept = kept_same device;
  out = refl;
  others = record { size = refl; bytes = λ other is. refl; filled = λ other is. refl };
  list = record { list = refl; rows = refl; lease = refl };
  filter = refl;
  given = λ since from given. given;
  filling = is;
}

-- the leases are held as before, and nothing beside them changed
pub filling_takes :
    {told : Bool} {before now : Device} {pool later : Pool} {old new : Filling} → GoesFilling told before now pool later old new
    → TakesOver pool later (filling_leases old) (filling_leases new)
filling_takes {later = later} {old = old} {new = new} goes =
    let held : filling_leases new ≡ filling_leases old = ap (λ lease. lease ∷ new.filter) goes.list.lease ∙ ap (λ (ls : List ℕ). old.cursor.lease ∷ ls) goes.filter in
    record {
      still = goes.filling.leases;
      beside = ap (others_out later) held ∙ others_kept (filling_leases old) (record { out = goes.out; size = goes.others.size });
      others = goes.others;
    }

-- the identifiers to come ascend still: over the same pages, and after one more
pub ascends_same : {page now : ℕ → List ℕ} {cursor new : RunCursor} → now ≡ page → new ≡ cursor → ListAscends page cursor → ListAscends now new
ascends_same {page = page} {new = new} pages same was =
    let P : RunCursor → Type 0 = λ run. ListAscends page run in
    let Q : (ℕ → List ℕ) → Type 0 = λ f. ListAscends f new in
    subst Q (sym pages) (subst P (sym same) was)

pub ascends_on :
    {page : ℕ → List ℕ} (before now : RunCursor) (id : ℕ) → SameList before now → before.at < before.list.count → now.at ≡ before.at + 1
    → now.last ≡ id → id ≡ id_in page before before.at → ListAscends page before → ListAscends page now
ascends_on {page = page} before now id same some at last is was =
    let counts : now.list.count ≡ before.list.count = ap (λ (list : ListRef). list.count) same.list in
    record {
      above = λ i from below.
          let order = was.order before.at i (omega arith) (omega (arith, at, from)) (omega (arith, below, counts)) in
          omega (arith, at, last, is, id_same page before now same i, order);
      order = λ i j from less below.
          omega (arith, id_same page before now same i, id_same page before now same j, was.order i j (omega (arith, at, from)) less (omega (arith, below, counts)));
      within = λ i from below. omega (arith, id_same page before now same i, same.rows, was.within i (omega (arith, at, from)) (omega (arith, below, counts)));
    }

-- so no slot of the list is blamed
pub ascends_sound :
    (T : Type 0) {page : ℕ → List ℕ} (before now : RunCursor) (fault : PageFault) → ListAscends page before → GivesNext page before now (Err fault)
    → BlamesNoSlot {T = T} (Err fault)
ascends_sound T before now Flash ascends gives = tt
ascends_sound T before now (Damaged number slot found) ascends gives =
    absurd (gives.not_next (record { above = ascends.above before.at (omega arith) gives.within; within = ascends.within before.at (omega arith) gives.within }))

-- what the filter stands for, where the list stands where it stood
pub fills_still :
    {page now : ℕ → List ℕ} {pool later : Pool} (filling : Filling) (cursor : RunCursor) (ids : List ℕ) → FiltersStay
    → AreOut pool (filling_leases filling) → ChangesPage pool later filling.cursor.lease → now ≡ page → cursor ≡ filling.cursor
    → Fills page pool filling ids → Fills now later (record { cursor = cursor; filter = filling.filter }) ids
fills_still {page = page} {pool = pool} {later = later} filling cursor ids stay are buffer pages same was = record {
  taken = was.taken;
  stands = stay pool later filling.filter was.taken (filter_bytes filling.filter are buffer) was.stands;
  are = ap (λ (f : ℕ → List ℕ). was.taken ++ ids_left f cursor) pages ∙ ap (λ (r : RunCursor). was.taken ++ ids_left page r) same ∙ was.are;
  ascends = ascends_same pages same was.ascends;
}

-- one identifier more
pub fills_more :
    {page now : ℕ → List ℕ} {pool then later : Pool} (filling : Filling) (cursor : RunCursor) (ids : List ℕ) (id : ℕ) → FiltersStay
    → AreOut pool (filling_leases filling) → ChangesPage pool then filling.cursor.lease → now ≡ page
    → SameList filling.cursor cursor → filling.cursor.at < filling.cursor.list.count → cursor.at ≡ filling.cursor.at + 1
    → GivesId page filling.cursor cursor id
    → ((taken : List ℕ) → StandsFor then filling.filter taken → StandsFor later filling.filter (taken ++ id ∷ []))
    → Fills page pool filling ids → Fills now later (record { cursor = cursor; filter = filling.filter }) ids
fills_more {page = page} {pool = pool} {then = then} filling cursor ids id stay are buffer pages same some at gives added was = record {
  taken = was.taken ++ id ∷ [];
  stands = added was.taken (stay pool then filling.filter was.taken (filter_bytes filling.filter are buffer) was.stands);
  are =
      ap (λ (f : ℕ → List ℕ). (was.taken ++ id ∷ []) ++ ids_left f cursor) pages
      ∙ append_assoc was.taken (id ∷ []) (ids_left page cursor)
      ∙ ap (λ (xs : List ℕ). was.taken ++ xs) (sym gives.left)
      ∙ was.are;
  ascends = ascends_same pages refl (ascends_on filling.cursor cursor id same some at gives.last (next_id some gives) was.ascends);
}

-- the list has none left: the filter stands for all
pub fills_all :
    {page : ℕ → List ℕ} {pool : Pool} (filling : Filling) (ids : List ℕ) → filling.cursor.list.count ≤ filling.cursor.at
    → Fills page pool filling ids → StandsFor pool filling.filter ids
fills_all {page = page} {pool = pool} filling ids end was =
    let P : List ℕ → Type 0 = λ xs. StandsFor pool filling.filter xs in
    let list = filling.cursor.list in
    let none = listed_end page (run_of list.run) list.first filling.cursor.at list.count end in
    subst P (sym (append-nil was.taken) ∙ ap (λ (xs : List ℕ). was.taken ++ xs) (sym none) ∙ was.are) was.stands

pub gives_some : {page : ℕ → List ℕ} {old new : RunCursor} {next : Option ℕ} {id : ℕ} → next ≡ Some id → GivesNext page old new (Ok next) → GivesId page old new id
gives_some {page = page} {old = old} {new = new} is gives = let P : Option ℕ → Type 0 = λ next. GivesNext page old new (Ok next) in subst P is gives

pub steps_on :
    (old new : RunCursor) {next : Option ℕ} {id : ℕ} → next ≡ Some id
    → MatchOption next ((old.at ≡ old.list.count) × (new ≡ old)) (λ _. (old.at < old.list.count) × (new.at ≡ old.at + 1)) → new.at ≡ old.at + 1
steps_on old new is step =
    let P : Option ℕ → Type 0 = λ next. MatchOption next ((old.at ≡ old.list.count) × (new ≡ old)) (λ _. (old.at < old.list.count) × (new.at ≡ old.at + 1)) in
    (subst P is step).1

-- what was added to a count is how many calls were made
pub counts_again : {a b c : ℕ} (old mid new : ℕ) → old ≤ mid → mid ≤ new → Counts (mid - old) a b → Counts (new - mid) b c → Counts (new - old) a c
counts_again {a = a} {c = c} old mid new one two first second =
    let P : ℕ → Type 0 = λ n. Counts n a c in
    let sum : (mid - old) + (new - mid) ≡ new - old = omega (arith, one, two) in
    subst P sum (counts_more first second)

-- a slot of the list that is blamed is one of a run of which one may be
pub next_blamed :
    (T : Type 0) {told : Bool} {before : Device} {pool : Pool} (now : Device) (since : Since) (cursor new : RunCursor) (fault : PageFault)
    → IsSince told before since → IsReady told before pool cursor → ListGiven since before pool cursor
    → (told ≡ true → GivesNext before.page cursor new (Err fault)) → BlamesNext since.calls now cursor {T = Option ℕ} (Err fault)
    → Blames since now {T = T} (Err fault)
next_blamed T now since cursor new Flash from ready was gives blames = tt
next_blamed T {before = before} now since cursor new (Damaged number slot found) from ready was gives blames =
    list_blamed since cursor (may_of (λ tells order. none_damaged before.page cursor found order (gives (sym from.tells ∙ tells))) was.may)
    (ready.stands.within blames.within) blames

-- one that ascends still does, one identifier on
pub ascends_next :
    {page now : ℕ → List ℕ} (cursor new : RunCursor) (id : ℕ) → now ≡ page → SameList cursor new → cursor.at < cursor.list.count
    → new.at ≡ cursor.at + 1 → GivesId page cursor new id → ListAscends page cursor → ListAscends now new
ascends_next cursor new id pages same some at gives was = ascends_same pages refl (ascends_on cursor new id same some at gives.last (next_id some gives) was)

-- a call that reads a page is counted, and one that reads none is not
pub took_one :
    {before now : Device} {paid total : ℕ} → total ≡ paid + 1 → now.calls ≡ next before.calls → now.faults ≡ before.faults
    → Stepped {T = Bool} 1 before now paid total (Ok true)
took_one {before = before} {now = now} {paid = paid} total calls faults =
    let one : 1 ≡ paid + 1 - paid = omega arith in
    let C : ℕ → Type 0 = λ more. Counts more before.calls now.calls in
    let D : ℕ → Type 0 = λ after. Counts (after - paid) before.calls now.calls in
    record {
      cause = faults;
      failed = tt;
      at_most = (counts_next calls).most;
      counted = subst D (sym total) (subst C one (counts_next calls));
      rises = omega (arith, total);
      most = omega (arith, total);
    }

pub took_none :
    {before now : Device} {paid total : ℕ} → total ≡ paid → now.calls ≡ before.calls → now.faults ≡ before.faults
    → Stepped {T = Bool} 1 before now paid total (Ok true)
took_none {before = before} {now = now} {paid = paid} total calls faults = record {
  cause = faults;
  failed = tt;
  at_most = omega (arith, calls);
  counted = record { most = omega (arith, calls, total); exact = λ below. omega (arith, calls, total) };
  rises = omega (arith, total);
  most = omega (arith, total);
}
