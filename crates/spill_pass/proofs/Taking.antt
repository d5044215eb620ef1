-- What is left where a list was taken into the group at hand: one lease more is out, and its buffer holds no page.
use Rattle.std.proofs.Common.{◌≡◌, ◌∙◌, ℕ, zero, suc, ◌+◌, ◌/◌, ◌<◌, ◌≤◌, Bool, true, false, nat_lt, if◌then◌else◌, List, [], ◌∷◌, ◌++◌, length, sum, get_or, slice_set, Option, None, ap, sym, refl, subst, arith}
use Rattle.std.specs.Prelude.{IfSome}
use Rattle.std.proofs.lemmas.Bool.Decides.{nat_tests}
use Rattle.std.proofs.lemmas.List.{append-nil, get_or-set_other}
use Rattle.std.proofs.lemmas.List.Sums.{sum_by-append, sum_by-cons}
use Rattle.ghost_base.specs.declared.runs.ListRef.{ListRef}
use Rattle.ghost_base.specs.Runs.{run_of}
use Rattle.edge_traits.specs.Devices.{Device, GaveSince}
use Rattle.edge_traits.proofs.DeviceFrames.{kept_same}
use Rattle.page_pool.specs.Pools.{Pool, IsOut, IsFree, AreOut, leased, given, others_out, bytes_at}
use Rattle.page_pool.specs.Laws.{SameBuffer}
use Rattle.page_pool.proofs.Marks.{free_not_out}
use Rattle.page_pool.proofs.Leases.{lease_outs, lease_others_out, lease_keeps_others, all_given_to_front, outs_from_front, outs_swapped}
use Rattle.flash_pages.specs.declared.cursor.RunCursor.{RunCursor}
use Rattle.flash_pages.specs.Cursors.{IsReady, IsPageOf, unread_list}
use Rattle.flash_pages.specs.Reads.{WasGiven}
use Rattle.flash_pages.proofs.LeaseFrames.{ready_kept}
use Rattle.flash_pages.proofs.ListFrames.{stands_at_begin}
use Rattle.id_merge.specs.declared.cursor.Cursor.{Cursor}
use Rattle.id_merge.specs.declared.cursor.Cursor.TheVariants.{List as OfList, Range}
use Rattle.id_merge.specs.declared.merge.Merge.{Merge}
use Rattle.id_merge.specs.Since.{Since, MayBlame}
use Rattle.id_merge.specs.Cursors.{cursor_at, leases_of, AllGiven, ListAscends, CursorGiven, CursorReady, IsAtMost, at_hand_of, at_hand_in, unread_of, unread_in}
use Rattle.id_merge.specs.Merges.{at_hand}
use Rattle.id_merge.proofs.SinceLaws.{may_then}
use Rattle.id_merge.proofs.Laws.{leases_of-append, each_pushed}
use Rattle.spill_pass.specs.declared.groups.Groups.{Groups}
use Rattle.spill_pass.specs.Known.{KnowsList}
use Rattle.spill_pass.specs.Lists.{IsOrdered, IsReadable, ListOutside, ids_in_page}
use Rattle.spill_pass.specs.Merging.{IsMerging, LiesOutside, area_end, leases_held}
use Rattle.spill_pass.specs.Grouping.{IsGrouping, GoesOn, CanTake, groups_held, places_end}
use Rattle.spill_pass.proofs.FreshLists.{fresh_pages}
use Rattle.spill_pass.proofs.Holders.{HasOut, each_out, out_before}
use Rattle.spill_pass.proofs.Writing.{given_list, unread_list_same}
use Rattle.spill_pass.proofs.Grouping.{areas_kept}

-- a cursor at the beginning of the list
pub record Begins (list : ListRef) (rows : ℕ) (run : RunCursor) : Type 0 where
  pub list_is : run.list ≡ list
  pub rows_is : run.rows ≡ rows
  pub at_is : run.at ≡ 0
  pub place_is : run.place ≡ list.first
  pub last_is : run.last ≡ 0

-- the group's merge has one cursor more
pub record HasOneMore (old new : Merge) (run : RunCursor) : Type 0 where
  pub cursors : new.cursors.items ≡ old.cursors.items ++ OfList run ∷ []
  pub unions : new.unions.items ≡ length new.cursors.items ∷ []
  pub last : new.last ≡ old.last

-- a buffer that was out is as it was
pub same_leased : (pool : Pool) (lease other : ℕ) → IsFree pool lease → IsOut pool other → SameBuffer pool (leased pool lease) other
same_leased pool lease other free out = record {
  bytes = refl;
  filled =
      get_or-set_other pool.filled lease other None None
      (λ same. let P : ℕ → Type 0 = λ k. get_or pool.out k false ≡ true in free_not_out pool.out lease free.free (subst P same out.out));
}

still_leased : (pool : Pool) (lease other : ℕ) → IsFree pool lease → IsOut pool other → IsOut (leased pool lease) other
still_leased pool lease other free out = record {
  within = out.within;
  out =
      get_or-set_other pool.out lease other true false
      (λ same. let P : ℕ → Type 0 = λ k. get_or pool.out k false ≡ true in free_not_out pool.out lease free.free (subst P same out.out))
      ∙ out.out;
}

-- the new one holds no page
none_held : (filled : List (Option ℕ)) (i : ℕ) → get_or (slice_set filled i None) i None ≡ None
none_held [] zero = refl
none_held [] (suc i) = refl
none_held (page ∷ filled) zero = refl
none_held (page ∷ filled) (suc i) = none_held filled i

ready_taken :
    (told : Bool) (device : Device) (pool : Pool) (lease : ℕ) (cursor : Cursor) → IsFree pool lease → HasOut pool cursor
    → CursorReady told device pool cursor → CursorReady told device (leased pool lease) cursor
ready_taken told device pool lease (OfList run) free out ready =
    ready_kept refl (λ is_told i within. refl) (still_leased pool lease run.lease free out) (same_leased pool lease run.lease free out) ready
ready_taken told device pool lease (Range low high) free out ready = tt

given_taken :
    (since : Since) (device : Device) (pool : Pool) (lease : ℕ) (cursor : Cursor) → IsFree pool lease → HasOut pool cursor
    → CursorGiven since device pool cursor → CursorGiven since device (leased pool lease) cursor
given_taken since device pool lease (OfList run) free out given =
    given_list since device device run (λ at number bytes gave. gave) (λ i within. refl) (same_leased pool lease run.lease free out) given
given_taken since device pool lease (Range low high) free out given = tt

unread_taken : (pool : Pool) (lease : ℕ) (cursor : Cursor) → IsFree pool lease → HasOut pool cursor → unread_of (leased pool lease) cursor ≡ unread_of pool cursor
unread_taken pool lease (OfList run) free out =
    unread_list_same pool (leased pool lease) run (same_leased pool lease run.lease free out).filled
unread_taken pool lease (Range low high) free out = refl

unread_all_taken :
    (pool : Pool) (lease : ℕ) (cursors : List Cursor) → IsFree pool lease → ((i : ℕ) → HasOut pool (cursor_at cursors i))
    → unread_in (leased pool lease) cursors ≡ unread_in pool cursors
unread_all_taken pool lease [] free out = refl
unread_all_taken pool lease (cursor ∷ cursors) free out =
    omega (
      arith,
      sum_by-cons (unread_of (leased pool lease)) cursor cursors,
      sum_by-cons (unread_of pool) cursor cursors,
      unread_taken pool lease cursor free (out 0),
      unread_all_taken pool lease cursors free (λ i. out (suc i)),
    )

none_given : (since : ℕ) (device : Device) (pool : Pool) (lease : ℕ) → WasGiven since device (leased pool lease) lease
none_given since device pool lease =
    let P : Option ℕ → Type 0 = λ page. IfSome page (GaveSince since device (bytes_at (leased pool lease) lease)) in
    subst P (sym (none_held pool.filled lease)) tt

lists_out : (pool : Pool) (old : Groups) → AreOut pool (groups_held old) → (i : ℕ) → HasOut pool (cursor_at old.into.merge.cursors.items i)
lists_out pool old are i =
    let a = old.places.lease in
    let b = old.into.writer.lease in
    let cursors = old.into.merge.cursors.items in
    out_before pool a (cursor_at cursors i) (out_before (given pool a) b (cursor_at cursors i) (each_out (given (given pool a) b) cursors i are.1.1))

held_taken :
    (old : Groups) (merge : Merge) (run : RunCursor) → merge.cursors.items ≡ old.into.merge.cursors.items ++ OfList run ∷ []
    → old.places.lease ∷ old.into.writer.lease ∷ leases_of merge.cursors.items ≡ groups_held old ++ run.lease ∷ []
held_taken old merge run more =
    ap (λ cs. old.places.lease ∷ old.into.writer.lease ∷ leases_of cs) more
    ∙ ap (λ ls. old.places.lease ∷ old.into.writer.lease ∷ ls) (leases_of-append old.into.merge.cursors.items (OfList run ∷ []))

pub taken_goes :
    {pool later : Pool} (device : Device) (old : Groups) (merge : Merge) (run : RunCursor) → AreOut pool (groups_held old)
    → later ≡ leased pool run.lease → IsFree pool run.lease → merge.cursors.items ≡ old.into.merge.cursors.items ++ OfList run ∷ []
    → GoesOn device device pool later old (record { into = record { merge = merge; writer = old.into.writer; rows = old.into.rows }; places = old.places; begun = old.begun; size = old.size })
taken_goes {pool = pool} {later = later} device old merge run are is free more =
    let held = groups_held old in
    let lease = run.lease in
    let same = held_taken old merge run more in
    let P : List ℕ → Type 0 = AreOut later in
    let Q : List ℕ → Type 0 = λ ls. AreOut later (lease ∷ ls) in
    record {
      changes = areas_kept old.into.writer.filler.first (area_end old.into) old.places.filler.first (places_end old) (kept_same device);
      beside =
          ap (λ ls. others_out later ls) same
          ∙ ap (λ (p : Pool). p.out) (all_given_to_front later held lease [])
          ∙ ap (λ ls. others_out later (lease ∷ ls)) (append-nil held)
          ∙ lease_others_out pool lease held is free;
      others = lease_keeps_others pool lease held is free;
      still = subst P (sym same) (outs_from_front later held lease [] (subst Q (sym (append-nil held)) (lease_outs pool lease held is free are)));
      lists_first = refl;
      places_first = refl;
      rows = refl;
      size = refl;
    }

-- what was given for the lists is given for them and one more
begins_ascends : (page : ℕ → List ℕ) (list : ListRef) (rows : ℕ) (run : RunCursor) → Begins list rows run → IsOrdered page page rows list → ListAscends page run
begins_ascends page list rows run begins ordered =
    let P : ListRef → Type 0 = λ l. IsOrdered page page rows l in
    let is = subst P (sym begins.list_is) ordered in
    record {
      above = λ i from within. omega (arith, is.above i within, begins.last_is);
      order = λ i j from less within. is.order i j less within;
      within = λ i from within. omega (arith, is.within i within, begins.rows_is);
    }

pub begins_known :
    (since : Since) (page : ℕ → List ℕ) (list : ListRef) (rows : ℕ) (run : RunCursor) → Begins list rows run → KnowsList since page rows list
    → MayBlame since (run_of run.list.run) (ListAscends page run)
begins_known since page list rows run begins knows =
    let P : ListRef → Type 0 = λ l. MayBlame since (run_of l.run) (ListAscends page run) in
    subst P (sym begins.list_is) (may_then (λ tells ordered. begins_ascends page list rows run begins ordered) knows)

pub taken_given :
    {pool later : Pool} (since : Since) (device : Device) (old : Groups) (merge : Merge) (run : RunCursor) → AreOut pool (groups_held old)
    → later ≡ leased pool run.lease → IsFree pool run.lease → merge.cursors.items ≡ old.into.merge.cursors.items ++ OfList run ∷ []
    → MayBlame since (run_of run.list.run) (ListAscends device.page run) → AllGiven since device pool old.into.merge.cursors.items
    → AllGiven since device later merge.cursors.items
taken_given {pool = pool} {later = later} since device old merge run are is free more may given i =
    let lease = run.lease in
    let cursors = old.into.merge.cursors.items in
    let R : List Cursor → Type 0 = λ cs. CursorGiven since device later (cursor_at cs i) in
    let S : Pool → Type 0 = λ p. CursorGiven since device p (cursor_at (cursors ++ OfList run ∷ []) i) in
    subst R (sym more)
    (subst S (sym is)
    (each_pushed (CursorGiven since device (leased pool lease)) cursors (OfList run) tt
    (λ k. given_taken since device pool lease (cursor_at cursors k) free (lists_out pool old are k) (given k))
    (record { read = none_given since.calls device pool lease; may = may }) i))

-- leases without the first ones
pub outs_of_one : (pool : Pool) (a : ℕ) (leases : List ℕ) → AreOut pool (a ∷ leases) → AreOut pool leases
outs_of_one pool a [] are = tt
outs_of_one pool a (b ∷ leases) are = let swapped = outs_swapped pool a b leases are in (swapped.0, outs_of_one (given pool b) a leases swapped.1)

pub outs_of_two : (pool : Pool) (a b : ℕ) (leases : List ℕ) → AreOut pool (a ∷ b ∷ leases) → AreOut pool leases
outs_of_two pool a b leases are = outs_of_one pool b leases (outs_of_one pool a (b ∷ leases) are)

leased_is_out : (pool : Pool) (lease : ℕ) → IsFree pool lease → IsOut (leased pool lease) lease
leased_is_out pool lease free = (lease_outs pool lease [] refl free tt).0

pub plain : (n : ℕ) → n + 0 ≡ n
plain n = omega arith

pub one_sum : (n : ℕ) → sum (n ∷ []) ≡ n
one_sum n = sum_by-cons (λ k. k) n [] ∙ plain n

below_zero : (last : ℕ) → nat_lt last 0 ≡ true → last < 0
below_zero last is = grind (arith, nat_tests)

if_none : (b : Bool) (n : ℕ) → (b ≡ true → 1 ≤ 0) → n + (if b then 1 else 0) ≡ n
if_none true n never = absurd (omega (arith, never refl))
if_none false n never = omega arith

none_below : (n last : ℕ) → n + (if nat_lt last 0 then 1 else 0) ≡ n
none_below n last = if_none (nat_lt last 0) n (λ is. omega (arith, below_zero last is))

-- the new cursor
begins_ready :
    (told : Bool) (device : Device) (pool : Pool) (list : ListRef) (rows : ℕ) (run : RunCursor) → Begins list rows run → IsReadable device list
    → IsFree pool run.lease → IsReady told device (leased pool run.lease) run
begins_ready told device pool list rows run begins readable free =
    let lease = run.lease in
    let none = none_held pool.filled lease in
    let P : ListRef → Type 0 = λ l. IsReadable device l in
    let can = subst P (sym begins.list_is) readable in
    let H : Option ℕ → Type 0 = λ page. IfSome page (IsPageOf (run_of run.list.run)) in
    let F : Option ℕ → Type 0 = λ page. IfSome page (λ number. told ≡ true → bytes_at (leased pool lease) lease ≡ device.page number) in
    record {
      run = can.run;
      width = can.width;
      list = can.within;
      at = omega (arith, begins.at_is);
      stands = stands_at_begin begins.at_is (omega (arith, begins.place_is, ap (λ (l : ListRef). l.first) begins.list_is)) begins.last_is can.within;
      page = subst H (sym none) tt;
      buffer = record { out = leased_is_out pool lease free; filled = subst F (sym none) tt };
    }

pub outside_list : (low high : ℕ) (list : ListRef) (rows : ℕ) (run : RunCursor) → Begins list rows run → ListOutside low high list → LiesOutside low high (OfList run)
outside_list low high list rows run begins outside =
    let P : ListRef → Type 0 = λ l. ListOutside low high l in subst P (sym begins.list_is) outside

pub taken_merging :
    {told : Bool} {device : Device} {pool later : Pool} (list : ListRef) (old : Groups) (merge : Merge) (run : RunCursor) → IsGrouping told device pool old
    → CanTake device list old → Begins list old.into.rows run → later ≡ leased pool run.lease → IsFree pool run.lease
    → HasOneMore old.into.merge merge run
    → IsMerging told device later (record { merge = merge; writer = old.into.writer; rows = old.into.rows })
taken_merging {told = told} {device = device} {pool = pool} {later = later} list old merge run grouping can begins is free more =
    let into = old.into in
    let cursors = into.merge.cursors.items in
    let lease = run.lease in
    let w = grouping.merging in
    let M : List Cursor → Type 0 = λ cs. (i : ℕ) → CursorReady told device later (cursor_at cs i) in
    let S : Pool → Type 0 = λ p. (i : ℕ) → CursorReady told device p (cursor_at (cursors ++ OfList run ∷ []) i) in
    let A : List Cursor → Type 0 = λ cs. (i : ℕ) → IsAtMost into.rows (cursor_at cs i) in
    let O : List Cursor → Type 0 = λ cs. (i : ℕ) → LiesOutside into.writer.filler.first (area_end into) (cursor_at cs i) in
    let still = (taken_goes device old merge run grouping.leases is free more.cursors).still in
    record {
      can = record {
        step = record {
          some = omega (arith, ap (λ us. length us) more.unions);
          sums = ap (λ us. sum us) more.unions ∙ one_sum (length merge.cursors.items);
          cursors = record {
            each =
                subst M (sym more.cursors)
                (subst S (sym is)
                (each_pushed (CursorReady told device (leased pool lease)) cursors (OfList run) tt
                (λ k. ready_taken told device pool lease (cursor_at cursors k) free (lists_out pool old grouping.leases k) (w.can.step.cursors.each k))
                (begins_ready told device pool list into.rows run begins can.readable free)));
            leases = outs_of_two later _ _ (leases_of merge.cursors.items) still;
          };
        };
        leases = outs_of_one later _ (leases_held (record { merge = merge; writer = into.writer; rows = into.rows })) still;
        at_most = subst A (sym more.cursors) (each_pushed (IsAtMost into.rows) cursors (OfList run) (omega arith) w.can.at_most (omega (arith, begins.rows_is), omega (arith, begins.last_is)));
        within = omega (arith, more.last, w.can.within);
        area = w.can.area;
        outside =
            subst O (sym more.cursors)
            (each_pushed (LiesOutside into.writer.filler.first (area_end into)) cursors (OfList run) tt w.can.outside
            (outside_list into.writer.filler.first (area_end into) list into.rows run begins can.from_lists));
      };
      width = w.width;
      erase = w.erase;
      count = w.count;
      entered = w.entered;
    }

one_hand : (run : RunCursor) (list : ListRef) (rows last : ℕ) → list.count ≤ rows → Begins list rows run → at_hand_of last (OfList run) ≡ list.count
one_hand run list rows last few begins =
    let P : ℕ → Type 0 = λ id. 0 + (if nat_lt last id then 1 else 0) ≡ 0 in
    let none : 0 + (if nat_lt last run.last then 1 else 0) ≡ 0 = subst P (sym begins.last_is) (none_below 0 last) in
    omega (arith, ap (λ (l : ListRef). l.count) begins.list_is, begins.at_is, begins.last_is, begins.rows_is, few, none)

pub taken_hand :
    (list : ListRef) (old new : Merge) (run : RunCursor) (rows : ℕ) → list.count ≤ rows → Begins list rows run → HasOneMore old new run → at_hand new ≡ at_hand old + list.count
taken_hand list old new run rows few begins more =
    ap (λ last. at_hand_in last new.cursors.items) more.last
    ∙ ap (λ cs. at_hand_in old.last cs) more.cursors
    ∙ sum_by-append (at_hand_of old.last) old.cursors.items (OfList run ∷ [])
    ∙ ap (λ n. at_hand_in old.last old.cursors.items + n) (sum_by-cons (at_hand_of old.last) (OfList run) [] ∙ ap (λ n. n + 0) (one_hand run list rows old.last few begins) ∙ plain list.count)

pub taken_unread :
    {device : Device} {pool later : Pool} (list : ListRef) (old : Groups) (merge : Merge) (run : RunCursor) → AreOut pool (groups_held old) → Begins list old.into.rows run
    → later ≡ leased pool run.lease → IsFree pool run.lease → HasOneMore old.into.merge merge run → IsReadable device list
    → unread_in later merge.cursors.items ≤ unread_in pool old.into.merge.cursors.items + list.count / ids_in_page list.run + 2
taken_unread {device = device} {pool = pool} {later = later} list old merge run are begins is free more readable =
    let cursors = old.into.merge.cursors.items in
    let whole : unread_in later merge.cursors.items ≡ unread_in (leased pool run.lease) cursors + (unread_list (leased pool run.lease) run + 0) =
    ap (λ p. unread_in p merge.cursors.items) is
    ∙ ap (λ cs. unread_in (leased pool run.lease) cs) more.cursors
    ∙ sum_by-append (unread_of (leased pool run.lease)) cursors (OfList run ∷ [])
    ∙ ap (λ n. unread_in (leased pool run.lease) cursors + n) (sum_by-cons (unread_of (leased pool run.lease)) (OfList run) []) in
    let R : ListRef → Type 0 = IsReadable device in
    let can : IsReadable device run.list = subst R (sym begins.list_is) readable in
    let few =
    fresh_pages (leased pool run.lease) run
    (record { at = begins.at_is; place = omega (arith, begins.place_is, ap (λ (l : ListRef). l.first) begins.list_is) }) can.run.some can.run.fits in
    let same = ap (λ (l : ListRef). l.count / ids_in_page l.run) begins.list_is in
    omega (arith, whole, unread_all_taken pool run.lease cursors free (lists_out pool old are), few, same)

pub taken_grouping :
    {told : Bool} {device : Device} {pool later : Pool} (list : ListRef) (old : Groups) (merge : Merge) (run : RunCursor) → IsGrouping told device pool old
    → CanTake device list old → Begins list old.into.rows run → later ≡ leased pool run.lease → IsFree pool run.lease
    → HasOneMore old.into.merge merge run
    → IsGrouping told device later (record { into = record { merge = merge; writer = old.into.writer; rows = old.into.rows }; places = old.places; begun = old.begun; size = old.size })
taken_grouping {device = device} list old merge run grouping can begins is free more =
    let O : List Cursor → Type 0 = λ cs. (i : ℕ) → LiesOutside old.places.filler.first (places_end old) (cursor_at cs i) in
    record {
      merging = taken_merging list old merge run grouping can begins is free more;
      union = more.unions;
      room = omega (arith, can.room, taken_hand list old.into.merge merge run old.into.rows (omega (arith, can.room)) begins more);
      begun = grouping.begun;
      leases = (taken_goes device old merge run grouping.leases is free more.cursors).still;
      area = grouping.area;
      apart = grouping.apart;
      outside =
          subst O (sym more.cursors)
          (each_pushed (LiesOutside old.places.filler.first (places_end old)) old.into.merge.cursors.items (OfList run) tt grouping.outside
          (outside_list old.places.filler.first (places_end old) list old.into.rows run begins can.from_places));
      width = grouping.width;
      erase = grouping.erase;
      placed = grouping.placed;
      entered = grouping.entered;
    }
