-- What holds of a pass where it took a list, or found none left, and where it went on with its groups.
use Rattle.std.proofs.Common.{◌≡◌, ℕ, ◌+◌, ◌<◌, ◌≤◌, ◌⊎◌, inl, inr, Bool, true, false, List, ap, sym, refl, subst, arith}
use Rattle.ghost_model.specs.forms.Runs.{page_of}
use Rattle.ghost_base.specs.declared.runs.ListRef.{ListRef}
use Rattle.ghost_base.specs.Runs.{run_of}
use Rattle.edge_traits.specs.Devices.{Device, KeepsPages}
use Rattle.edge_traits.proofs.DeviceFrames.{same_kept}
use Rattle.page_pool.specs.Pools.{Pool, AreOut, ChangesPage, free_count}
use Rattle.spill_pass.specs.declared.groups.Groups.{Groups}
use Rattle.spill_pass.specs.Grouping.{GoesOn, CanTake, TookMore, groups_held, lists_at_hand, ids_at_hand, places_end}
use Rattle.spill_pass.specs.Lists.{ListOutside}
use Rattle.spill_pass.specs.Merging.{area_end, area_pages}
use Rattle.spill_pass.specs.Passing.{AreOfSource, IsPassing, PassGoes, ArePairs, pass_held, pass_left}
use Rattle.spill_pass.specs.Sources.{Source, SameSource, SparesSource, UsesOutside, GaveList}
use Rattle.spill_pass.proofs.Holders.{same_beside}
use Rattle.spill_pass.proofs.FreshLists.{few_pages}
use Rattle.spill_pass.proofs.Over.{over_pushed, over_then}
use Rattle.spill_pass.proofs.PassFrames.{buffers_same, few_leases, grouping_spared, lists_apart, source_spares, unread_beside}

pub no_truth : false ≡ true → ⊥
no_truth e = cc

beside_still : (page low high low' high' : ℕ) → low' ≡ low → high' ≡ high → (page < low) ⊎ (high ≤ page) → (page < low') ⊎ (high' ≤ page)
beside_still page low high low' high' same same_high (inl below) = inl (omega arith)
beside_still page low high low' high' same same_high (inr above) = inr (omega arith)

-- a source that uses no more lies outside of the same area
pub outside_still :
    {low high low' high' : ℕ} (source rest : Source) → low' ≡ low → high' ≡ high → ((page : ℕ) → rest.uses page ≡ true → source.uses page ≡ true)
    → UsesOutside low high source → UsesOutside low' high' rest
outside_still {low = low} {high = high} {low' = low'} {high' = high'} source rest same same_high uses outside =
    λ page is. beside_still page low high low' high' same same_high (outside page (uses page is))

pairs_fewer : (source rest : Source) (groups : Groups) → rest.lists_left ≤ source.lists_left → ArePairs source groups → ArePairs rest groups
pairs_fewer source rest groups fewer (inl few) = inl (omega (arith, few, fewer))
pairs_fewer source rest groups fewer (inr (half, (none, end))) = inr (half, (none, omega (arith, end, fewer)))

-- a call on the source
pub passing_source :
    {told : Bool} {before now : Device} {pool later : Pool} (source rest : Source) (groups : Groups) (fan : ℕ) → KeepsPages before now
    → ChangesPage pool later source.lease → SameSource source rest → IsPassing told before pool source groups fan false
    → AreOut later (pass_held rest groups) → IsPassing told now later rest groups fan false
passing_source {told = told} {before = before} {now = now} {pool = pool} {later = later} source rest groups fan kept changes same is still = record {
  grouping =
      grouping_spared told before now groups (source_spares source groups kept changes is.leases) (λ page from to. same_kept kept page) is.grouping;
  leases = still;
  buffers = omega (arith, is.buffers, ap (λ out. free_count (record later { out = out })) changes.out);
  lists_outside = outside_still source rest refl refl same.uses is.lists_outside;
  places_outside = outside_still source rest refl refl same.uses is.places_outside;
  room = omega (arith, is.room, same.ids);
  few = is.few;
  fan_most = is.fan_most;
  fan_least = is.fan_least;
  begins = is.begins;
  complete = λ e. absurd (no_truth e);
  pairs = pairs_fewer source rest groups same.lists is.pairs;
}

-- the list may be taken
pub can_take :
    {device : Device} (source rest : Source) (groups : Groups) (list : ListRef)
    → GaveList device source rest list → UsesOutside groups.into.writer.filler.first (area_end groups.into) source
    → UsesOutside groups.places.filler.first (places_end groups) source → ids_at_hand groups + source.ids_left ≤ groups.into.rows
    → groups.into.merge.last ≡ 0 → CanTake device list groups
can_take source rest groups list gave lists places room none = record {
  readable = gave.readable;
  from_lists = λ i within. lists (page_of (run_of list.run) i) (gave.used i within);
  from_places = λ i within. places (page_of (run_of list.run) i) (gave.used i within);
  room = omega (arith, gave.ids, room);
  none_found = none;
}

pub list_unused :
    {device : Device} {source rest : Source} {list : ListRef} (low high : ℕ) → GaveList device source rest list → UsesOutside low high source
    → ListOutside low high list
list_unused {list = list} low high gave outside = λ i within. outside (page_of (run_of list.run) i) (gave.used i within)

-- a buffer is free for it
pub is_free :
    {told : Bool} {device : Device} {pool : Pool} (source : Source) (groups : Groups) (fan : ℕ) → IsPassing told device pool source groups fan false
    → lists_at_hand groups < fan → 0 < free_count pool
is_free source groups fan is less = omega (arith, is.buffers, few_leases groups.into.merge.cursors.items, less)

pairs_taken :
    (device : Device) (source rest : Source) (old new : Groups) (list : ListRef) → GaveList device source rest list
    → lists_at_hand new ≡ lists_at_hand old + 1 → new.places.filler.count ≡ old.places.filler.count → new.size ≡ old.size
    → ArePairs source old → ArePairs rest new
pairs_taken device source rest old new list gave more placed size (inl few) = inl (omega (arith, few, gave.lists, more, placed, size))
pairs_taken device source rest old new list gave more placed size (inr (half, (none, end))) = absurd (omega (arith, end, gave.lists))

pub passing_taken :
    {told : Bool} {before now : Device} {pool mid later : Pool} (source rest : Source) (old new : Groups) (fan : ℕ) (list : ListRef)
    → IsPassing told before pool source old fan false → IsPassing told now mid rest old fan false → GaveList now source rest list → SameSource source rest
    → lists_at_hand old < fan → TookMore told now mid later list old new → AreOut later (pass_held rest new)
    → PassGoes now now mid later rest rest old new
    → IsPassing told now later rest new fan false
passing_taken {now = now} {mid = mid} {later = later} source rest old new fan list first is gave same less more still goes = record {
  grouping = more.grouping;
  leases = still;
  buffers = omega (arith, is.buffers, buffers_same mid later (pass_held rest old) (pass_held rest new) is.leases still goes.beside);
  lists_outside =
      outside_still rest rest goes.lists_first (omega (arith, goes.lists_first, ap (λ n. area_pages n) goes.rows)) (λ page is. is) is.lists_outside;
  places_outside =
      outside_still rest rest goes.places_first (omega (arith, goes.places_first, ap (λ n. area_pages n) goes.size)) (λ page is. is) is.places_outside;
  room = omega (arith, first.room, gave.ids, more.ids, goes.rows);
  few = omega (arith, more.lists, less);
  fan_most = is.fan_most;
  fan_least = is.fan_least;
  begins = λ e. more.none_found;
  complete = λ e. absurd (no_truth e);
  pairs = pairs_taken now source rest old new list gave more.lists more.placed goes.size first.pairs;
}

-- less is left to do
pub taken_less :
    {told : Bool} {now : Device} {pool mid later : Pool} (source rest : Source) (old new : Groups) (list : ListRef)
    → ChangesPage pool mid source.lease → AreOut pool (pass_held source old) → GaveList now source rest list
    → TookMore told now mid later list old new → pass_left later rest new false < pass_left pool source old false
taken_less {pool = pool} {mid = mid} {later = later} source rest old new list changes are gave more =
    omega (
      arith,
      few_pages list.run list.count gave.width,
      more.left,
      more.lists,
      gave.lists,
      gave.ids,
      unread_beside source.lease old.into.merge.cursors.items changes (lists_apart pool source old are),
    )

pub looked_less :
    {pool later : Pool} (source rest : Source) (groups : Groups) → ChangesPage pool later source.lease → AreOut pool (pass_held source groups)
    → SameSource source rest → pass_left later rest groups false ≤ pass_left pool source groups false
looked_less {pool = pool} source rest groups changes are same =
    omega (arith, same.lists, same.ids, unread_beside source.lease groups.into.merge.cursors.items changes (lists_apart pool source groups are))

-- the source keeps what it has where the groups change
pub source_spared :
    {before now : Device} {pool later : Pool} (source : Source) (old new : Groups) → UsesOutside old.into.writer.filler.first (area_end old.into) source
    → UsesOutside old.places.filler.first (places_end old) source → GoesOn before now pool later old new → AreOut pool (pass_held source old)
    → PassGoes before now pool later source source old new → SparesSource before now pool later source
source_spared source old new lists places goes are passes = record {
  page_count = goes.changes.page_count;
  pages = λ page is. (goes.changes.stays page (lists page is) (places page is)).bytes;
  out = passes.still.0;
  buffer = same_beside source.lease (groups_held old) are goes.others;
}

-- the lists at hand are of the source after a call on it, and after one more was taken
pub next_of_source :
    {S : Type 0} (may : (ℕ → List ℕ) → S → ListRef → Type 0) (before now : ℕ → List ℕ) (lists rest : S) (groups : Groups) → now ≡ before
    → ((page : ℕ → List ℕ) (list : ListRef) → may page lists list → may page rest list) → AreOfSource (may before lists) groups
    → AreOfSource (may now rest) groups
next_of_source may before now lists rest groups pages still of =
    over_then (may before lists) (may now rest) groups.into.merge.cursors.items refl
    (λ list one. let M : (ℕ → List ℕ) → Type 0 = λ page. may page rest list in subst M (sym pages) (still before list one)) of

pub taken_of_source :
    {S : Type 0} {told : Bool} {device : Device} {pool later : Pool} (may : (ℕ → List ℕ) → S → ListRef → Type 0) (page : ℕ → List ℕ) (lists rest : S)
    (old new : Groups) (list : ListRef) → TookMore told device pool later list old new
    → ((page : ℕ → List ℕ) (list : ListRef) → may page lists list → may page rest list) → may page lists list → AreOfSource (may page rest) old
    → AreOfSource (may page rest) new
taken_of_source may page lists rest old new list more still gave of =
    let one = more.cursors in
    over_then (may page rest) (may page rest) new.into.merge.cursors.items more.goes.rows (λ other is. is)
    (over_pushed (may page rest) old.into.rows old.into.merge.cursors.items new.into.merge.cursors.items one.run one.is
    (record { list = let M : ListRef → Type 0 = may page rest in subst M (sym one.list_is) (still page list gave); rows_are = one.rows_are }) of)
