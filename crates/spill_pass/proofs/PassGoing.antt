-- What holds of a pass where the merge of the group at hand went on, where its list stands, and at the beginning and the end.
use Rattle.std.proofs.Common.{◌≡◌, ◌∙◌, ℕ, zero, suc, ◌+◌, ◌-◌, ◌*◌, ◌<◌, ◌≤◌, ◌⊎◌, inl, inr, Bool, true, false, List, [], ◌∷◌, length, ap, sym, refl, subst, arith}
use Rattle.ghost_model.specs.core.Causes.{Rose}
use Rattle.edge_traits.specs.Devices.{Device, Counts}
use Rattle.page_pool.specs.Pools.{Pool, AreOut}
use Rattle.id_merge.specs.Cursors.{leases_of}
use Rattle.spill_pass.specs.declared.groups.Groups.{Groups}
use Rattle.spill_pass.specs.declared.groups.PlacedLists.{PlacedLists}
use Rattle.spill_pass.specs.Grouping.{IsBegun, AreRunsOf, IsGrouping, WentOn, ListStands, groups_held, lists_at_hand}
use Rattle.spill_pass.specs.Merging.{MadeAtMost, area_pages}
use Rattle.spill_pass.specs.Passing.{CanPass, IsPassing, PassGoes, ArePairs, IsComplete, MadeFew, PassWent, PassEnds, pass_held, pass_left}
use Rattle.spill_pass.specs.Sources.{Source}
use Rattle.spill_pass.proofs.Closing.{none_hand}
use Rattle.spill_pass.proofs.Counted.{counts_rose}
use Rattle.spill_pass.proofs.PassFrames.{buffers_same}
use Rattle.spill_pass.proofs.PassTaking.{no_truth, outside_still}

-- the merge of the group at hand went on
pairs_same : (source : Source) (old new : Groups) → lists_at_hand new ≡ lists_at_hand old → new.places.filler.count ≡ old.places.filler.count → new.size ≡ old.size → ArePairs source old → ArePairs source new
pairs_same source old new lists placed size (inl few) = inl (omega (arith, few, lists, placed, size))
pairs_same source old new lists placed size (inr (half, (none, end))) = inr (omega (arith, half, placed, size), (omega (arith, none, lists), end))

complete_same : (source : Source) (old new : Groups) → lists_at_hand new ≡ lists_at_hand old → IsComplete source old → IsComplete source new
complete_same source old new lists (inl two) = inl (omega (arith, two, lists))
complete_same source old new lists (inr (one, end)) = inr (omega (arith, one, lists), end)

pub passing_went :
    {told : Bool} {before now : Device} {pool later : Pool} (source : Source) (old new : Groups) (fan : ℕ)
    → IsPassing told before pool source old fan true → WentOn told now pool later old new → PassGoes before now pool later source source old new
    → IsPassing told now later source new fan true
passing_went {pool = pool} {later = later} source old new fan is went goes = record {
  grouping = went.grouping;
  leases = goes.still;
  buffers = omega (arith, is.buffers, buffers_same pool later (pass_held source old) (pass_held source new) is.leases goes.still goes.beside);
  lists_outside =
      outside_still source source goes.lists_first (omega (arith, goes.lists_first, ap (λ n. area_pages n) goes.rows)) (λ page is. is) is.lists_outside;
  places_outside =
      outside_still source source goes.places_first (omega (arith, goes.places_first, ap (λ n. area_pages n) goes.size)) (λ page is. is) is.places_outside;
  room = omega (arith, is.room, went.ids, goes.rows);
  few = omega (arith, went.lists, is.few);
  fan_most = is.fan_most;
  fan_least = is.fan_least;
  begins = λ e. absurd (no_truth (sym e));
  complete = λ e. complete_same source old new went.lists (is.complete refl);
  pairs = pairs_same source old new went.lists went.placed goes.size is.pairs;
}

-- a group of two lists or more became one list, or the last one did
pairs_listed :
    (source : Source) (old new : Groups) → lists_at_hand new ≡ 0 → new.places.filler.count ≡ old.places.filler.count + 1 → new.size ≡ old.size
    → IsComplete source old → ArePairs source old → ArePairs source new
pairs_listed source old new none placed size (inl two) (inl few) = inl (omega (arith, two, few, none, placed, size))
pairs_listed source old new none placed size (inl two) (inr (half, (no_list, end))) = absurd (omega (arith, two, no_list))
pairs_listed source old new none placed size (inr (one, end)) (inl few) = inr (omega (arith, one, few, placed, size), (none, end))
pairs_listed source old new none placed size (inr (one, end)) (inr (half, (no_list, ends))) = absurd (omega (arith, one, no_list))

pub passing_listed :
    {told : Bool} {before now : Device} {pool later : Pool} (source : Source) (old new : Groups) (fan : ℕ)
    → IsPassing told before pool source old fan true → ListStands told now pool later old new → PassGoes before now pool later source source old new
    → IsPassing told now later source new fan false
passing_listed {pool = pool} {later = later} source old new fan is stands goes = record {
  grouping = stands.grouping;
  leases = goes.still;
  buffers = omega (arith, is.buffers, buffers_same pool later (pass_held source old) (pass_held source new) is.leases goes.still goes.beside);
  lists_outside =
      outside_still source source goes.lists_first (omega (arith, goes.lists_first, ap (λ n. area_pages n) goes.rows)) (λ page is. is) is.lists_outside;
  places_outside =
      outside_still source source goes.places_first (omega (arith, goes.places_first, ap (λ n. area_pages n) goes.size)) (λ page is. is) is.places_outside;
  room = omega (arith, is.room, stands.ids, goes.rows);
  few = omega (arith, stands.lists);
  fan_most = is.fan_most;
  fan_least = is.fan_least;
  begins = λ e. stands.none_found;
  complete = λ e. absurd (no_truth e);
  pairs = pairs_listed source old new stands.lists stands.placed goes.size (is.complete refl) is.pairs;
}

-- some lists are at hand
some_lists : (source : Source) (groups : Groups) → IsComplete source groups → 0 < lists_at_hand groups
some_lists source groups (inl two) = omega (arith, two)
some_lists source groups (inr (one, end)) = omega (arith, one)

-- there is room for the place of the group's list
place_room : (source : Source) (groups : Groups) → 0 < lists_at_hand groups → ArePairs source groups → 2 * groups.places.filler.count < groups.size
place_room source groups some (inl few) = omega (arith, some, few)
place_room source groups some (inr (half, (none, end))) = absurd (omega (arith, some, none))

pub place_fits :
    {told : Bool} {device : Device} {pool : Pool} (source : Source) (groups : Groups) (fan : ℕ) → IsPassing told device pool source groups fan true
    → 2 * groups.places.filler.count < groups.size
place_fits source groups fan is = place_room source groups (some_lists source groups (is.complete refl)) is.pairs

pub listed_less :
    {told : Bool} {now : Device} {pool later : Pool} (source : Source) (old new : Groups) → IsComplete source old → ListStands told now pool later old new
    → pass_left later source new false < pass_left pool source old true
listed_less source old new complete stands = omega (arith, some_lists source old complete, stands.lists, stands.fewer)

-- so many calls were made
pub made_three : {before now : Device} (calls : ℕ) → calls ≡ 3 → MadeAtMost 3 before now → Rose before.calls now.calls → MadeFew calls before now
made_three calls is most rose = record {
  few = omega (arith, is);
  at_most = record { calls = omega (arith, is, most.calls); deep_reads = omega (arith, is, most.deep_reads) };
  called = λ some. rose;
}

pub made_four : {before now : Device} (calls : ℕ) → calls ≡ 4 → MadeAtMost 4 before now → Rose before.calls now.calls → MadeFew calls before now
made_four calls is most rose = record {
  few = omega (arith, is);
  at_most = record { calls = omega (arith, is, most.calls); deep_reads = omega (arith, is, most.deep_reads) };
  called = λ some. rose;
}

pub made_none : {before now : Device} (calls : ℕ) → calls ≡ 0 → MadeAtMost 0 before now → MadeFew calls before now
made_none calls is most = record {
  few = omega (arith, is);
  at_most = record { calls = omega (arith, is, most.calls); deep_reads = omega (arith, is, most.deep_reads) };
  called = λ some. absurd (omega (arith, is, some));
}

-- the group at hand is complete
pub passing_complete :
    {told : Bool} {device : Device} {pool : Pool} (source : Source) (groups : Groups) (fan : ℕ) → IsPassing told device pool source groups fan false
    → IsComplete source groups → IsPassing told device pool source groups fan true
passing_complete source groups fan is complete = record {
  grouping = is.grouping;
  leases = is.leases;
  buffers = is.buffers;
  lists_outside = is.lists_outside;
  places_outside = is.places_outside;
  room = is.room;
  few = is.few;
  fan_most = is.fan_most;
  fan_least = is.fan_least;
  begins = λ e. absurd (no_truth (sym e));
  complete = λ e. complete;
  pairs = is.pairs;
}

one_or_more : (n left : ℕ) → 0 < n → left ≡ 0 → (2 ≤ n) ⊎ ((n ≡ 1) × (left ≡ 0))
one_or_more zero left some none = absurd (omega (arith, some))
one_or_more (suc zero) left some none = inr (refl, none)
one_or_more (suc (suc n)) left some none = inl (omega arith)

pub some_complete : (source : Source) (groups : Groups) → 0 < lists_at_hand groups → source.lists_left ≡ 0 → IsComplete source groups
some_complete source groups some none = one_or_more (lists_at_hand groups) source.lists_left some none

-- no call was made
pub went_none : {told : Bool} {device : Device} {pool : Pool} (source : Source) (groups : Groups) (fan : ℕ) → IsPassing told device pool source groups fan true
    → PassWent told device device pool pool source source groups groups fan false true 0
went_none source groups fan is = record {
  made = made_none 0 refl (record { calls = omega arith; deep_reads = omega arith });
  passing = is;
  fewer = omega arith;
}

-- the lists of all groups stand
half_of : (source : Source) (groups : Groups) → ArePairs source groups → 2 * groups.places.filler.count ≤ groups.size + 1
half_of source groups (inl few) = omega (arith, few)
half_of source groups (inr (half, rest)) = half

pub pass_ends :
    {told : Bool} {before now : Device} {pool : Pool} (source : Source) (old new : Groups) (fan : ℕ) (placed : PlacedLists) (calls : ℕ) (merging : Bool)
    → IsPassing told before pool source old fan merging → AreRunsOf old placed → lists_at_hand new ≡ 0 → MadeFew calls before now
    → PassEnds before now old new placed calls
pass_ends source old new fan placed calls merging is runs empty made = record {
  empty = empty;
  made = made;
  runs = runs;
  half = omega (arith, half_of source old is.pairs, runs.places_count);
  ids = omega (arith, is.grouping.room, runs.lists_count);
}

pub went_less :
    {told : Bool} {now : Device} {pool later : Pool} (source : Source) (old new : Groups) → WentOn told now pool later old new
    → pass_left later source new true < pass_left pool source old true
went_less source old new went = omega (arith, went.lists, went.fewer)

pub made_two :
    {calls : ℕ} {before now : Device} (old new : ℕ) → calls ≡ new - old → new ≤ old + 2 → MadeAtMost (new - old) before now
    → Counts (new - old) before.calls now.calls → MadeFew calls before now
made_two old new is few most counts = record {
  few = omega (arith, is, few);
  at_most = record { calls = omega (arith, is, most.calls); deep_reads = omega (arith, is, most.deep_reads) };
  called = λ some. counts_rose (omega (arith, is, some)) counts;
}

-- a pass begins
pub pass_begun :
    {device : Device} {pool : Pool} (told : Bool) (source : Source) (groups : Groups) (to places rows fan lists_lease places_lease : ℕ)
    → fan ≤ 96 → 2 ≤ fan → CanPass device pool source to places rows fan lists_lease places_lease
    → IsBegun to places rows source.lists_left lists_lease places_lease groups → IsGrouping told device pool groups
    → IsPassing told device pool source groups fan false
pass_begun {pool = pool} told source groups to places rows fan lists_lease places_lease most least can begun grouping =
    let held : groups_held groups ≡ places_lease ∷ lists_lease ∷ [] =
    ap (λ cs. groups.places.lease ∷ groups.into.writer.lease ∷ leases_of cs) begun.none
    ∙ ap (λ (l : ℕ). l ∷ groups.into.writer.lease ∷ []) begun.places_lease
    ∙ ap (λ (l : ℕ). places_lease ∷ l ∷ []) begun.lists_lease in
    let P : List ℕ → Type 0 = λ ls. AreOut pool (source.lease ∷ ls) in
    let none : lists_at_hand groups ≡ 0 = ap (λ cs. length cs) begun.none in
    record {
      grouping = grouping;
      leases = subst P (sym held) can.leases;
      buffers = omega (arith, can.buffers, ap (λ ls. length ls) held);
      lists_outside = outside_still source source begun.lists (omega (arith, begun.lists, ap (λ n. area_pages n) begun.rows)) (λ page is. is) can.lists_outside;
      places_outside = outside_still source source begun.places (omega (arith, begun.places, ap (λ n. area_pages n) begun.size)) (λ page is. is) can.places_outside;
      room = omega (arith, none_hand groups.into.merge begun.none, begun.written, can.ids, begun.rows);
      few = omega (arith, none);
      fan_most = most;
      fan_least = least;
      begins = λ e. begun.none_found;
      complete = λ e. absurd (no_truth e);
      pairs = inl (omega (arith, none, begun.placed, begun.size));
    }
