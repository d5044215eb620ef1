-- How many calls of the flash are left: in a pass, where a list was taken or a merge went on, and over all passes.
use Rattle.std.proofs.Common.{◌≡◌, ℕ, zero, suc, ◌+◌, ◌-◌, ◌*◌, ◌/◌, ◌^◌, ◌<◌, ◌≤◌, ◌⊎◌, inl, inr, Bool, mul-le-mul, pow-suc, ap, sym, subst, arith, ◌∙◌}
use Rattle.std.specs.Prelude.{Option, Some, None, Ok}
use Rattle.ghost_base.specs.declared.runs.ListRef.{ListRef}
use Rattle.edge_traits.specs.Devices.{Device}
use Rattle.page_pool.specs.Pools.{Pool, AreOut, ChangesPage}
use Rattle.id_merge.specs.Cursors.{unread_in}
use Rattle.spill_pass.specs.declared.groups.Groups.{Groups}
use Rattle.spill_pass.specs.declared.groups.PlacedLists.{PlacedLists}
use Rattle.spill_pass.specs.declared.passes.PassTurn.{PassTurn}
use Rattle.spill_pass.specs.declared.passes.PassTurn.TheVariants.{Went}
use Rattle.spill_pass.specs.declared.reduce.Areas.{Areas}
use Rattle.spill_pass.specs.Calls.{CallsLeft, FewerCalls, PassSpent, PassSpends, TurnSpends, group_calls_left, ids_in_pass, pass_calls, pass_calls_left}
use Rattle.spill_pass.specs.Grouping.{IsBegun, IsGrouping, TookMore, calls_to_come, ids_at_hand}
use Rattle.spill_pass.specs.Passing.{PassEnds, pass_held}
use Rattle.spill_pass.specs.Reducing.{IsNextPass, PassesTo}
use Rattle.spill_pass.specs.Sources.{Source, SameSource, GaveList}
use Rattle.spill_pass.proofs.Closing.{none_hand}
use Rattle.spill_pass.proofs.Grouping.{places_below}
use Rattle.spill_pass.proofs.FreshLists.{few_pages}
use Rattle.spill_pass.proofs.PassFrames.{lists_apart, unread_beside}
use Rattle.spill_pass.proofs.Writing.{pages_below}

-- pages that are written are no longer to be written, whatever room there is
over_pages : (a b u u' p p' q q' r s x : ℕ) → p ≤ r → p' ≤ r → q ≤ s → q' ≤ s
    → a + (u' + 2 * (r - p') + 2 * (s - q')) ≤ b + (u + 2 * (r - p) + 2 * (s - q)) + x
    → a + u' + 2 * p + 2 * q ≤ b + u + 2 * p' + 2 * q' + x
over_pages a b u u' p p' q q' r s x p_in p'_in q_in q'_in less = omega arith

over_ids : (a b u u' p p' q q' i i' t x : ℕ) → p' ≤ i' → i' ≤ i → q' ≤ t
    → a + u' + 2 * p + 2 * q ≤ b + u + 2 * p' + 2 * q' + x
    → a + (u' + 2 * (i' - p') + 2 * (t - q')) ≤ b + (u + 2 * (i - p) + 2 * (t - q)) + x
over_ids a b u u' p p' q q' i i' t x p'_in fewer q'_in less = omega arith

pages_few : (pages held count rows : ℕ) → pages * 512 + held ≡ count → count ≤ rows → pages ≤ (rows + 511) / 512
pages_few pages held count rows is few = omega arith

pages_of_ids : (pages held count ids : ℕ) → pages * 512 + held ≡ count → count ≤ ids → pages ≤ ids / 512
pages_of_ids pages held count ids is few = omega arith

place_pages : (pages held count size : ℕ) → pages * 256 + held ≡ count → 2 * count ≤ size + 1 → (pages ≤ (size + 511) / 512) × (pages ≤ (size + 1) / 512)
place_pages pages held count size is few = (omega arith, omega arith)

-- what the groups called, over fewer identifiers than there is room for
pub group_spends :
    {told : Bool} {before now : Device} {pool later : Pool} (old new : Groups) (ids left a b x : ℕ)
    → IsGrouping told before pool old → IsGrouping told now later new → new.into.rows ≡ old.into.rows → new.size ≡ old.size
    → ids_at_hand new ≤ left → left ≤ ids → a + calls_to_come later new ≤ b + calls_to_come pool old + x
    → a + group_calls_left later left new ≤ b + group_calls_left pool ids old + x
group_spends {pool = pool} {later = later} old new ids left a b x was is rows size hand fewer less =
    let o = old.into.writer.filler in
    let n = new.into.writer.filler in
    let before = place_pages old.places.filler.pages old.places.filler.held old.places.filler.count old.size (places_below old was) was.placed in
    let now = place_pages new.places.filler.pages new.places.filler.held new.places.filler.count new.size (places_below new is) is.placed in
    let moved =
    over_pages a b (unread_in pool old.into.merge.cursors.items) (unread_in later new.into.merge.cursors.items) o.pages n.pages
    old.places.filler.pages new.places.filler.pages ((old.into.rows + 511) / 512) ((old.size + 511) / 512) x
    (pages_few o.pages o.held o.count old.into.rows (pages_below was.merging) was.merging.count)
    (omega (arith, rows, pages_few n.pages n.held n.count new.into.rows (pages_below is.merging) is.merging.count))
    before.0 (omega (arith, size, now.0)) (omega (arith, less, rows, size)) in
    let over =
    over_ids a b (unread_in pool old.into.merge.cursors.items) (unread_in later new.into.merge.cursors.items) o.pages n.pages
    old.places.filler.pages new.places.filler.pages (ids / 512) (left / 512) ((old.size + 1) / 512) x
    (pages_of_ids n.pages n.held n.count left (pages_below is.merging) (omega (arith, hand)))
    (omega (arith, fewer)) (omega (arith, size, now.1)) moved in
    omega (arith, over, size)

-- a list was taken
pub spent_taken :
    {told : Bool} {now : Device} {from to : ℕ} {pool mid later : Pool} (source rest : Source) (old new : Groups) (list : ListRef)
    → IsGrouping told now mid old → ChangesPage pool mid source.lease → AreOut pool (pass_held source old) → GaveList now source rest list
    → to + 3 * rest.lists_left ≤ from + 3 * source.lists_left → TookMore told now mid later list old new
    → PassSpent from to pool later source rest old new
spent_taken {pool = pool} {mid = mid} {later = later} source rest old new list was changes are gave looked more =
    let width = few_pages list.run list.count gave.width in
    let group =
    group_spends old new (ids_in_pass source old) (ids_in_pass rest new) 0 0 (list.count / 512 + 2) was more.grouping more.goes.rows more.goes.size
    (omega arith) (omega (arith, more.ids, gave.ids)) (omega (arith, more.calls, width)) in
    record {
      ids = omega (arith, more.ids, gave.ids);
      calls =
          omega (
            arith,
            looked,
            gave.lists,
            gave.ids,
            group,
            unread_beside source.lease old.into.merge.cursors.items changes (lists_apart pool source old are),
          );
    }

-- no list was left
pub spent_looking :
    {from to : ℕ} {pool later : Pool} (source rest : Source) (groups : Groups) → ChangesPage pool later source.lease
    → AreOut pool (pass_held source groups) → SameSource source rest → to + 3 * rest.lists_left ≤ from + 3 * source.lists_left
    → PassSpent from to pool later source rest groups groups
spent_looking {pool = pool} source rest groups changes are same looked = record {
  ids = omega (arith, same.ids);
  calls =
      omega (
        arith,
        looked,
        same.lists,
        same.ids,
        unread_beside source.lease groups.into.merge.cursors.items changes (lists_apart pool source groups are),
      );
}

-- the merge of the group at hand went on
pub spent_merging :
    {told : Bool} {before now : Device} {from to : ℕ} {pool later : Pool} (source : Source) (old new : Groups)
    → IsGrouping told before pool old → IsGrouping told now later new → new.into.rows ≡ old.into.rows → new.size ≡ old.size
    → ids_at_hand new ≤ ids_at_hand old → to + calls_to_come later new ≤ from + calls_to_come pool old
    → PassSpent from to pool later source source old new
spent_merging {from = from} {to = to} source old new was is rows size ids calls =
    let group =
    group_spends old new (ids_in_pass source old) (ids_in_pass source new) to from 0 was is rows size (omega arith) (omega (arith, ids))
    (omega (arith, calls)) in
    record { ids = omega (arith, ids); calls = omega (arith, group) }

-- the pass went on
pub more_passes : (p size size' ids ids' : ℕ) → size' ≤ size → ids' ≤ ids → p * pass_calls size' ids' ≤ p * pass_calls size ids
more_passes p size size' ids ids' few fewer =
    let q : p ≤ p = omega arith in
    let m : pass_calls size' ids' ≤ pass_calls size ids = omega (arith, few, fewer) in
    mul-le-mul q m

pub fewer_went :
    {before now : ℕ} {pool later : Pool} (source rest : Source) (areas : Areas) (old new : Groups) (left : ℕ)
    → PassSpent before now pool later source rest old new → new.size ≡ old.size → new.into.writer.filler.first ≡ old.into.writer.filler.first
    → CallsLeft pool source areas old left → FewerCalls before now later rest areas new left
fewer_went {later = later} source rest areas old new left spent size first calls =
    let E : ℕ → Type 0 = λ at. (at ≡ areas.to) ⊎ (1 ≤ calls.passes) in
    let H : ℕ → Type 0 = λ n. n ≤ 2 ^ calls.passes in
    record {
      still = pass_calls_left later rest new + calls.passes * pass_calls new.size (ids_in_pass rest new);
      calls_left = record {
        passes = calls.passes;
        halved = subst H (sym size) calls.halved;
        elsewhere = subst E (sym first) calls.elsewhere;
        enough = omega arith;
      };
      spent =
          omega (
            arith,
            spent.calls,
            calls.enough,
            more_passes calls.passes old.size new.size (ids_in_pass source old) (ids_in_pass rest new) (omega (arith, size)) spent.ids,
          );
    }

-- half as many lists come from a pass
halve : (q size count : ℕ) → 2 * count ≤ size + 1 → size ≤ 2 ^ suc q → count ≤ 2 ^ q
halve q size count half few = omega (arith, half, few, pow-suc 2 q)

some_power : (q : ℕ) → 2 ≤ 2 ^ q → 1 ≤ q
some_power zero two = absurd (omega (arith, two))
some_power (suc q) two = omega arith

pub record After (areas : Areas) (size at passes : ℕ) : Type 0 where
  pub rest : ℕ
  pub fewer : rest + 1 ≤ passes
  pub halved : size ≤ 2 ^ rest
  pub elsewhere : (at ≡ areas.to) ⊎ (1 ≤ rest)

pub after : (areas : Areas) (placed : PlacedLists) (old first size passes : ℕ) → 2 * placed.places.count ≤ size + 1 → placed.lists.first ≡ old
    → size ≤ 2 ^ passes → (old ≡ areas.to) ⊎ (1 ≤ passes) → IsNextPass areas placed first → After areas placed.places.count first passes
after areas placed old first size zero half at few elsewhere next =
    elim next.many [
      | inl two ↦ absurd (omega (arith, two, half, few))
      | inr (beside, there) ↦ elim elsewhere [
        | inl here ↦ absurd (beside (at ∙ here))
        | inr some ↦ absurd (omega (arith, some))
      ]
    ]
after areas placed old first size (suc q) half at few elsewhere next =
    let fewer = halve q size placed.places.count half few in
    record {
      rest = q;
      fewer = omega arith;
      halved = fewer;
      elsewhere = elim next.many [
        | inl two ↦ inr (some_power q (omega (arith, two, fewer)))
        | inr (beside, there) ↦ inl there
      ];
    }

pub one_pass : (p q a b : ℕ) → q + 1 ≤ p → a ≤ b → a + q * a ≤ p * b
one_pass p q a b fewer less = let all : (q + 1) * a ≤ p * b = mul-le-mul fewer less in omega (arith, all)

-- the next pass was begun
pub fewer_passes :
    {told : Bool} {before now : Device} {from to : ℕ} {pool later : Pool} (source rest : Source) (areas : Areas) (old new begun : Groups) (placed : PlacedLists) (fan calls left : ℕ)
    → to ≤ from + 4 → PassEnds before now old new placed calls → PassesTo told now later rest areas new begun placed fan
    → CallsLeft pool source areas old left → FewerCalls from to later rest areas begun left
fewer_passes {later = later} source rest areas old new begun placed fan calls left few ends passes was =
    let on = passes.passed in
    let next = after areas placed old.into.writer.filler.first passes.first old.size was.passes ends.half ends.runs.lists_first was.halved was.elsewhere passes.next in
    let H : ℕ → Type 0 = λ n. n ≤ 2 ^ next.rest in
    let E : ℕ → Type 0 = λ at. (at ≡ areas.to) ⊎ (1 ≤ next.rest) in
    let most : pass_calls begun.size (ids_in_pass rest begun) ≤ pass_calls old.size (ids_in_pass source old) =
    omega (arith, on.size, ends.half, on.ids, ends.runs.lists_count) in
    record {
      still = pass_calls_left later rest begun + next.rest * pass_calls begun.size (ids_in_pass rest begun);
      calls_left = record {
        passes = next.rest;
        halved = subst H (sym on.size) next.halved;
        elsewhere = subst E (sym on.area) next.elsewhere;
        enough = omega arith;
      };
      spent =
          omega (
            arith,
            few,
            was.enough,
            on.calls,
            one_pass was.passes next.rest (pass_calls begun.size (ids_in_pass rest begun)) (pass_calls old.size (ids_in_pass source old)) next.fewer most,
          );
    }

-- at the beginning
pub begins_with : (size l : ℕ) → 5 * size + l / 512 + (0 + 2 * (l / 512) + 2 * ((size + 1) / 512)) + 4 ≤ 8 * size + 3 * (l / 512) + 8
begins_with size l = omega arith

pub less_power : (k size : ℕ) → size < 2 ^ k → size ≤ 2 ^ suc k
less_power k size few = omega (arith, few, pow-suc 2 k)

pub in_all : (k a b c : ℕ) → a ≤ c → b ≡ suc k * c → a + b ≤ (k + 2) * c
in_all k a b c first rest = omega (arith, first, rest)

pub calls_begun :
    {pool : Pool} (source : Source) (areas : Areas) (groups : Groups) (to places rows lists_lease places_lease k : ℕ)
    → IsBegun to places rows source.lists_left lists_lease places_lease groups → source.lists_left < 2 ^ k
    → CallsLeft pool source areas groups ((k + 2) * pass_calls source.lists_left source.ids_left)
calls_begun {pool = pool} source areas groups to places rows lists_lease places_lease k begun few =
    let hand = none_hand groups.into.merge begun.none in
    let no_read : unread_in pool groups.into.merge.cursors.items ≡ 0 = ap (λ cs. unread_in pool cs) begun.none in
    let ids : ids_in_pass source groups ≡ source.ids_left = omega (arith, hand, begun.written) in
    let first : pass_calls_left pool source groups ≤ pass_calls source.lists_left source.ids_left =
    omega (arith, no_read, ids, begun.size, begins_with source.lists_left source.ids_left) in
    let same : pass_calls groups.size (ids_in_pass source groups) ≡ pass_calls source.lists_left source.ids_left =
    omega (arith, ids, begun.size) in
    let rest : suc k * pass_calls groups.size (ids_in_pass source groups) ≡ suc k * pass_calls source.lists_left source.ids_left =
    ap (λ n. suc k * n) same in
    record {
      passes = suc k;
      halved = omega (arith, begun.size, less_power k source.lists_left few);
      elsewhere = inr (omega arith);
      enough =
          in_all k (pass_calls_left pool source groups) (suc k * pass_calls groups.size (ids_in_pass source groups))
          (pass_calls source.lists_left source.ids_left) first rest;
    }

-- what a turn of the pass came to
pub went_spends :
    {before now : ℕ} {pool later : Pool} {source rest : Source} {old new : Groups} {turn : PassTurn} {calls : ℕ} → turn ≡ Went calls
    → PassSpends before now pool later source rest old new turn → PassSpent before now pool later source rest old new
went_spends {before = before} {now = now} {pool = pool} {later = later} {source = source} {rest = rest} {old = old} {new = new} is spends =
    let P : PassTurn → Type 0 = PassSpends before now pool later source rest old new in subst P is spends

-- turns one after another
pub fewer_none :
    {calls : ℕ} {pool : Pool} {source : Source} {areas : Areas} {groups : Groups} {left : ℕ} → CallsLeft pool source areas groups left
    → FewerCalls calls calls pool source areas groups left
fewer_none {left = left} few = record { still = left; calls_left = few; spent = omega arith }

pub fewer_again :
    {before mid now : ℕ} {pool later : Pool} {source rest : Source} {areas areas' : Areas} {groups new : Groups} {left calls : ℕ} {turn : Option ℕ}
    → areas' ≡ areas → turn ≡ Some calls → FewerCalls before mid pool source areas groups left
    → ((still : ℕ) → CallsLeft pool source areas' groups still → TurnSpends mid now later rest areas' new still (Ok turn))
    → FewerCalls before now later rest areas new left
fewer_again {mid = mid} {now = now} {pool = pool} {later = later} {source = source} {rest = rest} {areas' = areas'} {groups = groups} {new = new} same is fewer turn =
    let C : Areas → Type 0 = λ x. CallsLeft pool source x groups fewer.still in
    let T : Option ℕ → Type 0 = λ o. TurnSpends mid now later rest areas' new fewer.still (Ok o) in
    let next = subst T is (turn fewer.still (subst C (sym same) fewer.calls_left)) in
    let D : Areas → Type 0 = λ x. CallsLeft later rest x new next.still in
    record { still = next.still; calls_left = subst D same next.calls_left; spent = omega (arith, fewer.spent, next.spent) }

pub done_after :
    {before mid : ℕ} {pool : Pool} {source : Source} {areas areas' : Areas} {groups : Groups} {left : ℕ} {turn : Option ℕ} (now : ℕ) (later : Pool) (rest : Source) (new : Groups)
    → areas' ≡ areas → turn ≡ None → FewerCalls before mid pool source areas groups left
    → ((still : ℕ) → CallsLeft pool source areas' groups still → TurnSpends mid now later rest areas' new still (Ok turn))
    → now ≤ before + left
done_after {mid = mid} {pool = pool} {source = source} {areas' = areas'} {groups = groups} now later rest new same is fewer turn =
    let C : Areas → Type 0 = λ x. CallsLeft pool source x groups fewer.still in
    let T : Option ℕ → Type 0 = λ o. TurnSpends mid now later rest areas' new fewer.still (Ok o) in
    omega (arith, fewer.spent, subst T is (turn fewer.still (subst C (sym same) fewer.calls_left)))

pub failed_after :
    {before mid : ℕ} {pool : Pool} {source : Source} {areas areas' : Areas} {groups : Groups} {left : ℕ} (now : ℕ) → areas' ≡ areas
    → FewerCalls before mid pool source areas groups left → ((still : ℕ) → CallsLeft pool source areas' groups still → now ≤ mid + still)
    → now ≤ before + left
failed_after {pool = pool} {source = source} {groups = groups} now same fewer turn =
    let C : Areas → Type 0 = λ x. CallsLeft pool source x groups fewer.still in
    omega (arith, fewer.spent, turn fewer.still (subst C (sym same) fewer.calls_left))
