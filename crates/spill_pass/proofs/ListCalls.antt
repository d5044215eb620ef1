-- How many calls are left by the identifiers that the lists have themselves.
use Rattle.std.proofs.Common.{◌≡◌, ℕ, suc, ◌+◌, ◌*◌, ◌/◌, ◌^◌, ◌≤◌, ◌⊎◌, Bool, List, [], ◌∷◌, mul-le-mul, ap, sym, subst, arith}
use Rattle.std.specs.Prelude.{Option, Some, None, Result, Ok, Err, IfOk}
use Rattle.std.specs.List.{concat}
use Rattle.std.proofs.lemmas.List.{length-append, length-map}
use Rattle.ghost_model.specs.forms.Runs.{number_cell}
use Rattle.ghost_base.specs.declared.runs.ListRef.{ListRef}
use Rattle.ghost_base.specs.declared.runs.Run.{Run}
use Rattle.edge_traits.specs.Devices.{Device}
use Rattle.page_pool.specs.Pools.{Pool, AreOut, ChangesPage}
use Rattle.flash_pages.specs.declared.fault.PageFault.{PageFault}
use Rattle.id_merge.specs.Cursors.{unread_in}
use Rattle.spill_pass.specs.declared.groups.Groups.{Groups}
use Rattle.spill_pass.specs.declared.groups.PlacedLists.{PlacedLists}
use Rattle.spill_pass.specs.declared.passes.PassTurn.{PassTurn}
use Rattle.spill_pass.specs.declared.passes.PassTurn.TheVariants.{Went, Placed}
use Rattle.spill_pass.specs.declared.places.PlaceReader.{PlaceReader}
use Rattle.spill_pass.specs.declared.reduce.Areas.{Areas}
use Rattle.spill_pass.specs.Calls.{ids_in_pass, pass_calls, pass_calls_left}
use Rattle.spill_pass.specs.Grouping.{IsBegun, IsGrouped, IsGrouping, TookMore, calls_to_come, ids_at_hand}
use Rattle.spill_pass.specs.ListCalls.{BeginsPass, EndsPass, FewerCounts, HasFew, HasSpent, PassSpendsIds, ReduceCounts, TurnCounts, calls_over, ids_of}
use Rattle.spill_pass.specs.PassContents.{HasAll, StandsAll}
use Rattle.spill_pass.specs.Passing.{PassEnds, pass_held}
use Rattle.spill_pass.specs.Places.{source_of}
use Rattle.spill_pass.specs.Reducing.{PassesTo}
use Rattle.spill_pass.specs.Sources.{GaveList, GivesFirst, SameSource, Source}
use Rattle.spill_pass.proofs.Calls.{after, begins_with, group_spends, more_passes, one_pass}
use Rattle.spill_pass.proofs.Closing.{none_hand}
use Rattle.spill_pass.proofs.PassContents.{begun_has, begun_left}
use Rattle.spill_pass.proofs.FreshLists.{few_pages}
use Rattle.spill_pass.proofs.PassFrames.{lists_apart, unread_beside}
use Rattle.spill_pass.proofs.Reducing.{ReadsPlaced}

-- a list was taken
pub took_spent :
    {told : Bool} {now : Device} (from to : ℕ) {pool mid later : Pool} (source rest : Source) (old new : Groups) (list : ListRef) (ids left : ℕ)
    → IsGrouping told now mid old → ChangesPage pool mid source.lease → AreOut pool (pass_held source old) → GaveList now source rest list
    → to + 3 * rest.lists_left ≤ from + 3 * source.lists_left → TookMore told now mid later list old new → list.count + left ≤ ids
    → (ids_at_hand new + left ≤ ids_at_hand old + ids)
    × (to + calls_over later rest.lists_left left new ≤ from + calls_over pool source.lists_left ids old)
took_spent from to {pool = pool} {mid = mid} {later = later} source rest old new list ids left was changes are gave looked more fits =
    let width = few_pages list.run list.count gave.width in
    let group =
    group_spends old new (ids_at_hand old + ids) (ids_at_hand new + left) 0 0 (list.count / 512 + 2) was more.grouping more.goes.rows more.goes.size
    (omega arith) (omega (arith, more.ids, fits)) (omega (arith, more.calls, width)) in (
      omega (arith, more.ids, fits),
      omega (
        arith,
        looked,
        gave.lists,
        fits,
        group,
        unread_beside source.lease old.into.merge.cursors.items changes (lists_apart pool source old are),
      ),
    )

first_fits :
    {has : List (List ℕ) → Type 0} {page right : ℕ → List ℕ} {rows : ℕ} {lists : List (List ℕ)} {list : ListRef}
    (gives : GivesFirst has page right rows lists list) → list.count + ids_of gives.rest ≤ ids_of lists
first_fits gives = omega (arith, gives.count, ap ids_of gives.is, length-append gives.first (concat gives.rest))

pub took_counts :
    {has has' : List (List ℕ) → Type 0} {told : Bool} {right : ℕ → List ℕ} {now : Device} {from to : ℕ} {pool mid later : Pool} (source rest : Source) (old new : Groups)
    {lists given : List (List ℕ)} {rows : ℕ} {list : ListRef} (gives : GivesFirst has' now.page right rows given list)
    (all : HasAll has told right now.page later new lists) → all.left ≡ gives.rest
    → IsGrouping told now mid old → ChangesPage pool mid source.lease → AreOut pool (pass_held source old) → GaveList now source rest list
    → to + 3 * rest.lists_left ≤ from + 3 * source.lists_left → TookMore told now mid later list old new
    → HasSpent has told right now.page from to pool later source rest old new lists (ids_of given)
took_counts {from = from} {to = to} source rest old new {given = given} {list = list} gives all is was changes are gave looked more =
    let P : List (List ℕ) → Type 0 = λ ls. list.count + ids_of ls ≤ ids_of given in
    let spent = took_spent from to source rest old new list (ids_of given) (ids_of all.left) was changes are gave looked more (subst P (sym is) (first_fits gives)) in
    record { all = all; fewer = spent.0; calls = spent.1 }

-- no list was left
pub looked_counts :
    {has : List (List ℕ) → Type 0} {told : Bool} {right page : ℕ → List ℕ} {from to : ℕ} {pool later : Pool} (source rest : Source) (groups : Groups)
    {lists : List (List ℕ)} (given : List (List ℕ)) (all : HasAll has told right page later groups lists) → all.left ≡ given
    → ChangesPage pool later source.lease → AreOut pool (pass_held source groups) → SameSource source rest
    → to + 3 * rest.lists_left ≤ from + 3 * source.lists_left
    → HasSpent has told right page from to pool later source rest groups groups lists (ids_of given)
looked_counts {pool = pool} source rest groups given all is changes are same looked =
    let ids = ap ids_of is in
    record {
      all = all;
      fewer = omega (arith, ids);
      calls =
          omega (
            arith,
            looked,
            same.lists,
            ids,
            unread_beside source.lease groups.into.merge.cursors.items changes (lists_apart pool source groups are),
          );
    }

-- the merge of the group at hand went on
pub merged_counts :
    {has : List (List ℕ) → Type 0} {told : Bool} {right : ℕ → List ℕ} {before now : Device} {from to : ℕ} {pool later : Pool} (source : Source) (old new : Groups)
    {lists : List (List ℕ)} (given : List (List ℕ)) (all : HasAll has told right now.page later new lists) → all.left ≡ given
    → IsGrouping told before pool old → IsGrouping told now later new → new.into.rows ≡ old.into.rows → new.size ≡ old.size
    → ids_at_hand new ≤ ids_at_hand old → to + calls_to_come later new ≤ from + calls_to_come pool old
    → HasSpent has told right now.page from to pool later source source old new lists (ids_of given)
merged_counts {from = from} {to = to} source old new given all is was grouping rows size ids calls =
    let same = ap ids_of is in
    let group =
    group_spends old new (ids_at_hand old + ids_of given) (ids_at_hand new + ids_of all.left) to from 0 was grouping rows size
    (omega arith) (omega (arith, ids, same)) (omega (arith, calls)) in
    record { all = all; fewer = omega (arith, ids, same); calls = omega (arith, group, same) }

-- the last pages were written, where no list was left
pub ends_counts :
    {has : List (List ℕ) → Type 0} (has' : List (List ℕ) → Type 0) {told : Bool} {right page : ℕ → List ℕ} {before mid : ℕ} (later_page : ℕ → List ℕ) (now : ℕ) {pool then : Pool} (later : Pool)
    {source rest : Source} (last : Source) {old groups : Groups} (new : Groups) {lists : List (List ℕ)} {ids : ℕ} (result : Result PassTurn PageFault)
    → HasSpent has told right page before mid pool then source rest old groups lists ids → IfOk result (EndsPass groups)
    → IfOk result (PassSpendsIds has' told right later_page before now pool later source last old new lists ids)
ends_counts has' later_page now later last new (Ok (Went calls)) spent ends = absurd ends
ends_counts has' later_page now later last new (Ok (Placed placed calls)) spent ends = omega (arith, ends, spent.fewer)
ends_counts has' later_page now later last new (Err fault) spent ends = tt

-- nothing was done
pub no_counts :
    {has : List (List ℕ) → Type 0} {told : Bool} {right page : ℕ → List ℕ} {calls : ℕ} {pool : Pool} (source : Source) (groups : Groups) {lists : List (List ℕ)}
    (h : HasAll has told right page pool groups lists) → HasSpent has told right page calls calls pool pool source source groups groups lists (ids_of h.left)
no_counts source groups h = record { all = h; fewer = omega arith; calls = omega arith }

-- what a turn of the pass came to
pub went_counts :
    {has : List (List ℕ) → Type 0} {told : Bool} {right page : ℕ → List ℕ} {before now : ℕ} {pool later : Pool} {source rest : Source} {old new : Groups}
    {lists : List (List ℕ)} {ids : ℕ} {turn : PassTurn} {calls : ℕ} → turn ≡ Went calls
    → PassSpendsIds has told right page before now pool later source rest old new lists ids turn
    → HasSpent has told right page before now pool later source rest old new lists ids
went_counts {has = has} {told = told} {right = right} {page = page} {before = before} {now = now} {pool = pool} {later = later} {source = source} {rest = rest} {old = old} {new = new} {lists = lists} {ids = ids} is spends =
    let P : PassTurn → Type 0 = PassSpendsIds has told right page before now pool later source rest old new lists ids in subst P is spends

pub placed_counts :
    (has : List (List ℕ) → Type 0) (told : Bool) (right page : ℕ → List ℕ) (before now : ℕ) (pool later : Pool) (source rest : Source) (old new : Groups)
    (lists : List (List ℕ)) (ids : ℕ) {turn : PassTurn} {placed : PlacedLists} {calls : ℕ} → turn ≡ Placed placed calls
    → PassSpendsIds has told right page before now pool later source rest old new lists ids turn → placed.lists.count ≤ ids_at_hand old + ids
placed_counts has told right page before now pool later source rest old new lists ids is spends =
    let P : PassTurn → Type 0 = PassSpendsIds has told right page before now pool later source rest old new lists ids in subst P is spends

-- a turn of the pass
pub counts_went :
    {told : Bool} {page later_page : ℕ → List ℕ} {before now : ℕ} {pool later : Pool} (has has' : (ℕ → List ℕ) → List (List ℕ) → Type 0) (source rest : Source) (areas : Areas) (old new : Groups)
    {lists : List (List ℕ)} {left : ℕ} (h : ReduceCounts has told page pool source areas old lists left)
    → HasSpent (has' h.has_all.right) told h.has_all.right later_page before now pool later source rest old new h.has_all.ids (ids_of h.has_all.holds.left)
    → new.size ≡ old.size → new.into.writer.filler.first ≡ old.into.writer.filler.first
    → FewerCounts has' told later_page before now later rest areas new lists left
counts_went {later = later} has has' source rest areas old new h spent size first =
    let E : ℕ → Type 0 = λ at. (at ≡ areas.to) ⊎ (1 ≤ h.passes) in
    let H : ℕ → Type 0 = λ n. n ≤ 2 ^ h.passes in
    let ids = ids_of spent.all.left in
    record {
      still = calls_over later rest.lists_left ids new + h.passes * pass_calls new.size (ids_at_hand new + ids);
      counts = record {
        has_all = record { right = h.has_all.right; ids = h.has_all.ids; holds = spent.all; all = h.has_all.all };
        passes = h.passes;
        halved = subst H (sym size) h.halved;
        elsewhere = subst E (sym first) h.elsewhere;
        enough = omega arith;
      };
      spent =
          omega (
            arith,
            spent.calls,
            h.enough,
            more_passes h.passes old.size new.size (ids_at_hand old + ids_of h.has_all.holds.left) (ids_at_hand new + ids) (omega (arith, size)) spent.fewer,
          );
    }

less_over : (pool : Pool) (source : Source) (groups : Groups) (ids : ℕ) → ids ≤ source.ids_left → calls_over pool source.lists_left ids groups ≤ pass_calls_left pool source groups
less_over pool source groups ids few = omega (arith, few)

-- the next pass was begun
pub counts_passed :
    {told : Bool} {before now : Device} {from to : ℕ} {pool later : Pool} (has has' : (ℕ → List ℕ) → List (List ℕ) → Type 0) (source rest : Source) (areas : Areas) (old new begun : Groups)
    (placed : PlacedLists) (fan calls : ℕ) {lists : List (List ℕ)} {left : ℕ} (h : ReduceCounts has told before.page pool source areas old lists left)
    → to ≤ from + 4 → PassEnds before now old new placed calls → placed.lists.count ≤ ids_at_hand old + ids_of h.has_all.holds.left
    → PassesTo told now later rest areas new begun placed fan → BeginsPass has' told now.page later rest begun lists
    → FewerCounts has' told now.page from to later rest areas begun lists left
counts_passed {later = later} has has' source rest areas old new begun placed fan calls h most_calls ends few passes begins =
    let on = passes.passed in
    let next = after areas placed old.into.writer.filler.first passes.first old.size h.passes ends.half ends.runs.lists_first h.halved h.elsewhere passes.next in
    let H : ℕ → Type 0 = λ n. n ≤ 2 ^ next.rest in
    let E : ℕ → Type 0 = λ at. (at ≡ areas.to) ⊎ (1 ≤ next.rest) in
    let had = ids_at_hand old + ids_of h.has_all.holds.left in
    let ids = ids_of begins.has_all.holds.left in
    let most : pass_calls begun.size (ids_in_pass rest begun) ≤ pass_calls old.size had = omega (arith, on.size, ends.half, on.ids, few) in
    record {
      still = calls_over later rest.lists_left ids begun + next.rest * pass_calls begun.size (ids_at_hand begun + ids);
      counts = record {
        has_all = begins.has_all;
        passes = next.rest;
        halved = subst H (sym on.size) next.halved;
        elsewhere = subst E (sym on.area) next.elsewhere;
        enough = omega arith;
      };
      spent =
          omega (
            arith,
            most_calls,
            h.enough,
            on.calls,
            less_over later rest begun ids begins.few,
            more_passes next.rest begun.size begun.size (ids_in_pass rest begun) (ids_at_hand begun + ids) (omega arith) (omega (arith, begins.few)),
            one_pass h.passes next.rest (pass_calls begun.size (ids_in_pass rest begun)) (pass_calls old.size had) next.fewer most,
          );
    }

-- the lists that a pass left have as many identifiers as their run
pub stands_few :
    {page : ℕ → List ℕ} {rows : ℕ} {lists : List (List ℕ)} {placed : PlacedLists} (stands : StandsAll page rows lists placed) → ids_of stands.done ≤ placed.lists.count
stands_few stands = omega (arith, stands.stores.ids.has.count, length-map (concat stands.done) number_cell)

-- at the beginning
pub same_most : (n : ℕ) → n ≤ n
same_most n = omega arith

in_most : (k a b c : ℕ) → a ≤ c → b ≤ suc k * c → a + b ≤ (k + 2) * c
in_most k a b c first rest = omega (arith, first, rest)

pub counts_enough :
    (pool : Pool) (source : Source) (groups : Groups) (to places rows lists_lease places_lease k lists ids few : ℕ)
    → IsBegun to places rows source.lists_left lists_lease places_lease groups → lists ≡ source.lists_left → few ≤ ids
    → calls_over pool lists few groups + suc k * pass_calls groups.size (ids_at_hand groups + few) ≤ (k + 2) * pass_calls source.lists_left ids
counts_enough pool source groups to places rows lists_lease places_lease k lists ids few begun same less =
    let hand = none_hand groups.into.merge begun.none in
    let no_read : unread_in pool groups.into.merge.cursors.items ≡ 0 = ap (λ cs. unread_in pool cs) begun.none in
    let none : ids_at_hand groups ≡ 0 = omega (arith, hand, begun.written) in
    let first : calls_over pool lists few groups ≤ pass_calls source.lists_left ids =
    omega (arith, no_read, none, same, less, begun.size, begins_with source.lists_left few) in
    let rest : pass_calls groups.size (ids_at_hand groups + few) ≤ pass_calls source.lists_left ids = omega (arith, none, less, begun.size) in
    let all : suc k * pass_calls groups.size (ids_at_hand groups + few) ≤ suc k * pass_calls source.lists_left ids = mul-le-mul (same_most (suc k)) rest in
    in_most k (calls_over pool lists few groups) (suc k * pass_calls groups.size (ids_at_hand groups + few)) (pass_calls source.lists_left ids) first all

-- turns one after another
pub counts_none :
    {has : (ℕ → List ℕ) → List (List ℕ) → Type 0} {told : Bool} {page : ℕ → List ℕ} {calls : ℕ} {pool : Pool} {source : Source} {areas : Areas} {groups : Groups} {lists : List (List ℕ)} {left : ℕ}
    → ReduceCounts has told page pool source areas groups lists left → FewerCounts has told page calls calls pool source areas groups lists left
counts_none {left = left} counts = record { still = left; counts = counts; spent = omega arith }

pub again_counts :
    (has has' : ℕ → (ℕ → List ℕ) → List (List ℕ) → Type 0) {told : Bool} {page later_page : ℕ → List ℕ} {before mid now : ℕ} {pool later : Pool} {source rest : Source} {areas areas' : Areas} {groups new : Groups}
    {lists : List (List ℕ)} {rows rows' left calls : ℕ} {turn : Option ℕ}
    → rows' ≡ rows → areas' ≡ areas → turn ≡ Some calls → FewerCounts (has rows) told page before mid pool source areas groups lists left
    → ((still : ℕ) → ReduceCounts (has rows') told page pool source areas' groups lists still → TurnCounts (has' rows') told later_page mid now later rest areas' new lists still (Ok turn))
    → FewerCounts (has' rows) told later_page before now later rest areas new lists left
again_counts has has' {told = told} {page = page} {later_page = later_page} {mid = mid} {now = now} {pool = pool} {later = later} {source = source} {rest = rest} {areas = areas} {areas' = areas'} {groups = groups} {new = new} {lists = lists} {rows = rows} {rows' = rows'} same_rows same is fewer turn =
    let R : ℕ → Type 0 = λ n. ReduceCounts (has n) told page pool source areas' groups lists fewer.still in
    let C : Areas → Type 0 = λ x. ReduceCounts (has rows) told page pool source x groups lists fewer.still in
    let T : Option ℕ → Type 0 = λ o. TurnCounts (has' rows') told later_page mid now later rest areas' new lists fewer.still (Ok o) in
    let next = subst T is (turn fewer.still (subst R (sym same_rows) (subst C (sym same) fewer.counts))) in
    let D : Areas → Type 0 = λ x. ReduceCounts (has' rows') told later_page later rest x new lists next.still in
    let E : ℕ → Type 0 = λ n. ReduceCounts (has' n) told later_page later rest areas new lists next.still in
    record { still = next.still; counts = subst E same_rows (subst D same next.counts); spent = omega (arith, fewer.spent, next.spent) }

pub counts_done :
    (has has' : ℕ → (ℕ → List ℕ) → List (List ℕ) → Type 0) {told : Bool} {page : ℕ → List ℕ} {before mid : ℕ} {pool : Pool} {source : Source} {areas areas' : Areas} {groups : Groups}
    {lists : List (List ℕ)} {rows rows' left : ℕ} {turn : Option ℕ} (later_page : ℕ → List ℕ) (now : ℕ) (later : Pool) (rest : Source) (new : Groups)
    → rows' ≡ rows → areas' ≡ areas → turn ≡ None → FewerCounts (has rows) told page before mid pool source areas groups lists left
    → ((still : ℕ) → ReduceCounts (has rows') told page pool source areas' groups lists still → TurnCounts (has' rows') told later_page mid now later rest areas' new lists still (Ok turn))
    → now ≤ before + left
counts_done has has' {told = told} {page = page} {mid = mid} {pool = pool} {source = source} {areas = areas} {areas' = areas'} {groups = groups} {lists = lists} {rows = rows} {rows' = rows'} later_page now later rest new same_rows same is fewer turn =
    let R : ℕ → Type 0 = λ n. ReduceCounts (has n) told page pool source areas' groups lists fewer.still in
    let C : Areas → Type 0 = λ x. ReduceCounts (has rows) told page pool source x groups lists fewer.still in
    let T : Option ℕ → Type 0 = λ o. TurnCounts (has' rows') told later_page mid now later rest areas' new lists fewer.still (Ok o) in
    omega (arith, fewer.spent, subst T is (turn fewer.still (subst R (sym same_rows) (subst C (sym same) fewer.counts))))

pub counts_failed :
    (has : ℕ → (ℕ → List ℕ) → List (List ℕ) → Type 0) {told : Bool} {page : ℕ → List ℕ} {before mid : ℕ} {pool : Pool} {source : Source} {areas areas' : Areas} {groups : Groups}
    {lists : List (List ℕ)} {rows rows' left : ℕ} (now : ℕ) → rows' ≡ rows → areas' ≡ areas
    → FewerCounts (has rows) told page before mid pool source areas groups lists left
    → ((still : ℕ) → ReduceCounts (has rows') told page pool source areas' groups lists still → now ≤ mid + still)
    → now ≤ before + left
counts_failed has {told = told} {page = page} {mid = mid} {pool = pool} {source = source} {areas' = areas'} {groups = groups} {lists = lists} {rows = rows} now same_rows same fewer turn =
    let R : ℕ → Type 0 = λ n. ReduceCounts (has n) told page pool source areas' groups lists fewer.still in
    let C : Areas → Type 0 = λ x. ReduceCounts (has rows) told page pool source x groups lists fewer.still in
    omega (arith, fewer.spent, turn fewer.still (subst R (sym same_rows) (subst C (sym same) fewer.counts)))

-- at the beginning of a pass
pub begun_few :
    {told : Bool} {page right : ℕ → List ℕ} {pool : Pool} {groups : Groups} (has : List (List ℕ) → Type 0) (ids : List (List ℕ)) → has ids
    → groups.into.merge.unions.items ≡ 0 ∷ [] → IsGrouped told right groups.into.merge [] page pool groups → HasFew has told right page pool groups ids (ids_of ids)
begun_few has ids left union grouped = record {
  all = begun_has has ids left union grouped;
  few = omega (arith, ap ids_of (begun_left has ids left union grouped));
}

-- the next pass over the lists that one left
pub begins_next :
    {told : Bool} {page : ℕ → List ℕ} {pool : Pool} {groups : Groups} {lists : List (List ℕ)} {rows : ℕ} {placed : PlacedLists} (rest : Source)
    (has : (ℕ → List ℕ) → List (List ℕ) → Type 0) (stands : StandsAll page rows lists placed) → has page stands.done → groups.into.merge.unions.items ≡ 0 ∷ []
    → IsGrouped told page groups.into.merge [] page pool groups → rest.ids_left ≡ placed.lists.count → BeginsPass has told page pool rest groups lists
begins_next {page = page} rest has stands left union grouped count = record {
  has_all = record { right = page; ids = stands.done; holds = begun_has (has page) stands.done left union grouped; all = stands.all };
  few = omega (arith, stands_few stands, ap ids_of (begun_left (has page) stands.done left union grouped), count);
}

-- by other rows of the same number
pub begins_rows :
    {told : Bool} {page : ℕ → List ℕ} {pool : Pool} {groups : Groups} {lists : List (List ℕ)} {rows rows' : ℕ} (rest : Source) (has : ℕ → (ℕ → List ℕ) → List (List ℕ) → Type 0)
    → rows' ≡ rows → BeginsPass (has rows') told page pool rest groups lists → BeginsPass (has rows) told page pool rest groups lists
begins_rows {told = told} {page = page} {pool = pool} {groups = groups} {lists = lists} rest has same begins =
    let P : ℕ → Type 0 = λ n. BeginsPass (has n) told page pool rest groups lists in subst P same begins

pub reads_all : (placed : PlacedLists) (reader : PlaceReader) → ReadsPlaced placed reader → (source_of reader).ids_left ≡ placed.lists.count
reads_all placed reader reads = omega (arith, ap (λ (r : Run). r.count) reads.lists, reads.next)
