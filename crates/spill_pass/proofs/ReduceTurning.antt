-- A turn of the passes: what it leaves, and that less is left to do.
use Rattle.std.proofs.Common.{◌≡◌, ◌≢◌, ◌∙◌, ℕ, ◌+◌, ◌*◌, ◌<◌, ◌≤◌, ◌⊎◌, inl, inr, Bool, true, false, List, if◌then◌else◌, nat_eq, mul-le-mul, ap, sym, refl, subst, arith}
use Rattle.std.proofs.lemmas.Bool.Decides.{nat_tests}
use Rattle.edge_traits.specs.Devices.{Device}
use Rattle.edge_traits.proofs.DeviceFrames.{same_trans}
use Rattle.page_pool.specs.Pools.{Pool, AreOut, KeepsOthers}
use Rattle.page_pool.proofs.Leases.{others_trans}
use Rattle.spill_pass.specs.declared.groups.Groups.{Groups}
use Rattle.spill_pass.specs.declared.groups.PlacedLists.{PlacedLists}
use Rattle.spill_pass.specs.declared.passes.PassTurn.{PassTurn}
use Rattle.spill_pass.specs.declared.passes.PassTurn.TheVariants.{Went, Placed}
use Rattle.spill_pass.specs.declared.reduce.Areas.{Areas}
use Rattle.spill_pass.specs.Grouping.{AreApart}
use Rattle.spill_pass.specs.Merging.{IsArea, AllOutside, LiesOutside, area_pages}
use Rattle.spill_pass.specs.Passing.{PassGoes, PassTells, PassWent, PassEnds, pass_held, pass_left}
use Rattle.spill_pass.specs.Reducing.{CanPassOn, HasAreas, IsForLists, IsForPlaces, IsNextPass, IsOutside, IsReducing, PassesOver, PassesTo, PassedOn, ReduceGoes, ReduceTurned, passes_left, pass_most, reduce_left}
use Rattle.spill_pass.specs.Sources.{Source, UsesOutside}
use Rattle.spill_pass.proofs.Grouping.{each_none}
use Rattle.spill_pass.proofs.PassFrames.{buffers_same}

-- a turn of the pass at hand
pub reduce_of_pass :
    {told merging : Bool} {before now : Device} {pool later : Pool} {fan : ℕ} (source rest : Source) (areas : Areas) (old new : Groups)
    → IsReducing told before pool source areas old fan merging → PassGoes before now pool later source rest old new
    → ((low high : ℕ) → UsesOutside low high source → AllOutside low high old.into.merge.cursors.items → AllOutside low high new.into.merge.cursors.items)
    → ReduceGoes areas before now pool later source rest old new
reduce_of_pass source rest areas old new is goes lists = record {
  name = goes.changes.name;
  page_count = goes.changes.page_count;
  stays = λ page outside. goes.changes.stays page (outside.lists old.into.writer.filler.first is.for_lists) (outside.places old.places.filler.first is.for_places);
  devices = goes.changes.devices;
  never_falls = goes.changes.never_falls;
  gave = goes.changes.gave;
  beside = goes.beside;
  others = goes.others;
  still = goes.still;
  outside = λ low high out.
      let R : ℕ → Type 0 = λ rows. (first : ℕ) → IsForLists areas first → AreApart first (first + area_pages rows) low high in
      let S : ℕ → Type 0 = λ size. (first : ℕ) → IsForPlaces areas first → AreApart first (first + area_pages size) low high in
      record {
        source = λ page is. out.source page (goes.uses page is);
        lists = lists low high out.source out.lists;
        areas_lists = subst R (sym goes.rows) out.areas_lists;
        areas_places = subst S (sym goes.size) out.areas_places;
      };
  rows = goes.rows;
  size = omega (arith, goes.size);
}

apart_fewer : (first low high size fewer : ℕ) → fewer ≤ size → AreApart first (first + area_pages size) low high → AreApart first (first + area_pages fewer) low high
apart_fewer first low high size fewer few (inl before) = inl (omega (arith, before, few))
apart_fewer first low high size fewer few (inr behind) = inr behind

-- the next pass begun after it
pub reduce_then :
    {before now : Device} {pool mid later : Pool} (source rest next : Source) (areas : Areas) (old new begun : Groups)
    → ReduceGoes areas before now pool mid source rest old new → PassesOver mid later rest next new begun → begun.size ≤ old.size
    → ((low high : ℕ) → ((first : ℕ) → IsForLists areas first → AreApart first (first + area_pages new.into.rows) low high)
    → ((first : ℕ) → IsForPlaces areas first → AreApart first (first + area_pages new.size) low high) → UsesOutside low high next)
    → ReduceGoes areas before now pool later source next old begun
reduce_then {mid = mid} {later = later} source rest next areas old new begun goes over size uses =
    let P : List Bool → Type 0 = λ others. KeepsOthers others mid later in
    record {
      name = goes.name;
      page_count = goes.page_count;
      stays = goes.stays;
      devices = goes.devices;
      never_falls = goes.never_falls;
      gave = goes.gave;
      beside = over.beside ∙ goes.beside;
      others = others_trans goes.others (subst P goes.beside over.others);
      still = over.still;
      outside = λ low high out.
          let R : ℕ → Type 0 = λ rows. (first : ℕ) → IsForLists areas first → AreApart first (first + area_pages rows) low high in
          let still = goes.outside low high out in
          record {
            source = uses low high still.areas_lists still.areas_places;
            lists = each_none (LiesOutside low high) begun.into.merge.cursors.items over.none tt;
            areas_lists = subst R (sym over.rows) still.areas_lists;
            areas_places = λ first is. apart_fewer first low high old.size begun.size size (out.areas_places first is);
          };
      rows = over.rows ∙ goes.rows;
      size = size;
    }

nearer : (page first end end' : ℕ) → end' ≤ end → (page < first) ⊎ (end ≤ page) → (page < first) ⊎ (end' ≤ page)
nearer page first end end' less (inl below) = inl below
nearer page first end end' less (inr above) = inr (omega (arith, above, less))

pub outside_fewer : {areas : Areas} {rows size rows' size' page : ℕ} → rows' ≡ rows → size' ≤ size → IsOutside areas rows size page → IsOutside areas rows' size' page
outside_fewer {rows = rows} {size = size} {rows' = rows'} {size' = size'} {page = page} same few outside = record {
  lists = λ first is. nearer page first (first + area_pages rows) (first + area_pages rows') (omega (arith, ap (λ n. area_pages n) same)) (outside.lists first is);
  places = λ first is. nearer page first (first + area_pages size) (first + area_pages size') (omega (arith, few)) (outside.places first is);
}

-- turns one after another
pub reduce_goes_on :
    {areas : Areas} {a b c : Device} {pool mid later : Pool} {one two three : Source} {old new last : Groups}
    → ReduceGoes areas a b pool mid one two old new → ReduceGoes areas b c mid later two three new last
    → ReduceGoes areas a c pool later one three old last
reduce_goes_on {mid = mid} {later = later} first second =
    let P : List Bool → Type 0 = λ others. KeepsOthers others mid later in
    record {
      name = second.name ∙ first.name;
      page_count = second.page_count ∙ first.page_count;
      stays = λ page outside. same_trans (first.stays page outside) (second.stays page (outside_fewer first.rows first.size outside));
      devices = second.devices ∙ first.devices;
      never_falls = omega (arith, first.never_falls, second.never_falls);
      gave = λ at page bytes gave. second.gave at page bytes (first.gave at page bytes gave);
      beside = second.beside ∙ first.beside;
      others = others_trans first.others (subst P first.beside second.others);
      still = second.still;
      outside = λ low high out. second.outside low high (first.outside low high out);
      rows = second.rows ∙ first.rows;
      size = omega (arith, first.size, second.size);
    }

-- nothing yet
pub reduce_none :
    {areas : Areas} {device : Device} {pool : Pool} (source : Source) (groups : Groups) → AreOut pool (pass_held source groups)
    → ReduceGoes areas device device pool pool source source groups groups
reduce_none source groups are = record {
  name = refl;
  page_count = refl;
  stays = λ page outside. record { bytes = refl; blank = refl };
  devices = refl;
  never_falls = omega arith;
  gave = λ at page bytes gave. gave;
  beside = refl;
  others = record { size = refl; bytes = λ other is. refl; filled = λ other is. refl };
  still = are;
  outside = λ low high out. out;
  rows = refl;
  size = omega arith;
}

-- the areas are on the device as before
area_still : (before now : Device) (first rows : ℕ) → now.page_count ≡ before.page_count → IsArea before first rows → IsArea now first rows
area_still before now first rows count area = record { block = area.block; there = omega (arith, area.there, count); small = omega (arith, area.small, count) }

pub areas_still : {before now : Device} {areas : Areas} {rows size : ℕ} → now.page_count ≡ before.page_count → HasAreas before areas rows size → HasAreas now areas rows size
areas_still {before = before} {now = now} {rows = rows} {size = size} count has = record {
  lists = λ first is. area_still before now first rows count (has.lists first is);
  places = λ first is. area_still before now first size count (has.places first is);
  lists_apart = has.lists_apart;
  places_apart = has.places_apart;
  apart = has.apart;
  two_lists = has.two_lists;
  two_places = has.two_places;
}

same_areas : {device : Device} {areas : Areas} {rows size rows' size' : ℕ} → rows' ≡ rows → size' ≡ size → HasAreas device areas rows size → HasAreas device areas rows' size'
same_areas {device = device} {areas = areas} {rows = rows} {size' = size'} same_rows same_size has =
    let A : ℕ → Type 0 = λ r. HasAreas device areas r size' in
    let B : ℕ → Type 0 = λ s. HasAreas device areas rows s in
    subst A (sym same_rows) (subst B (sym same_size) has)

less_sum : (a b x y : ℕ) → a ≡ b → x < y → a + x < b + y
less_sum a b x y same less = omega (arith, same, less)

passes_same : (areas : Areas) (old new : Groups) → new.size ≡ old.size → new.into.writer.filler.first ≡ old.into.writer.filler.first → passes_left areas new ≡ passes_left areas old
passes_same areas old new size first =
    ap (λ n. 2 * n + (if nat_eq new.into.writer.filler.first areas.to then 0 else 1)) size
    ∙ ap (λ n. 2 * old.size + (if nat_eq n areas.to then 0 else 1)) first

most_same : (old new : Groups) → new.size ≡ old.size → new.into.rows ≡ old.into.rows → pass_most new ≡ pass_most old
most_same old new size rows = omega (arith, size, rows)

pub reduce_went :
    {told : Bool} {before now : Device} {pool later : Pool} (source rest : Source) (areas : Areas) (old new : Groups) (fan : ℕ) (was merging : Bool) (calls : ℕ)
    → IsReducing told before pool source areas old fan was → PassGoes before now pool later source rest old new
    → PassWent told before now pool later source rest old new fan was merging calls
    → ReduceTurned told before now pool later source rest areas old new fan was merging calls
reduce_went {pool = pool} {later = later} source rest areas old new fan was merging calls is goes went =
    let C : ℕ → Type 0 = IsForLists areas in
    let D : ℕ → Type 0 = IsForPlaces areas in
    record {
      made = went.made;
      reducing = record {
        passing = went.passing;
        areas_are = same_areas goes.rows goes.size (areas_still goes.changes.page_count is.areas_are);
        few = omega (arith, goes.rows, is.few);
        for_lists = subst C (sym goes.lists_first) is.for_lists;
        for_places = subst D (sym goes.places_first) is.for_places;
      };
      fewer =
          less_sum (passes_left areas new * pass_most new) (passes_left areas old * pass_most old) (pass_left later rest new merging)
          (pass_left pool source old was)
          (ap (λ n. n * pass_most new) (passes_same areas old new goes.size goes.lists_first)
          ∙ ap (λ n. passes_left areas old * n) (most_same old new goes.size goes.rows))
          went.fewer;
    }

-- the pass ended
pub can_pass_on :
    {told : Bool} {before now : Device} {pool later : Pool} (source rest : Source) (areas : Areas) (old new : Groups) (fan fan' : ℕ) (was : Bool) (placed : PlacedLists) (calls : ℕ)
    → fan' ≡ fan → IsReducing told before pool source areas old fan was → PassGoes before now pool later source rest old new
    → PassEnds before now old new placed calls → CanPassOn now later rest areas new placed fan'
can_pass_on {pool = pool} {later = later} source rest areas old new fan fan' was placed calls same is goes ends =
    let C : ℕ → Type 0 = IsForLists areas in
    let D : ℕ → Type 0 = IsForPlaces areas in
    record {
      empty = ends.empty;
      few = omega (arith, goes.rows, is.few);
      buffers =
          omega (
            arith,
            same,
            is.passing.buffers,
            buffers_same pool later (pass_held source old) (pass_held rest new) is.passing.leases goes.still goes.beside,
          );
      areas_are = same_areas goes.rows goes.size (areas_still goes.changes.page_count is.areas_are);
      for_lists = subst C (sym ends.runs.lists_first) is.for_lists;
      for_places = subst D (sym ends.runs.places_first) is.for_places;
      lists_width = ends.runs.lists_width;
      places_width = ends.runs.places_width;
      half = omega (arith, ends.half, goes.size);
      ids = omega (arith, ends.ids, goes.rows);
      fan_most = omega (arith, same, is.passing.fan_most);
      fan_least = omega (arith, same, is.passing.fan_least);
    }

-- fewer passes are left
bit_least : (b : Bool) → (if b then 0 else 1) ≤ 1
bit_least true = omega arith
bit_least false = omega arith

bit_off : (a b : ℕ) → a ≢ b → ◌≡◌ {A = ℕ} (if nat_eq a b then 0 else 1) 1
bit_off a b differs = let off : nat_eq a b ≡ false = grind (arith, nat_tests, differs) in ap (λ x. if x then 0 else 1) off

bit_on : (a b : ℕ) → a ≡ b → ◌≡◌ {A = ℕ} (if nat_eq a b then 0 else 1) 0
bit_on a b same = let on : nat_eq a b ≡ true = grind (arith, nat_tests, same) in ap (λ x. if x then 0 else 1) on

ranks : (areas : Areas) (placed : PlacedLists) (first size : ℕ) → 2 * placed.places.count ≤ size + 1 → IsNextPass areas placed first
    → 2 * placed.places.count + (if nat_eq first areas.to then 0 else 1) + 1 ≤ 2 * size + (if nat_eq placed.lists.first areas.to then 0 else 1)
ranks areas placed first size half next =
    elim next.many [
      | inl two ↦ omega (arith, two, half, bit_least (nat_eq first areas.to))
      | inr (elsewhere, there) ↦ omega (arith, half, bit_off placed.lists.first areas.to elsewhere, bit_on first areas.to there)
    ]

products : (p k left q m rest : ℕ) → p + 1 ≤ q → k ≤ m → left < k → p * k + left < q * m + rest
products p k left q m rest fewer most less = let all : (p + 1) * k ≤ q * m = mul-le-mul fewer most in omega (arith, all, less)

pub passed_less :
    {told : Bool} {before now : Device} {later : Pool} (pool : Pool) (source rest : Source) (areas : Areas) (old new begun : Groups) (was : Bool) (placed : PlacedLists) (calls first fan : ℕ)
    → PassEnds before now old new placed calls → IsNextPass areas placed first → new.into.rows ≡ old.into.rows
    → PassedOn told now later rest areas new begun fan first placed
    → reduce_left later rest areas begun false < reduce_left pool source areas old was
passed_less {later = later} pool source rest areas old new begun was placed calls first fan ends next rows on =
    let rank = ranks areas placed first old.size ends.half next in
    let here = ap (λ n. 2 * old.size + (if nat_eq n areas.to then 0 else 1)) ends.runs.lists_first in
    let there =
    ap (λ n. 2 * n + (if nat_eq begun.into.writer.filler.first areas.to then 0 else 1)) on.size
    ∙ ap (λ n. 2 * placed.places.count + (if nat_eq n areas.to then 0 else 1)) on.area in
    products (passes_left areas begun) (pass_most begun) (pass_left later rest begun false) (passes_left areas old) (pass_most old) (pass_left pool source old was)
    (omega (arith, rank, here, there))
    (omega (arith, on.size, on.rows, rows, ends.half))
    (omega (arith, on.left, on.size, on.rows))

-- the next pass was begun
pub reduce_passed :
    {told : Bool} {before now : Device} {later : Pool} (pool : Pool) (source rest : Source) (areas : Areas) (old new begun : Groups) (was merging : Bool) (placed : PlacedLists) (calls fan fan' : ℕ)
    → merging ≡ false → fan' ≡ fan → PassEnds before now old new placed calls → new.into.rows ≡ old.into.rows
    → PassesTo told now later rest areas new begun placed fan' → ReduceTurned told before now pool later source rest areas old begun fan was merging calls
reduce_passed {told = told} {now = now} {later = later} pool source rest areas old new begun was merging placed calls fan fan' taking same ends rows to =
    let P : Bool → Type 0 = IsReducing told now later rest areas begun fan in
    let Q : ℕ → Type 0 = λ f. IsReducing told now later rest areas begun f false in
    let R : Bool → Type 0 = λ m. reduce_left later rest areas begun m < reduce_left pool source areas old was in
    record {
      made = ends.made;
      reducing = subst P (sym taking) (subst Q same to.passed.reducing);
      fewer = subst R (sym taking) (passed_less pool source rest areas old new begun was placed calls to.first fan' ends to.next rows to.passed);
    }

-- what a turn of the pass came to
pub turn_went :
    {told : Bool} {before now : Device} {pool later : Pool} {source rest : Source} {old new : Groups} {fan : ℕ} {was merging : Bool} {turn : PassTurn} {calls : ℕ}
    → turn ≡ Went calls → PassTells told before now pool later source rest old new fan was merging turn
    → PassWent told before now pool later source rest old new fan was merging calls
turn_went {told = told} {before = before} {now = now} {pool = pool} {later = later} {source = source} {rest = rest} {old = old} {new = new} {fan = fan} {was = was} {merging = merging} is tells =
    let P : PassTurn → Type 0 = PassTells told before now pool later source rest old new fan was merging in subst P is tells

pub turn_placed :
    (told : Bool) {before now : Device} (pool later : Pool) (source rest : Source) {old new : Groups} (fan : ℕ) (was merging : Bool) {turn : PassTurn} {placed : PlacedLists} {calls : ℕ}
    → turn ≡ Placed placed calls → PassTells told before now pool later source rest old new fan was merging turn
    → PassEnds before now old new placed calls
turn_placed told {before = before} {now = now} pool later source rest {old = old} {new = new} fan was merging is tells =
    let P : PassTurn → Type 0 = PassTells told before now pool later source rest old new fan was merging in subst P is tells

pub fewer_lists : {before now : Device} {old new : Groups} {placed : PlacedLists} {calls : ℕ} (size : ℕ) → PassEnds before now old new placed calls → size ≡ placed.places.count → size ≤ old.size
fewer_lists size ends same = omega (arith, ends.half, same)
