-- The source of the next pass, and the first pass.
use Rattle.std.proofs.Common.{◌≡◌, ◌∙◌, ℕ, ◌+◌, ◌*◌, ◌/◌, ◌^◌, ◌<◌, ◌≤◌, inl, Bool, true, false, [], ◌∷◌, ap, sym, refl, subst, arith}
use Rattle.std.specs.Prelude.{Option, IfSome}
use Rattle.ghost_base.specs.declared.runs.Run.{Run}
use Rattle.ghost_base.specs.Runs.{run_of}
use Rattle.edge_traits.specs.Devices.{Device}
use Rattle.page_pool.specs.Pools.{Pool, bytes_at}
use Rattle.flash_pages.specs.Cursors.{IsPageOf}
use Rattle.flash_pages.specs.Reads.{CanRead}
use Rattle.flash_pages.specs.Runs.{HasRun}
use Rattle.id_merge.specs.Cursors.{leases_of}
use Rattle.spill_pass.specs.declared.groups.Groups.{Groups}
use Rattle.spill_pass.specs.declared.groups.PlacedLists.{PlacedLists}
use Rattle.spill_pass.specs.declared.places.PlaceReader.{PlaceReader}
use Rattle.spill_pass.specs.declared.reduce.Areas.{Areas}
use Rattle.spill_pass.specs.Grouping.{AreApart, IsBegun}
use Rattle.spill_pass.specs.Merging.{area_pages}
use Rattle.spill_pass.specs.Passing.{CanPass, IsPassing, pass_held}
use Rattle.spill_pass.specs.Places.{CanReadPlaces, CanGive, source_of}
use Rattle.spill_pass.specs.Reducing.{CanReduce, CanPassOn, HasAreas, IsForLists, IsForPlaces, IsReducing, PassesOver, ReduceOutside}
use Rattle.spill_pass.specs.Sources.{Source, UsesOutside}
use Rattle.spill_pass.proofs.Over.{outside_none}
use Rattle.spill_pass.proofs.Reducing.{outs_rest, ReadsPlaced}

-- the lists that a pass left may be given
run_there : {device : Device} (run : Run) (width size : ℕ) → run.width ≡ width → (0 < width) × (width ≤ 2048) → ((i : ℕ) → i < run.count → run.first + i / (2048 / width) < device.page_count) → device.page_count < 2 ^ 32 → HasRun device (run_of run)
run_there {device = device} run width size is fits pages small = record {
  some = omega (arith, is, fits.0);
  fits = omega (arith, is, fits.1);
  pages = let P : ℕ → Type 0 = λ w. (i : ℕ) → i < run.count → run.first + i / (2048 / w) < device.page_count in subst P (sym is) pages;
  small = small;
}

places_there : (first count size pages : ℕ) → 2 * count ≤ size + 1 → first + area_pages size ≤ pages → (i : ℕ) → i < count → first + i / 256 < pages
places_there first count size pages half there i within = omega (arith, half, there, within)

lists_there : (first count rows pages : ℕ) → count ≤ rows → first + area_pages rows ≤ pages → (i : ℕ) → i < count → first + i / 512 < pages
lists_there first count rows pages few there i within = omega (arith, few, there, within)

pub can_give :
    {told : Bool} {device : Device} {pool later : Pool} (source : Source) (reader : PlaceReader) (areas : Areas) (old new : Groups) (placed : PlacedLists) (fan : ℕ)
    → CanPassOn device pool source areas old placed fan → ReadsPlaced placed reader
    → PassesOver pool later source (source_of reader) old new
    → (HasRun device (run_of placed.places) → placed.places.width ≡ 8 → CanRead told device later reader.lease → CanReadPlaces told device later reader)
    → CanGive told device later reader
can_give {told = told} {device = device} {later = later} source reader areas old new placed fan can reads over ready =
    let places = can.areas_are.places placed.places.first can.for_places in
    let lists = can.areas_are.lists placed.lists.first can.for_lists in
    let P : Option ℕ → Type 0 = λ page. IfSome page (λ number. told ≡ true → bytes_at later reader.lease ≡ device.page number) in
    let Q : Option ℕ → Type 0 = λ page. IfSome page (IsPageOf (run_of reader.places)) in
    let R : Run → Type 0 = λ r. HasRun device (run_of r) in
    record {
      places =
          ready
          (run_there placed.places 8 old.size can.places_width (omega arith, omega arith)
          (places_there placed.places.first placed.places.count old.size device.page_count can.half places.there) places.small)
          can.places_width
          (record { out = over.still.0; filled = subst P (sym over.no_page) tt });
      lists =
          subst R (sym reads.lists)
          (run_there placed.lists 4 old.into.rows can.lists_width (omega arith, omega arith)
          (lists_there placed.lists.first placed.lists.count old.into.rows device.page_count can.ids lists.there) lists.small);
      width = ap (λ (r : Run). r.width) reads.lists ∙ can.lists_width;
      few = omega (arith, ap (λ (r : Run). r.count) reads.lists, can.ids, can.few);
      holds = subst Q (sym over.no_page) tt;
    }

-- the first pass

pub can_pass :
    {device : Device} {pool : Pool} (source : Source) (areas : Areas) (to rows room fan lists_lease places_lease : ℕ) → fan + 3 ≡ room
    → CanReduce device pool source areas rows room lists_lease places_lease → IsForLists areas to
    → CanPass device pool source to areas.places rows fan lists_lease places_lease
can_pass {pool = pool} source areas to rows room fan lists_lease places_lease same can for_lists = record {
  groups = record {
    leases = outs_rest pool source.lease (places_lease ∷ lists_lease ∷ []) can.leases;
    lists_area = can.areas_are.lists to for_lists;
    places_area = can.areas_are.places areas.places (inl refl);
    apart = can.areas_are.apart to areas.places for_lists (inl refl);
  };
  leases = can.leases;
  buffers = omega (arith, can.buffers, same);
  lists_outside = can.lists_outside to for_lists;
  places_outside = can.places_outside areas.places (inl refl);
  ids = can.ids;
}

pub reduce_begun :
    {told : Bool} {device : Device} {pool : Pool} (source : Source) (areas : Areas) (groups : Groups) (to rows room fan lists_lease places_lease : ℕ)
    → CanReduce device pool source areas rows room lists_lease places_lease → IsForLists areas to
    → IsBegun to areas.places rows source.lists_left lists_lease places_lease groups → IsPassing told device pool source groups fan false
    → IsReducing told device pool source areas groups fan false
reduce_begun {device = device} source areas groups to rows room fan lists_lease places_lease can for_lists begun passing =
    let A : ℕ → Type 0 = λ r. HasAreas device areas r groups.size in
    let B : ℕ → Type 0 = λ s. HasAreas device areas rows s in
    let C : ℕ → Type 0 = IsForLists areas in
    record {
      passing = passing;
      areas_are = subst A (sym begun.rows) (subst B (sym begun.size) can.areas_are);
      few = omega (arith, begun.rows, can.few);
      for_lists = subst C (sym begun.lists) for_lists;
      for_places = inl begun.places;
    }

pub held_begun :
    (source : Source) (groups : Groups) (to places rows lists_lease places_lease : ℕ) → IsBegun to places rows source.lists_left lists_lease places_lease groups
    → pass_held source groups ≡ source.lease ∷ places_lease ∷ lists_lease ∷ []
held_begun source groups to places rows lists_lease places_lease begun =
    ap (λ cs. source.lease ∷ groups.places.lease ∷ groups.into.writer.lease ∷ leases_of cs) begun.none
    ∙ ap (λ (l : ℕ). source.lease ∷ l ∷ groups.into.writer.lease ∷ []) begun.places_lease
    ∙ ap (λ (l : ℕ). source.lease ∷ places_lease ∷ l ∷ []) begun.lists_lease

-- it begins outside of an area outside of which the lists and all areas lie
pub outside_begun :
    (low high : ℕ) (source : Source) (areas : Areas) (groups : Groups) (to rows lists_lease places_lease : ℕ)
    → IsBegun to areas.places rows source.lists_left lists_lease places_lease groups → UsesOutside low high source
    → ((first : ℕ) → IsForLists areas first → AreApart first (first + area_pages rows) low high)
    → ((first : ℕ) → IsForPlaces areas first → AreApart first (first + area_pages source.lists_left) low high)
    → ReduceOutside low high source areas groups
outside_begun low high source areas groups to rows lists_lease places_lease begun uses lists places =
    let R : ℕ → Type 0 = λ n. (first : ℕ) → IsForLists areas first → AreApart first (first + area_pages n) low high in
    let S : ℕ → Type 0 = λ n. (first : ℕ) → IsForPlaces areas first → AreApart first (first + area_pages n) low high in
    record {
      source = uses;
      lists = outside_none low high groups.into.merge.cursors.items begun.none;
      areas_lists = subst R (sym begun.rows) lists;
      areas_places = subst S (sym begun.size) places;
    }
