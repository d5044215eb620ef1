-- The next pass begins: its leases, its areas and its source.
use Rattle.std.proofs.Common.{◌≡◌, ◌≢◌, ◌∙◌, ℕ, ◌+◌, ◌*◌, ◌<◌, ◌≤◌, ◌⊎◌, inl, inr, ◌||◌, Bool, true, false, List, [], ◌∷◌, length, ap, sym, refl, subst, arith}
use Rattle.std.specs.Prelude.{None}
use Rattle.std.proofs.lemmas.Bool.Decides.{nat_tests}
use Rattle.std.proofs.lemmas.List.{append-nil}
use Rattle.ghost_model.specs.forms.Runs.{pages_of}
use Rattle.ghost_base.specs.declared.runs.Run.{Run}
use Rattle.edge_traits.specs.Devices.{Device}
use Rattle.page_pool.specs.Pools.{Pool, IsFree, AreOut, KeepsOthers, given, leased, others_out, page_at}
use Rattle.page_pool.proofs.Leases.{give_keeps_others, give_others_out, give_outs, lease_keeps_others, lease_others_out, lease_outs, others_trans, outs_from_front, outs_first}
use Rattle.id_merge.specs.declared.cursor.Cursor.{Cursor}
use Rattle.id_merge.specs.Cursors.{leases_of, unread_in}
use Rattle.spill_pass.specs.declared.groups.Groups.{Groups}
use Rattle.spill_pass.specs.declared.groups.PlacedLists.{PlacedLists}
use Rattle.spill_pass.specs.declared.places.PlaceReader.{PlaceReader}
use Rattle.spill_pass.specs.declared.reduce.Areas.{Areas}
use Rattle.spill_pass.specs.Grouping.{AreApart, CanBegin, IsBegun, IsGrouping, groups_held, lists_at_hand, places_end}
use Rattle.spill_pass.specs.Merging.{IsArea, area_end, area_pages}
use Rattle.spill_pass.specs.Passing.{pass_held}
use Rattle.spill_pass.specs.Places.{is_of, source_of}
use Rattle.spill_pass.specs.Reducing.{CanPassOn, HasAreas, IsForLists, IsForPlaces, IsNextPass, PassesOver, PassedOn, Renews}
use Rattle.spill_pass.specs.Sources.{Source, UsesOutside}
use Rattle.spill_pass.proofs.Closing.{none_hand}
use Rattle.spill_pass.proofs.PassFrames.{buffers_same}

-- a lease is given back for another
pub renewed :
    {mid later : Pool} (pool : Pool) (lease other : ℕ) (leases : List ℕ) → mid ≡ given pool lease → later ≡ leased mid other → IsFree mid other
    → AreOut pool (lease ∷ leases) → Renews pool later lease other leases
renewed {mid = mid} {later = later} pool lease other leases gave took free are =
    let P : List Bool → Type 0 = λ others. KeepsOthers others mid later in
    record {
      still = lease_outs mid other leases took free (give_outs pool lease leases gave are);
      beside = lease_others_out mid other leases took free ∙ give_others_out pool lease leases gave;
      others =
          others_trans (give_keeps_others pool lease (others_out pool (lease ∷ leases)) gave)
          (subst P (give_others_out pool lease leases gave) (lease_keeps_others mid other leases took free));
    }

none_of : (cursors : List Cursor) → length cursors ≡ 0 → cursors ≡ []
none_of [] is = refl
none_of (cursor ∷ cursors) is = absurd (omega (arith, is))

-- the leases of the groups stay
held_same :
    (old new : Groups) → lists_at_hand old ≡ 0 → new.into.merge.cursors.items ≡ [] → new.places.lease ≡ old.places.lease
    → new.into.writer.lease ≡ old.into.writer.lease → groups_held new ≡ groups_held old
held_same old new empty none places lists =
    ap (λ cs. new.places.lease ∷ new.into.writer.lease ∷ leases_of cs) (none ∙ sym (none_of old.into.merge.cursors.items empty))
    ∙ ap (λ (l : ℕ). l ∷ new.into.writer.lease ∷ leases_of old.into.merge.cursors.items) places
    ∙ ap (λ (l : ℕ). old.places.lease ∷ l ∷ leases_of old.into.merge.cursors.items) lists

pub passes_over :
    {pool later : Pool} (source rest : Source) (old new : Groups) (lease : ℕ) → lease ≡ source.lease
    → ((leases : List ℕ) → AreOut pool (lease ∷ leases) → Renews pool later lease rest.lease leases) → page_at later rest.lease ≡ None
    → AreOut pool (pass_held source old) → lists_at_hand old ≡ 0 → new.into.merge.cursors.items ≡ [] → new.places.lease ≡ old.places.lease
    → new.into.writer.lease ≡ old.into.writer.lease → new.into.rows ≡ old.into.rows → PassesOver pool later source rest old new
passes_over {pool = pool} {later = later} source rest old new lease is renews no_page are empty none places lists rows =
    let same = held_same old new empty none places lists in
    let A : ℕ → Type 0 = λ l. AreOut pool (l ∷ groups_held old) in
    let r = renews (groups_held old) (subst A (sym is) are) in
    let P : List ℕ → Type 0 = λ held. AreOut later (rest.lease ∷ held) in
    let Q : ℕ → Type 0 = λ l. KeepsOthers (others_out pool (l ∷ groups_held old)) pool later in
    record {
      still = subst P (sym same) r.still;
      beside = ap (λ held. others_out later (rest.lease ∷ held)) same ∙ r.beside ∙ ap (λ l. others_out pool (l ∷ groups_held old)) is;
      others = subst Q is r.others;
      none = none;
      no_page = no_page;
      rows = rows;
    }

-- areas for fewer lists
apart_fewer : (first other rows size count : ℕ) → count ≤ size → AreApart first (first + area_pages rows) other (other + area_pages size) → AreApart first (first + area_pages rows) other (other + area_pages count)
apart_fewer first other rows size count few (inl before) = inl before
apart_fewer first other rows size count few (inr behind) = inr (omega (arith, behind, few))

both_fewer : (first other size count : ℕ) → count ≤ size → AreApart first (first + area_pages size) other (other + area_pages size) → AreApart first (first + area_pages count) other (other + area_pages count)
both_fewer first other size count few (inl before) = inl (omega (arith, before, few))
both_fewer first other size count few (inr behind) = inr (omega (arith, behind, few))

pub area_fewer : (device : Device) (first size count : ℕ) → count ≤ size → IsArea device first size → IsArea device first count
area_fewer device first size count few area = record { block = area.block; there = omega (arith, area.there, few); small = area.small }

pub areas_fewer : {device : Device} {areas : Areas} {rows size : ℕ} (count : ℕ) → count ≤ size → HasAreas device areas rows size → HasAreas device areas rows count
areas_fewer {device = device} {rows = rows} {size = size} count few has = record {
  lists = has.lists;
  places = λ first is. area_fewer device first size count few (has.places first is);
  lists_apart = has.lists_apart;
  places_apart = λ first other is also differs. both_fewer first other size count few (has.places_apart first other is also differs);
  apart = λ first other is also. apart_fewer first other rows size count few (has.apart first other is also);
  two_lists = has.two_lists;
  two_places = has.two_places;
}

-- the pages of a run lie in its area
or_true : (a b : Bool) → (a || b) ≡ true → (a ≡ true) ⊎ (b ≡ true)
or_true true b is = inl refl
or_true false b is = inr is

within_of : (run : Run) (width page : ℕ) → is_of run width page ≡ true → (run.first ≤ page) × (page < run.first + pages_of run.count width)
within_of run width page is = (grind (arith, nat_tests), grind (arith, nat_tests))

lists_beside : (target first count rows page : ℕ) → count ≤ rows → first ≤ page → page < first + pages_of count 4 → AreApart target (target + area_pages rows) first (first + area_pages rows) → (page < target) ⊎ (target + area_pages rows ≤ page)
lists_beside target first count rows page few from to (inl before) = inr (omega (arith, before, from))
lists_beside target first count rows page few from to (inr behind) = inl (omega (arith, behind, few, to))

places_beside : (target end first count size page : ℕ) → 2 * count ≤ size + 1 → first ≤ page → page < first + pages_of count 8 → AreApart target end first (first + area_pages size) → (page < target) ⊎ (end ≤ page)
places_beside target end first count size page half from to (inl before) = inr (omega (arith, before, from))
places_beside target end first count size page half from to (inr behind) = inl (omega (arith, behind, half, to))

lists_from : (target end first count rows page : ℕ) → count ≤ rows → first ≤ page → page < first + pages_of count 4 → AreApart first (first + area_pages rows) target end → (page < target) ⊎ (end ≤ page)
lists_from target end first count rows page few from to (inl before) = inl (omega (arith, before, few, to))
lists_from target end first count rows page few from to (inr behind) = inr (omega (arith, behind, from))

places_from : (target end first count size page : ℕ) → 2 * count ≤ size + 1 → first ≤ page → page < first + pages_of count 8 → AreApart first (first + area_pages size) target end → (page < target) ⊎ (end ≤ page)
places_from target end first count size page half from to (inl before) = inl (omega (arith, before, half, to))
places_from target end first count size page half from to (inr behind) = inr (omega (arith, behind, from))

-- the reader of what the last pass left
pub record ReadsPlaced (placed : PlacedLists) (reader : PlaceReader) : Type 0 where
  pub places : reader.places ≡ placed.places
  pub lists : reader.lists ≡ placed.lists
  pub at : reader.at ≡ 0
  pub next : reader.next ≡ 0

pub uses_beside :
    (placed : PlacedLists) (reader : PlaceReader) (low high : ℕ) → ReadsPlaced placed reader
    → ((page : ℕ) → placed.places.first ≤ page → page < placed.places.first + pages_of placed.places.count 8 → (page < low) ⊎ (high ≤ page))
    → ((page : ℕ) → placed.lists.first ≤ page → page < placed.lists.first + pages_of placed.lists.count 4 → (page < low) ⊎ (high ≤ page))
    → UsesOutside low high (source_of reader)
uses_beside placed reader low high reads places lists = λ page is.
    elim (or_true (is_of reader.places 8 page) (is_of reader.lists 4 page) is) [
      | inl of_places ↦
          let P : Run → Type 0 = λ r. is_of r 8 page ≡ true in
          let w = within_of placed.places 8 page (subst P reads.places of_places) in places page w.0 w.1
      | inr of_lists ↦
          let P : Run → Type 0 = λ r. is_of r 4 page ≡ true in
          let w = within_of placed.lists 4 page (subst P reads.lists of_lists) in lists page w.0 w.1
    ]

pub outs_rest : (pool : Pool) (lease : ℕ) (held : List ℕ) → AreOut pool (lease ∷ held) → AreOut pool held
outs_rest pool lease held are =
    let P : List ℕ → Type 0 = λ ls. AreOut pool (lease ∷ ls) in
    outs_first pool held (lease ∷ []) (outs_from_front pool held lease [] (subst P (sym (append-nil held)) are))

no_truth : false ≡ true → ⊥
no_truth e = cc

at_area : (page low low' high high' : ℕ) → low' ≡ low → high' ≤ high → (page < low) ⊎ (high ≤ page) → (page < low') ⊎ (high' ≤ page)
at_area page low low' high high' same less (inl below) = inl (omega (arith, below, same))
at_area page low low' high high' same less (inr above) = inr (omega (arith, above, less))

few_lists : (count size : ℕ) → 2 * count ≤ size + 1 → count ≤ size
few_lists count size half = omega (arith, half)

pub can_begin :
    {device : Device} {pool later : Pool} (source : Source) (rest : Source) (areas : Areas) (old new : Groups) (placed : PlacedLists) (first fan places : ℕ)
    → CanPassOn device pool source areas old placed fan → IsNextPass areas placed first → IsForPlaces areas places → PassesOver pool later source rest old new
    → new.places.lease ≡ old.places.lease → new.into.writer.lease ≡ old.into.writer.lease
    → CanBegin device later first places old.into.rows placed.places.count old.into.writer.lease old.places.lease
can_begin {device = device} {later = later} source rest areas old new placed first fan places can next for_places over same_places same_lists =
    let few = few_lists placed.places.count old.size can.half in
    let P : List Cursor → Type 0 = λ cs. AreOut later (new.places.lease ∷ new.into.writer.lease ∷ leases_of cs) in
    let Q : ℕ → Type 0 = λ l. AreOut later (l ∷ new.into.writer.lease ∷ []) in
    let R : ℕ → Type 0 = λ l. AreOut later (old.places.lease ∷ l ∷ []) in
    record {
      leases = subst R same_lists (subst Q same_places (subst P over.none (outs_rest later rest.lease (groups_held new) over.still)));
      lists_area = can.areas_are.lists first next.for_lists;
      places_area = area_fewer device places old.size placed.places.count few (can.areas_are.places places for_places);
      apart = apart_fewer first places old.into.rows old.size placed.places.count few (can.areas_are.apart first places next.for_lists for_places);
    }

pub passed_on :
    {told : Bool} {device : Device} {pool later : Pool} (source : Source) (reader : PlaceReader) (areas : Areas) (old new : Groups) (placed : PlacedLists) (first fan places : ℕ)
    → CanPassOn device pool source areas old placed fan → IsNextPass areas placed first → IsForPlaces areas places → places ≢ placed.places.first
    → ReadsPlaced placed reader → AreOut pool (pass_held source old) → PassesOver pool later source (source_of reader) old new
    → IsBegun first places old.into.rows placed.places.count old.into.writer.lease old.places.lease new → IsGrouping told device later new
    → PassedOn told device later (source_of reader) areas old new fan first placed
passed_on {told = told} {device = device} {pool = pool} {later = later} source reader areas old new placed first fan places can next for_places differs reads are over begun grouping =
    let rest = source_of reader in
    let few = few_lists placed.places.count old.size can.half in
    let ends : area_pages new.into.rows ≡ area_pages old.into.rows = ap (λ n. area_pages n) over.rows in
    let sizes : area_pages new.size ≡ area_pages placed.places.count = ap (λ n. area_pages n) begun.size in
    let hand = none_hand new.into.merge begun.none in
    let no_read : unread_in later new.into.merge.cursors.items ≡ 0 = ap (λ cs. unread_in later cs) begun.none in
    let no_list : lists_at_hand new ≡ 0 = ap (λ cs. length cs) begun.none in
    let counts = ap (λ (r : Run). r.count) reads.places in
    let ids = ap (λ (r : Run). r.count) reads.lists in
    let A : ℕ → Type 0 = λ rows. HasAreas device areas rows new.size in
    let B : ℕ → Type 0 = λ size. HasAreas device areas old.into.rows size in
    let C : ℕ → Type 0 = IsForLists areas in
    let D : ℕ → Type 0 = IsForPlaces areas in
    record {
      reducing = record {
        passing = record {
          grouping = grouping;
          leases = over.still;
          buffers = omega (arith, can.buffers, buffers_same pool later (pass_held source old) (pass_held rest new) are over.still over.beside);
          lists_outside =
              uses_beside placed reader new.into.writer.filler.first (area_end new.into) reads
              (λ page from to.
              at_area page first new.into.writer.filler.first (first + area_pages old.into.rows) (area_end new.into) begun.lists (omega (arith, begun.lists, ends))
              (places_beside first (first + area_pages old.into.rows) placed.places.first placed.places.count old.size page can.half from to
              (can.areas_are.apart first placed.places.first next.for_lists can.for_places)))
              (λ page from to.
              at_area page first new.into.writer.filler.first (first + area_pages old.into.rows) (area_end new.into) begun.lists (omega (arith, begun.lists, ends))
              (lists_beside first placed.lists.first placed.lists.count old.into.rows page can.ids from to
              (can.areas_are.lists_apart first placed.lists.first next.for_lists can.for_lists next.another)));
          places_outside =
              uses_beside placed reader new.places.filler.first (places_end new) reads
              (λ page from to.
              at_area page places new.places.filler.first (places + area_pages old.size) (places_end new) begun.places
              (omega (arith, begun.places, sizes, few))
              (places_beside places (places + area_pages old.size) placed.places.first placed.places.count old.size page can.half from to
              (can.areas_are.places_apart places placed.places.first for_places can.for_places differs)))
              (λ page from to.
              at_area page places new.places.filler.first (places + area_pages old.size) (places_end new) begun.places
              (omega (arith, begun.places, sizes, few))
              (lists_from places (places + area_pages old.size) placed.lists.first placed.lists.count old.into.rows page can.ids from to
              (can.areas_are.apart placed.lists.first places can.for_lists for_places)));
          room = omega (arith, hand, begun.written, ids, can.ids, over.rows, reads.next);
          few = omega (arith, no_list);
          fan_most = can.fan_most;
          fan_least = can.fan_least;
          begins = λ e. begun.none_found;
          complete = λ e. absurd (no_truth e);
          pairs = inl (omega (arith, begun.placed, no_list, counts, begun.size, reads.at));
        };
        areas_are = subst A (sym over.rows) (subst B (sym begun.size) (areas_fewer placed.places.count few can.areas_are));
        few = omega (arith, over.rows, can.few);
        for_lists = subst C (sym begun.lists) next.for_lists;
        for_places = subst D (sym begun.places) for_places;
      };
      left = omega (arith, hand, no_read, no_list, counts, ids, can.ids, reads.at, reads.next);
      ids = omega (arith, hand, begun.written, ids);
      outside = λ low high for_lists for_places.
          uses_beside placed reader low high reads
          (λ page from to.
          places_from low high placed.places.first placed.places.count old.size page can.half from to (for_places placed.places.first can.for_places))
          (λ page from to.
          lists_from low high placed.lists.first placed.lists.count old.into.rows page can.ids from to (for_lists placed.lists.first can.for_lists));
      calls = omega (arith, no_read, counts, begun.size);
      rows = over.rows;
      size = begun.size;
      area = begun.lists;
    }
