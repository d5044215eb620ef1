-- What the calls on groups leave of the pages, of the buffers and of what is written.
use Rattle.std.proofs.Common.{◌≡◌, ◌∙◌, ℕ, zero, suc, ◌+◌, ◌*◌, ◌%◌, ◌<◌, ◌≤◌, ◌⊎◌, inl, inr, Bool, true, List, [], ◌∷◌, ◌++◌, length, slice_set, false, ap, sym, refl, subst, arith}
use Rattle.std.proofs.lemmas.List.{append-nil}
use Rattle.edge_traits.specs.Devices.{Device, KeepsPages, SamePage, ChangesOnly}
use Rattle.edge_traits.proofs.DeviceFrames.{same_trans, same_kept}
use Rattle.page_pool.specs.Pools.{Pool, AreOut, KeepsOthers, all_given, others_out, bytes_at, page_at}
use Rattle.page_pool.specs.Laws.{KeepsOut}
use Rattle.page_pool.proofs.Leases.{outs_kept, others_kept, others_trans, outs_from_front, all_given_to_front, all_given-append, outs_later}
use Rattle.flash_pages.specs.Writing.{IsEntered, block_end}
use Rattle.flash_pages.specs.Writers.{next_page}
use Rattle.flash_pages.proofs.Fillings.{whole_pages}
use Rattle.id_merge.specs.declared.cursor.Cursor.{Cursor}
use Rattle.id_merge.specs.Cursors.{cursor_at, nothing}
use Rattle.id_merge.specs.Merges.{at_hand}
use Rattle.spill_pass.specs.declared.merging.MergeInto.{MergeInto}
use Rattle.spill_pass.specs.declared.groups.Groups.{Groups}
use Rattle.spill_pass.specs.Merging.{IsMerging, Goes, area_pages, area_end, leases_held}
use Rattle.spill_pass.specs.Grouping.{IsGrouping, GoesOn, ChangesAreas, AreApart, groups_held, places_end}
use Rattle.spill_pass.proofs.Holders.{others_move}

-- changes in one of the areas, and in both
pub lists_area : {first end other other_end : ℕ} {before now : Device} → ChangesOnly first end before now → ChangesAreas first end other other_end before now
lists_area changes = record {
  name = changes.name;
  page_count = changes.page_count;
  stays = λ page outside apart. elim outside [ inl below ↦ changes.below page below | inr above ↦ changes.above page above ];
  devices = changes.others;
  never_falls = changes.never_falls;
  gave = changes.gave;
}

pub places_area : {first end other other_end : ℕ} {before now : Device} → ChangesOnly other other_end before now → ChangesAreas first end other other_end before now
places_area changes = record {
  name = changes.name;
  page_count = changes.page_count;
  stays = λ page outside apart. elim apart [ inl below ↦ changes.below page below | inr above ↦ changes.above page above ];
  devices = changes.others;
  never_falls = changes.never_falls;
  gave = changes.gave;
}

pub areas_kept : {before now : Device} (first end other other_end : ℕ) → KeepsPages before now → ChangesAreas first end other other_end before now
areas_kept first end other other_end kept = record {
  name = kept.name;
  page_count = kept.page_count;
  stays = λ page outside apart. same_kept kept page;
  devices = kept.others;
  never_falls = kept.never_falls;
  gave = kept.gave;
}

beside_same : (page first end first' end' : ℕ) → first' ≡ first → end' ≡ end → (page < first) ⊎ (end ≤ page) → (page < first') ⊎ (end' ≤ page)
beside_same page first end first' end' same same_end (inl below) = inl (omega arith)
beside_same page first end first' end' same same_end (inr above) = inr (omega arith)

-- calls one after another, the areas of the second being those of the first
pub areas_trans :
    {a b c : Device} {first end other other_end first' end' other' other_end' : ℕ} → first' ≡ first → end' ≡ end → other' ≡ other
    → other_end' ≡ other_end → ChangesAreas first end other other_end a b → ChangesAreas first' end' other' other_end' b c
    → ChangesAreas first end other other_end a c
areas_trans {first = first} {end = end} {other = other} {other_end = other_end} {first' = first'} {end' = end'} {other' = other'} {other_end' = other_end'} f e o oe one two =
    record {
      name = two.name ∙ one.name;
      page_count = two.page_count ∙ one.page_count;
      stays = λ page outside apart.
          same_trans (one.stays page outside apart)
          (two.stays page (beside_same page first end first' end' f e outside) (beside_same page other other_end other' other_end' o oe apart));
      devices = two.devices ∙ one.devices;
      never_falls = omega (arith, one.never_falls, two.never_falls);
      gave = λ at page bytes gave. two.gave at page bytes (one.gave at page bytes gave);
    }

pub goes_on :
    {a b c : Device} {pool then later : Pool} {old mid new : Groups} → GoesOn a b pool then old mid → GoesOn b c then later mid new
    → GoesOn a c pool later old new
goes_on {pool = pool} {then = then} {later = later} {old = old} {mid = mid} one two =
    let P : List Bool → Type 0 = λ others. KeepsOthers others then later in
    record {
      changes =
          areas_trans one.lists_first (omega (arith, one.lists_first, ap (λ n. area_pages n) one.rows)) one.places_first
          (omega (arith, one.places_first, ap (λ n. area_pages n) one.size)) one.changes two.changes;
      beside = two.beside ∙ one.beside;
      others = others_trans one.others (subst P one.beside two.others);
      still = two.still;
      lists_first = two.lists_first ∙ one.lists_first;
      places_first = two.places_first ∙ one.places_first;
      rows = two.rows ∙ one.rows;
      size = two.size ∙ one.size;
    }

-- a step of the merge of the group at hand
pub goes_into :
    {told : Bool} {before now : Device} {pool later : Pool} (old : Groups) (into : MergeInto) → AreOut pool (groups_held old)
    → Goes told before now pool later old.into into
    → GoesOn before now pool later old (record { into = into; places = old.places; begun = old.begun; size = old.size })
goes_into {pool = pool} {later = later} old into are goes =
    let keeps : KeepsOut pool later = record { out = goes.out; size = goes.others.size } in
    let same = ap (λ (leases : List ℕ). old.places.lease ∷ leases) goes.held in
    let P : List ℕ → Type 0 = AreOut later in
    record {
      changes = lists_area goes.changes;
      beside = ap (λ leases. others_out later leases) same ∙ others_kept (groups_held old) keeps;
      others = others_move old.places.lease (leases_held old.into) goes.others;
      still = subst P (sym same) (outs_kept (groups_held old) keeps are);
      lists_first = goes.first;
      places_first = refl;
      rows = goes.rows;
      size = refl;
    }

-- the page of the places that is written next, and what is left of its block, lie in the area of the places
pub place_within :
    (first pages held count size : ℕ) → first % 64 ≡ 0 → pages * 256 + held ≡ count → 2 * count ≤ size + 1
    → (first + pages ≤ first + area_pages size) × (block_end (first + pages) ≤ first + area_pages size)
place_within first pages held count size block whole few = (omega arith, omega arith)

pub places_below :
    {told : Bool} {device : Device} {pool : Pool} (groups : Groups) → IsGrouping told device pool groups
    → groups.places.filler.pages * 256 + groups.places.filler.held ≡ groups.places.filler.count
places_below groups is = whole_pages groups.places.filler 8 groups.places.filler.count is.width refl

pub apart_pages : {first end other other_end : ℕ} (page : ℕ) → AreApart first end other other_end → other ≤ page → page < other_end → (page < first) ⊎ (end ≤ page)
apart_pages page (inl before) from to = inr (omega arith)
apart_pages page (inr behind) from to = inl (omega arith)

pub same_beside_area : {low high : ℕ} {before now : Device} (page : ℕ) → ChangesOnly low high before now → (page < low) ⊎ (high ≤ page) → SamePage before now page
same_beside_area page changes (inl below) = changes.below page below
same_beside_area page changes (inr above) = changes.above page above

pub entered_still :
    {told : Bool} {before now : Device} {pool : Pool} (groups : Groups) → IsGrouping told before pool groups
    → ChangesOnly groups.into.writer.filler.first (area_end groups.into) before now → IsEntered now (next_page groups.places.filler) true
entered_still groups is changes = λ erase page from to.
    let ends =
    place_within groups.places.filler.first groups.places.filler.pages groups.places.filler.held groups.places.filler.count groups.size is.area.block
    (places_below groups is) is.placed in
    (same_beside_area page changes (apart_pages page is.apart (omega (arith, from)) (omega (arith, to, ends.1)))).blank
    ∙ is.entered erase page from to

apart_same : {first end first' end' other other_end : ℕ} → first' ≡ first → end' ≡ end → AreApart first end other other_end → AreApart first' end' other other_end
apart_same same same_end (inl before) = inl (omega arith)
apart_same same same_end (inr behind) = inr (omega arith)

pub grouping_into :
    {told : Bool} {before now : Device} {pool later : Pool} (old : Groups) (into : MergeInto) → IsGrouping told before pool old
    → Goes told before now pool later old.into into → IsMerging told now later into → into.merge.unions ≡ old.into.merge.unions
    → into.writer.filler.count + at_hand into.merge ≤ old.into.writer.filler.count + at_hand old.into.merge
    → old.into.writer.filler.count ≤ into.writer.filler.count
    → IsGrouping told now later (record { into = into; places = old.places; begun = old.begun; size = old.size })
grouping_into old into is goes merging unions room written = record {
  merging = merging;
  union = ap (λ u. u.items) unions ∙ is.union ∙ ap (λ n. n ∷ []) (sym goes.count);
  room = omega (arith, room, is.room, goes.rows);
  begun = omega (arith, is.begun, written);
  leases = (goes_into old into is.leases goes).still;
  area = record { block = is.area.block; there = omega (arith, is.area.there, goes.changes.page_count); small = omega (arith, is.area.small, goes.changes.page_count) };
  apart = apart_same goes.first (omega (arith, goes.first, ap (λ n. area_pages n) goes.rows)) is.apart;
  outside = goes.outside old.places.filler.first (places_end old) is.outside;
  width = is.width;
  erase = is.erase;
  placed = is.placed;
  entered = entered_still old is goes.changes;
}

-- after the leases of the lists were given back
none_at : (i : ℕ) → cursor_at [] i ≡ nothing
none_at zero = refl
none_at (suc i) = refl

pub each_none : (P : Cursor → Type 0) (cursors : List Cursor) → cursors ≡ [] → P nothing → (i : ℕ) → P (cursor_at cursors i)
each_none P cursors is none i = subst P (sym (ap (λ cs. cursor_at cs i) is ∙ none_at i)) none

pub given_bytes : (pool : Pool) (leases : List ℕ) (other : ℕ) → bytes_at (all_given pool leases) other ≡ bytes_at pool other
given_bytes pool [] other = refl
given_bytes pool (lease ∷ leases) other = given_bytes (record pool { out = slice_set pool.out lease false }) leases other

pub given_page : (pool : Pool) (leases : List ℕ) (other : ℕ) → page_at (all_given pool leases) other ≡ page_at pool other
given_page pool [] other = refl
given_page pool (lease ∷ leases) other = given_page (record pool { out = slice_set pool.out lease false }) leases other

given_size : (pool : Pool) (leases : List ℕ) → length (all_given pool leases).pages ≡ length pool.pages
given_size pool [] = refl
given_size pool (lease ∷ leases) = given_size (record pool { out = slice_set pool.out lease false }) leases

-- of the leases of two writers and of lists, those of the lists go back
pub outs_left : (pool : Pool) (a b : ℕ) (leases : List ℕ) → AreOut pool (a ∷ b ∷ leases) → AreOut (all_given pool leases) (a ∷ b ∷ [])
outs_left pool a b leases are =
    let P : List ℕ → Type 0 = λ rest. AreOut pool (a ∷ b ∷ rest) in
    let front : AreOut pool (a ∷ b ∷ (leases ++ [])) = subst P (sym (append-nil leases)) are in
    outs_later pool leases (a ∷ b ∷ [])
    (outs_from_front pool leases a (b ∷ []) (front.0, outs_from_front (record pool { out = slice_set pool.out a false }) leases b [] front.1))

pub others_left : (pool : Pool) (a b : ℕ) (leases : List ℕ) → others_out (all_given pool leases) (a ∷ b ∷ []) ≡ others_out pool (a ∷ b ∷ leases)
others_left pool a b leases =
    ap (λ (p : Pool). p.out)
    (sym (all_given-append pool leases (a ∷ b ∷ []))
    ∙ all_given_to_front pool leases a (b ∷ [])
    ∙ all_given_to_front (record pool { out = slice_set pool.out a false }) leases b []
    ∙ ap (λ rest. all_given pool (a ∷ b ∷ rest)) (append-nil leases))

pub gives_keep :
    {others : List Bool} {pool then later : Pool} (leases : List ℕ) → later ≡ all_given then leases → KeepsOthers others pool then
    → KeepsOthers others pool later
gives_keep {then = then} leases is keeps = record {
  size = ap (λ (p : Pool). length p.pages) is ∙ given_size then leases ∙ keeps.size;
  bytes = λ other out. ap (λ p. bytes_at p other) is ∙ given_bytes then leases other ∙ keeps.bytes other out;
  filled = λ other out. ap (λ p. page_at p other) is ∙ given_page then leases other ∙ keeps.filled other out;
}
