-- What is left where the list of a group stands: its leases go back, and the group is empty.
use Rattle.std.proofs.Common.{◌≡◌, ◌∙◌, ℕ, ◌+◌, ◌*◌, ◌<◌, ◌≤◌, ◌⊎◌, inl, inr, Bool, true, false, List, [], ◌∷◌, length, sum, ap, sym, refl, subst, arith}
use Rattle.edge_traits.specs.Devices.{Device, ChangesOnly}
use Rattle.page_pool.specs.Pools.{Pool, AreOut, ChangesPage, all_given, others_out}
use Rattle.page_pool.proofs.Leases.{outs_kept, outs_swapped, others_kept, change_keeps_out, change_keeps_others}
use Rattle.flash_pages.specs.declared.writer.RunWriter.{RunWriter}
use Rattle.flash_pages.specs.Writing.{IsEntered, reach}
use Rattle.flash_pages.specs.Writers.{CanWrite, SameRun, next_page}
use Rattle.id_merge.specs.declared.cursor.Cursor.{Cursor}
use Rattle.id_merge.specs.declared.merge.Merge.{Merge}
use Rattle.id_merge.specs.Cursors.{leases_of, CursorReady, IsAtMost, at_hand_in, unread_in}
use Rattle.id_merge.specs.Merges.{at_hand}
use Rattle.spill_pass.specs.declared.merging.MergeInto.{MergeInto}
use Rattle.spill_pass.specs.declared.groups.Groups.{Groups}
use Rattle.spill_pass.specs.Merging.{IsMerging, LiesOutside, area_pages, area_end, left_of}
use Rattle.spill_pass.specs.Grouping.{IsGrouping, GoesOn, AreApart, groups_held, places_end}
use Rattle.spill_pass.proofs.Writing.{pages_below, reach_within}
use Rattle.spill_pass.proofs.SparedLemmas.{next_within}
use Rattle.spill_pass.proofs.Grouping.{places_area, each_none, outs_left, others_left, gives_keep, same_beside_area}

-- the place of the list could not be put
pub put_goes :
    {before now : Device} {pool later : Pool} (old : Groups) (places : RunWriter) → AreOut pool (groups_held old)
    → ChangesOnly old.places.filler.first (places_end old) before now → ChangesPage pool later old.places.lease
    → places.lease ≡ old.places.lease → places.filler.first ≡ old.places.filler.first
    → GoesOn before now pool later old (record { into = old.into; places = places; begun = old.begun; size = old.size })
put_goes {later = later} old places are changes buffer lease first =
    let keeps = change_keeps_out buffer in
    let cursors = old.into.merge.cursors.items in
    let same = ap (λ (l : ℕ). l ∷ old.into.writer.lease ∷ leases_of cursors) lease in
    let P : List ℕ → Type 0 = AreOut later in
    record {
      changes = places_area changes;
      beside = ap (λ leases. others_out later leases) same ∙ others_kept (groups_held old) keeps;
      others = change_keeps_others (groups_held old) 0 0 (omega arith) buffer;
      still = subst P (sym same) (outs_kept (groups_held old) keeps are);
      lists_first = refl;
      places_first = first;
      rows = refl;
      size = refl;
    }

-- it was put
pub closed_goes :
    {told : Bool} {before now : Device} {pool then later : Pool} (old : Groups) (places : RunWriter) (merge : Merge) (begun : ℕ) → IsGrouping told before pool old
    → ChangesOnly old.places.filler.first (places_end old) before now → ChangesPage pool then old.places.lease
    → later ≡ all_given then (leases_of old.into.merge.cursors.items) → merge.cursors.items ≡ [] → places.lease ≡ old.places.lease
    → places.filler.first ≡ old.places.filler.first
    → GoesOn before now pool later old (record { into = record { merge = merge; writer = old.into.writer; rows = old.into.rows }; places = places; begun = begun; size = old.size })
closed_goes {then = then} {later = later} old places merge begun is changes buffer gives none lease first =
    let a = old.places.lease in
    let b = old.into.writer.lease in
    let leases = leases_of old.into.merge.cursors.items in
    let keeps = change_keeps_out buffer in
    let held = ap (λ (l : ℕ). l ∷ b ∷ leases_of merge.cursors.items) lease ∙ ap (λ cs. a ∷ b ∷ leases_of cs) none in
    let P : List ℕ → Type 0 = AreOut later in
    let Q : Pool → Type 0 = λ p. AreOut p (a ∷ b ∷ []) in
    record {
      changes = places_area changes;
      beside =
          ap (λ ls. others_out later ls) held ∙ ap (λ p. others_out p (a ∷ b ∷ [])) gives ∙ others_left then a b leases ∙ others_kept (groups_held old) keeps;
      others = gives_keep leases gives (change_keeps_others (groups_held old) 0 0 (omega arith) buffer);
      still = subst P (sym held) (subst Q (sym gives) (outs_left then a b leases (outs_kept (groups_held old) keeps is.leases)));
      lists_first = refl;
      places_first = first;
      rows = refl;
      size = refl;
    }

pub other_apart : {first end other other_end : ℕ} (page : ℕ) → AreApart first end other other_end → first ≤ page → page < end → (page < other) ⊎ (other_end ≤ page)
other_apart page (inl before) from to = inl (omega arith)
other_apart page (inr behind) from to = inr (omega arith)

pub none_hand : (merge : Merge) → merge.cursors.items ≡ [] → at_hand merge ≡ 0
none_hand merge none = ap (λ cs. at_hand_in merge.last cs) none

pub none_left : (pool : Pool) (into : MergeInto) → into.merge.cursors.items ≡ [] → left_of pool into ≡ 0
none_left pool into none = omega (arith, none_hand into.merge none, ap (λ cs. unread_in pool cs) none)

pub closed_merging :
    {told : Bool} {before now : Device} {pool later : Pool} (old : Groups) (merge : Merge) → IsGrouping told before pool old
    → ChangesOnly old.places.filler.first (places_end old) before now → AreOut later (old.into.writer.lease ∷ [])
    → merge.cursors.items ≡ [] → merge.unions.items ≡ 0 ∷ [] → merge.last ≡ 0
    → IsMerging told now later (record { merge = merge; writer = old.into.writer; rows = old.into.rows })
closed_merging {told = told} {before = before} {now = now} {later = later} old merge is changes out none unions last =
    let into = old.into in
    let cursors = merge.cursors.items in
    let P : List Cursor → Type 0 = λ cs. AreOut later (into.writer.lease ∷ leases_of cs) in
    let Q : List Cursor → Type 0 = λ cs. AreOut later (leases_of cs) in
    let ends =
    next_within into.writer.filler.first into.writer.filler.pages into.writer.filler.held into.writer.filler.count into.rows is.merging.can.area.block
    (pages_below is.merging) is.merging.count in
    record {
      can = record {
        step = record {
          some = omega (arith, ap (λ us. length us) unions);
          sums = ap (λ us. sum us) unions ∙ sym (ap (λ cs. length cs) none);
          cursors = record { each = each_none (CursorReady told now later) cursors none tt; leases = subst Q (sym none) tt };
        };
        leases = subst P (sym none) out;
        at_most = each_none (IsAtMost into.rows) cursors none (omega arith);
        within = omega (arith, last);
        area = record {
          block = is.merging.can.area.block;
          there = omega (arith, is.merging.can.area.there, changes.page_count);
          small = omega (arith, is.merging.can.area.small, changes.page_count);
        };
        outside = each_none (LiesOutside into.writer.filler.first (area_end into)) cursors none tt;
      };
      width = is.merging.width;
      erase = is.merging.erase;
      count = is.merging.count;
      entered = λ erase page from to.
          (same_beside_area page changes (other_apart page is.apart (omega (arith, from)) (omega (arith, to, ends.1)))).blank
          ∙ is.merging.entered erase page from to;
    }

pub closed_grouping :
    {told : Bool} {before now : Device} {pool then later : Pool} (old : Groups) (places : RunWriter) (merge : Merge) → IsGrouping told before pool old
    → ChangesOnly old.places.filler.first (places_end old) before now → ChangesPage pool then old.places.lease
    → later ≡ all_given then (leases_of old.into.merge.cursors.items) → merge.cursors.items ≡ [] → merge.unions.items ≡ 0 ∷ []
    → merge.last ≡ 0 → places.lease ≡ old.places.lease → SameRun old.places.filler places.filler
    → IsEntered now (next_page places.filler) places.filler.erase → 2 * places.filler.count ≤ old.size + 1
    → IsGrouping told now later (record { into = record { merge = merge; writer = old.into.writer; rows = old.into.rows }; places = places; begun = old.into.writer.filler.count; size = old.size })
closed_grouping {told = told} {now = now} {pool = pool} {then = then} {later = later} old places merge is changes buffer gives none unions last lease same entered placed =
    let goes = closed_goes old places merge old.into.writer.filler.count is changes buffer gives none lease same.first in
    let a = old.places.lease in
    let b = old.into.writer.lease in
    let Q : Pool → Type 0 = λ p. AreOut p (a ∷ b ∷ []) in
    let still : AreOut later (a ∷ b ∷ []) =
    subst Q (sym gives) (outs_left then a b (leases_of old.into.merge.cursors.items) (outs_kept (groups_held old) (change_keeps_out buffer) is.leases)) in
    let E : Bool → Type 0 = λ erase. IsEntered now (next_page places.filler) erase in
    record {
      merging = closed_merging old merge is changes ((outs_swapped later a b [] still).0, tt) none unions last;
      union = unions ∙ ap (λ (cs : List Cursor). length cs ∷ []) (sym none);
      room = omega (arith, none_hand merge none, is.merging.count);
      begun = omega arith;
      leases = goes.still;
      area = record {
        block = omega (arith, is.area.block, same.first);
        there = omega (arith, is.area.there, same.first, changes.page_count);
        small = omega (arith, is.area.small, changes.page_count);
      };
      apart = let R : ℕ → Type 0 = λ first. AreApart old.into.writer.filler.first (area_end old.into) first (first + area_pages old.size) in subst R (sym same.first) is.apart;
      outside = each_none (LiesOutside places.filler.first (places.filler.first + area_pages old.size)) merge.cursors.items none tt;
      width = same.width ∙ is.width;
      erase = same.erase ∙ is.erase;
      placed = placed;
      entered = subst E (same.erase ∙ is.erase) entered;
    }

page_there : (pages size : ℕ) → pages * 512 < size → pages < area_pages size
page_there pages size less = omega arith

no_erase : true ≡ false → ⊥
no_erase is = absurd (cc)

-- the page of the places that is written next lies in their area
pub place_reach :
    {told : Bool} {device : Device} {pool : Pool} (groups : Groups) → IsGrouping told device pool groups → groups.places.filler.pages * 512 < groups.size
    → reach (next_page groups.places.filler) groups.places.filler.erase ≤ places_end groups
place_reach groups is less = reach_within groups.places.filler.first groups.places.filler.pages groups.size groups.places.filler.erase is.area.block less

-- a place may be put, also after a page of the lists was written
pub can_place_later :
    {told : Bool} {before : Device} {pool : Pool} (groups : Groups) (now : Device) → IsGrouping told before pool groups → now.page_count ≡ before.page_count
    → IsEntered now (next_page groups.places.filler) true → groups.places.filler.pages * 512 < groups.size → CanWrite now groups.places.filler
can_place_later groups now is count entered less =
    let E : Bool → Type 0 = λ erase. IsEntered now (next_page groups.places.filler) erase in
    record {
      page = record {
        in_range = omega (arith, is.area.there, count, page_there groups.places.filler.pages groups.size less);
        blank = λ plain. absurd (no_erase (sym is.erase ∙ plain));
        entered = subst E (sym is.erase) entered;
      };
      small = omega (arith, is.area.small, count);
    }

pub can_place :
    {told : Bool} {device : Device} {pool : Pool} (groups : Groups) → IsGrouping told device pool groups → groups.places.filler.pages * 512 < groups.size
    → CanWrite device groups.places.filler
can_place {device = device} groups is less = can_place_later groups device is refl is.entered less
