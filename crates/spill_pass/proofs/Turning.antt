-- A step of the merge of the group at hand: what stands of the lists before it stays. And the beginning, with an empty group.
use Rattle.std.proofs.Common.{◌≡◌, ◌∙◌, ℕ, ◌+◌, Bool, true, List, [], ◌∷◌, length, sum, ap, sym, subst, arith}
use Rattle.std.specs.List.{concat}
use Rattle.edge_traits.specs.Devices.{Device}
use Rattle.page_pool.specs.Pools.{Pool, AreOut}
use Rattle.page_pool.proofs.Leases.{outs_swapped}
use Rattle.flash_pages.proofs.LeaseFrames.{put_kept}
use Rattle.id_merge.specs.declared.cursor.Cursor.{Cursor}
use Rattle.id_merge.specs.declared.merge.Merge.{Merge}
use Rattle.id_merge.specs.Cursors.{leases_of, CursorReady, IsAtMost}
use Rattle.spill_pass.specs.declared.merging.MergeInto.{MergeInto}
use Rattle.spill_pass.specs.declared.groups.Groups.{Groups}
use Rattle.spill_pass.specs.Merging.{IsMerging, CanBegin, Gathers, Goes, LiesOutside, area_pages, leases_held}
use Rattle.spill_pass.specs.Grouping.{IsGrouping, IsGrouped, AreApart, AreRowLists, places_end}
use Rattle.spill_pass.specs.Grouping as grouping
use Rattle.spill_pass.proofs.Holders.{same_beside}
use Rattle.spill_pass.proofs.Grouping.{place_within, places_below, apart_pages, same_beside_area, each_none}
use Rattle.spill_pass.proofs.Closing.{none_hand}

pub grouped_into :
    {told : Bool} {right : ℕ → List ℕ} {first : Merge} {lists : List (List ℕ)} {before now : Device} {pool later : Pool} (old : Groups) (into : MergeInto)
    → IsGrouping told before pool old → Goes told before now pool later old.into into
    → Gathers told right first (concat lists) now.page later into → IsGrouped told right first lists before.page pool old
    → IsGrouped told right first lists now.page later (record { into = into; places = old.places; begun = old.begun; size = old.size })
grouped_into {lists = lists} old into is goes gathers was =
    let ends =
    place_within old.places.filler.first old.places.filler.pages old.places.filler.held old.places.filler.count old.size is.area.block (places_below old is) is.placed in
    let P : ℕ → Type 0 = λ rows. AreRowLists rows lists in
    record {
      gathers = gathers;
      places =
          put_kept old.places
          (λ tells number from to. (same_beside_area number goes.changes (apart_pages number is.apart from (omega (arith, to, ends.0)))).bytes)
          (same_beside old.places.lease (leases_held old.into) is.leases goes.others) was.places;
      begun = was.begun;
      ordered = subst P (sym goes.rows) was.ordered;
    }

-- at the beginning
pub begun_can :
    {device : Device} {pool : Pool} (told : Bool) (merge : Merge) (lists places rows size lists_lease places_lease : ℕ)
    → grouping.CanBegin device pool lists places rows size lists_lease places_lease → merge.cursors.items ≡ [] → merge.unions.items ≡ 0 ∷ [] → merge.last ≡ 0
    → CanBegin told device pool merge lists rows lists_lease
begun_can {device = device} {pool = pool} told merge lists places rows size lists_lease places_lease can none unions last =
    let cursors = merge.cursors.items in
    let P : List Cursor → Type 0 = λ cs. AreOut pool (lists_lease ∷ leases_of cs) in
    let Q : List Cursor → Type 0 = λ cs. AreOut pool (leases_of cs) in
    record {
      step = record {
        some = omega (arith, ap (λ us. length us) unions);
        sums = ap (λ us. sum us) unions ∙ sym (ap (λ cs. length cs) none);
        cursors = record { each = each_none (CursorReady told device pool) cursors none tt; leases = subst Q (sym none) tt };
      };
      leases = subst P (sym none) ((outs_swapped pool places_lease lists_lease [] can.leases).0, tt);
      at_most = each_none (IsAtMost rows) cursors none (omega arith);
      within = omega (arith, last);
      area = can.lists_area;
      outside = each_none (LiesOutside lists (lists + area_pages rows)) cursors none tt;
    }

pub begun_grouping :
    {told : Bool} {device : Device} {pool : Pool} (lists places rows lists_lease places_lease : ℕ) (groups : Groups)
    → grouping.CanBegin device pool lists places rows groups.size lists_lease places_lease → IsMerging told device pool groups.into
    → groups.into.merge.cursors.items ≡ [] → groups.into.merge.unions.items ≡ 0 ∷ [] → groups.into.writer.filler.first ≡ lists
    → groups.into.rows ≡ rows → groups.into.writer.lease ≡ lists_lease → groups.into.writer.filler.count ≡ 0
    → groups.places.filler.first ≡ places → groups.places.filler.width ≡ 8 → groups.places.filler.erase ≡ true → groups.places.filler.count ≡ 0
    → groups.places.filler.pages ≡ 0 → groups.places.lease ≡ places_lease → groups.begun ≡ 0
    → IsGrouping told device pool groups
begun_grouping {device = device} {pool = pool} lists places rows lists_lease places_lease groups can merging none unions first rows_is lease count places_first width erase placed pages places_lease_is begun =
    let P : List ℕ → Type 0 = AreOut pool in
    let A : ℕ → ℕ → Type 0 = λ f p. AreApart f (f + area_pages groups.into.rows) p (p + area_pages groups.size) in
    let B : ℕ → Type 0 = λ rows. AreApart lists (lists + area_pages rows) places (places + area_pages groups.size) in
    let O : ℕ → Type 0 = λ p. A lists p in
    let L : ℕ → Type 0 = λ f. A f groups.places.filler.first in
    record {
      merging = merging;
      union = unions ∙ ap (λ (cs : List Cursor). length cs ∷ []) (sym none);
      room = omega (arith, none_hand groups.into.merge none, count);
      begun = omega (arith, begun);
      leases =
          subst P
          (sym (ap (λ (l : ℕ). l ∷ groups.into.writer.lease ∷ leases_of groups.into.merge.cursors.items) places_lease_is
          ∙ ap (λ (l : ℕ). places_lease ∷ l ∷ leases_of groups.into.merge.cursors.items) lease
          ∙ ap (λ cs. places_lease ∷ lists_lease ∷ leases_of cs) none))
          can.leases;
      area = record {
        block = omega (arith, can.places_area.block, places_first);
        there = omega (arith, can.places_area.there, places_first);
        small = can.places_area.small;
      };
      apart = subst L (sym first) (subst O (sym places_first) (subst B (sym rows_is) can.apart));
      outside = each_none (LiesOutside groups.places.filler.first (places_end groups)) groups.into.merge.cursors.items none tt;
      width = width;
      erase = erase;
      placed = omega (arith, placed);
      entered = λ erases page from to. absurd (omega (arith, from, to, pages, can.places_area.block, places_first));
    }
