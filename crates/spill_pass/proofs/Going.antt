-- What a step of the merge leaves, and several calls one after another.
use Rattle.std.proofs.Common.{◌≡◌, ◌∙◌, ℕ, ◌<◌, ◌≤◌, Bool, true, false, List, ◌∷◌, length, nat_lt, ap, sym, refl, subst, arith}
use Rattle.std.proofs.lemmas.Bool.Decides.{nat_tests}
use Rattle.edge_traits.specs.Devices.{Device, KeepsPages, ChangesOnly}
use Rattle.edge_traits.proofs.DeviceFrames.{kept_same, changes_kept, changes_wider, changes_trans}
use Rattle.page_pool.specs.Pools.{Pool, AreOut, ChangesPage, KeepsOthers, others_out, bytes_at, page_at}
use Rattle.page_pool.specs.Laws.{KeepsOut}
use Rattle.page_pool.proofs.Leases.{outs_kept, others_kept, others_same, others_trans}
use Rattle.flash_pages.specs.Writing.{reach}
use Rattle.flash_pages.specs.Writers.{next_page, waits}
use Rattle.id_merge.specs.declared.cursor.Cursor.{Cursor}
use Rattle.id_merge.specs.declared.merge.Merge.{Merge}
use Rattle.id_merge.specs.Cursors.{cursor_at, leases_of, Moves}
use Rattle.id_merge.specs.Merges.{CanMerge}
use Rattle.id_merge.proofs.SinceLaws.{since_later}
use Rattle.id_merge.proofs.Sparing.{outside_same}
use Rattle.spill_pass.specs.declared.merging.MergeInto.{MergeInto}
use Rattle.spill_pass.specs.Merging.{area_pages, area_end, leases_held, IsMerging, Goes}
use Rattle.spill_pass.proofs.Holders.{others_move}
use Rattle.spill_pass.proofs.Over.{list_again, list_kept, list_same}
use Rattle.spill_pass.proofs.Writing.{page_in_area, pages_below}

moves_out :
    {told : Bool} {before now : Device} {pool later : Pool} {old new : List Cursor} → Moves told before now pool later old new
    → KeepsOut pool later
moves_out moves = record { out = moves.out; size = moves.others.size }

still_out :
    {told : Bool} {before now : Device} {pool later : Pool} {old new : List Cursor} (lease : ℕ) → Moves told before now pool later old new
    → AreOut pool (lease ∷ leases_of old) → AreOut later (lease ∷ leases_of new)
still_out {later = later} {old = old} lease moves are =
    let P : List ℕ → Type 0 = λ leases. AreOut later (lease ∷ leases) in
    subst P (sym moves.leases) (outs_kept (lease ∷ leases_of old) (moves_out moves) are)

-- a step of the merge
pub stepped :
    {told : Bool} {before now : Device} {pool later : Pool} (old : MergeInto) (merge : Merge) → AreOut pool (leases_held old)
    → Moves told before now pool later old.merge.cursors.items merge.cursors.items
    → Goes told before now pool later old (record { merge = merge; writer = old.writer; rows = old.rows })
stepped {told = told} {before = before} old merge are moves = record {
  changes = changes_kept moves.kept old.writer.filler.first (area_end old);
  out = moves.out;
  others = others_move old.writer.lease (leases_of old.merge.cursors.items) moves.others;
  held = ap (λ leases. old.writer.lease ∷ leases) moves.leases;
  still = still_out old.writer.lease moves are;
  given = moves.given;
  same = λ i. list_kept told before.page (cursor_at old.merge.cursors.items i) (cursor_at merge.cursors.items i) (moves.same i);
  outside = λ low high is i. outside_same told before.page low high (cursor_at old.merge.cursors.items i) (cursor_at merge.cursors.items i) (moves.same i) (is i);
  count = moves.count;
  first = refl;
  rows = refl;
}

pub merging_step :
    {told : Bool} {before now : Device} {pool later : Pool} (old : MergeInto) (merge : Merge) → IsMerging told before pool old
    → Moves told before now pool later old.merge.cursors.items merge.cursors.items → CanMerge told now later merge
    → merge.last ≤ old.rows
    → IsMerging told now later (record { merge = merge; writer = old.writer; rows = old.rows })
merging_step {told = told} {before = before} old merge is moves can within = record {
  can = record {
    step = can;
    leases = still_out old.writer.lease moves is.can.leases;
    at_most = moves.at_most old.rows is.can.at_most;
    within = within;
    area = record { block = is.can.area.block; there = omega (arith, moves.kept.page_count, is.can.area.there); small = omega (arith, moves.kept.page_count, is.can.area.small) };
    outside = λ i. outside_same told before.page old.writer.filler.first (area_end old) (cursor_at old.merge.cursors.items i) (cursor_at merge.cursors.items i) (moves.same i) (is.can.outside i);
  };
  width = is.width;
  erase = is.erase;
  count = is.count;
  entered = λ erase other from to. ap (λ f. f other) moves.kept.blank ∙ is.entered erase other from to;
}

-- nothing yet
pub goes_none :
    {told : Bool} {device : Device} {pool : Pool} (into : MergeInto) → AreOut pool (leases_held into)
    → Goes told device device pool pool into into
goes_none {device = device} {pool = pool} into are = record {
  changes = changes_kept (kept_same device) into.writer.filler.first (area_end into);
  out = refl;
  others = others_same (others_out pool (leases_held into)) pool;
  held = refl;
  still = are;
  given = λ since from given. given;
  same = λ i. list_same (cursor_at into.merge.cursors.items i);
  outside = λ low high is. is;
  count = refl;
  first = refl;
  rows = refl;
}

-- one call after another
pub goes_trans :
    {told : Bool} {a b c : Device} {pool then later : Pool} {old mid new : MergeInto} → Goes told a b pool then old mid
    → Goes told b c then later mid new → Goes told a c pool later old new
goes_trans {pool = pool} {then = then} {later = later} {old = old} {mid = mid} {new = new} one two =
    let ends : area_pages mid.rows ≡ area_pages old.rows = ap (λ n. area_pages n) one.rows in
    let P : List Bool → Type 0 = λ others. KeepsOthers others then later in
    record {
      changes = changes_trans one.changes (changes_wider two.changes old.writer.filler.first (area_end old) (omega (arith, one.first)) (omega (arith, one.first, ends)));
      out = two.out ∙ one.out;
      others =
          others_trans one.others
          (subst P (ap (λ leases. others_out then leases) one.held ∙ others_kept (leases_held old) (record { out = one.out; size = one.others.size })) two.others);
      held = two.held ∙ one.held;
      still = two.still;
      given = λ since from given. two.given since (since_later one.changes.never_falls from) (one.given since from given);
      same = λ i.
          list_again (cursor_at old.merge.cursors.items i) (cursor_at mid.merge.cursors.items i) (cursor_at new.merge.cursors.items i) (one.same i) (two.same i);
      outside = λ low high is. two.outside low high (one.outside low high is);
      count = two.count ∙ one.count;
      first = two.first ∙ one.first;
      rows = two.rows ∙ one.rows;
    }

-- the last page
pub finish_changes :
    (wait : Bool) {before now : Device} {low page high end : ℕ} → ChangesOnly page high before now → low ≤ page → (wait ≡ true → high ≤ end)
    → (wait ≡ false → KeepsPages before now) → ChangesOnly low end before now
finish_changes true {low = low} {end = end} changes from to kept = changes_wider changes low end from (to refl)
finish_changes false {low = low} {end = end} changes from to kept = changes_kept (kept refl) low end

pub some_wait : (held : ℕ) → nat_lt 0 held ≡ true → 0 < held
some_wait held waits = grind (arith, nat_tests)

pub finish_in_area :
    {told : Bool} {before now : Device} {pool : Pool} {into : MergeInto} → IsMerging told before pool into
    → ChangesOnly (next_page into.writer.filler) (reach (next_page into.writer.filler) into.writer.filler.erase) before now
    → (waits into.writer.filler ≡ false → KeepsPages before now)
    → ChangesOnly into.writer.filler.first (area_end into) before now
finish_in_area {into = into} is changes kept =
    finish_changes (waits into.writer.filler) changes (omega arith)
    (λ wait. page_in_area is (omega (arith, pages_below is, some_wait into.writer.filler.held wait, is.count)))
    kept

pub same_pool : {pool later : Pool} (lease : ℕ) → later ≡ pool → ChangesPage pool later lease
same_pool lease same = record {
  out = ap (λ (p : Pool). p.out) same;
  size = ap (λ (p : Pool). length p.pages) same;
  bytes = λ other apart. ap (λ p. bytes_at p other) same;
  filled = λ other apart. ap (λ p. page_at p other) same;
}
