-- What the calls of a pass leave: those on its source, those on its groups, and several of them one after another.
use Rattle.std.proofs.Common.{◌≡◌, ◌∙◌, ℕ, suc, ◌+◌, ◌<◌, ◌≤◌, Bool, false, List, [], ◌∷◌, length, slice_set, ap, sym, refl, subst, arith}
use Rattle.std.proofs.lemmas.List.{append-nil}
use Rattle.std.proofs.lemmas.List.Sums.{sum_by-cons}
use Rattle.ghost_model.specs.forms.Runs.{page_of}
use Rattle.ghost_base.specs.Runs.{run_of}
use Rattle.edge_traits.specs.Devices.{Device, KeepsPages, SamePage}
use Rattle.edge_traits.proofs.DeviceFrames.{same_kept}
use Rattle.page_pool.specs.Pools.{Pool, AreOut, ChangesPage, KeepsOthers, given, others_out, free_count}
use Rattle.page_pool.proofs.Leases.{outs_kept, others_kept, others_trans, change_keeps_out, change_elsewhere, change_keeps_others, head_apart, all_given_to_front, all_given-append, all_given_counts, holder_keeps_outs, outs_from_front, outs_to_front}
use Rattle.id_merge.specs.declared.cursor.Cursor.{Cursor}
use Rattle.id_merge.specs.declared.cursor.Cursor.TheVariants.{List as OfList, Range}
use Rattle.id_merge.specs.Since.{Since}
use Rattle.flash_pages.specs.Cursors.{id_in}
use Rattle.id_merge.specs.Cursors.{cursor_at, leases_of, unread_in, unread_of, AllGiven}
use Rattle.spill_pass.specs.declared.groups.Groups.{Groups}
use Rattle.spill_pass.specs.Grouping.{IsGrouping, GoesOn, groups_held, places_end}
use Rattle.spill_pass.specs.Merging.{SameIds, area_pages, area_end}
use Rattle.spill_pass.specs.Passing.{PassGoes, pass_held}
use Rattle.spill_pass.specs.Sources.{Source, SameSource}
use Rattle.spill_pass.specs.Spared.{Spares, KeepsRun, KeepsBuffer}
use Rattle.spill_pass.proofs.Holders.{IsAnother, another, each_out, out_before, others_move}
use Rattle.spill_pass.proofs.Writing.{given_cursor, unread_list_same}
use Rattle.spill_pass.proofs.SparedLemmas.{stays_merging}
use Rattle.spill_pass.proofs.Grouping.{areas_kept, areas_trans, place_within, places_below}

-- the first lease may be given back last
given_last : (pool : Pool) (lease : ℕ) (held : List ℕ) → others_out pool (lease ∷ held) ≡ slice_set (others_out pool held) lease false
given_last pool lease held =
    ap (λ ls. others_out pool (lease ∷ ls)) (sym (append-nil held))
    ∙ ap (λ (p : Pool). p.out) (sym (all_given_to_front pool held lease []) ∙ all_given-append pool held (lease ∷ []))

pub outs_beside :
    (pool later : Pool) (lease : ℕ) (held held' : List ℕ) → AreOut pool (lease ∷ held) → AreOut later held'
    → others_out later held' ≡ others_out pool held → length later.pages ≡ length pool.pages → AreOut later (lease ∷ held')
outs_beside pool later lease held held' are still others size =
    let P : List ℕ → Type 0 = λ ls. AreOut pool (lease ∷ ls) in
    let Q : List ℕ → Type 0 = λ ls. AreOut later (lease ∷ ls) in
    subst Q (append-nil held')
    (outs_to_front later held' lease []
    (holder_keeps_outs pool later held held' (lease ∷ []) (outs_from_front pool held lease [] (subst P (sym (append-nil held)) are)) still others size))

-- as many buffers are free as the leases leave
pub buffers_same :
    (pool later : Pool) (held held' : List ℕ) → AreOut pool held → AreOut later held' → others_out later held' ≡ others_out pool held
    → free_count later + length held' ≡ free_count pool + length held
buffers_same pool later held held' are still others =
    sym (all_given_counts later held' still) ∙ ap (λ out. free_count (record later { out = out })) others ∙ all_given_counts pool held are

-- a call on the groups
pub pass_of_groups :
    {before now : Device} {pool later : Pool} (source : Source) (old new : Groups) → GoesOn before now pool later old new
    → AreOut pool (pass_held source old) → PassGoes before now pool later source source old new
pass_of_groups {pool = pool} {later = later} source old new goes are = record {
  changes = goes.changes;
  beside =
      given_last later source.lease (groups_held new)
      ∙ ap (λ out. slice_set out source.lease false) goes.beside
      ∙ sym (given_last pool source.lease (groups_held old));
  others = others_move source.lease (groups_held old) goes.others;
  still = outs_beside pool later source.lease (groups_held old) (groups_held new) are goes.still goes.beside goes.others.size;
  lease = refl;
  uses = λ page is. is;
  run = refl;
  lists_first = goes.lists_first;
  places_first = goes.places_first;
  rows = goes.rows;
  size = goes.size;
}

-- the lists at hand are read through other buffers than the source
pub lists_apart :
    (pool : Pool) (source : Source) (groups : Groups) → AreOut pool (pass_held source groups) → (i : ℕ)
    → IsAnother source.lease (cursor_at groups.into.merge.cursors.items i)
lists_apart pool source groups are i =
    let a = groups.places.lease in
    let b = groups.into.writer.lease in
    let cursor = cursor_at groups.into.merge.cursors.items i in
    let then = given pool source.lease in
    another pool source.lease cursor
    (out_before then a cursor (out_before (given then a) b cursor (each_out (given (given then a) b) groups.into.merge.cursors.items i are.1.1.1)))

kept_ids : (before now : Device) (cursor : Cursor) → KeepsPages before now → SameIds before.page now.page cursor
kept_ids before now (OfList run) kept = λ i within. ap (λ page. id_in page run i) kept.page
kept_ids before now (Range low high) kept = tt

-- a call on the source leaves what was given for the lists at hand
pub given_beside_source :
    {before now : Device} {pool later : Pool} (since : Since) (source : Source) (groups : Groups) → KeepsPages before now
    → ChangesPage pool later source.lease → AreOut pool (pass_held source groups) → AllGiven since before pool groups.into.merge.cursors.items
    → AllGiven since now later groups.into.merge.cursors.items
given_beside_source {before = before} {now = now} {pool = pool} since source groups kept changes are given i =
    let cursor = cursor_at groups.into.merge.cursors.items i in
    given_cursor since before now cursor kept.gave (kept_ids before now cursor kept) changes (lists_apart pool source groups are i) (given i)

-- a call on the source
pub pass_of_source :
    {before now : Device} {pool later : Pool} (source then : Source) (groups : Groups) → KeepsPages before now
    → ChangesPage pool later source.lease
    → SameSource source then → AreOut pool (pass_held source groups) → PassGoes before now pool later source then groups groups
pass_of_source {later = later} source then groups kept changes same are =
    let keeps = change_keeps_out changes in
    let P : ℕ → Type 0 = λ lease. AreOut later (lease ∷ groups_held groups) in
    record {
      changes = areas_kept groups.into.writer.filler.first (area_end groups.into) groups.places.filler.first (places_end groups) kept;
      beside = ap (λ lease. others_out later (lease ∷ groups_held groups)) same.lease ∙ others_kept (pass_held source groups) keeps;
      others = change_keeps_others (pass_held source groups) 0 0 (omega arith) changes;
      still = subst P (sym same.lease) (outs_kept (pass_held source groups) keeps are);
      lease = same.lease;
      uses = same.uses;
      run = same.run;
      lists_first = refl;
      places_first = refl;
      rows = refl;
      size = refl;
    }

-- calls one after another
pub pass_goes_on :
    {a b c : Device} {pool then later : Pool} {one two three : Source} {old mid new : Groups} → PassGoes a b pool then one two old mid
    → PassGoes b c then later two three mid new → PassGoes a c pool later one three old new
pass_goes_on {pool = pool} {then = then} {later = later} {old = old} {mid = mid} first second =
    let P : List Bool → Type 0 = λ others. KeepsOthers others then later in
    record {
      changes =
          areas_trans first.lists_first (omega (arith, first.lists_first, ap (λ n. area_pages n) first.rows)) first.places_first
          (omega (arith, first.places_first, ap (λ n. area_pages n) first.size)) first.changes second.changes;
      beside = second.beside ∙ first.beside;
      others = others_trans first.others (subst P first.beside second.others);
      still = second.still;
      lease = second.lease ∙ first.lease;
      uses = λ page is. first.uses page (second.uses page is);
      run = second.run ∙ first.run;
      lists_first = second.lists_first ∙ first.lists_first;
      places_first = second.places_first ∙ first.places_first;
      rows = second.rows ∙ first.rows;
      size = second.size ∙ first.size;
    }

-- a call on the source leaves the groups as they were
keeps_run : (before now : Device) (cursor : Cursor) → KeepsPages before now → KeepsRun before now cursor
keeps_run before now (OfList run) kept = λ i within. ap (λ f. f (page_of (run_of run.list.run) i)) kept.page
keeps_run before now (Range low high) kept = tt

keeps_buffer : {pool later : Pool} (lease : ℕ) (cursor : Cursor) → ChangesPage pool later lease → IsAnother lease cursor → KeepsBuffer pool later cursor
keeps_buffer lease (OfList run) changes apart = change_elsewhere changes apart
keeps_buffer lease (Range low high) changes apart = tt

pub source_spares :
    {before now : Device} {pool later : Pool} (source : Source) (groups : Groups) → KeepsPages before now → ChangesPage pool later source.lease
    → AreOut pool (pass_held source groups) → Spares before now pool later groups.into
source_spares {before = before} {now = now} {pool = pool} source groups kept changes are = record {
  page_count = kept.page_count;
  lists = λ i. keeps_run before now (cursor_at groups.into.merge.cursors.items i) kept;
  area = λ page from to. same_kept kept page;
  out = change_keeps_out changes;
  writer = change_elsewhere changes (head_apart pool source.lease (groups_held groups) 1 0 (omega arith) are);
  buffers = λ i. keeps_buffer source.lease (cursor_at groups.into.merge.cursors.items i) changes (lists_apart pool source groups are i);
}

pub grouping_spared :
    (told : Bool) (before now : Device) {pool later : Pool} (groups : Groups) → Spares before now pool later groups.into
    → ((page : ℕ) → groups.places.filler.first ≤ page → page < places_end groups → SamePage before now page)
    → IsGrouping told before pool groups → IsGrouping told now later groups
grouping_spared told before now {pool = pool} {later = later} groups spares places is =
    let ends =
    place_within groups.places.filler.first groups.places.filler.pages groups.places.filler.held groups.places.filler.count groups.size is.area.block
    (places_below groups is) is.placed in
    record {
      merging = stays_merging told before now pool later groups.into spares is.merging;
      union = is.union;
      room = is.room;
      begun = is.begun;
      leases = outs_kept (groups_held groups) spares.out is.leases;
      area = record { block = is.area.block; there = omega (arith, spares.page_count, is.area.there); small = omega (arith, spares.page_count, is.area.small) };
      apart = is.apart;
      outside = is.outside;
      width = is.width;
      erase = is.erase;
      placed = is.placed;
      entered = λ erase page from to. (places page (omega (arith, from)) (omega (arith, to, ends.1))).blank ∙ is.entered erase page from to;
    }

unread_cursor : {pool later : Pool} (lease : ℕ) (cursor : Cursor) → ChangesPage pool later lease → IsAnother lease cursor → unread_of later cursor ≡ unread_of pool cursor
unread_cursor {pool = pool} {later = later} lease (OfList run) changes apart = unread_list_same pool later run (change_elsewhere changes apart).filled
unread_cursor lease (Range low high) changes apart = refl

pub unread_beside :
    {pool later : Pool} (lease : ℕ) (cursors : List Cursor) → ChangesPage pool later lease → ((i : ℕ) → IsAnother lease (cursor_at cursors i))
    → unread_in later cursors ≡ unread_in pool cursors
unread_beside lease [] changes apart = refl
unread_beside {pool = pool} {later = later} lease (cursor ∷ cursors) changes apart =
    omega (
      arith,
      sum_by-cons (unread_of later) cursor cursors,
      sum_by-cons (unread_of pool) cursor cursors,
      unread_cursor lease cursor changes (apart 0),
      unread_beside lease cursors changes (λ i. apart (suc i)),
    )

-- each list at hand has a lease at most
pub few_leases : (cursors : List Cursor) → length (leases_of cursors) ≤ length cursors
few_leases [] = omega arith
few_leases (OfList run ∷ cursors) = omega (arith, few_leases cursors)
few_leases (Range low high ∷ cursors) = omega (arith, few_leases cursors)
