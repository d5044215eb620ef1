-- What a call of the writer leaves: its area holds the page that is written, and the lists and their buffers stay.
use Rattle.std.proofs.Common.{◌≡◌, ◌∙◌, ℕ, suc, ◌+◌, ◌*◌, ◌^◌, ◌%◌, ◌<◌, ◌≤◌, ◌⊎◌, inl, inr, Bool, true, false, ◌&&◌, List, [], ◌∷◌, Option, nat_eq, nat_lt, sum_by, if◌then◌else◌, ap, sym, refl, subst, arith}
use Rattle.std.proofs.lemmas.Bool.Decides.{nat_tests}
use Rattle.std.proofs.lemmas.List.Sums.{sum_by-cons}
use Rattle.ghost_model.specs.forms.Runs.{page_of}
use Rattle.ghost_base.specs.Runs.{run_of}
use Rattle.edge_traits.specs.Devices.{Device, ChangesOnly}
use Rattle.page_pool.specs.Pools.{Pool, AreOut, ChangesPage, page_at}
use Rattle.page_pool.specs.Laws.{SameBuffer}
use Rattle.page_pool.proofs.Leases.{out_kept, outs_kept, change_keeps_out, change_elsewhere, change_keeps_others}
use Rattle.flash_pages.specs.declared.filler.RunFiller.{RunFiller}
use Rattle.flash_pages.specs.declared.writer.RunWriter.{RunWriter}
use Rattle.flash_pages.specs.declared.cursor.RunCursor.{RunCursor}
use Rattle.flash_pages.specs.Cursors.{page_next, pages_behind, unread_list}
use Rattle.flash_pages.specs.Holding.{is_apart}
use Rattle.flash_pages.specs.Writing.{IsEntered, reach, erases, page_calls}
use Rattle.flash_pages.specs.Writers.{SameRun, next_page, fills, put_calls}
use Rattle.flash_pages.proofs.ListFrames.{listed_kept}
use Rattle.flash_pages.proofs.LeaseFrames.{ready_kept, given_kept}
use Rattle.flash_pages.proofs.Fillings.{whole_pages}
use Rattle.id_merge.specs.declared.cursor.Cursor.{Cursor}
use Rattle.id_merge.specs.declared.cursor.Cursor.TheVariants.{List as OfList, Range}
use Rattle.id_merge.specs.Since.{Since}
use Rattle.id_merge.specs.Cursors.{cursor_at, leases_of, CursorReady, CursorGiven, ListAscends, ListGiven, unread_of, unread_in}
use Rattle.id_merge.proofs.SinceLaws.{may_then}
use Rattle.spill_pass.specs.declared.merging.MergeInto.{MergeInto}
use Rattle.spill_pass.specs.Merging.{area_pages, area_end, leases_held, LiesOutside, CanBegin, IsMerging, Goes, SameIds, KeepsIds}
use Rattle.spill_pass.proofs.Holders.{IsAnother, each_another}
use Rattle.spill_pass.proofs.Over.{list_same}

-- the page that is written next, and the block that begins with it, lie in the area
reaches_if : (begins : Bool) (block one end : ℕ) → one ≤ end → (begins ≡ true → block ≤ end) → (if begins then block else one) ≤ end
reaches_if true block one end plain whole = whole refl
reaches_if false block one end plain whole = plain

reaches : (page end : ℕ) (erase : Bool) → page + 1 ≤ end → (page % 64 ≡ 0 → page + 64 ≤ end) → reach page erase ≤ end
reaches page end false one block = one
reaches page end true one block =
    reaches_if (nat_eq (page % 64) 0) (page + 64) (page + 1) end one (λ begins. block (grind (arith, nat_tests)))

pub reach_within :
    (first pages rows : ℕ) (erase : Bool) → first % 64 ≡ 0 → pages * 512 < rows → reach (first + pages) erase ≤ first + area_pages rows
reach_within first pages rows erase block less = reaches (first + pages) (first + area_pages rows) erase (omega arith) (λ begins. omega arith)

-- pages outside of the area stay
outside_page :
    {low high : ℕ} {before now : Device} (number : ℕ) → ChangesOnly low high before now → (number < low) ⊎ (high ≤ number)
    → now.page number ≡ before.page number
outside_page number changes (inl before) = (changes.below number before).bytes
outside_page number changes (inr behind) = (changes.above number behind).bytes

ready_cursor :
    (told : Bool) {low high lease : ℕ} {before now : Device} {pool later : Pool} (cursor : Cursor) → ChangesOnly low high before now
    → ChangesPage pool later lease → IsAnother lease cursor → LiesOutside low high cursor → CursorReady told before pool cursor
    → CursorReady told now later cursor
ready_cursor told (OfList run) changes buffer apart outside ready =
    ready_kept changes.page_count (λ is_told i within. outside_page (page_of (run_of run.list.run) i) changes (outside i within))
    (out_kept (change_keeps_out buffer) ready.buffer.out) (change_elsewhere buffer apart) ready
ready_cursor told (Range first last) changes buffer apart outside ready = tt

ids_cursor :
    (told : Bool) {low high : ℕ} {before now : Device} (pool : Pool) (cursor : Cursor) → ChangesOnly low high before now
    → LiesOutside low high cursor → CursorReady told before pool cursor → SameIds before.page now.page cursor
ids_cursor told {before = before} {now = now} pool (OfList run) changes outside ready = λ i within.
    listed_kept before.page now.page (run_of run.list.run) run.list.first i (omega (arith, ready.list, within))
    (λ place inside. outside_page (page_of (run_of run.list.run) place) changes (outside place inside))
ids_cursor told pool (Range first last) changes outside ready = tt

-- a list's identifiers to come ascend as before where they are the same
pub ascends_ids : (page now : ℕ → List ℕ) (run : RunCursor) → SameIds page now (OfList run) → ListAscends page run → ListAscends now run
ascends_ids page now run same was = record {
  above = λ i from within. omega (arith, same i within, was.above i from within);
  order = λ i j from less within. omega (arith, same i (omega (arith, less, within)), same j within, was.order i j from less within);
  within = λ i from within. omega (arith, same i within, was.within i from within);
}

-- what was given for a list is given where its identifiers and its buffer are as they were
pub given_list :
    {pool later : Pool} (since : Since) (before now : Device) (run : RunCursor)
    → ((at number : ℕ) (bytes : List ℕ) → before.gave at number bytes ≡ true → now.gave at number bytes ≡ true)
    → SameIds before.page now.page (OfList run) → SameBuffer pool later run.lease → ListGiven since before pool run → ListGiven since now later run
given_list since before now run gave ids same given = record {
  read = given_kept since.calls before now gave same given.read;
  may = may_then (λ tells ascends. ascends_ids before.page now.page run ids ascends) given.may;
}

pub given_cursor :
    {lease : ℕ} {pool later : Pool} (since : Since) (before now : Device) (cursor : Cursor)
    → ((at number : ℕ) (bytes : List ℕ) → before.gave at number bytes ≡ true → now.gave at number bytes ≡ true)
    → SameIds before.page now.page cursor → ChangesPage pool later lease → IsAnother lease cursor → CursorGiven since before pool cursor
    → CursorGiven since now later cursor
given_cursor since before now (OfList run) gave ids buffer apart given = given_list since before now run gave ids (change_elsewhere buffer apart) given
given_cursor since before now (Range first last) gave ids buffer apart given = tt

pub ids_stay :
    {told : Bool} {before now : Device} {pool : Pool} {into : MergeInto} → IsMerging told before pool into
    → ChangesOnly into.writer.filler.first (area_end into) before now → KeepsIds before.page now.page into.merge.cursors.items
ids_stay {told = told} {pool = pool} {into = into} is changes = λ i.
    ids_cursor told pool (cursor_at into.merge.cursors.items i) changes (is.can.outside i) (is.can.step.cursors.each i)

-- a call of the writer
pub wrote :
    {told : Bool} {before now : Device} {pool later : Pool} (old : MergeInto) (writer : RunWriter) → IsMerging told before pool old
    → ChangesOnly old.writer.filler.first (area_end old) before now → ChangesPage pool later old.writer.lease
    → writer.lease ≡ old.writer.lease → writer.filler.first ≡ old.writer.filler.first
    → Goes told before now pool later old (record { merge = old.merge; writer = writer; rows = old.rows })
wrote {before = before} {now = now} {pool = pool} {later = later} old writer is changes buffer lease first =
    let are = is.can.leases in
    let leases = leases_of old.merge.cursors.items in
    let P : ℕ → Type 0 = λ lease. AreOut later (lease ∷ leases) in
    record {
      changes = changes;
      out = buffer.out;
      others = change_keeps_others (leases_held old) 0 0 (omega arith) buffer;
      held = ap (λ lease. lease ∷ leases) lease;
      still = subst P (sym lease) (outs_kept (leases_held old) (change_keeps_out buffer) are);
      given = λ since from given i.
          given_cursor since before now (cursor_at old.merge.cursors.items i) changes.gave (ids_stay is changes i) buffer (each_another pool old.writer.lease old.merge.cursors.items i are) (given i);
      same = λ i. list_same (cursor_at old.merge.cursors.items i);
      outside = λ low high is. is;
      count = refl;
      first = first;
      rows = refl;
    }

pub merging_on :
    {told : Bool} {before now : Device} {pool later : Pool} (old : MergeInto) (writer : RunWriter) → IsMerging told before pool old
    → ChangesOnly old.writer.filler.first (area_end old) before now → ChangesPage pool later old.writer.lease
    → writer.lease ≡ old.writer.lease → SameRun old.writer.filler writer.filler → writer.filler.count ≤ old.rows
    → IsEntered now (next_page writer.filler) writer.filler.erase
    → IsMerging told now later (record { merge = old.merge; writer = writer; rows = old.rows })
merging_on {told = told} {before = before} {now = now} {pool = pool} {later = later} old writer is changes buffer lease same count entered =
    let cursors = old.merge.cursors.items in
    let P : ℕ → Type 0 = λ lease. CanBegin told now later old.merge old.writer.filler.first old.rows lease in
    let Q : ℕ → Type 0 = λ first. CanBegin told now later old.merge first old.rows writer.lease in
    let E : Bool → Type 0 = λ erase. IsEntered now (next_page writer.filler) erase in
    let can : CanBegin told now later old.merge old.writer.filler.first old.rows old.writer.lease = record {
      step = record {
        some = is.can.step.some;
        sums = is.can.step.sums;
        cursors = record {
          each = λ i. ready_cursor told (cursor_at cursors i) changes buffer (each_another pool old.writer.lease cursors i is.can.leases) (is.can.outside i) (is.can.step.cursors.each i);
          leases = outs_kept (leases_of cursors) (change_keeps_out buffer) is.can.step.cursors.leases;
        };
      };
      leases = outs_kept (leases_held old) (change_keeps_out buffer) is.can.leases;
      at_most = is.can.at_most;
      within = is.can.within;
      area = record { block = is.can.area.block; there = omega (arith, changes.page_count, is.can.area.there); small = omega (arith, changes.page_count, is.can.area.small) };
      outside = is.can.outside;
    } in
    record {
      can = subst Q (sym same.first) (subst P (sym lease) can);
      width = same.width ∙ is.width;
      erase = same.erase ∙ is.erase;
      count = count;
      entered = subst E (same.erase ∙ is.erase) entered;
    }

-- as many pages are still to be read where the buffers of the lists hold the same pages
pub unread_list_same : (pool later : Pool) (run : RunCursor) → page_at later run.lease ≡ page_at pool run.lease → unread_list later run ≡ unread_list pool run
unread_list_same pool later run same =
    ap (λ (held : Option ℕ). pages_behind run + (if nat_lt run.at run.list.count && is_apart held (page_next run) then 1 else 0)) same

unread_cursor : {lease : ℕ} (pool later : Pool) (cursor : Cursor) → ChangesPage pool later lease → IsAnother lease cursor → unread_of later cursor ≡ unread_of pool cursor
unread_cursor pool later (OfList run) buffer apart = unread_list_same pool later run (change_elsewhere buffer apart).filled
unread_cursor pool later (Range first last) buffer apart = refl

unread_all :
    {lease : ℕ} {pool later : Pool} (cursors : List Cursor) → ChangesPage pool later lease → ((i : ℕ) → IsAnother lease (cursor_at cursors i))
    → unread_in later cursors ≡ unread_in pool cursors
unread_all [] buffer apart = refl
unread_all {pool = pool} {later = later} (cursor ∷ cursors) buffer apart =
    sum_by-cons (unread_of later) cursor cursors
    ∙ ap (λ n. n + sum_by (unread_of later) cursors) (unread_cursor pool later cursor buffer (apart 0))
    ∙ ap (λ n. unread_of pool cursor + n) (unread_all cursors buffer (λ i. apart (suc i)))
    ∙ sym (sum_by-cons (unread_of pool) cursor cursors)

pub unread_still :
    {pool later : Pool} (lease : ℕ) (cursors : List Cursor) → AreOut pool (lease ∷ leases_of cursors) → ChangesPage pool later lease
    → unread_in later cursors ≡ unread_in pool cursors
unread_still {pool = pool} lease cursors are buffer = unread_all cursors buffer (λ i. each_another pool lease cursors i are)

-- a record that fills its page makes two calls at most
pub few_page_calls : (erases : Bool) → (if erases then 2 else 1) ≤ 2
few_page_calls true = omega arith
few_page_calls false = omega arith

pub bit_most : (b : Bool) → (if b then 1 else 0) ≤ 1
bit_most true = omega arith
bit_most false = omega arith

few_if : (fills : Bool) (calls : ℕ) → calls ≤ 2 → (if fills then calls else 0) ≤ 2 * (if fills then 1 else 0)
few_if true calls few = omega arith
few_if false calls few = omega arith

pub few_put_calls : (filler : RunFiller) → put_calls filler ≤ 2 * (if fills filler then 1 else 0)
few_put_calls filler = few_if (fills filler) (page_calls (next_page filler) filler.erase) (few_page_calls (erases (next_page filler) filler.erase))

-- the records that were put fill fewer pages than there are for the rows
pub page_in_area :
    {told : Bool} {device : Device} {pool : Pool} {into : MergeInto} → IsMerging told device pool into
    → into.writer.filler.pages * 512 < into.rows
    → reach (next_page into.writer.filler) into.writer.filler.erase ≤ area_end into
page_in_area {into = into} is less = reach_within into.writer.filler.first into.writer.filler.pages into.rows into.writer.filler.erase is.can.area.block less

pub pages_below :
    {told : Bool} {device : Device} {pool : Pool} {into : MergeInto} → IsMerging told device pool into
    → into.writer.filler.pages * 512 + into.writer.filler.held ≡ into.writer.filler.count
pages_below {into = into} is = whole_pages into.writer.filler 4 into.writer.filler.count is.width refl

-- the page that is written next has a number of 32 bits
pub small_page : {told : Bool} {device : Device} {pool : Pool} {into : MergeInto} → IsMerging told device pool into → next_page into.writer.filler < 2 ^ 32
small_page {into = into} is =
    let pages : into.writer.filler.pages * 512 ≤ into.rows = omega (arith, pages_below is, is.count) in
    omega (arith, pages, is.can.area.there, is.can.area.small)
