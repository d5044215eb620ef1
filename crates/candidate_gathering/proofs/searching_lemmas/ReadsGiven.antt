-- What was read: buffers that others leave alone keep what reads gave, and a slot that a search blames is one that may be blamed.
use Rattle.std.proofs.Common.{◌≡◌, ℕ, ◌≤◌, inl, inr, Bool, List, sym, subst, arith}
use Rattle.ghost_base.specs.Runs.{run_of}
use Rattle.edge_traits.specs.Devices.{Device}
use Rattle.page_pool.specs.Laws.{SameBuffer}
use Rattle.page_pool.specs.Pools.{Pool, IsFree, leased}
use Rattle.flash_pages.proofs.ListFrames.{records_by_width, was_listed}
use Rattle.flash_pages.specs.declared.fault.PageFault.{PageFault}
use Rattle.flash_pages.specs.declared.fault.PageFault.TheVariants.{Flash, Damaged}
use Rattle.id_merge.specs.declared.cursor.Cursor.{Cursor}
use Rattle.id_merge.specs.declared.cursor.Cursor.TheVariants.{List as OfList, Range}
use Rattle.id_merge.specs.Cursors.{AllGiven, AllReady, CursorGiven, CursorReady, cursor_at}
use Rattle.id_merge.specs.Since.{FaultIsBlamed, Since}
use Rattle.climbing_index.specs.declared.index.ClimbingIndex.{ClimbingIndex}
use Rattle.climbing_index.specs.Indexes.{IsReadable}
use Rattle.climbing_index.specs.Searches.{BlamesIn}
use Rattle.candidate_lists.proofs.Frames.{same_leased}
use Rattle.entry_lists.proofs.Kept.{was_kept}
use Rattle.candidate_gathering.specs.declared.searching.term_lists.TermLists.{TermLists}
use Rattle.candidate_gathering.specs.declared.searching.term_lists.TermLists.TheVariants.{Entries, Replies}
use Rattle.candidate_gathering.specs.searching.Given.{SearchMay}
use Rattle.candidate_gathering.specs.searching.TermLists.{given_in, source_in}

-- ---- buffers that are as they were

-- lists that wait
pub waits_given :
    {pool later : Pool} (since : Since) (device : Device) (rows : ℕ) (lists : TermLists) → SameBuffer pool later (source_in lists).lease
    → given_in since device pool rows lists → given_in since device later rows lists
waits_given since device rows (Entries lists) same given = record {
  buffer = was_kept since.calls device device lists.lease same (λ at page bytes gave. gave) given.buffer;
  index = given.index;
}
waits_given since device rows (Replies lists) same given = record {
  buffer = was_kept since.calls device device lists.lease same (λ at page bytes gave. gave) given.buffer;
  reply = given.reply;
  index = given.index;
}

-- a buffer that is leased leaves those of the lists in hand as they are
cursor_leased :
    (told : Bool) (since : Since) (device : Device) (pool : Pool) (lease : ℕ) (cursor : Cursor) → IsFree pool lease → CursorReady told device pool cursor
    → CursorGiven since device pool cursor → CursorGiven since device (leased pool lease) cursor
cursor_leased told since device pool lease (OfList run) free ready given = record {
  read = was_kept since.calls device device run.lease (same_leased pool lease run.lease free ready.buffer.out) (λ at page bytes gave. gave) given.read;
  may = given.may;
}
cursor_leased told since device pool lease (Range low high) free ready given = tt

pub lists_leased :
    {told : Bool} {device : Device} {pool later : Pool} (since : Since) (lease : ℕ) (held : List Cursor) → later ≡ leased pool lease → IsFree pool lease
    → AllReady told device pool held → AllGiven since device pool held → AllGiven since device later held
lists_leased {told = told} {device = device} {pool = pool} {later = later} since lease held is free ready given =
    let G : Pool → Type 0 = λ p. AllGiven since device p held in
    subst G (sym is) (λ i. cursor_leased told since device pool lease (cursor_at held i) free (ready.each i) (given i))

-- ---- blamed by a search

pub search_blames :
    (since : Since) (device : Device) (index : ClimbingIndex) → IsReadable device index → 4 ≤ index.directory.run.width → SearchMay since index → (fault : PageFault)
    → BlamesIn since.calls device index fault → FaultIsBlamed since device fault
search_blames since device index readable wide may Flash blames = tt
search_blames since device index readable wide may (Damaged number slot found) (inl blames) = record {
  run = run_of index.header;
  may = may.header;
  place = 0;
  within = omega (arith, readable.one);
  page_is = blames.page_is;
  slot_is = blames.slot_is;
  bytes = blames.bytes;
  read = was_listed (records_by_width (run_of index.header) (let header = readable.wide in omega (arith, header))) blames.read;
  found_is = blames.found_is;
}
search_blames since device index readable wide may (Damaged number slot found) (inr entry) =
    let blames = entry.blames in
    record {
      run = run_of index.directory.run;
      may = may.entries;
      place = entry.place;
      within = entry.within;
      page_is = blames.page_is;
      slot_is = blames.slot_is;
      bytes = blames.bytes;
      read = was_listed (records_by_width (run_of index.directory.run) wide) blames.read;
      found_is = blames.found_is;
    }
