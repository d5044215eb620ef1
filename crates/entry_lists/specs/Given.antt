-- What was read through the buffer of lists, and of which runs a slot may be blamed: the directory and the level file of an index, and a
-- reply, unless pages are told and its identifiers are in order.
use Rattle.std.specs.Prelude.{◌≡◌, ℕ, ◌<◌, true, List}
use Rattle.ghost_base.specs.Runs.{run_of}
use Rattle.edge_traits.specs.Devices.{Device}
use Rattle.page_pool.specs.Pools.{Pool}
use Rattle.flash_pages.specs.Reads.{WasGiven}
use Rattle.id_merge.specs.Since.{Since, MayBlame}
use Rattle.climbing_index.specs.declared.directory.Directory.{Directory}
use Rattle.visible_spool.specs.declared.reply.Reply.{Reply}
use Rattle.spill_pass.specs.Lists.{IsOrdered, id_of}
use Rattle.spill_pass.specs.Reducing.{whole_list}
use Rattle.entry_lists.specs.declared.entries.EntryLists.{EntryLists}
use Rattle.entry_lists.specs.declared.replies.ReplyLists.{ReplyLists}
use Rattle.entry_lists.specs.Entries.{level_run}
use Rattle.entry_lists.specs.Replied.{looked_at}

-- a slot of a directory may be blamed, and one of the level file at a level
pub record IndexMay (since : Since) (directory : Directory) (level : ℕ) : Type 0 where
  pub entries : since.may (run_of directory.run) ≡ true
  pub lists : since.may (run_of (level_run directory level)) ≡ true

-- lists of entries, whatever the rows: the buffer has what a read gave
pub record EntriesGiven (since : Since) (device : Device) (pool : Pool) (rows : ℕ) (lists : EntryLists) : Type 0 where
  pub buffer : WasGiven since.calls device pool lists.lease
  pub index : IndexMay since lists.directory lists.level

-- by the bytes of the pages, the identifiers of a reply's rows ascend, from 1 to the table's rows
abbrev pub RowsAscend : (page : ℕ → List ℕ) → Reply → Type 0
RowsAscend page reply = IsOrdered page page reply.rows (whole_list reply.run)

-- so they do, and the row that is looked at next comes after the identifier that was taken last
pub record AreInOrder (page : ℕ → List ℕ) (lists : ReplyLists) : Type 0 where
  pub rows : RowsAscend page lists.reply
  pub follows : looked_at lists < lists.reply.run.count → lists.last < id_of page (whole_list lists.reply.run) (looked_at lists)

-- lists of a reply's identifiers, whatever the rows that they are of: the buffer has what a read gave, and a slot of the reply may be blamed, or
-- its rows are in order
pub record RepliesGiven (since : Since) (device : Device) (pool : Pool) (rows : ℕ) (lists : ReplyLists) : Type 0 where
  pub buffer : WasGiven since.calls device pool lists.lease
  pub reply : MayBlame since (run_of lists.reply.run) (AreInOrder device.page lists)
  pub index : IndexMay since lists.directory lists.level
