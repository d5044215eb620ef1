-- How many pages lists take at most, to be read and to be written.
use Rattle.std.specs.Prelude.{◌≡◌, ◌+◌, ◌/◌, ◌<◌, ◌≤◌}
use Rattle.ghost_model.specs.forms.Runs as runs
use Rattle.page_pool.specs.Pools.{Pool}
use Rattle.flash_pages.specs.declared.cursor.RunCursor.{RunCursor}
use Rattle.flash_pages.specs.declared.filler.RunFiller.{RunFiller}
use Rattle.flash_pages.specs.Cursors.{unread_list}
use Rattle.spill_pass.specs.Sources.{IsIdWidth}

-- a list that was begun and not read yet
pub record IsFresh (run : RunCursor) : Type 0 where
  pub at : run.at ≡ 0
  pub place : run.place ≡ run.list.first

-- such a list has no more pages to be read than its identifiers fill, at 512 in each, and two: it may begin and end within a page
abbrev pub FreshListIsShort : Type 0
FreshListIsShort = (pool : Pool) (run : RunCursor) → IsFresh run → IsIdWidth run.list.run.width → unread_list pool run ≤ run.list.count / 512 + 2

-- a list of which nothing was read has no more pages to be read than it has identifiers, and two, whatever their width
abbrev pub FreshRecordsAreShort : Type 0
FreshRecordsAreShort =
    (pool : Pool) (run : RunCursor) → IsFresh run → 0 < run.list.run.width → run.list.run.width ≤ 2048
    → unread_list pool run ≤ run.list.count + 2

-- no more pages of a list are written than its identifiers so far take
abbrev pub WritesFewPages : Type 0
WritesFewPages = (writer : RunFiller) → writer.width ≡ 4 → writer.pages ≤ runs.pages_of writer.count 4
