-- Lists of entries of an index, one after another.
use Rattle.std.specs.Prelude.{◌≡◌, ◌⊎◌, ℕ, ◌+◌, ◌-◌, ◌^◌, ◌<◌, ◌≤◌, Bool, true, false, ◌&&◌, ◌||◌, nat_le, nat_lt, ⊤, List, [], ◌∷◌, ◌++◌, length, get_or, Contains, Option, Some, None, Result, Ok, Err, IfSome, if◌then◌else◌}
use Rattle.std.specs.List.{concat, range_with_len}
use Rattle.ghost_model.specs.forms.Runs as runs
use Rattle.ghost_base.specs.declared.runs.Run.{Run}
use Rattle.ghost_base.specs.declared.runs.ListRef.{ListRef}
use Rattle.ghost_base.specs.Runs.{run_of}
use Rattle.edge_traits.specs.Devices.{Device}
use Rattle.page_pool.specs.Pools.{Pool, page_at}
use Rattle.flash_pages.specs.declared.fault.PageFault.{PageFault}
use Rattle.flash_pages.specs.Cursors.{IsPageOf}
use Rattle.flash_pages.specs.Reads.{CanRead, must_read}
use Rattle.climbing_index.specs.declared.directory.Directory.{Directory}
use Rattle.climbing_index.specs.declared.directory.LevelFile.{LevelFile}
use Rattle.climbing_index.specs.declared.search.Group.{Group}
use Rattle.climbing_index.specs.Directories.{FailsAt, GivesListed, GivesPlace, HasDamage, IsReadable, entry_bytes, entry_page, entry_stands, place_bytes}
use Rattle.spill_pass.specs.Lists.{IsOrdered, OutOfRowsIn, id_of}
use Rattle.spill_pass.specs.Sources.{Source}
use Rattle.entry_lists.specs.declared.entries.EntryLists.{EntryLists}

-- the level file at a level of a directory, and the run of its bytes
abbrev pub level_at : Directory → (level : ℕ) → LevelFile
level_at directory level = get_or directory.levels.items level (record { first = 0; count = 0 })

abbrev pub level_run : Directory → (level : ℕ) → Run
level_run directory level = record { first = (level_at directory level).first; count = (level_at directory level).count; width = 1 }

-- whether a page is one of a run
abbrev pub is_in : runs.Run → (page : ℕ) → Bool
is_in run page = nat_le run.first page && nat_lt page (runs.run_end run)

-- the entries of a group in order, and those still to come: of the first group, then of the second
abbrev pub entries_in : Group → List ℕ
entries_in group = range_with_len group.first group.count

abbrev pub entries_of : EntryLists → List ℕ
entries_of lists = entries_in lists.first ++ entries_in lists.second

-- the next one
abbrev pub next_entry : EntryLists → Option ℕ
next_entry lists =
    if nat_lt 0 lists.first.count then Some lists.first.first
    else if nat_lt 0 lists.second.count then Some lists.second.first
    else None

-- after the first entry of a group
abbrev pub behind : Group → Group
behind group = record { first = group.first + 1; count = group.count - 1 }

-- one is past the next entry of the other, whose list has so many identifiers
pub record IsPast (old new : EntryLists) (count : ℕ) : Type 0 where
  pub directory : new.directory ≡ old.directory
  pub level : new.level ≡ old.level
  pub lease : new.lease ≡ old.lease
  pub first : new.first ≡ (if nat_lt 0 old.first.count then behind old.first else old.first)
  pub second : new.second ≡ (if nat_lt 0 old.first.count then old.second else behind old.second)
  pub left : new.left ≡ old.left - count

-- a number that is one higher under a condition
abbrev pub add_if : Bool → ℕ → ℕ
add_if more n = if more then n + 1 else n

-- whether the next call reads a page
abbrev pub reads_of : Pool → EntryLists → Option ℕ → Bool
reads_of pool lists None = false
reads_of pool lists (Some entry) = must_read pool lists.lease (entry_page lists.directory entry)

abbrev pub reads_entry : Pool → EntryLists → Bool
reads_entry pool lists = reads_of pool lists (next_entry lists)

-- the lists of entries as a source
abbrev pub source_of : EntryLists → Source
source_of lists = record {
  lists_left = lists.first.count + lists.second.count;
  ids_left = lists.left;
  run = level_run lists.directory lists.level;
  lease = lists.lease;
  uses = λ page. is_in (run_of lists.directory.run) page || is_in (run_of (level_run lists.directory lists.level)) page;
}

-- the next list may be asked for: the directory may be read, the groups are of its entries, and the page in the buffer, if
-- there is one, is one of the directory
pub record CanGive (told : Bool) (device : Device) (pool : Pool) (lists : EntryLists) : Type 0 where
  pub directory : IsReadable device lists.directory
  pub few : lists.directory.run.count < 2 ^ 32
  pub level : lists.level < length lists.directory.levels.items
  pub first : lists.first.first + lists.first.count ≤ lists.directory.run.count
  pub second : lists.second.first + lists.second.count ≤ lists.directory.run.count
  pub buffer : CanRead told device pool lists.lease
  pub holds : IfSome (page_at pool lists.lease) (IsPageOf (run_of lists.directory.run))

-- bytes of an entry that may come: they may stand in a slot, and their list has no more identifiers than may still come
abbrev pub may_come : Directory → (level left : ℕ) → List ℕ → Bool
may_come directory level left bytes = entry_stands directory bytes && nat_le (runs.number_in (place_bytes directory bytes level) 4) left

-- by the bytes of the pages: the list of an entry, or that the entry may not come
abbrev pub GivesEntry : (page : ℕ → List ℕ) → Directory → (level left entry : ℕ) → Result ListRef PageFault → Type 0
GivesEntry page directory level left entry (Ok list) = GivesListed page directory entry level list
GivesEntry page directory level left entry (Err fault) = FailsAt page (run_of directory.run) (may_come directory level left) entry fault

-- a list of a level file that ends within it, were each of its codes one byte
pub record IsListIn (directory : Directory) (level : ℕ) (list : ListRef) : Type 0 where
  pub run_is : list.run ≡ level_run directory level
  pub inside : list.first + list.count ≤ list.run.count

-- a slot that is damaged: that of an entry still to come, with bytes that may not stand there, whatever stands in others
pub record DamagesEntry (page : ℕ → List ℕ) (lists : EntryLists) (number slot found : ℕ) : Type 0 where
  pub entry : ℕ
  pub comes : Contains (entries_of lists) entry
  pub damage : HasDamage page (run_of lists.directory.run) (entry_stands lists.directory) entry number slot found

-- a list is that of an entry of a directory at a level, by the bytes of the pages; the entry stands in one of the directory's pages
pub record IsListOfEntry (page : ℕ → List ℕ) (directory : Directory) (level entry : ℕ) (list : ListRef) : Type 0 where
  pub there : entry < directory.run.count
  pub in_pages : is_in (run_of directory.run) (entry_page directory entry) ≡ true
  pub listed : GivesListed page directory entry level list
  pub lies : IsListIn directory level list

-- a list that may be given, or was: that of an entry before the end of one of the groups, which stays where it is
pub record MayGive (page : ℕ → List ℕ) (lists : EntryLists) (list : ListRef) : Type 0 where
  pub entry : ℕ
  pub before : (entry < lists.first.first + lists.first.count) ⊎ (entry < lists.second.first + lists.second.count)
  pub is : IsListOfEntry page lists.directory lists.level entry list

-- a slot to which reading of such a list gets, with what tells no identifier of the rows
pub record DamagesCode (page : ℕ → List ℕ) (rows : ℕ) (lists : EntryLists) (number slot found : ℕ) : Type 0 where
  pub list : ListRef
  pub may : MayGive page lists list
  pub out : OutOfRowsIn page list rows number slot found

-- what is damaged of the lists
abbrev pub IsDamaged : (page : ℕ → List ℕ) → (rows : ℕ) → EntryLists → (number slot found : ℕ) → Type 0
IsDamaged page rows lists number slot found = DamagesEntry page lists number slot found ⊎ DamagesCode page rows lists number slot found

-- An entry has a list with these identifiers, by the place that right pages spell: they ascend and are of the rows. Where the
-- entry may stand on the pages, it is the right one.
pub record HasEntry (page right : ℕ → List ℕ) (rows : ℕ) (directory : Directory) (level entry : ℕ) (ids : List ℕ) : Type 0 where
  pub within : entry < directory.run.count
  pub list : ListRef
  pub lies : IsListIn directory level list
  pub place : GivesPlace directory (entry_bytes right directory entry) level list
  pub same : entry_stands directory (entry_bytes page directory entry) ≡ true → entry_bytes page directory entry ≡ entry_bytes right directory entry
  pub ordered : IsOrdered page right rows list
  pub count : list.count ≡ length ids
  pub ids_are : (i : ℕ) → i < list.count → id_of right list i ≡ get_or ids i 0

-- each entry has its list
abbrev pub HaveEntries : (page right : ℕ → List ℕ) (rows : ℕ) (directory : Directory) (level : ℕ) (entries : List ℕ) (lists : List (List ℕ)) → Type 0
HaveEntries page right rows directory level [] [] = ⊤
HaveEntries page right rows directory level [] (ids ∷ lists) = ⊥
HaveEntries page right rows directory level (entry ∷ entries) [] = ⊥
HaveEntries page right rows directory level (entry ∷ entries) (ids ∷ lists) =
    HasEntry page right rows directory level entry ids × HaveEntries page right rows directory level entries lists

-- the entries still to come have these lists, with no more identifiers together than may still come
pub record EntriesHave (page right : ℕ → List ℕ) (rows : ℕ) (entries : EntryLists) (lists : List (List ℕ)) : Type 0 where
  pub some : 0 < entries.directory.run.width
  pub fits : entries.directory.run.width ≤ 2048
  pub have : HaveEntries page right rows entries.directory entries.level (entries_of entries) lists
  pub few : length (concat lists) ≤ entries.left
