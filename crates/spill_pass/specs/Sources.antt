-- What gives lists one after another: which pages it uses, how much is still to come, and what the lists have.
use Rattle.std.specs.Prelude.{◌≡◌, ℕ, ◌+◌, ◌*◌, ◌<◌, ◌≤◌, ◌⊎◌, Bool, true, false, ⊤, List, [], ◌∷◌, length, get_or, Option, Some, None, Result, Ok, Err, OnErr, OnOk}
use Rattle.ghost_model.specs.core.Causes.{Rose}
use Rattle.ghost_model.specs.forms.Runs as runs
use Rattle.ghost_base.specs.declared.runs.Run.{Run}
use Rattle.ghost_base.specs.declared.runs.ListRef.{ListRef}
use Rattle.ghost_base.specs.Runs.{run_of}
use Rattle.edge_traits.specs.Devices.{Device, KeepsPages}
use Rattle.page_pool.specs.Pools.{Pool, IsOut, ChangesPage}
use Rattle.page_pool.specs.Laws.{SameBuffer}
use Rattle.flash_pages.specs.declared.fault.PageFault.{PageFault}
use Rattle.flash_pages.specs.declared.fault.PageFault.TheVariants.{Flash, Damaged}
use Rattle.flash_pages.specs.Reads.{WasGiven}
use Rattle.spill_pass.specs.Lists.{IsReadable, IsOrdered, id_of}
use Rattle.spill_pass.specs.Merging.{MadeAtMost}

pub record Source : Type 0 where
  -- how many lists are still to be given, and how many identifiers they have together at most
  pub lists_left : ℕ
  pub ids_left : ℕ
  -- the buffer that it reads through
  pub lease : ℕ
  -- the pages that it reads, and those of the lists' run
  pub uses : ℕ → Bool
  -- the run in which all its lists lie
  pub run : Run

-- a source uses no page of an area
abbrev pub UsesOutside : (low high : ℕ) → Source → Type 0
UsesOutside low high source = (page : ℕ) → source.uses page ≡ true → (page < low) ⊎ (high ≤ page)

-- the pages and the buffer that it uses are as they were
pub record SparesSource (before now : Device) (pool later : Pool) (source : Source) : Type 0 where
  pub page_count : now.page_count ≡ before.page_count
  pub pages : (page : ℕ) → source.uses page ≡ true → now.page page ≡ before.page page
  pub out : IsOut later source.lease
  pub buffer : SameBuffer pool later source.lease

-- a source uses the same buffer as before and no other pages, its lists lie in the same run, and no more is to come
pub record SameSource (old new : Source) : Type 0 where
  pub lease : new.lease ≡ old.lease
  pub uses : (page : ℕ) → new.uses page ≡ true → old.uses page ≡ true
  pub run : new.run ≡ old.run
  pub lists : new.lists_left ≤ old.lists_left
  pub ids : new.ids_left ≤ old.ids_left

-- what the lists of a source have for an identifier: a code, or four bytes
pub data IsIdWidth (width : ℕ) : Type 0 where
  Codes : width ≡ 1 → IsIdWidth width
  Identifiers : width ≡ 4 → IsIdWidth width

-- one list is given: the device has it, in the source's run, on pages that are used, and its identifiers are some of those that
-- were to come
pub record GaveList (device : Device) (old new : Source) (list : ListRef) : Type 0 where
  pub readable : IsReadable device list
  pub run_is : list.run ≡ old.run
  pub used : (i : ℕ) → i < list.run.count → old.uses (runs.page_of (run_of list.run) i) ≡ true
  pub width : IsIdWidth list.run.width
  pub lists : old.lists_left ≡ new.lists_left + 1
  pub ids : list.count + new.ids_left ≤ old.ids_left

abbrev pub GaveNext : (device : Device) → (old new : Source) → Option ListRef → Type 0
GaveNext device old new None = old.lists_left ≡ 0
GaveNext device old new (Some list) = GaveList device old new list

-- what a call does, whatever the answer: it makes at most three calls of the flash and writes no page. At the end of the lists it
-- makes none; otherwise it makes at least one exactly where that was told before. After a fault all lists are still to come.
pub record LooksUp {T : Type 0} (before now : Device) (pool later : Pool) (lease : ℕ) (calls : Bool) (old new : Source) (result : Result T PageFault) : Type 0 where
  pub kept : KeepsPages before now
  pub at_most : MadeAtMost 3 before now
  pub none : calls ≡ false → MadeAtMost 0 before now
  pub called : calls ≡ true → OnOk result (Rose before.calls now.calls)
  pub a_list : OnOk result (now.calls + 3 * new.lists_left ≤ before.calls + 3 * old.lists_left)
  pub reads : OnOk result (now.deep_reads + 3 * new.lists_left ≤ before.deep_reads + 3 * old.lists_left)
  pub buffer : ChangesPage pool later lease
  pub out : IsOut later lease
  pub given : (since : ℕ) → since ≤ before.calls → WasGiven since before pool lease → WasGiven since now later lease
  pub same : SameSource old new
  pub stays : OnErr result (new ≡ old)

-- the list has the first identifiers, by right pages, and the others are still to come
pub record GivesFirst (has : List (List ℕ) → Type 0) (page right : ℕ → List ℕ) (rows : ℕ) (lists : List (List ℕ)) (list : ListRef) : Type 0 where
  pub first : List ℕ
  pub rest : List (List ℕ)
  pub is : lists ≡ first ∷ rest
  pub ordered : IsOrdered page right rows list
  pub count : list.count ≡ length first
  pub ids : (i : ℕ) → i < list.count → id_of right list i ≡ get_or first i 0
  pub has_rest : has rest

-- the first list is given, or there is none; after a fault the lists to come are those that there were
abbrev pub GivesLists : (has : List (List ℕ) → Type 0) → (page right : ℕ → List ℕ) (rows : ℕ) (lists : List (List ℕ)) → Result (Option ListRef) PageFault → Type 0
GivesLists has page right rows lists (Ok None) = (lists ≡ []) × has []
GivesLists has page right rows lists (Ok (Some list)) = GivesFirst has page right rows lists list
GivesLists has page right rows lists (Err fault) = has lists

-- a slot that is blamed is one of those of the source
abbrev pub BlamesSource : (blamed : ℕ → ℕ → ℕ → Type 0) → {T : Type 0} → Result T PageFault → Type 0
BlamesSource blamed (Ok answer) = ⊤
BlamesSource blamed (Err Flash) = ⊤
BlamesSource blamed (Err (Damaged number slot found)) = blamed number slot found
