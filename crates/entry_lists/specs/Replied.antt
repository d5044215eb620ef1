-- Lists of the identifiers of a reply, one after another.
use Rattle.std.specs.Prelude.{◌≡◌, ◌⊎◌, ℕ, ◌+◌, ◌-◌, ◌<◌, ◌≤◌, min, Bool, true, false, ◌&&◌, ◌||◌, nat_le, nat_lt, List, ◌∷◌, length, map, drop, get_or, Result, IfErr, IfSome, OnOk, if◌then◌else◌}
use Rattle.std.specs.List.{concat}
use Rattle.ghost_model.specs.forms.Runs.{page_of, slot_of, per_page, cell_in, id_at, number_in}
use Rattle.ghost_base.specs.declared.runs.ListRef.{ListRef}
use Rattle.ghost_base.specs.Runs.{run_of}
use Rattle.edge_traits.specs.Devices.{Device, KeepsPages, first_deep_page, next_if}
use Rattle.page_pool.specs.Pools.{Pool, ChangesPage, page_at}
use Rattle.flash_pages.specs.Cursors.{IsPageOf}
use Rattle.flash_pages.specs.declared.fault.PageFault.{PageFault}
use Rattle.flash_pages.specs.Reads.{CanRead, FaultTells, WasGiven, must_read}
use Rattle.climbing_index.specs.Directories as directories
use Rattle.climbing_index.specs.Directories.{HasDamage, entry_page, entry_stands}
use Rattle.visible_spool.specs.Replies as replies
use Rattle.visible_spool.specs.Replies.{HoldsRows, id_of, id_of_bytes}
use Rattle.spill_pass.specs.Lists.{OutOfRowsIn}
use Rattle.spill_pass.specs.Sources.{Source}
use Rattle.entry_lists.specs.declared.replies.ReplyLists.{ReplyLists}
use Rattle.entry_lists.specs.Entries.{HaveEntries, IsListOfEntry, is_in, level_run}

-- an identifier is at hand, and the entry of the next one
abbrev pub has_hand : ReplyLists → Bool
has_hand lists = nat_lt lists.next (length lists.ids.items)

abbrev pub entry_at_hand : ReplyLists → ℕ
entry_at_hand lists = get_or lists.ids.items lists.next 0 - 1

-- how many rows were looked at
abbrev pub looked_at : ReplyLists → ℕ
looked_at lists = lists.given + (length lists.ids.items - lists.next)

-- whether the next call reads a page: the entry of the identifier at hand, or rows, or, where these stand in the buffer, an entry
abbrev pub reads_next : Pool → ReplyLists → Bool
reads_next pool lists =
    if has_hand lists then must_read pool lists.lease (entry_page lists.directory (entry_at_hand lists))
    else nat_lt lists.given lists.reply.run.count

-- the lists of a reply as a source
abbrev pub source_of : ReplyLists → Source
source_of lists = record {
  lists_left = lists.reply.run.count - lists.given;
  ids_left = lists.left;
  run = level_run lists.directory lists.level;
  lease = lists.lease;
  uses = λ page. is_in (run_of lists.reply.run) page || (is_in (run_of lists.directory.run) page || is_in (run_of (level_run lists.directory lists.level)) page);
}

-- no page of the rows is one of the directory
abbrev pub LieElsewhere : ReplyLists → Type 0
LieElsewhere lists =
    (row entry : ℕ) → row < lists.reply.run.count → entry < lists.directory.run.count
    → page_of (run_of lists.reply.run) row ≡ page_of (run_of lists.directory.run) entry → ⊥

-- a page of the rows or of the directory
abbrev pub IsPage : ReplyLists → (page : ℕ) → Type 0
IsPage lists page = IsPageOf (run_of lists.reply.run) page ⊎ IsPageOf (run_of lists.directory.run) page

-- the next list may be asked for: the reply and the directory may be read, which has an entry for each row of the table; the
-- identifiers at hand are of the table's rows
pub record CanGive (told : Bool) (device : Device) (pool : Pool) (lists : ReplyLists) : Type 0 where
  pub reply : replies.IsReadable device lists.reply
  pub directory : directories.IsReadable device lists.directory
  pub level : lists.level < length lists.directory.levels.items
  pub rows : lists.reply.rows ≤ lists.directory.run.count
  pub hand : lists.next ≤ length lists.ids.items
  pub looked : looked_at lists ≤ lists.reply.run.count
  pub some : (place : ℕ) → place < length lists.ids.items → 0 < get_or lists.ids.items place 0
  pub most : (place : ℕ) → place < length lists.ids.items → get_or lists.ids.items place 0 ≤ lists.reply.rows
  pub apart : LieElsewhere lists
  pub buffer : CanRead told device pool lists.lease
  pub holds : IfSome (page_at pool lists.lease) (IsPage lists)

-- whether a row begins with an identifier above the last one, of so many rows
abbrev pub may_follow : (last rows : ℕ) → List ℕ → Bool
may_follow last rows bytes = nat_lt last (number_in bytes 0) && nat_le (number_in bytes 0) rows

-- A slot that is damaged: that of the entry of an identifier that the pages have in a row, with bytes that may not stand there,
-- whatever stands in others.
pub record DamagesReplied (page : ℕ → List ℕ) (lists : ReplyLists) (number slot found : ℕ) : Type 0 where
  pub row : ℕ
  pub within : row < lists.reply.run.count
  pub some : 0 < id_at page (run_of lists.reply.run) row
  pub most : id_at page (run_of lists.reply.run) row ≤ lists.directory.run.count
  pub damage : HasDamage page (run_of lists.directory.run) (entry_stands lists.directory) (id_at page (run_of lists.reply.run) row - 1) number slot found

-- a list that may be given, or was: that of some entry
pub record MayGive (page : ℕ → List ℕ) (lists : ReplyLists) (list : ListRef) : Type 0 where
  pub entry : ℕ
  pub is : IsListOfEntry page lists.directory lists.level entry list

-- a slot to which reading of such a list gets, with what tells no identifier of the rows
pub record DamagesCode (page : ℕ → List ℕ) (rows : ℕ) (lists : ReplyLists) (number slot found : ℕ) : Type 0 where
  pub list : ListRef
  pub may : MayGive page lists list
  pub out : OutOfRowsIn page list rows number slot found

-- what is damaged of the lists
abbrev pub IsDamaged : (page : ℕ → List ℕ) → (rows : ℕ) → ReplyLists → (number slot found : ℕ) → Type 0
IsDamaged page rows lists number slot found = DamagesReplied page lists number slot found ⊎ DamagesCode page rows lists number slot found

-- the identifier of the row before one, 0 before the first
abbrev pub id_before : (held : List (List ℕ)) → (place : ℕ) → ℕ
id_before held place = if nat_lt 0 place then id_of held (place - 1) else 0

-- the identifiers at hand are those of rows
pub record AreAtHand (held : List (List ℕ)) (lists : ReplyLists) : Type 0 where
  pub ids :
      (place : ℕ) → lists.next ≤ place → place < length lists.ids.items
      → get_or lists.ids.items place 0 ≡ id_of held (lists.given + (place - lists.next))
  pub last : lists.last ≡ id_before held (looked_at lists)

-- the entries of the identifiers of rows
abbrev pub entries_of : (held : List (List ℕ)) → List ℕ
entries_of held = map (λ row. id_of_bytes row - 1) held

-- the pages have the rows of the reply, and the entries of the identifiers still to come have these lists, with no more
-- identifiers together than may still come
pub record RepliesHave (page right : ℕ → List ℕ) (rows : ℕ) (lists : ReplyLists) (ids : List (List ℕ)) : Type 0 where
  pub held : List (List ℕ)
  pub holds : HoldsRows page lists.reply held
  pub sound : replies.IsSound lists.reply
  pub hand : AreAtHand held lists
  pub some : 0 < lists.directory.run.width
  pub fits : lists.directory.run.width ≤ 2048
  pub have : HaveEntries page right rows lists.directory lists.level (entries_of (drop lists.given held)) ids
  pub few : length (concat ids) ≤ lists.left

-- nothing changed
pub record TakesNothing (before later : Pool) (old new : ReplyLists) : Type 0 where
  pub pool : later ≡ before
  pub lists : new ≡ old

-- identifiers may have been taken, and nothing else changed
pub record TakesIds (old new : ReplyLists) : Type 0 where
  pub reply : new.reply ≡ old.reply
  pub given : new.given ≡ old.given
  pub directory : new.directory ≡ old.directory
  pub level : new.level ≡ old.level
  pub left : new.left ≡ old.left
  pub lease : new.lease ≡ old.lease

-- the last of identifiers that were taken behind one
abbrev pub last_of : (last : ℕ) → (ids : List ℕ) → ℕ
last_of last ids = get_or (last ∷ ids) (length ids) 0

-- how many identifiers are taken at most where none is at hand: 64, up to the end of the page and of the reply
abbrev pub most_taken : ReplyLists → ℕ
most_taken lists =
    min (min (per_page lists.reply.run.width - slot_of (run_of lists.reply.run) lists.given) (lists.reply.run.count - lists.given)) 64

-- identifiers were taken from the bytes of their page, and where they are fewer the next row begins with none that may follow
abbrev pub TakesMany : (old new : ReplyLists) → (bytes : List ℕ) → Type 0
TakesMany old new bytes =
    length new.ids.items < most_taken old
    → may_follow new.last old.reply.rows (cell_in bytes old.reply.run.width (slot_of (run_of old.reply.run) old.given + length new.ids.items)) ≡ false

-- one page is read at most under a lease, that with a number, and none where none is needed: what a reader of a page says, but for the page
-- that the buffer has then
pub record ReadsOnce {T : Type 0} (told : Bool) (before now : Device) (pool later : Pool) (lease : ℕ) (reads : Bool) (number : ℕ) (result : Result T PageFault) : Type 0 where
  pub kept : KeepsPages before now
  pub calls : now.calls ≡ next_if reads before.calls
  pub at_most : now.calls ≤ before.calls + 1
  pub deep_reads : now.deep_reads ≡ next_if (reads && nat_le first_deep_page number) before.deep_reads
  pub no_fault : OnOk result (now.faults ≡ before.faults)
  pub fault : IfErr result (FaultTells before now (reads ≡ true))
  pub buffer : ChangesPage pool later lease
  pub ready : CanRead told now later lease
  pub given : (since : ℕ) → since ≤ before.calls → WasGiven since before pool lease → WasGiven since now later lease
