-- What a session told of its texts so far: from the front of its script each text has its lines, for a reason that the
-- definitions know. A fault of the flash is a reason only as often as the flash failed.
use Rattle.std.specs.Prelude.{◌≡◌, ℕ, suc, ◌+◌, ◌≤◌, min, Bool, true, false, List, length, drop, slice_get, Option, Some, Ok, is_some, option_map}
use Rattle.std.specs.List.{cons_option}
use Rattle.ghost_model.specs.core.Causes.{Rose, last_count}
use Rattle.ghost_model.specs.core.Values.{Database}
use Rattle.ghost_model.specs.core.Query.{Query}
use Rattle.ghost_model.specs.readings.QueryReading.{reading}
use Rattle.ghost_model.specs.core.Channel.{Catalog, Journal}
use Rattle.ghost_model.specs.core.Split.{hidden_of}
use Rattle.ghost_model.specs.core.Lines.{Reason}
use Rattle.ghost_model.specs.forms.Layout.{static_end, scratch_end}
use Rattle.edge_traits.specs.Devices.{Device, ChangesOnly}
use Rattle.page_pool.specs.Pools.{Pool}
use Rattle.session_laws.specs.TextEnds.{heard_in}
use Rattle.session_laws.specs.TextCases.{Outcome}
use Rattle.key_lines.specs.Handing.{Handed, handed}
use Rattle.key_lines.specs.Told.{AreTold, told_in}
use Rattle.key_session.specs.Kept.{IsKept, is_lost}
use Rattle.key_session.specs.declared.replies.Replies.{Replies}
use Rattle.leakless_plan.specs.declared.plan.Plan.{Plan}
use Rattle.key_exec.specs.Reading.{KnowsButBy}
use Rattle.key_exec.specs.Rows.{PrintsSome}
use Rattle.key_session.specs.Counting.{one_if}
use Rattle.key_session.specs.Damages.{IsSlot, AreRead, AreKept}
use Rattle.key_session.specs.Reasons.{AreBlamed, HaveSoFar, HaveLines, HaveAnswerLines, is_refused_text}
use Rattle.key_exec.specs.declared.damage.Damage.{Damage}
use Rattle.key_session.specs.declared.counts.Counts.{Counts}
use Rattle.key_session.specs.declared.teller.Teller.{Teller}

-- the side of the outside that a session changes, its link aside: where the lines go, and the flash
pub record SessionSide : Type 0 where
  pub sink : Handed
  pub flash : Device

abbrev pub session_side : (failed : Bool) → (faults : ℕ) → (written : Option (List ℕ)) → Device → SessionSide
session_side failed faults written device = record { sink = handed failed faults written; flash = device }

-- the texts that are left
pub record AreLeft (texts left : List (List ℕ)) (count : ℕ) : Type 0 where
  pub left_are : left ≡ drop count texts
  pub within : count ≤ length texts

-- it shows what became of the asks of the text with a number, if that is an accepted one
abbrev pub CameOut : Catalog → (texts : List (List ℕ)) → Journal → (number : ℕ) → Type 0
CameOut catalog texts journal number =
    (place : ℕ) (written : List ℕ) (asked : Query) → number ≡ suc place → slice_get texts place ≡ Some written
    → reading catalog.schema written ≡ Ok asked → Outcome catalog texts journal (suc place) asked

-- those that a teller has left
abbrev pub texts_left : Teller → List (List ℕ)
texts_left teller = cons_option (option_map (λ text. text.now) teller.ahead) teller.texts

-- how many texts are marked of those that were not told: the text at hand, and the one before it
abbrev pub marks_behind : Replies → (count : ℕ) → ℕ
marks_behind replies count = one_if (is_lost replies (count + 1)) + one_if (is_lost replies (count + 2))

-- a text that is marked and was not told is an accepted one, and the flash was called for it
pub record AreMarked (catalog : Catalog) (texts : List (List ℕ)) (count : ℕ) (before now : ℕ) (replies : Replies) : Type 0 where
  pub called : (text : ℕ) → count + 1 ≤ text → is_lost replies text ≡ true → Rose before now
  pub accepted : (place : ℕ) (written : List ℕ) → count ≤ place → slice_get texts place ≡ Some written → is_lost replies (suc place) ≡ true
      → is_refused_text catalog.schema written ≡ false

-- the texts with these reasons were counted, and so were the faults
pub record AreKeptSoFar (by : Plan) (pages_told : Bool) (page : ℕ → List ℕ) (catalog : Catalog) (texts : List (List ℕ)) (counts : Counts) (marked before now : ℕ) (reasons : List Reason) : Type 0 where
  pub kept : AreKept by pages_told page catalog texts reasons counts
  pub faults : AreBlamed marked reasons before now

-- what stays below the spool and behind it
abbrev pub KeepsFiles : Catalog → (before now : Device) → Type 0
KeepsFiles catalog before now = ChangesOnly (static_end catalog) (scratch_end catalog) before now

-- A teller has told some texts of a session that went by a journal, the sink as it was after the last of them, and the flash as
-- it is now. The replies for the others are kept, none of them for a text behind `top`.
pub record IsTelling (by : Plan) (pages_told : Bool) (catalog : Catalog) (texts : List (List ℕ)) (journal : Journal) (top : ℕ) (since : SessionSide) (sink : Handed) (device : Device) (pool : Pool) (left : List (List ℕ)) (count : ℕ) (counts : Counts) (replies : Replies) : Type 0 where
  pub left_are : AreLeft texts left count
  pub kept : IsKept pages_told device pool catalog (heard_in catalog texts journal) (count + 1) top replies
  pub near : top ≤ count + 2
  pub within : top ≤ length texts
  pub pages : KeepsFiles catalog since.flash device
  -- at its last value a count stays
  pub calls : min since.flash.calls last_count ≤ device.calls
  pub called : counts.by_flash ≡ true → Rose since.flash.calls device.calls
  pub damage_called : is_some counts.damage ≡ true → Rose since.flash.calls device.calls
  pub faults : min since.flash.faults last_count ≤ device.faults
  pub marked : AreMarked catalog texts count since.flash.calls device.calls replies
  pub prints : PrintsSome since.sink sink
  pub damaged : (damage : Damage) → counts.damage ≡ Some damage → IsSlot by pages_told since.flash.page catalog texts damage
  pub reasons : HaveSoFar catalog texts journal count (AreKeptSoFar by pages_told since.flash.page catalog texts counts (marks_behind replies count) since.flash.faults device.faults)
  pub read : AreRead by pages_told since.flash.calls device catalog texts reasons.counted.kept.met.damages
  pub lines : HaveLines catalog texts journal reasons.reasons since.sink sink
  pub answers : (database : Database) → KnowsButBy by pages_told since.flash.page catalog database
      → HaveAnswerLines catalog (hidden_of catalog.schema database) texts journal reasons.reasons since.sink sink
  -- of these same lines, by which each text is told
  pub same : (database : Database) → (knows : KnowsButBy by pages_told since.flash.page catalog database) → (answers database knows).lines ≡ lines.lines
  pub are_told : AreTold catalog.schema texts lines.lines (told_in counts.told)
