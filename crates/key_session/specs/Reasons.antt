-- Why each text of a session has its lines, whatever the pages of the flash hold: it is refused, or its asks did not all
-- come to their end, or they did and it was answered or met a fault of the flash. The flash's count of faults tells of the
-- texts that it ended: it rose at least as often. Where it ended none, and the asks of each came to their end, it is as it
-- was: of a text whose asks did not, a reply may have failed to be written.
use Rattle.std.specs.Prelude.{◌≡◌, ℕ, suc, ◌+◌, ◌≤◌, min, Bool, true, false, List, length, flat_map, count_by, slice_get, Some, Ok, is_err}
use Rattle.std.specs.List.{concat, list_any}
use Rattle.ghost_model.specs.core.Causes.{last_count}
use Rattle.ghost_model.specs.core.Schema.{Schema}
use Rattle.ghost_model.specs.core.Query.{Query}
use Rattle.ghost_model.specs.readings.QueryReading.{reading}
use Rattle.ghost_model.specs.core.Channel.{Catalog, Journal}
use Rattle.ghost_model.specs.core.Lines.{Reason, WasRefused, WasBroken, WasAnswered, MetFault, AreLinesFor, session_text, all_done, broken_word, fault_word}
use Rattle.ghost_model.specs.core.NextMove.{ended_of}
use Rattle.ghost_model.specs.core.Split.{Hidden}
use Rattle.key_lines.specs.Handing.{Handed, Hands}
use Rattle.key_exec.specs.Texts.{IsRefusedText, broken_line}
use Rattle.key_exec.specs.Telling.{AreRefusalLines, AreCountedLines, AreCutLines}
use Rattle.key_session.specs.Counting.{is_flash, is_broken}
use Rattle.ghost_model.specs.core.Asks.{asked_of}

abbrev pub is_refused_text : Schema → (written : List ℕ) → Bool
is_refused_text schema written = is_err (reading schema written)

-- an accepted text, and whether all its asks were ended by DONE
pub record CameTo (all : Bool) (catalog : Catalog) (texts : List (List ℕ)) (journal : Journal) (number : ℕ) (written : List ℕ) : Type 0 where
  pub query : Query
  pub accepted : reading catalog.schema written ≡ Ok query
  pub done : all_done catalog.schema query (ended_of catalog (asked_of catalog.schema texts) journal number) ≡ all

abbrev pub IsReason : Reason → Catalog → (texts : List (List ℕ)) → Journal → (number : ℕ) → (written : List ℕ) → Type 0
IsReason WasRefused catalog texts journal number written = IsRefusedText catalog.schema written
IsReason WasBroken catalog texts journal number written = CameTo false catalog texts journal number written
IsReason WasAnswered catalog texts journal number written = CameTo true catalog texts journal number written
IsReason (MetFault fault) catalog texts journal number written = CameTo true catalog texts journal number written

-- why the text at a place has its lines; the text at place 0 has number 1
pub record HasReason (catalog : Catalog) (texts : List (List ℕ)) (journal : Journal) (place : ℕ) (reason : Reason) : Type 0 where
  pub written : List ℕ
  pub stands : slice_get texts place ≡ Some written
  pub is_reason : IsReason reason catalog texts journal (suc place) written

-- so many texts from the front have these reasons, which were counted; before them and after them the flash had counted so
-- many faults
pub record HaveReasons (catalog : Catalog) (texts : List (List ℕ)) (journal : Journal) (count : ℕ) (Counted : List Reason → Type 0) (before now : ℕ) : Type 0 where
  pub reasons : List Reason
  pub as_many : length reasons ≡ count
  pub each : (place : ℕ) (reason : Reason) → slice_get reasons place ≡ Some reason → HasReason catalog texts journal place reason
  pub blamed : min (before + count_by is_flash reasons) last_count ≤ now
  pub unblamed : list_any is_flash reasons ≡ false → list_any is_broken reasons ≡ false → now ≡ before
  pub counted : Counted reasons

-- The count of faults, where so many texts are marked that were not told yet: it rose for each of them as well.
pub record AreBlamed (marked : ℕ) (reasons : List Reason) (before now : ℕ) : Type 0 where
  pub blamed : min (before + (count_by is_flash reasons + marked)) last_count ≤ now
  pub unblamed : list_any is_flash reasons ≡ false → list_any is_broken reasons ≡ false → marked ≡ 0 → now ≡ before

-- so many texts from the front have reasons of which this holds
pub record HaveSoFar (catalog : Catalog) (texts : List (List ℕ)) (journal : Journal) (count : ℕ) (Counted : List Reason → Type 0) : Type 0 where
  pub reasons : List Reason
  pub as_many : length reasons ≡ count
  pub each : (place : ℕ) (reason : Reason) → slice_get reasons place ≡ Some reason → HasReason catalog texts journal place reason
  pub counted : Counted reasons

-- The lines of a text for a reason, whatever the pages hold: its refusal's; the word of what ended its asks; some rows, and
-- their number or the word of a fault behind them.
abbrev pub AreSomeLines : Reason → Catalog → (texts : List (List ℕ)) → Journal → (number : ℕ) → (written : List ℕ) → (lines : List (List ℕ)) → Type 0
AreSomeLines WasRefused catalog texts journal number written lines = AreRefusalLines catalog.schema number written lines
AreSomeLines WasBroken catalog texts journal number written lines =
    lines ≡ broken_line number (broken_word (ended_of catalog (asked_of catalog.schema texts) journal number) journal)
AreSomeLines WasAnswered catalog texts journal number written lines = AreCountedLines number lines
AreSomeLines (MetFault fault) catalog texts journal number written lines = AreCutLines number (fault_word fault) lines

-- the text at a place has these lines for a reason; the text at place 0 has number 1
pub record HasLines (catalog : Catalog) (texts : List (List ℕ)) (journal : Journal) (place : ℕ) (reason : Reason) (lines : List (List ℕ)) : Type 0 where
  pub written : List ℕ
  pub stands : slice_get texts place ≡ Some written
  pub lines_are : AreSomeLines reason catalog texts journal (suc place) written lines

-- the texts with these reasons, from the front, have such lines for them, and these were handed to the sink one after another
pub record HaveLinesOf (Has : (place : ℕ) → Reason → (lines : List (List ℕ)) → Type 0) (reasons : List Reason) (before after : Handed) : Type 0 where
  pub lines : List (List (List ℕ))
  pub as_many : length lines ≡ length reasons
  pub each : (place : ℕ) (reason : Reason) (one : List (List ℕ)) → slice_get reasons place ≡ Some reason → slice_get lines place ≡ Some one
      → Has place reason one
  pub handed_on : Hands (flat_map concat lines) before after

-- whatever the pages hold
abbrev pub HaveLines : Catalog → (texts : List (List ℕ)) → Journal → (reasons : List Reason) → (before after : Handed) → Type 0
HaveLines catalog texts journal reasons before after = HaveLinesOf (HasLines catalog texts journal) reasons before after

-- the text at a place has lines of its answer over these hidden columns: all of it, or some rows from the front
pub record HasAnswerLines (catalog : Catalog) (kept : Hidden) (texts : List (List ℕ)) (journal : Journal) (place : ℕ) (reason : Reason) (lines : List (List ℕ)) : Type 0 where
  pub written : List ℕ
  pub stands : slice_get texts place ≡ Some written
  pub lines_are : AreLinesFor reason (session_text catalog kept texts journal (suc place) written) lines

abbrev pub HaveAnswerLines : Catalog → Hidden → (texts : List (List ℕ)) → Journal → (reasons : List Reason) → (before after : Handed) → Type 0
HaveAnswerLines catalog kept texts journal reasons before after = HaveLinesOf (HasAnswerLines catalog kept texts journal) reasons before after
