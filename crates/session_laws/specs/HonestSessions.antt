-- A session of the key with an honest host that holds the public part of a database, over any link. No frame that comes is
-- invalid and no ask is refused; once it is finished, its lines are those that its texts print over the database.
use Rattle.std.specs.Prelude.{◌≡◌, ℕ, suc, Bool, true, false, List, ◌++◌, length, map, filter_map, slice_get, Some, Ok, flat_map}
use Rattle.ghost_model.specs.core.Schema.{Schema}
use Rattle.ghost_model.specs.core.Values.{Database}
use Rattle.ghost_model.specs.core.Query.{Query}
use Rattle.ghost_model.specs.readings.QueryReading.{reading}
use Rattle.ghost_model.specs.core.Channel.{Catalog, Journal}
use Rattle.ghost_model.specs.core.NextMove.{EndedAsk, IsProper, IsFinished, ended_of}
use Rattle.ghost_model.specs.core.Split.{Hidden, public_of, hidden_of}
use Rattle.ghost_model.specs.core.Honest.{IsHonest, IsSetting, IsCatalogOf}
use Rattle.ghost_model.specs.core.Lines.{Reason, WasRefused, WasBroken, WasAnswered, MetFault, AreLines, was_refused, all_done}
use Rattle.ghost_model.specs.core.Printed.{printed_lines}
use Rattle.ghost_model.specs.core.Replies.{Reply, reply_of, replies}
use Rattle.ghost_model.specs.laws.SessionLaws.{whole_reply, whole_replies}
use Rattle.session_laws.specs.TextEnds.{heard_in}
use Rattle.ghost_model.specs.core.Asks.{NumberedAsk, asked_of}

pub record IsHonestSession (catalog : Catalog) (database : Database) (at : List ℕ) (texts : List (List ℕ)) (journal : Journal) : Type 0 where
  pub setting : IsSetting catalog texts
  pub stored : IsCatalogOf catalog database
  pub proper : IsProper catalog at texts journal
  pub honest : IsHonest catalog (public_of catalog.schema database) journal

pub record IsSmooth (catalog : Catalog) (texts : List (List ℕ)) (journal : Journal) : Type 0 where
  pub valid : (heard_in catalog texts journal).broken ≡ false
  pub none_refused : was_refused (heard_in catalog texts journal).ended ≡ false

-- at each point of the session
abbrev pub HonestSessionsAreSmooth : Type 0
HonestSessionsAreSmooth =
    (catalog : Catalog) (database : Database) (at : List ℕ) (texts : List (List ℕ)) (journal : Journal)
    → IsHonestSession catalog database at texts journal → IsSmooth catalog texts journal

-- the text at place 0 has number 1
abbrev pub HonestAsksAreDone : Type 0
HonestAsksAreDone =
    (catalog : Catalog) (database : Database) (at : List ℕ) (texts : List (List ℕ)) (journal : Journal)
    (place : ℕ) (written : List ℕ) (asked : Query)
    → IsHonestSession catalog database at texts journal → IsFinished journal
    → slice_get texts place ≡ Some written → reading catalog.schema written ≡ Ok asked
    → all_done catalog.schema asked (ended_of catalog (asked_of catalog.schema texts) journal (suc place)) ≡ true

-- whether the key's own flash is the reason for some lines
abbrev pub is_own_fault : Reason → Bool
is_own_fault WasRefused = false
is_own_fault WasBroken = false
is_own_fault WasAnswered = false
is_own_fault (MetFault _) = true

-- lines of a text of which the key's own flash is not the reason
pub record AreSoundLines (catalog : Catalog) (kept : Hidden) (texts : List (List ℕ)) (journal : Journal) (text : ℕ) (lines : List (List ℕ)) : Type 0 where
  pub lines_are : AreLines catalog kept texts journal text lines
  pub sound : is_own_fault lines_are.reason ≡ false

-- such lines of each text, in the order of the texts
pub record AreAllLines (catalog : Catalog) (kept : Hidden) (texts : List (List ℕ)) (journal : Journal) (given : List (List (List ℕ))) : Type 0 where
  pub as_many : length given ≡ length texts
  pub each : (place : ℕ) (lines : List (List ℕ)) → slice_get given place ≡ Some lines
      → AreSoundLines catalog kept texts journal (suc place) lines

abbrev pub HonestLinesArePrinted : Type 0
HonestLinesArePrinted =
    (catalog : Catalog) (database : Database) (at : List ℕ) (texts : List (List ℕ)) (journal : Journal)
    (given : List (List (List ℕ)))
    → IsHonestSession catalog database at texts journal → IsFinished journal
    → AreAllLines catalog (hidden_of catalog.schema database) texts journal given
    → flat_map (λ lines. lines) given ≡ printed_lines catalog.schema texts database

-- the replies to the asks that DONE ended, in their order
abbrev pub replies_in : Schema → List EndedAsk → List Reply
replies_in schema ends = filter_map (λ end. reply_of schema end.asked end.ending) ends

abbrev pub whole_reply_to : Catalog → Database → NumberedAsk → Reply
whole_reply_to catalog database one = whole_reply catalog.schema (public_of catalog.schema database) one.ask

-- the asks that were ended are the first of the session's asks, and each has its whole reply
pub record AreRepliedWhole (catalog : Catalog) (database : Database) (texts : List (List ℕ)) (journal : Journal) : Type 0 where
  pub first : List NumberedAsk
  pub later : List NumberedAsk
  pub asked_are : asked_of catalog.schema texts ≡ first ++ later
  pub replied : replies_in catalog.schema (heard_in catalog texts journal).ended ≡ map (whole_reply_to catalog database) first

-- at each point of the session
abbrev pub HonestAsksAreRepliedWhole : Type 0
HonestAsksAreRepliedWhole =
    (catalog : Catalog) (database : Database) (at : List ℕ) (texts : List (List ℕ)) (journal : Journal)
    → IsHonestSession catalog database at texts journal → AreRepliedWhole catalog database texts journal

-- and once all asks of a text were ended by DONE, these are the replies to it; the text at place 0 has number 1
abbrev pub HonestTextsAreRepliedWhole : Type 0
HonestTextsAreRepliedWhole =
    (catalog : Catalog) (database : Database) (at : List ℕ) (texts : List (List ℕ)) (journal : Journal)
    (place : ℕ) (written : List ℕ) (asked : Query)
    → IsHonestSession catalog database at texts journal
    → slice_get texts place ≡ Some written → reading catalog.schema written ≡ Ok asked
    → all_done catalog.schema asked (ended_of catalog (asked_of catalog.schema texts) journal (suc place)) ≡ true
    → replies catalog (asked_of catalog.schema texts) journal (suc place)
    ≡ whole_replies catalog.schema (public_of catalog.schema database) asked
