-- A session of the key whose host is in its own process and holds the public part of a database. It goes to its end, and
-- what it answers is the meaning of its texts.
use Rattle.std.specs.Prelude.{◌≡◌, ◌<◌, ◌≤◌, ℕ, suc, true, false, List, [], ◌++◌, length, slice_get, Some, Ok, flat_map}
use Rattle.std.specs.List.{list_any}
use Rattle.ghost_model.specs.core.Values.{Database}
use Rattle.ghost_model.specs.core.Query.{Query}
use Rattle.ghost_model.specs.readings.QueryReading.{reading}
use Rattle.ghost_model.specs.core.Meaning.{answer}
use Rattle.ghost_model.specs.core.Channel.{Catalog, Move, Dial, Listen, Accept, Send, Take, Close, Journal}
use Rattle.ghost_model.specs.core.Asks.{asked_of}
use Rattle.ghost_model.specs.core.Moves.{taken, answers}
use Rattle.ghost_model.specs.core.NextMove.{IsProper, IsFinished, next_move, heard, is_stop, ended_of}
use Rattle.ghost_model.specs.core.Split.{public_of, hidden_of}
use Rattle.ghost_model.specs.core.Host.{Holding, host_of}
use Rattle.ghost_model.specs.core.Lines.{was_refused, all_done}
use Rattle.ghost_model.specs.laws.ShortWords.{rows_from_replies}
use Rattle.ghost_model.specs.core.Printed.{printed_lines}
use Rattle.ghost_model.specs.laws.SessionLaws.{IsServedThroughout}
use Rattle.ghost_model.specs.core.Honest.{IsSetting, IsCatalogOf}
use Rattle.session_laws.specs.HonestSessions.{AreAllLines}
use Rattle.session_laws.specs.Serving.{Desk, first_desk, ServedFrom}

-- the host holds the public part of a database
abbrev pub holding_of : Catalog → Database → Holding
holding_of catalog database = host_of catalog (public_of catalog.schema database)

-- the key's moves are the next ones, and the host made each of them at once
pub record IsLocal (catalog : Catalog) (database : Database) (at : List ℕ) (texts : List (List ℕ)) (journal : Journal) : Type 0 where
  pub setting : IsSetting catalog texts
  pub stored : IsCatalogOf catalog database
  pub proper : IsProper catalog at texts journal
  -- where the host stands after them
  pub desk : Desk
  pub served : ServedFrom (holding_of catalog database) first_desk journal desk

-- moves that were served one after another are served together
abbrev pub ServedJournalsJoin : Type 0
ServedJournalsJoin =
    (held : Holding) (first second third : Desk) (journal more : Journal)
    → ServedFrom held first journal second → ServedFrom held second more third
    → ServedFrom held first (journal ++ more) third

-- further moves, by which the session is finished
pub record EndsBy (catalog : Catalog) (database : Database) (at : List ℕ) (texts : List (List ℕ)) (journal : Journal) : Type 0 where
  pub more : Journal
  pub longer : IsLocal catalog database at texts (journal ++ more)
  pub finished : IsFinished (journal ++ more)

-- such a session never stands still before its end, and it comes to its end
abbrev pub LocalSessionsEnd : Type 0
LocalSessionsEnd =
    (catalog : Catalog) (database : Database) (at : List ℕ) (texts : List (List ℕ)) (journal : Journal)
    → IsLocal catalog database at texts journal → EndsBy catalog database at texts journal

-- whether a move finds the desk as it needs it: a frame is sent once all was taken that the host said, a take asks for
-- some bytes and for no more than are owed, and the key neither listens nor accepts
abbrev pub finds_desk : Desk → Move → Type 0
finds_desk desk (Dial _) = desk.owed ≡ []
finds_desk desk (Listen _) = ⊥
finds_desk desk Accept = ⊥
finds_desk desk (Send _) = desk.owed ≡ []
finds_desk desk (Take most) = (0 < most) × (most ≤ length desk.owed)
finds_desk desk Close = desk.owed ≡ []

abbrev pub NextMovesFindTheDesk : Type 0
NextMovesFindTheDesk =
    (catalog : Catalog) (database : Database) (at : List ℕ) (texts : List (List ℕ)) (journal : Journal) (move : Move)
    → (is : IsLocal catalog database at texts journal) → next_move catalog at texts journal ≡ Some move
    → finds_desk is.desk move

-- no answer ends a session, each take was given all that it asked for, each frame that came is valid, and the host
-- refused no ask
pub record IsUnbroken (catalog : Catalog) (database : Database) (texts : List (List ℕ)) (journal : Journal) : Type 0 where
  pub goes_on : list_any is_stop (answers journal) ≡ false
  pub throughout : IsServedThroughout (holding_of catalog database) journal
  pub valid : (heard catalog (asked_of catalog.schema texts) (taken journal)).broken ≡ false
  pub none_refused : was_refused (heard catalog (asked_of catalog.schema texts) (taken journal)).ended ≡ false

abbrev pub LocalSessionsAreServed : Type 0
LocalSessionsAreServed =
    (catalog : Catalog) (database : Database) (at : List ℕ) (texts : List (List ℕ)) (journal : Journal)
    → IsLocal catalog database at texts journal → IsUnbroken catalog database texts journal

-- a catalog, a database, an address and texts leave one finished journal
abbrev pub LocalJournalsAreOne : Type 0
LocalJournalsAreOne =
    (catalog : Catalog) (database : Database) (at : List ℕ) (texts : List (List ℕ)) (first second : Journal)
    → IsLocal catalog database at texts first → IsLocal catalog database at texts second
    → IsFinished first → IsFinished second → first ≡ second

-- the text at place 0 has number 1
abbrev pub LocalAsksAreDone : Type 0
LocalAsksAreDone =
    (catalog : Catalog) (database : Database) (at : List ℕ) (texts : List (List ℕ)) (journal : Journal)
    (place : ℕ) (written : List ℕ) (asked : Query)
    → IsLocal catalog database at texts journal → IsFinished journal
    → slice_get texts place ≡ Some written → reading catalog.schema written ≡ Ok asked
    → all_done catalog.schema asked (ended_of catalog (asked_of catalog.schema texts) journal (suc place)) ≡ true

abbrev pub LocalSessionsAnswer : Type 0
LocalSessionsAnswer =
    (catalog : Catalog) (database : Database) (at : List ℕ) (texts : List (List ℕ)) (journal : Journal)
    (place : ℕ) (written : List ℕ) (asked : Query)
    → IsLocal catalog database at texts journal → IsFinished journal
    → slice_get texts place ≡ Some written → reading catalog.schema written ≡ Ok asked
    → rows_from_replies catalog (hidden_of catalog.schema database) (asked_of catalog.schema texts) journal (suc place) asked
    ≡ answer catalog.schema database asked

abbrev pub LocalLinesArePrinted : Type 0
LocalLinesArePrinted =
    (catalog : Catalog) (database : Database) (at : List ℕ) (texts : List (List ℕ)) (journal : Journal)
    (given : List (List (List ℕ)))
    → IsLocal catalog database at texts journal → IsFinished journal
    → AreAllLines catalog (hidden_of catalog.schema database) texts journal given
    → flat_map (λ lines. lines) given ≡ printed_lines catalog.schema texts database
