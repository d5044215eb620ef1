-- The lines that a session with a host in the key's own process gives for each text of a script, where the key's flash tells its
-- pages, whichever calls on it fail: those of the text's meaning, or, where the flash failed, some rows from the front of its
-- answer and then the word for that.
use Rattle.std.specs.Prelude.{◌≡◌, ℕ, suc, ◌+◌, ◌≤◌, min, Bool, true, false, List, [], ◌∷◌, ◌++◌, length, map, flat_map, count_by, codes, slice_get, Some, Ok}
use Rattle.std.specs.List.{concat, list_any}
use Rattle.ghost_model.specs.core.Causes.{last_count}
use Rattle.ghost_model.specs.core.Schema.{Schema}
use Rattle.ghost_model.specs.core.Values.{Database, Row}
use Rattle.ghost_model.specs.core.Query.{Query}
use Rattle.ghost_model.specs.readings.QueryReading.{reading}
use Rattle.ghost_model.specs.core.Meaning.{answer}
use Rattle.ghost_model.specs.core.Printed.{row_line, word_line, lines_of_text, printed}
use Rattle.ghost_model.specs.core.Channel.{Catalog, Journal}
use Rattle.ghost_model.specs.core.NextMove.{Standing, IsFinished}
use Rattle.ghost_model.specs.core.Split.{hidden_of}
use Rattle.session_laws.specs.Local.{IsLocal}
use Rattle.leakless_plan.specs.declared.plan.Plan.{Plan}
use Rattle.key_lines.specs.Handing.{Hands}
use Rattle.key_session.specs.Counting.{is_damage}
use Rattle.key_session.specs.Reasons.{HaveReasons, HaveAnswerLines}
use Rattle.key_session.specs.Telling.{SessionSide}
use Rattle.key_session.specs.Running.{IsTallied, status_of}
use Rattle.key_session.specs.declared.tally.Tally.{Tally}

-- the lines of one text, and whether the flash failed it
pub record TextLines : Type 0 where
  pub cut : Bool
  pub lines : List (List ℕ)

-- some rows of an accepted text's answer, and the word of the flash behind them
pub record AreCutLines (schema : Schema) (database : Database) (number : ℕ) (written : List ℕ) (lines : List (List ℕ)) : Type 0 where
  pub query : Query
  pub accepted : reading schema written ≡ Ok query
  pub given : List Row
  pub left : List Row
  pub front : answer schema database query ≡ given ++ left
  pub are : lines ≡ map row_line given ++ word_line number (codes "flash") ∷ []

abbrev pub AreLinesBy : (cut : Bool) → Schema → Database → (number : ℕ) → (written : List ℕ) → (lines : List (List ℕ)) → Type 0
AreLinesBy false schema database number written lines = lines ≡ lines_of_text schema database number written
AreLinesBy true schema database number written lines = AreCutLines schema database number written lines

abbrev pub is_cut : TextLines → Bool
is_cut one = one.cut

abbrev pub line_bytes : TextLines → List ℕ
line_bytes one = concat one.lines

-- the lines of each text
abbrev pub lines_in : List TextLines → List (List (List ℕ))
lines_in given = map (λ (one : TextLines). one.lines) given

-- the bytes of all lines
abbrev pub bytes_given : List TextLines → List ℕ
bytes_given given = flat_map line_bytes given

-- lines of each text, in the order of the texts; the text at place 0 has number 1
pub record AreTextLines (schema : Schema) (database : Database) (texts : List (List ℕ)) (given : List TextLines) : Type 0 where
  pub as_many : length given ≡ length texts
  pub each : (place : ℕ) (one : TextLines) (written : List ℕ) → slice_get given place ≡ Some one → slice_get texts place ≡ Some written
      → AreLinesBy one.cut schema database (suc place) written one.lines
  -- where the flash failed no text, they are the printed ones
  pub whole : list_any is_cut given ≡ false → bytes_given given ≡ printed schema texts database

-- what a session gave: lines of each text were handed to the sink, and the flash failed as often as it is blamed, or more
-- often; where it is not blamed, its count is the same
pub record Gives (schema : Schema) (database : Database) (texts : List (List ℕ)) (since now : SessionSide) : Type 0 where
  pub given : List TextLines
  pub lines : AreTextLines schema database texts given
  pub handed_on : Hands (bytes_given given) since.sink now.sink
  pub blamed : min (since.flash.faults + count_by is_cut given) last_count ≤ now.flash.faults
  pub unblamed : list_any is_cut given ≡ false → now.flash.faults ≡ since.flash.faults

-- the session's tally has the status of such lines: that of the flash, where it failed a text and no other cause comes first
pub record GivesByTally (failed : Bool) (session : Standing) (tally : Tally) (schema : Schema) (database : Database) (texts : List (List ℕ)) (since now : SessionSide) (lines : List (List (List ℕ))) : Type 0 where
  pub gives : Gives schema database texts since now
  pub same : lines_in gives.given ≡ lines
  pub status_is : tally.status ≡ status_of failed session (list_any is_cut gives.given)

-- a session has reasons for the lines of its texts, none of them damage, and the rows are those of the database
pub record AreAnswered (by : Plan) (pages_told : Bool) (page : ℕ → List ℕ) (catalog : Catalog) (database : Database) (texts : List (List ℕ)) (journal : Journal) (failed : Bool) (session : Standing) (tally : Tally) (since now : SessionSide) : Type 0 where
  pub reasons : HaveReasons catalog texts journal (length texts) (λ reasons. IsTallied by pages_told page catalog texts failed session reasons tally) since.flash.faults now.flash.faults
  pub answers : HaveAnswerLines catalog (hidden_of catalog.schema database) texts journal reasons.reasons since.sink now.sink
  pub undamaged : list_any is_damage reasons.reasons ≡ false

-- what a finished session told is that, where the host was in the key's own process
abbrev pub ToldTextsAreGiven : Type 0
ToldTextsAreGiven =
    (by : Plan) (pages_told : Bool) (page : ℕ → List ℕ) (catalog : Catalog) (database : Database) (texts : List (List ℕ)) (journal : Journal)
    (failed : Bool) (session : Standing) (tally : Tally) (since now : SessionSide)
    → IsLocal catalog database [] texts journal → IsFinished journal
    → (are : AreAnswered by pages_told page catalog database texts journal failed session tally since now)
    → GivesByTally failed session tally catalog.schema database texts since now are.answers.lines
