-- The lines that a session may give for a text, whatever host it meets. A refused text has its refusal's line. A text
-- whose asks were not all ended by DONE has the line of what ended them. Each other text has the rows of its answer from
-- the replies and their number, or, where the key's flash failed it or held a damaged slot, some rows from the front of
-- these and the word for that.
use Rattle.std.specs.Prelude.{◌≡◌, ℕ, Bool, true, false, ◌==◌, List, [], ◌∷◌, ◌++◌, length, map, filter, codes, Ok, Err, if◌then◌else◌, ◌+◌, slice_get, Some}
use Rattle.std.specs.List.{list_any}
use Rattle.ghost_model.specs.core.Schema.{Schema}
use Rattle.ghost_model.specs.core.Values.{Row}
use Rattle.ghost_model.specs.core.Query.{Query}
use Rattle.ghost_model.specs.refusals.QueryMeaning.{Refusal}
use Rattle.ghost_model.specs.readings.QueryReading.{reading}
use Rattle.ghost_model.specs.core.Channel.{Catalog, Journal}
use Rattle.ghost_model.specs.core.Asks.{NumberedAsk, asks_of, asked_of}
use Rattle.ghost_model.specs.core.Moves.{taken, answers}
use Rattle.ghost_model.specs.core.NextMove.{Ending, Answered, Refused, EndedAsk, heard, is_stop}
use Rattle.ghost_model.specs.core.Split.{Hidden}
use Rattle.ghost_model.specs.core.Replies.{replies, answer_from}
use Rattle.ghost_model.specs.core.Printed.{row_line, answer_lines, word_line, refusal_line}

abbrev pub is_refused_by : Ending → Bool
is_refused_by (Answered _) = false
is_refused_by (Refused _) = true

-- whether SORRY ended an ask of a text
abbrev pub was_refused : List EndedAsk → Bool
was_refused ends = list_any (λ end. is_refused_by end.ending) ends

abbrev pub all_done : Schema → Query → List EndedAsk → Bool
all_done schema query ends =
    if was_refused ends then false else length ends == length (asks_of schema query)

-- the word for what ended the asks of a text: the host, the link, or an invalid frame
abbrev pub broken_word : List EndedAsk → Journal → List ℕ
broken_word ends journal =
    if was_refused ends then codes "host"
    else if list_any is_stop (answers journal) then codes "link"
    else codes "protocol"

-- the key's own faults that end a text
pub data Fault : Type 0 where
  OnFlash OnDamage : Fault

abbrev pub fault_word : Fault → List ℕ
fault_word OnFlash = codes "flash"
fault_word OnDamage = codes "damaged"

-- why a text has these lines
pub data Reason : Type 0 where
  WasRefused WasBroken WasAnswered : Reason
  MetFault : Fault → Reason

-- a text with its number, and the session in which it stood: its asks, and the journal by which it went
pub record SessionText : Type 0 where
  pub catalog : Catalog
  pub kept : Hidden
  pub asks : List NumberedAsk
  pub journal : Journal
  pub number : ℕ
  pub written : List ℕ

-- the asks of a text that were ended, whatever ended them
abbrev pub ends_for : SessionText → List EndedAsk
ends_for text = filter (λ end. end.asked.text == text.number) (heard text.catalog text.asks (taken text.journal)).ended

-- the rows that answer an accepted text from its replies
abbrev pub rows_for : SessionText → Query → List Row
rows_for text query =
    answer_from text.catalog.schema text.kept query (replies text.catalog text.asks text.journal text.number)

pub record RefusedLines (text : SessionText) (lines : List (List ℕ)) : Type 0 where
  pub refusal : Refusal
  pub refused : reading text.catalog.schema text.written ≡ Err refusal
  pub line : lines ≡ refusal_line text.number refusal ∷ []

pub record BrokenLines (text : SessionText) (lines : List (List ℕ)) : Type 0 where
  pub query : Query
  pub accepted : reading text.catalog.schema text.written ≡ Ok query
  pub broken : all_done text.catalog.schema query (ends_for text) ≡ false
  pub line : lines ≡ word_line text.number (broken_word (ends_for text) text.journal) ∷ []

pub record AnsweredLines (text : SessionText) (lines : List (List ℕ)) : Type 0 where
  pub query : Query
  pub accepted : reading text.catalog.schema text.written ≡ Ok query
  pub done : all_done text.catalog.schema query (ends_for text) ≡ true
  pub answer : lines ≡ answer_lines text.number (rows_for text query)

-- the rows that were given are some from the front
pub record FaultLines (fault : Fault) (text : SessionText) (lines : List (List ℕ)) : Type 0 where
  pub query : Query
  pub accepted : reading text.catalog.schema text.written ≡ Ok query
  pub done : all_done text.catalog.schema query (ends_for text) ≡ true
  pub given : List Row
  pub left : List Row
  pub front : rows_for text query ≡ given ++ left
  pub answer : lines ≡ map row_line given ++ word_line text.number (fault_word fault) ∷ []

abbrev pub AreLinesFor : Reason → SessionText → (lines : List (List ℕ)) → Type 0
AreLinesFor WasRefused text lines = RefusedLines text lines
AreLinesFor WasBroken text lines = BrokenLines text lines
AreLinesFor WasAnswered text lines = AnsweredLines text lines
AreLinesFor (MetFault fault) text lines = FaultLines fault text lines

abbrev pub session_text : Catalog → Hidden → (texts : List (List ℕ)) → Journal → (number : ℕ) → (written : List ℕ) → SessionText
session_text catalog kept texts journal number written = record {
  catalog = catalog;
  kept = kept;
  asks = asked_of catalog.schema texts;
  journal = journal;
  number = number;
  written = written;
}

-- the lines of text number `text` in a session that went by a journal
pub record AreLines (catalog : Catalog) (kept : Hidden) (texts : List (List ℕ)) (journal : Journal) (text : ℕ) (lines : List (List ℕ)) : Type 0 where
  pub place : ℕ
  pub numbered : text ≡ place + 1
  pub written : List ℕ
  pub stands : slice_get texts place ≡ Some written
  pub reason : Reason
  pub lines_are : AreLinesFor reason (session_text catalog kept texts journal text written) lines
