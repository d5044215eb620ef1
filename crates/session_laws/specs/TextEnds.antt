-- What the asks of a text came to, whatever host replies. Asks are awaited one after another, in the order of their texts.
-- A text is settled once none of its asks is awaited or still to come; so it is once an ask of a later text is awaited, or
-- nothing more. From then on what its asks came to stays, and so do the lines that it may be given.
use Rattle.std.specs.Prelude.{◌≡◌, ℕ, suc, Some, slice_get, ◌*◌, Bool, true, false, not, nat_lt, nat_le, ◌==◌, List, [], ◌∷◌, ◌++◌, length, filter, filter_map}
use Rattle.std.specs.List.{list_all, list_any}
use Rattle.ghost_model.specs.core.Channel.{Catalog, Journal}
use Rattle.ghost_model.specs.core.Asks.{NumberedAsk, asked_of, row_width, rows_in}
use Rattle.ghost_model.specs.core.Moves.{taken}
use Rattle.ghost_model.specs.core.NextMove.{Awaits, AwaitsCatalog, AwaitsReply, AwaitsNothing, EndedAsk, Heard, heard, hear_all, IsProper, IsFinished, ended_of}
use Rattle.ghost_model.specs.core.Split.{Hidden}
use Rattle.ghost_model.specs.core.Lines.{Reason, AreLines, AreLinesFor, session_text}
use Rattle.ghost_model.specs.core.Replies as answered
use Rattle.ghost_model.specs.core.Replies.{reply_for, replies}

-- the asks that were not ended, by what is awaited
abbrev pub not_ended : (asks : List NumberedAsk) → Awaits → List NumberedAsk
not_ended asks (AwaitsCatalog bytes) = asks
not_ended asks (AwaitsReply asked serial later count last) = asked ∷ later
not_ended asks AwaitsNothing = []

-- whether none of them is of this text
abbrev pub is_settled : (asks : List NumberedAsk) → (text : ℕ) → Awaits → Bool
is_settled asks text awaits = not (list_any (λ one. one.text == text) (not_ended asks awaits))

-- what a session's journal leaves
abbrev pub heard_in : Catalog → (texts : List (List ℕ)) → Journal → Heard
heard_in catalog texts journal = heard catalog (asked_of catalog.schema texts) (taken journal)

abbrev pub is_settled_in : Catalog → (texts : List (List ℕ)) → Journal → (text : ℕ) → Bool
is_settled_in catalog texts journal text =
    is_settled (asked_of catalog.schema texts) text (heard_in catalog texts journal).awaits

-- whether an ask of a later text is awaited, or nothing more
abbrev pub is_over : (text : ℕ) → Awaits → Bool
is_over text (AwaitsCatalog bytes) = false
is_over text (AwaitsReply asked serial later count last) = nat_lt text asked.text
is_over text AwaitsNothing = true

abbrev pub OverTextsAreSettled : Type 0
OverTextsAreSettled =
    (catalog : Catalog) (texts : List (List ℕ)) (received : List ℕ) (text : ℕ)
    → is_over text (heard catalog (asked_of catalog.schema texts) received).awaits ≡ true
    → is_settled (asked_of catalog.schema texts) text (heard catalog (asked_of catalog.schema texts) received).awaits ≡ true

-- what the asks of a text came to by what was heard: those that were ended, and their replies
abbrev pub ends_heard : (text : ℕ) → Heard → List EndedAsk
ends_heard text heard = filter (λ end. end.asked.text == text) heard.ended

abbrev pub replies_heard : Catalog → (text : ℕ) → Heard → List answered.Reply
replies_heard catalog text heard = filter_map (reply_for catalog.schema text) heard.ended

-- a text is settled after more as well, and its asks came to the same
pub record StaysSettled (catalog : Catalog) (asks : List NumberedAsk) (text : ℕ) (before after : Heard) : Type 0 where
  pub settled : is_settled asks text after.awaits ≡ true
  pub ends : ends_heard text after ≡ ends_heard text before
  pub replied : replies_heard catalog text after ≡ replies_heard catalog text before

-- for any asks, and whatever was heard
abbrev pub SettledTextsStay : Type 0
SettledTextsStay =
    (catalog : Catalog) (asks : List NumberedAsk) (before : Heard) (bytes : List ℕ) (text : ℕ)
    → is_settled asks text before.awaits ≡ true
    → StaysSettled catalog asks text before (hear_all catalog asks before bytes)

-- and so for more entries of a journal
pub record StaysSettledIn (catalog : Catalog) (texts : List (List ℕ)) (text : ℕ) (before after : Journal) : Type 0 where
  pub settled : is_settled_in catalog texts after text ≡ true
  pub ends : ended_of catalog (asked_of catalog.schema texts) after text ≡ ended_of catalog (asked_of catalog.schema texts) before text
  pub replied : replies catalog (asked_of catalog.schema texts) after text ≡ replies catalog (asked_of catalog.schema texts) before text

abbrev pub EndedTextsStay : Type 0
EndedTextsStay =
    (catalog : Catalog) (texts : List (List ℕ)) (journal more : Journal) (text : ℕ)
    → is_settled_in catalog texts journal text ≡ true → StaysSettledIn catalog texts text journal (journal ++ more)

-- lines that a settled text may be given are its lines ever after
abbrev pub LinesStay : Type 0
LinesStay =
    (catalog : Catalog) (kept : Hidden) (texts : List (List ℕ)) (journal more : Journal) (text : ℕ) (lines : List (List ℕ))
    → is_settled_in catalog texts journal text ≡ true → AreLines catalog kept texts journal text lines
    → AreLines catalog kept texts (journal ++ more) text lines

-- and for the same reason; the text at place 0 has number 1
abbrev pub ReasonsStay : Type 0
ReasonsStay =
    (catalog : Catalog) (kept : Hidden) (texts : List (List ℕ)) (journal more : Journal) (place : ℕ) (written : List ℕ)
    (lines : List (List ℕ)) (reason : Reason)
    → is_settled_in catalog texts journal (suc place) ≡ true → slice_get texts place ≡ Some written
    → AreLinesFor reason (session_text catalog kept texts journal (suc place) written) lines
    → AreLinesFor reason (session_text catalog kept texts (journal ++ more) (suc place) written) lines

-- nothing comes after a finished journal, so what all texts' asks came to by then stays
abbrev pub FinishedJournalsStay : Type 0
FinishedJournalsStay =
    (catalog : Catalog) (at : List ℕ) (texts : List (List ℕ)) (journal more : Journal)
    → IsProper catalog at texts (journal ++ more) → IsFinished journal → more ≡ []

-- where the reply to an ask is awaited: that ask and those to come end the session's asks, none of a later text was ended
-- before, and the bytes of rows that came are whole rows of this ask, as many as were counted
pub record IsAwaitedAsk (catalog : Catalog) (texts : List (List ℕ)) (now : Heard) (asked : NumberedAsk) (later : List NumberedAsk) (count : ℕ) : Type 0 where
  pub before : List NumberedAsk
  pub stands : asked_of catalog.schema texts ≡ before ++ asked ∷ later
  pub in_order : list_all (λ end. nat_le end.asked.text asked.text) now.ended ≡ true
  pub size : length now.rows ≡ count * row_width catalog.schema asked.ask
  pub counted : length (rows_in catalog.schema asked.ask now.rows) ≡ count

abbrev pub AsksAreAwaitedInOrder : Type 0
AsksAreAwaitedInOrder =
    (catalog : Catalog) (texts : List (List ℕ)) (received : List ℕ) (asked : NumberedAsk) (serial : ℕ) (later : List NumberedAsk) (count last : ℕ)
    → (heard catalog (asked_of catalog.schema texts) received).awaits ≡ AwaitsReply asked serial later count last
    → IsAwaitedAsk catalog texts (heard catalog (asked_of catalog.schema texts) received) asked later count
