-- The ask that is awaited, whatever host replies: its rows have their place, each in as many bytes as a row of its table may
-- have at most; no other ask of its text is for its table; and the rows that came are whole, their identifiers up to the last.
use Rattle.std.specs.Prelude.{◌≡◌, ℕ, ◌*◌, ◌<◌, ◌≤◌, Bool, false, ◌==◌, ◌&&◌, List, length}
use Rattle.std.specs.List.{list_any}
use Rattle.ghost_model.specs.core.Channel.{Catalog, Ask}
use Rattle.ghost_model.specs.refusals.SchemaFaults.{MeansSchema}
use Rattle.ghost_model.specs.core.Asks.{NumberedAsk, asked_of, row_width, rows_from}
use Rattle.ghost_model.specs.core.NextMove.{Awaits, AwaitsCatalog, AwaitsReply, AwaitsNothing, EndedAsk, Heard, heard, last_identifier}
use Rattle.ghost_model.specs.forms.Layout.{spool_width}

-- whether an ask is that of a text for a table
abbrev pub is_ask_of : (text table : ℕ) → NumberedAsk → Bool
is_ask_of text table asked = asked.text == text && asked.ask.table == table

abbrev pub was_ended : (text table : ℕ) → List EndedAsk → Bool
was_ended text table ended = list_any (λ end. is_ask_of text table end.asked) ended

-- bytes are whole rows of an ask, and this is the identifier of the last
pub record AreWhole (catalog : Catalog) (ask : Ask) (bytes : List ℕ) (last : ℕ) : Type 0 where
  pub count : ℕ
  pub size : length bytes ≡ count * row_width catalog.schema ask
  pub final : last_identifier 0 (rows_from (row_width catalog.schema ask) count bytes) ≡ last

pub record IsFitting (catalog : Catalog) (ended : List EndedAsk) (rows : List ℕ) (asked : NumberedAsk) (last : ℕ) : Type 0 where
  pub numbered : 0 < asked.text
  pub there : asked.ask.table < length catalog.schema
  pub visible : 4 < spool_width catalog.schema asked.ask.table
  pub narrow : row_width catalog.schema asked.ask ≤ spool_width catalog.schema asked.ask.table
  pub first : was_ended asked.text asked.ask.table ended ≡ false
  pub came : AreWhole catalog asked.ask rows last

abbrev pub FitsAt : Catalog → List EndedAsk → (rows : List ℕ) → Awaits → Type 0
FitsAt catalog ended rows (AwaitsCatalog _) = Unit {0}
FitsAt catalog ended rows (AwaitsReply asked serial later count last) = IsFitting catalog ended rows asked last
FitsAt catalog ended rows AwaitsNothing = Unit {0}

-- what is awaited fits
abbrev pub Fits : Catalog → Heard → Type 0
Fits catalog heard = FitsAt catalog heard.ended heard.rows heard.awaits

abbrev pub RepliesFit : Type 0
RepliesFit =
    (catalog : Catalog) (schema_text : List ℕ) (texts : List (List ℕ)) (received : List ℕ) → MeansSchema schema_text catalog.schema
    → Fits catalog (heard catalog (asked_of catalog.schema texts) received)
