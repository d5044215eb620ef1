-- What an event tells of the replies: the rows that came, the asks that were ended, and why the session ends.
use Rattle.std.specs.Prelude.{◌≡◌, ℕ, ◌*◌, ◌<◌, ◌≤◌, true, false, List, [], ◌∷◌, ◌++◌, length, Option, Some, None}
use Rattle.ghost_model.specs.core.Channel.{Catalog, count_of}
use Rattle.ghost_model.specs.core.Asks.{NumberedAsk, rows_in, row_width, kinds_of}
use Rattle.ghost_model.specs.forms.Frames.{payload_in, kind_in}
use Rattle.ghost_model.specs.core.NextMove as next
use Rattle.ghost_model.specs.core.NextMove.{Awaits, AwaitsCatalog, AwaitsNothing, Heard, Standing, EndedAsk, Ending, Answered, Refused, rows_fit, bytes_before}
use Rattle.ghost_model.specs.core.Schema.{Kind}
use Rattle.channel_pump.specs.Forms.{Form}
use Rattle.channel_pump.specs.Asked.{width_of, rows_with}
use Rattle.channel_pump.specs.Here.{table_rows}
use Rattle.channel_pump.specs.declared.state.Pump.{Pump}
use Rattle.channel_pump.specs.declared.state.Phase.{Phase}
use Rattle.channel_pump.specs.declared.state.Phase.TheVariants.{Greeting, Reply, Over}
use Rattle.channel_pump.specs.declared.state.Event.{Event}
use Rattle.channel_pump.specs.declared.state.Event.TheVariants as event
use Rattle.channel_pump.specs.declared.state.Cause.{Cause}
use Rattle.channel_pump.specs.declared.state.Cause.TheVariants.{Finished, Link, Protocol}
use Rattle.channel_pump.specs.State.{counted}

-- the bytes of the rows of the ask at hand after an event; those that came stand in the page behind the header
abbrev pub rows_on : Event → (page rows : List ℕ) → List ℕ
rows_on event.Part page rows = rows
rows_on event.Welcome page rows = []
rows_on (event.Rows _) page rows = rows ++ payload_in page
rows_on event.Done page rows = []
rows_on (event.Sorry _) page rows = []
rows_on (event.Invalid _ _) page rows = rows

abbrev pub ended_with : Awaits → Ending → List EndedAsk
ended_with (AwaitsCatalog _) ending = []
ended_with (next.AwaitsReply asked serial later count last) ending = next.ended asked ending ∷ []
ended_with AwaitsNothing ending = []

-- the ask that an event ends
abbrev pub ended_on : Event → Awaits → (rows : List ℕ) → List EndedAsk
ended_on event.Part awaits rows = []
ended_on event.Welcome awaits rows = []
ended_on (event.Rows _) awaits rows = []
ended_on event.Done awaits rows = ended_with awaits (Answered rows)
ended_on (event.Sorry code) awaits rows = ended_with awaits (Refused code)
ended_on (event.Invalid _ _) awaits rows = []

-- rows of the reply that is awaited came: so many whole ones, at least one, which may stand after those before
pub record RowsCame (catalog : Catalog) (asked : NumberedAsk) (last : ℕ) (payload : List ℕ) (n : ℕ) : Type 0 where
  pub some : 0 < n
  pub fit : rows_fit (count_of catalog asked.ask.table) last (kinds_of catalog.schema asked.ask) (rows_in catalog.schema asked.ask payload) ≡ true
  pub count : n ≡ length (rows_in catalog.schema asked.ask payload)
  pub size : length payload ≡ n * row_width catalog.schema asked.ask

abbrev pub MayCome : Catalog → Awaits → (payload : List ℕ) → (n : ℕ) → Type 0
MayCome catalog (AwaitsCatalog _) payload n = ⊥
MayCome catalog (next.AwaitsReply asked serial later count last) payload n = RowsCame catalog asked last payload n
MayCome catalog AwaitsNothing payload n = ⊥

abbrev pub RowsOf : Catalog → Awaits → (page : List ℕ) → Event → Type 0
RowsOf catalog awaits page event.Part = Unit {0}
RowsOf catalog awaits page event.Welcome = Unit {0}
RowsOf catalog awaits page (event.Rows n) = MayCome catalog awaits (payload_in page) n
RowsOf catalog awaits page event.Done = Unit {0}
RowsOf catalog awaits page (event.Sorry _) = Unit {0}
RowsOf catalog awaits page (event.Invalid _ _) = Unit {0}

-- after an event of a whole frame the frame at hand is not invalid
abbrev pub IsUnbroken : Event → Heard → Type 0
IsUnbroken event.Part after = Unit {0}
IsUnbroken event.Welcome after = after.broken ≡ false
IsUnbroken (event.Rows _) after = after.broken ≡ false
IsUnbroken event.Done after = after.broken ≡ false
IsUnbroken (event.Sorry _) after = after.broken ≡ false
IsUnbroken (event.Invalid _ _) after = Unit {0}

-- what an event tells of what was heard before and after it
pub record Tells (catalog : Catalog) (page : List ℕ) (result : Event) (before after : Heard) : Type 0 where
  pub rows : after.rows ≡ rows_on result page before.rows
  pub ended : after.ended ≡ before.ended ++ ended_on result before.awaits before.rows
  pub came : RowsOf catalog before.awaits page result
  pub unbroken : IsUnbroken result after

-- why a session ends, if it does
abbrev pub EndsBy : Standing → Cause → Type 0
EndsBy l Finished = (l.heard.awaits ≡ AwaitsNothing) × (l.stopped ≡ false) × (l.heard.broken ≡ false)
EndsBy l Link = (l.stopped ≡ true) × (l.heard.broken ≡ false)
EndsBy l (Protocol kind at) =
    (l.stopped ≡ false) × (l.heard.broken ≡ true) × (kind ≡ kind_in l.heard.part) × (at ≡ counted (bytes_before l.heard))

abbrev pub EndsAs : Standing → Option Cause → Type 0
EndsAs l None = (l.stopped ≡ false) × (l.heard.broken ≡ false)
EndsAs l (Some cause) = EndsBy l cause

-- the kinds of the columns of the first of some asks
abbrev pub kinds_at : List Form → List Kind
kinds_at [] = []
kinds_at (form ∷ _) = form.kinds

-- so many whole rows of the first of these asks, whose identifiers ascend from above `last` to at most the table's number of
-- rows, and whose cells spell values
pub record RowsFit (forms : List Form) (last : ℕ) (payload : List ℕ) (n : ℕ) : Type 0 where
  pub fit : rows_fit (table_rows forms) last (kinds_at forms) (rows_with (kinds_at forms) payload) ≡ true
  pub count : n ≡ length (rows_with (kinds_at forms) payload)
  pub size : length payload ≡ n * width_of (kinds_at forms)
  pub short : length payload ≤ 2040

abbrev pub FitAt : Phase → Pump → (payload : List ℕ) → (n : ℕ) → Type 0
FitAt Greeting p payload n = ⊥
FitAt Reply p payload n = RowsFit p.rest p.last payload n
FitAt Over p payload n = ⊥

-- the rows of an event may stand behind those before, by the pump's own numbers
abbrev pub RowsHere : Pump → (page : List ℕ) → Event → Type 0
RowsHere p page event.Part = Unit {0}
RowsHere p page event.Welcome = Unit {0}
RowsHere p page (event.Rows n) = FitAt p.phase p (payload_in page) n
RowsHere p page event.Done = Unit {0}
RowsHere p page (event.Sorry _) = Unit {0}
RowsHere p page (event.Invalid _ _) = Unit {0}
