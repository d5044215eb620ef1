-- A session of the key, move by move. It went so far by a journal each of whose moves is the next one after those before
-- it; the pump stands where that journal leaves the key, and the page has the part of the frame at hand.
use Rattle.std.specs.Prelude.{◌≡◌, ℕ, zero, suc, Bool, true, false, Option, Some, None, List, [], ◌∷◌, ◌++◌, take, drop, Result, Ok, Err}
use Rattle.ghost_model.specs.core.Channel.{Catalog, Entry, Journal, Answer, Piece, End, Failed}
use Rattle.ghost_model.specs.core.Asks.{NumberedAsk}
use Rattle.ghost_model.specs.forms.Frames.{AreBytes}
use Rattle.ghost_model.specs.core.Moves.{taken}
use Rattle.ghost_model.specs.core.NextMove.{Heard, Awaits, AwaitsCatalog, AwaitsReply, AwaitsNothing, GoesOn, IsFinished, standing_after, heard}
use Rattle.channel_pump.specs.State.{IsAfter, Keeps, want_of}
use Rattle.channel_pump.specs.Progress.{Tells}
use Rattle.channel_pump.specs.declared.state.Event.{Event}
use Rattle.channel_pump.specs.declared.state.Event.TheVariants as event_is
use Rattle.channel_pump.specs.declared.state.Want.TheVariants as want
use Rattle.channel_pump.specs.declared.state.Pump.{Pump}

pub record IsLive (catalog : Catalog) (at : List ℕ) (asks : List NumberedAsk) (journal : Journal) (pump : Pump) (page : List ℕ) : Type 0 where
  pub proper : GoesOn catalog at asks [] journal
  pub after : IsAfter catalog asks journal pump
  pub keeps : Keeps catalog asks journal page
  pub bytes : AreBytes (taken journal)
  pub finished : (standing_after catalog asks journal).closed ≡ true → IsFinished journal

-- what the bytes taken so far amount to
abbrev pub heard_by : Catalog → (asks : List NumberedAsk) → Journal → Heard
heard_by catalog asks journal = heard catalog asks (taken journal)

-- the ask whose reply is awaited
abbrev pub asked_in : Awaits → Option NumberedAsk
asked_in (AwaitsCatalog _) = None
asked_in (AwaitsReply asked serial later count last) = Some asked
asked_in AwaitsNothing = None

-- whether an event may lead to another ask, as the end of a reply and a part of the catalog may
abbrev pub leads_on : Event → Bool
leads_on event_is.Part = false
leads_on event_is.Welcome = true
leads_on (event_is.Rows _) = false
leads_on event_is.Done = true
leads_on (event_is.Sorry _) = true
leads_on (event_is.Invalid _ _) = false

-- one move was made after those of a journal, and led to this event
pub record Moved (goes : Journal → Type 0) (catalog : Catalog) (at : List ℕ) (asks : List NumberedAsk) (journal : Journal) (event : Event) (pump : Pump) (page : List ℕ) : Type 0 where
  pub made : Entry
  pub went : goes (made ∷ [])
  pub live : IsLive catalog at asks (journal ++ made ∷ []) pump page
  pub tells : Tells catalog page event (heard_by catalog asks journal) (heard_by catalog asks (journal ++ made ∷ []))
  -- till then the same ask is at hand
  pub same_ask : leads_on event ≡ false
      → asked_in (heard_by catalog asks (journal ++ made ∷ [])).awaits ≡ asked_in (heard_by catalog asks journal).awaits
  -- the catalog comes before the first ask
  pub greeting : event ≡ event_is.Welcome → asked_in (heard_by catalog asks journal).awaits ≡ None

-- so many bytes of a page from a place on, as an answer; none are the end of the stream
abbrev pub piece_at : (at count : ℕ) → (page : List ℕ) → Answer
piece_at at zero page = End
piece_at at (suc more) page = Piece (take (suc more) (drop at page))

-- the answer of a take whose bytes stand in a page at a place
abbrev pub gave_at : {E : Type 0} → (at : ℕ) → Result ℕ E → (page : List ℕ) → Answer
gave_at at (Ok count) page = piece_at at count page
gave_at at (Err _) page = Failed

-- a session before its first move
abbrev pub SessionsBegin : Type 0
SessionsBegin =
    (catalog : Catalog) (at : List ℕ) (asks : List NumberedAsk) (pump : Pump) (page : List ℕ)
    → IsAfter catalog asks [] pump → IsLive catalog at asks [] pump page

-- nothing more is wanted only after a finished journal
abbrev pub ClosedIsFinished : Type 0
ClosedIsFinished =
    (catalog : Catalog) (at : List ℕ) (asks : List NumberedAsk) (journal : Journal) (pump : Pump) (page : List ℕ)
    → IsLive catalog at asks journal pump page → want_of pump ≡ want.Closed → IsFinished journal
