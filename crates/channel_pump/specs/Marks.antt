-- The texts that the host refused, and in what state the replies of a text are.
use Rattle.std.specs.Prelude.{◌≡◌, ℕ, ◌≤◌, Bool, true, false, not, ◌&&◌, ◌==◌, List, [], ◌∷◌, length, slice_index_or, slice_set, if◌then◌else◌, Option, Some, None}
use Rattle.std.specs.List.{list_any}
use Rattle.ghost_model.specs.core.Asks.{NumberedAsk}
use Rattle.ghost_model.specs.core.NextMove as next
use Rattle.ghost_model.specs.core.NextMove.{Awaits, AwaitsCatalog, AwaitsNothing, Ending, Answered, Refused, EndedAsk, Standing}
use Rattle.channel_pump.specs.Forms.{Form}
use Rattle.channel_pump.specs.declared.state.Event.{Event}
use Rattle.channel_pump.specs.declared.state.Event.TheVariants as event
use Rattle.channel_pump.specs.declared.state.ReplyState.{ReplyState}
use Rattle.channel_pump.specs.declared.state.ReplyState.TheVariants as state

abbrev pub is_refused : Ending → Bool
is_refused (Answered _) = false
is_refused (Refused _) = true

-- an ask of this text was ended by SORRY
abbrev pub is_refusal : (text : ℕ) → EndedAsk → Bool
is_refusal text ended = is_refused ended.ending && ended.asked.text == text

-- the texts that are marked are those of which an ask was refused
pub record AreMarked (marks : List Bool) (ended : List EndedAsk) : Type 0 where
  pub size : length marks ≡ 65
  pub each : (text : ℕ) → text ≤ 64 → slice_index_or marks text false ≡ list_any (is_refusal text) ended

-- the marks with that of the first of some asks
abbrev pub mark_first : List Form → List Bool → List Bool
mark_first [] marks = marks
mark_first (form ∷ _) marks = slice_set marks form.text true

abbrev pub marked_on : Event → List Form → List Bool → List Bool
marked_on event.Part forms marks = marks
marked_on event.Welcome forms marks = marks
marked_on (event.Rows _) forms marks = marks
marked_on event.Done forms marks = marks
marked_on (event.Sorry _) forms marks = mark_first forms marks
marked_on (event.Invalid _ _) forms marks = marks

-- the asks of a session that were not ended
abbrev pub awaited : (asks : List NumberedAsk) → Awaits → List NumberedAsk
awaited asks (AwaitsCatalog _) = asks
awaited asks (next.AwaitsReply asked serial later count last) = asked ∷ later
awaited asks AwaitsNothing = []

-- the ask whose reply is awaited
abbrev pub asked_at : Awaits → Option NumberedAsk
asked_at (AwaitsCatalog _) = None
asked_at (next.AwaitsReply asked serial later count last) = Some asked
asked_at AwaitsNothing = None

-- the state of a text's replies: an ask of it was refused; or each was ended by DONE; or the link, or an invalid frame,
-- ended the session before; or some are awaited
abbrev pub state_of : (asks : List NumberedAsk) → (text : ℕ) → Standing → ReplyState
state_of asks text l =
    if list_any (is_refusal text) l.heard.ended then state.Host
    else if not (list_any (λ asked. asked.text == text) (awaited asks l.heard.awaits)) then state.Done
    else if l.stopped then state.Link
    else if l.heard.broken then state.Protocol
    else state.Awaited
