-- What a valid frame leads to, in the pump's own numbers.
use Rattle.std.specs.Prelude.{ℕ, ◌==◌, List, [], ◌++◌, length, drop, take_while}
use Rattle.ghost_model.specs.core.Channel as channel
use Rattle.ghost_model.specs.core.Channel.{Catalog}
use Rattle.ghost_model.specs.core.Asks.{RowCells, rows_in}
use Rattle.ghost_model.specs.forms.Frames.{kind_in, frame_in}
use Rattle.ghost_model.specs.core.NextMove as next
use Rattle.ghost_model.specs.core.NextMove.{Awaits, AwaitsCatalog, AwaitsNothing, Heard, Verdict, bytes_before}
use Rattle.channel_pump.specs.Forms.{Form}
use Rattle.channel_pump.specs.declared.state.Event.{Event}
use Rattle.channel_pump.specs.declared.state.Event.TheVariants as event
use Rattle.channel_pump.specs.State.{counted}

-- these asks without those at their front that are of this text
abbrev pub forms_after : (text : ℕ) → List Form → List Form
forms_after text forms = drop (length (take_while (λ form. form.text == text) forms)) forms

-- what a valid frame is to the session, where it brings so many rows
abbrev pub event_of : (rows : ℕ) → channel.Frame → Event
event_of rows (channel.HelloFrame _) = event.Part
event_of rows (channel.AskFrame _ _) = event.Part
event_of rows (channel.MoreFrame _) = event.Part
event_of rows channel.ByeFrame = event.Part
event_of rows (channel.WelcomeFrame _ _) = event.Welcome
event_of rows (channel.RowsFrame _ _) = event.Rows rows
event_of rows (channel.DoneFrame _ _) = event.Done
event_of rows (channel.SorryFrame _ code) = event.Sorry code

abbrev pub rows_of_frame : Catalog → Awaits → channel.Frame → List RowCells
rows_of_frame catalog (next.AwaitsReply asked serial later count last) (channel.RowsFrame _ payload) = rows_in catalog.schema asked.ask payload
rows_of_frame catalog _ _ = []

-- what the bytes at hand are to the session: a part of a frame, a valid frame, or an invalid one
abbrev pub event_at : Catalog → Heard → (part : List ℕ) → Verdict → Event
event_at catalog heard part (next.Lacking _) = event.Part
event_at catalog heard part next.Complete = event_of (length (rows_of_frame catalog heard.awaits (frame_in part))) (frame_in part)
event_at catalog heard part next.Invalid = event.Invalid (kind_in part) (counted (bytes_before heard))

-- what a piece of the stream leads to, behind the part of the frame at hand
abbrev pub event_after : Catalog → Heard → (piece : List ℕ) → Event
event_after catalog heard piece = event_at catalog heard (heard.part ++ piece) (next.verdict catalog heard.awaits (heard.part ++ piece))
