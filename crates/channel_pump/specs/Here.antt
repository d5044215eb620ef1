-- What the pump's own numbers say of a frame: the rules of the place where it stands, which are those of the definitions
-- for what it awaits.
use Rattle.std.specs.Prelude.{◌≡◌, ℕ, ◌+◌, ◌-◌, ◌*◌, ◌<◌, ◌≤◌, Bool, true, false, not, ◌&&◌, ◌==◌, nat_lt, List, [], ◌∷◌, length, if◌then◌else◌}
use Rattle.std.specs.List.{list_any}
use Rattle.ghost_model.specs.core.Channel as channel
use Rattle.ghost_model.specs.forms.Frames.{frame_version, version_in, kind_in, size_in, serial_in, frame_in}
use Rattle.ghost_model.specs.core.Asks.{RowCells}
use Rattle.ghost_model.specs.core.NextMove as next
use Rattle.channel_pump.specs.Forms.{Form}
use Rattle.channel_pump.specs.declared.rows.Tally.{Tally}
use Rattle.channel_pump.specs.declared.judging.Judged.{Judged}
use Rattle.channel_pump.specs.declared.judging.Judged.TheVariants as judged
use Rattle.channel_pump.specs.declared.state.Pump.{Pump}
use Rattle.channel_pump.specs.declared.state.Phase.{Phase}
use Rattle.channel_pump.specs.declared.state.Phase.TheVariants.{Greeting, Reply, Over}
use Rattle.channel_pump.specs.declared.state.Stage.{Stage}
use Rattle.channel_pump.specs.declared.state.Stage.TheVariants.{Dialling, Sending, Taking, Closing, Closed}
use Rattle.channel_pump.specs.Asked.{form_kinds, width_of, rows_with}
use Rattle.channel_pump.specs.Rows.{IsTally}

-- a catalog of nothing: what is awaited of a catalog does not depend on more than its bytes
abbrev pub nothing : channel.Catalog
nothing = record { schema = []; counts = []; generation = 0; version = 1 }

abbrev pub reply_header : List Form → (serial : ℕ) → List ℕ → Bool
reply_header [] serial header = false
reply_header (form ∷ _) serial header =
    version_in header == frame_version && serial_in header == serial
    && next.reply_size_fits (width_of (form_kinds form)) (kind_in header) (size_in header)

-- whether a whole header may stand here
abbrev pub header_at : Phase → Pump → List ℕ → Bool
header_at Greeting p header = next.header_fits nothing (next.AwaitsCatalog p.missing) header
header_at Reply p header = reply_header p.rest p.serial header
header_at Over p header = false

abbrev pub form_fits : Form → (count last : ℕ) → channel.Frame → Bool
form_fits form count last (channel.RowsFrame _ payload) =
    next.rows_fit form.rows last (form_kinds form) (rows_with (form_kinds form) payload)
form_fits form count last (channel.DoneFrame _ total) = total == count
form_fits form count last (channel.SorryFrame _ code) = not (code == 0)
form_fits form count last _ = false

abbrev pub reply_payload : List Form → (count last : ℕ) → channel.Frame → Bool
reply_payload [] count last frame = false
reply_payload (form ∷ _) count last frame = form_fits form count last frame

-- whether a frame whose header may stand here may stand here
abbrev pub payload_at : Phase → Pump → channel.Frame → Bool
payload_at Greeting p frame = next.greeting_fits p.missing frame
payload_at Reply p frame = reply_payload p.rest p.count p.last frame
payload_at Over p frame = false

-- what the bytes at hand amount to
abbrev pub verdict_here : Pump → List ℕ → next.Verdict
verdict_here p part =
    if nat_lt (length part) 8 then next.Lacking (8 - length part)
    else if not (header_at p.phase p part) then next.Invalid
    else if nat_lt (length part) (8 + size_in part) then next.Lacking (8 + size_in part - length part)
    else if payload_at p.phase p (frame_in part) then next.Complete
    else next.Invalid

abbrev pub form_rows : Form → channel.Frame → List RowCells
form_rows form (channel.RowsFrame _ payload) = rows_with (form_kinds form) payload
form_rows form _ = []

abbrev pub reply_rows : List Form → channel.Frame → List RowCells
reply_rows [] frame = []
reply_rows (form ∷ _) frame = form_rows form frame

-- the rows that a frame brings here
abbrev pub rows_at : Phase → Pump → channel.Frame → List RowCells
rows_at Greeting p frame = []
rows_at Reply p frame = reply_rows p.rest frame
rows_at Over p frame = []

-- the number of rows of the table that is asked
abbrev pub table_rows : List Form → ℕ
table_rows [] = 0
table_rows (form ∷ _) = form.rows

abbrev pub IsTallyHere : Pump → List ℕ → Tally → Type 0
IsTallyHere p part tally = IsTally p.last (table_rows p.rest) (rows_at p.phase p (frame_in part)) tally

abbrev pub judged_view : Judged → next.Verdict
judged_view (judged.Short missing) = next.Lacking missing
judged_view (judged.Whole _) = next.Complete
judged_view judged.Invalid = next.Invalid

-- a whole frame that may stand here, with the tally of its rows
pub record Stands (p : Pump) (part : List ℕ) (tally : Tally) : Type 0 where
  pub whole : 8 + size_in part ≤ length part
  pub header : header_at p.phase p part ≡ true
  pub payload : payload_at p.phase p (frame_in part) ≡ true
  pub rows : IsTallyHere p part tally

-- what is missing fits a page, and a whole frame may stand here
abbrev pub IsJudged : Pump → List ℕ → Judged → Type 0
IsJudged p part (judged.Short missing) = (0 < missing) × (length part + missing ≤ 2048)
IsJudged p part (judged.Whole tally) = Stands p part tally
IsJudged p part judged.Invalid = Unit {0}

-- whether an ask of a text is still to be ended
abbrev pub awaits_at : Phase → Pump → (text : ℕ) → Bool
awaits_at Greeting p text = list_any (λ form. form.text == text) p.rest
awaits_at Reply p text = list_any (λ form. form.text == text) p.rest
awaits_at Over p text = false

-- how many frames may come at most for these asks
abbrev pub frames_for : List Form → ℕ
frames_for [] = 0
frames_for (form ∷ later) = form.rows + 1 + frames_for later

abbrev pub frames_of_reply : List Form → (last : ℕ) → ℕ
frames_of_reply [] last = 0
frames_of_reply (form ∷ later) last = (form.rows - last) + 1 + frames_for later

-- how many frames may still come at most
abbrev pub frames_at : Phase → Pump → ℕ
frames_at Greeting p = length p.missing + frames_for p.rest
frames_at Reply p = frames_of_reply p.rest p.last
frames_at Over p = 0

abbrev pub frames_left : Pump → ℕ
frames_left p = frames_at p.phase p

-- how many moves may be made at most before the next frame is whole
abbrev pub moves_at : Stage → (have : ℕ) → ℕ
moves_at Dialling have = 2053
moves_at (Sending _) have = 2052
moves_at Taking have = 2051 - have
moves_at (Closing _) have = 1
moves_at (Closed _) have = 0

-- how many moves the session may still make at most
abbrev pub moves_left : Pump → ℕ
moves_left p = frames_left p * 2053 + moves_at p.stage p.have
