-- The pump's own numbers judge as the definitions do.
use Rattle.std.proofs.Common.{◌≡◌, ℕ, ◌+◌, ◌-◌, Bool, not, ◌&&◌, ◌==◌, nat_lt, List, [], ◌∷◌, length, if◌then◌else◌, refl, ap, ◌∙◌}
use Rattle.ghost_model.specs.core.Schema as schema
use Rattle.ghost_model.specs.core.Channel as channel
use Rattle.ghost_model.specs.core.Channel.{Catalog, count_of}
use Rattle.ghost_model.specs.core.Asks.{NumberedAsk, rows_in}
use Rattle.ghost_model.specs.forms.Frames as frames
use Rattle.ghost_model.specs.core.NextMove as next
use Rattle.ghost_model.specs.core.NextMove.{Awaits, AwaitsCatalog, AwaitsNothing}
use Rattle.channel_pump.specs.Forms.{Form}
use Rattle.channel_pump.specs.declared.state.Pump.{Pump}
use Rattle.channel_pump.specs.declared.state.Phase.{Phase}
use Rattle.channel_pump.specs.declared.state.Phase.TheVariants.{Greeting, Reply, Over}
use Rattle.channel_pump.specs.Asked.{AreAsked, IsAskForm, form_kinds, width_of, rows_with}
use Rattle.channel_pump.specs.Here.{nothing, header_at, reply_header, payload_at, form_fits, reply_payload, verdict_here, rows_at, reply_rows}
use Rattle.channel_pump.specs.State.{IsAwaiting}
use Rattle.channel_pump.specs.Turning.{rows_of_frame}

reply_header_is : (catalog : Catalog) (forms : List Form) (number : ℕ) (asked : NumberedAsk) (serial : ℕ) (later : List NumberedAsk) (count last : ℕ) (header : List ℕ)
    → AreAsked catalog forms (asked ∷ later) → number ≡ serial
    → reply_header forms number header ≡ next.header_fits catalog (next.AwaitsReply asked serial later count last) header
reply_header_is catalog [] number asked serial later count last header h e = absurd h
reply_header_is catalog (form ∷ forms) number asked serial later count last header h e =
    ap (λ (n : ℕ). frames.version_in header == frames.frame_version && frames.serial_in header == n && next.reply_size_fits (width_of (form_kinds form)) (frames.kind_in header) (frames.size_in header)) e
    ∙ ap (λ (kinds : List schema.Kind). frames.version_in header == frames.frame_version && frames.serial_in header == serial && next.reply_size_fits (width_of kinds) (frames.kind_in header) (frames.size_in header)) h.0.kinds

pub header_is : (catalog : Catalog) (p : Pump) (phase : Phase) (awaits : Awaits) (header : List ℕ) → IsAwaiting catalog p phase awaits
    → header_at phase p header ≡ next.header_fits catalog awaits header
header_is catalog p Greeting (AwaitsCatalog bytes) header h = ap (λ (x : List ℕ). next.header_fits nothing (AwaitsCatalog x) header) h
header_is catalog p Greeting (next.AwaitsReply _ _ _ _ _) header h = absurd h
header_is catalog p Greeting AwaitsNothing header h = absurd h
header_is catalog p Reply (AwaitsCatalog bytes) header h = absurd h
header_is catalog p Reply (next.AwaitsReply asked serial later count last) header h =
    reply_header_is catalog p.rest p.serial asked serial later count last header h.asks h.its_serial
header_is catalog p Reply AwaitsNothing header h = absurd h
header_is catalog p Over (AwaitsCatalog bytes) header h = absurd h
header_is catalog p Over (next.AwaitsReply _ _ _ _ _) header h = absurd h
header_is catalog p Over AwaitsNothing header h = refl

pub rows_are : (catalog : Catalog) (form : Form) (asked : NumberedAsk) (payload : List ℕ) → IsAskForm catalog form asked
    → rows_with (form_kinds form) payload ≡ rows_in catalog.schema asked.ask payload
rows_are catalog form asked payload h = ap (λ (kinds : List schema.Kind). rows_with kinds payload) h.kinds

form_fits_is : (catalog : Catalog) (form : Form) (asked : NumberedAsk) (count last : ℕ) (frame : channel.Frame) → IsAskForm catalog form asked
    → form_fits form count last frame ≡ next.reply_fits catalog asked.ask count last frame
form_fits_is catalog form asked count last (channel.RowsFrame _ payload) h =
    ap (λ (n : ℕ). next.rows_fit n last (form_kinds form) (rows_with (form_kinds form) payload)) h.rows
    ∙ ap (λ (kinds : List schema.Kind). next.rows_fit (count_of catalog asked.ask.table) last kinds (rows_with kinds payload)) h.kinds
form_fits_is catalog form asked count last (channel.DoneFrame _ total) h = refl
form_fits_is catalog form asked count last (channel.SorryFrame _ code) h = refl
form_fits_is catalog form asked count last (channel.HelloFrame _) h = refl
form_fits_is catalog form asked count last (channel.AskFrame _ _) h = refl
form_fits_is catalog form asked count last (channel.MoreFrame _) h = refl
form_fits_is catalog form asked count last channel.ByeFrame h = refl
form_fits_is catalog form asked count last (channel.WelcomeFrame _ _) h = refl

reply_payload_is : (catalog : Catalog) (forms : List Form) (came : ℕ) (final : ℕ) (asked : NumberedAsk) (later : List NumberedAsk) (count last : ℕ) (frame : channel.Frame)
    → AreAsked catalog forms (asked ∷ later) → came ≡ count → final ≡ last → reply_payload forms came final frame ≡ next.reply_fits catalog asked.ask count last frame
reply_payload_is catalog [] came final asked later count last frame h c l = absurd h
reply_payload_is catalog (form ∷ forms) came final asked later count last frame h c l =
    ap (λ (n : ℕ). form_fits form n final frame) c ∙ (ap (λ (n : ℕ). form_fits form count n frame) l ∙ form_fits_is catalog form asked count last frame h.0)

pub payload_is : (catalog : Catalog) (p : Pump) (phase : Phase) (awaits : Awaits) (frame : channel.Frame) → IsAwaiting catalog p phase awaits
    → payload_at phase p frame ≡ next.payload_fits catalog awaits frame
payload_is catalog p Greeting (AwaitsCatalog bytes) frame h = ap (λ (x : List ℕ). next.greeting_fits x frame) h
payload_is catalog p Greeting (next.AwaitsReply _ _ _ _ _) frame h = absurd h
payload_is catalog p Greeting AwaitsNothing frame h = absurd h
payload_is catalog p Reply (AwaitsCatalog bytes) frame h = absurd h
payload_is catalog p Reply (next.AwaitsReply asked serial later count last) frame h =
    reply_payload_is catalog p.rest p.count p.last asked later count last frame h.asks h.its_count h.its_last
payload_is catalog p Reply AwaitsNothing frame h = absurd h
payload_is catalog p Over (AwaitsCatalog bytes) frame h = absurd h
payload_is catalog p Over (next.AwaitsReply _ _ _ _ _) frame h = absurd h
payload_is catalog p Over AwaitsNothing frame h = refl

-- the verdict is that of the definitions
pub verdict_is : (catalog : Catalog) (p : Pump) (awaits : Awaits) (part : List ℕ) → IsAwaiting catalog p p.phase awaits
    → verdict_here p part ≡ next.verdict catalog awaits part
verdict_is catalog p awaits part h =
    ap (λ (b : Bool). if nat_lt (length part) 8 then next.Lacking (8 - length part) else if not b then next.Invalid
    else if nat_lt (length part) (8 + frames.size_in part) then next.Lacking (8 + frames.size_in part - length part)
    else if payload_at p.phase p (frames.frame_in part) then next.Complete else next.Invalid) (header_is catalog p p.phase awaits part h)
    ∙ ap (λ (b : Bool). if nat_lt (length part) 8 then next.Lacking (8 - length part) else if not (next.header_fits catalog awaits part) then next.Invalid
    else if nat_lt (length part) (8 + frames.size_in part) then next.Lacking (8 + frames.size_in part - length part)
    else if b then next.Complete else next.Invalid) (payload_is catalog p p.phase awaits (frames.frame_in part) h)

reply_rows_are : (catalog : Catalog) (forms : List Form) (asked : NumberedAsk) (serial : ℕ) (later : List NumberedAsk) (count last : ℕ) (frame : channel.Frame)
    → AreAsked catalog forms (asked ∷ later) → reply_rows forms frame ≡ rows_of_frame catalog (next.AwaitsReply asked serial later count last) frame
reply_rows_are catalog [] asked serial later count last frame h = absurd h
reply_rows_are catalog (form ∷ forms) asked serial later count last (channel.RowsFrame _ payload) h = rows_are catalog form asked payload h.0
reply_rows_are catalog (form ∷ forms) asked serial later count last (channel.DoneFrame _ _) h = refl
reply_rows_are catalog (form ∷ forms) asked serial later count last (channel.SorryFrame _ _) h = refl
reply_rows_are catalog (form ∷ forms) asked serial later count last (channel.HelloFrame _) h = refl
reply_rows_are catalog (form ∷ forms) asked serial later count last (channel.AskFrame _ _) h = refl
reply_rows_are catalog (form ∷ forms) asked serial later count last (channel.MoreFrame _) h = refl
reply_rows_are catalog (form ∷ forms) asked serial later count last channel.ByeFrame h = refl
reply_rows_are catalog (form ∷ forms) asked serial later count last (channel.WelcomeFrame _ _) h = refl

pub rows_at_are : (catalog : Catalog) (p : Pump) (phase : Phase) (awaits : Awaits) (frame : channel.Frame) → IsAwaiting catalog p phase awaits
    → rows_at phase p frame ≡ rows_of_frame catalog awaits frame
rows_at_are catalog p Greeting (AwaitsCatalog bytes) frame h = refl
rows_at_are catalog p Greeting (next.AwaitsReply _ _ _ _ _) frame h = absurd h
rows_at_are catalog p Greeting AwaitsNothing frame h = absurd h
rows_at_are catalog p Reply (AwaitsCatalog bytes) frame h = absurd h
rows_at_are catalog p Reply (next.AwaitsReply asked serial later count last) frame h = reply_rows_are catalog p.rest asked serial later count last frame h.asks
rows_at_are catalog p Reply AwaitsNothing frame h = absurd h
rows_at_are catalog p Over (AwaitsCatalog bytes) frame h = absurd h
rows_at_are catalog p Over (next.AwaitsReply _ _ _ _ _) frame h = absurd h
rows_at_are catalog p Over AwaitsNothing frame h = refl
