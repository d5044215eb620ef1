-- That a line of the journal has room for each move of a key.
use Rattle.std.proofs.Common.{◌≡◌, ◌≤◌, ◌+◌, ◌-◌, ℕ, true, false, not, Bool, List, [], ◌∷◌, ◌++◌, length, map, Option, Some, None, refl, sym, ◌∙◌, ap, subst, arith}
use Rattle.std.specs.Prelude.{if◌then◌else◌, ◌||◌, ◌&&◌, ◌==◌, ◌%◌, nat_le, nat_lt, slice_get}
use Rattle.std.specs.List.{list_all}
use Rattle.std.proofs.lemmas.Bool.{le-leb, leb-true}
use Rattle.std.proofs.lemmas.Bool.Decides.{nat_tests}
use Rattle.std.proofs.lemmas.List.Folds.{list_all-append}
use Rattle.ghost_model.specs.core.Channel.{Catalog, Frame, Move, Dial, Listen, Accept, Send, Take, Close, Journal}
use Rattle.ghost_model.specs.forms.Frames.{IsFrame, frame_bytes, frame_kind, payload_of, kind_in, serial_in, size_in, version_in, frame_version}
use Rattle.ghost_model.specs.core.Asks.{NumberedAsk, asked_of, row_width}
use Rattle.ghost_model.specs.core.Moves.{sent, sent_by, piece_of}
use Rattle.ghost_model.specs.forms.Catalog.{canonical_text}
use Rattle.ghost_model.specs.core.NextMove.{Awaits, AwaitsCatalog, AwaitsReply, AwaitsNothing, Lacking, Complete, Invalid, verdict, bytes_missing, header_fits, Heard, Standing, standing_after, move_from, send_or, take_or_close, GoesOn, IsProper}
use Rattle.ghost_model.specs.laws.ChannelLaws.{IsDue}
use Rattle.ghost_model.specs.core.Honest.{IsSetting}
use Rattle.ghost_model.proofs.ChannelLemmas.Tests.{both_hold, hold_both}
use Rattle.ghost_model.proofs.SessionLemmas.Settings.{serials_fit}
use Rattle.ghost_model.proofs.ChannelLemmas.Sending.{sent_is_due}
use Rattle.ghost_model.proofs.SessionLemmas.Limits.{IsSmall, schema_is_small}
use Rattle.ghost_model.proofs.SessionLemmas.SentFrames.{AreFrames, sent_are_frames, asks_are_good}
use Rattle.local_links.specs.Keeping.{bytes_of, is_short, is_within, asks_for}

-- the length of what is sent
abbrev few : List ℕ → Bool
few bytes = nat_le (length bytes) 2048

size_fits : (kind size : ℕ) → (if kind == 1 || kind == 19 then size == 4 else if kind == 3 || kind == 4 then size == 0 else if kind == 20 then size == 1 else if kind == 17 then nat_le 2 size && nat_le size 2040
    else if kind == 2 then nat_le 3 size && nat_le size 2040 else if kind == 18 then nat_le 4 size && nat_le size 2040 else false) ≡ true → size ≤ 2040
size_fits kind size e = grind (arith, nat_tests)

frame_is_few : (frame : Frame) → IsFrame frame → few (frame_bytes frame) ≡ true
frame_is_few frame is =
    let fits = size_fits (frame_kind frame) (length (payload_of frame)) is.size in
    le-leb (length (frame_bytes frame)) 2048 (omega (arith, fits))

frames_are_few : (frames : List Frame) → AreFrames frames → list_all few (map frame_bytes frames) ≡ true
frames_are_few [] are = refl
frames_are_few (frame ∷ frames) are = hold_both (few (frame_bytes frame)) (list_all few (map frame_bytes frames)) (frame_is_few frame are.0) (frames_are_few frames are.1)

sends_few : (move : Move) → list_all few (sent_by move) ≡ true → length (bytes_of move) ≤ 2048
sends_few (Dial _) e = omega arith
sends_few (Listen _) e = omega arith
sends_few Accept e = omega arith
sends_few (Send bytes) e = leb-true (length bytes) 2048 (both_hold (few bytes) true e).one
sends_few (Take _) e = omega arith
sends_few Close e = omega arith

-- a header or payload lacks no more bytes than a payload has
greeting_size : (version kind serial size missing : ℕ) → (version == frame_version && kind == 17 && serial == 0 && nat_le 2 size && nat_le size 2040 && nat_le size (missing + 1)) ≡ true → size ≤ 2040
greeting_size version kind serial size missing e = grind (arith, nat_tests)

reply_size : (version serial number kind size : ℕ) (divides : Bool) → (version == frame_version && serial == number && (if kind == 18 then nat_lt 0 size && divides && nat_le size 2040 else if kind == 19 then size == 4 else kind == 20 && size == 1)) ≡ true → size ≤ 2040
reply_size version serial number kind size divides e = grind (arith, nat_tests)

header_size : (catalog : Catalog) (awaits : Awaits) (part : List ℕ) → header_fits catalog awaits part ≡ true → size_in part ≤ 2040
header_size catalog (AwaitsCatalog bytes) part e = greeting_size (version_in part) (kind_in part) (serial_in part) (size_in part) (length bytes) e
header_size catalog (AwaitsReply asked serial later count last) part e =
    reply_size (version_in part) (serial_in part) serial (kind_in part) (size_in part) (size_in part % row_width catalog.schema asked.ask == 0) e
header_size catalog AwaitsNothing part e = never e
  where
    never : {P : Type 0} → false ≡ true → P
    never e = cc

lacks_few : (short fits shorter whole : Bool) (have size : ℕ) → (fits ≡ true → size ≤ 2040) → (short ≡ false → 8 ≤ have)
    → bytes_missing (if short then Lacking (8 - have) else if not fits then Invalid else if shorter then Lacking (8 + size - have) else if whole then Complete else Invalid) ≤ 2040
lacks_few true fits shorter whole have size small long = omega arith
lacks_few false false shorter whole have size small long = omega arith
lacks_few false true true whole have size small long =
    let a = small refl in
    let b = long refl in
    omega (arith, a, b)
lacks_few false true false true have size small long = omega arith
lacks_few false true false false have size small long = omega arith

long_enough : (have : ℕ) → nat_lt have 8 ≡ false → 8 ≤ have
long_enough have e = grind (arith, nat_tests)

verdict_lacks : (catalog : Catalog) (awaits : Awaits) (part : List ℕ) → bytes_missing (verdict catalog awaits part) ≤ 2040
verdict_lacks catalog awaits part =
    lacks_few (nat_lt (length part) 8) (header_fits catalog awaits part) (nat_lt (length part) (8 + size_in part)) _ (length part) (size_in part) (header_size catalog awaits part) (long_enough (length part))

rest_asks : (catalog : Catalog) (heard : Heard) (awaits : Awaits) → asks_for (take_or_close catalog heard awaits) ≤ 2040
rest_asks catalog heard (AwaitsCatalog bytes) = verdict_lacks catalog heard.awaits heard.part
rest_asks catalog heard (AwaitsReply asked serial later count last) = verdict_lacks catalog heard.awaits heard.part
rest_asks catalog heard AwaitsNothing = omega arith

one_move : (first second : Move) → Some first ≡ Some second → first ≡ second
one_move first second e = cc

moves_ask : (o c s : Bool) (at : List ℕ) (f : Option Frame) (rest move : Move) → asks_for rest ≤ 2040
    → (if not o then Some (Dial at) else if c then None else if s then Some Close else Some (send_or rest f)) ≡ Some move → asks_for move ≤ 2040
moves_ask false c s at f rest move small e = subst (λ (m : Move). asks_for m ≤ 2040) (one_move (Dial at) move e) (omega arith)
moves_ask true true s at f rest move small e = never e
  where
    never : {P : Type 0} → None ≡ Some move → P
    never e = cc
moves_ask true false true at f rest move small e = subst (λ (m : Move). asks_for m ≤ 2040) (one_move Close move e) (omega arith)
moves_ask true false false at None rest move small e = subst (λ (m : Move). asks_for m ≤ 2040) (one_move rest move e) small
moves_ask true false false at (Some frame) rest move small e = subst (λ (m : Move). asks_for m ≤ 2040) (one_move (send_or rest (Some frame)) move e) (omega arith)

next_asks : (catalog : Catalog) (at : List ℕ) (l : Standing) (move : Move) → move_from catalog at l ≡ Some move → asks_for move ≤ 2040
next_asks catalog at l move e =
    moves_ask l.opened l.closed (l.stopped || l.heard.broken) at (slice_get l.heard.due l.sent) (take_or_close catalog l.heard l.heard.awaits) move (rest_asks catalog l.heard l.heard.awaits) e

both_few : (move : Move) → length (bytes_of move) ≤ 2048 → asks_for move ≤ 2040 → length (bytes_of move) + asks_for move ≤ 2048
both_few (Dial _) sends asks = omega arith
both_few (Listen _) sends asks = omega arith
both_few Accept sends asks = omega arith
both_few (Send bytes) sends asks = omega (arith, sends)
both_few (Take most) sends asks = omega (arith, asks)
both_few Close sends asks = omega arith

-- each of the moves
short_on : (catalog : Catalog) (at : List ℕ) (asks : List NumberedAsk) (gone journal : Journal) → GoesOn catalog at asks gone journal → list_all few (sent journal) ≡ true → list_all is_within journal ≡ true
    → list_all is_short journal ≡ true
short_on catalog at asks gone [] goes sends within = refl
short_on catalog at asks gone (made ∷ later) goes sends within =
    let both = both_hold (list_all few (sent_by made.move)) (list_all few (sent later)) (sym (list_all-append few (sent_by made.move) (sent later)) ∙ sends) in
    let inside = both_hold (is_within made) (list_all is_within later) within in
    let room = both_few made.move (sends_few made.move both.one) (next_asks catalog at (standing_after catalog asks gone) made.move goes.0) in
    let piece = leb-true (length (piece_of made.answer)) (asks_for made.move) inside.one in
    hold_both (is_short made) (list_all is_short later) (le-leb (length (bytes_of made.move) + length (piece_of made.answer)) 2048 (omega (arith, room, piece)))
    (short_on catalog at asks (gone ++ made ∷ []) later goes.1 both.other inside.other)

pub proper_short : (catalog : Catalog) (at : List ℕ) (texts : List (List ℕ)) (journal : Journal) → IsSetting catalog texts → IsProper catalog at texts journal → list_all is_within journal ≡ true
    → list_all is_short journal ≡ true
proper_short catalog at texts journal setting proper within =
    let small : IsSmall catalog.schema = schema_is_small (canonical_text catalog.schema) catalog.schema setting.proper.meant in
    let asks : List NumberedAsk = asked_of catalog.schema texts in
    let due : IsDue catalog asks journal = sent_is_due catalog at asks journal proper in
    let frames = sent_are_frames catalog small asks (asks_are_good catalog.schema texts) (serials_fit catalog texts setting) journal setting.proper.generation_fits due in
    short_on catalog at asks [] journal proper (ap (list_all few) due.sent_are ∙ frames_are_few due.frames frames) within
