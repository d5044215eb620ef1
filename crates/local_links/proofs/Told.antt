-- That each move of a session with a host in the process has a line that tells it.
use Rattle.std.proofs.Common.{◌≡◌, ℕ, zero, suc, ◌<◌, ◌≤◌, ◌^◌, Bool, true, false, not, List, [], ◌∷◌, ◌++◌, length, take, drop, codes, decimal, Option, Some, None, refl, sym, ◌∙◌, ap, subst, arith, lit<, length-append}
use Rattle.std.specs.Prelude.{if◌then◌else◌, ◌||◌, ◌&&◌, nat_le, nat_lt, slice_get}
use Rattle.std.specs.List.{list_all, list_any}
use Rattle.std.specs.Int.{to_be_bytes, w16, w32}
use Rattle.std.proofs.Math.Seq.{drop-append_seam}
use Rattle.std.proofs.lemmas.Bool.{le-leb, lt-ltb}
use Rattle.std.proofs.lemmas.Fmt.{length-decimal-le}
use Rattle.std.proofs.lemmas.List.{length-take-le}
use Rattle.hex.specs.Hex.{encode_lower, lower_digits}
use Rattle.hex.proofs.HexLemmas.{length-encode_with}
use Rattle.ghost_model.specs.core.Values.{Database}
use Rattle.ghost_model.specs.core.Channel.{Catalog, Frame, HelloFrame, AskFrame, MoreFrame, ByeFrame, WelcomeFrame, RowsFrame, DoneFrame, SorryFrame, Move, Dial, Listen, Accept, Send, Take, Close, Answer, Made, Piece, Entry, Journal}
use Rattle.ghost_model.specs.forms.Frames.{IsFrame, AreBytes, frame_bytes, frame_kind, frame_version, header_bytes, payload_of, serial_of}
use Rattle.ghost_model.specs.core.Asks.{NumberedAsk, asked_of}
use Rattle.ghost_model.specs.core.Moves.{line, line_end}
use Rattle.ghost_model.specs.core.NextMove.{Awaits, AwaitsCatalog, AwaitsReply, AwaitsNothing, Heard, standing_after, next_with, send_or, take_or_close, is_close, GoesOn, IsFinished}
use Rattle.ghost_model.specs.core.Host.{Holding}
use Rattle.ghost_model.specs.laws.RecordedLaws.{is_byte, is_given, is_told_move, is_told}
use Rattle.ghost_model.proofs.ChannelLemmas.{bytes_drop, bytes_take, payload_bound}
use Rattle.ghost_model.proofs.ChannelLemmas.Tests.{hold_both}
use Rattle.ghost_model.proofs.SessionLemmas.Limits.{append_bytes, high_bytes}
use Rattle.edge_traits.specs.Links.{entry}
use Rattle.session_laws.specs.Serving.{Desk, first_desk, serves_move, ServedFrom}
use Rattle.session_laws.specs.Local.{IsLocal, holding_of, ServedJournalsJoin}
use Rattle.session_laws.proofs.Exchanges.{CanServe, due_is_frame, may_come}
use Rattle.session_laws.proofs.Standing.{Sends, Piecing, moves_at}
use Rattle.session_laws.proofs.Walking.{Walked, walked, hands_on}
use Rattle.session_laws.proofs.Stored.{can_serve}
use Rattle.local_links.proofs.Sessions.{goes_more}

bytes_pass : (bytes : List ℕ) → AreBytes bytes → list_all is_byte bytes ≡ true
bytes_pass [] are = refl
bytes_pass (byte ∷ bytes) are = hold_both (is_byte byte) (list_all is_byte bytes) (lt-ltb byte 256 (are 0)) (bytes_pass bytes (λ i. are (suc i)))

-- a frame is spelled by bytes, no more than a line has room for
kind_is_byte : (frame : Frame) → frame_kind frame < 256
kind_is_byte (HelloFrame _) = lit< tt
kind_is_byte (AskFrame _ _) = lit< tt
kind_is_byte (MoreFrame _) = lit< tt
kind_is_byte ByeFrame = lit< tt
kind_is_byte (WelcomeFrame _ _) = lit< tt
kind_is_byte (RowsFrame _ _) = lit< tt
kind_is_byte (DoneFrame _ _) = lit< tt
kind_is_byte (SorryFrame _ _) = lit< tt

one_more : (byte : ℕ) (bytes : List ℕ) → byte < 256 → AreBytes bytes → AreBytes (byte ∷ bytes)
one_more byte bytes low are zero = low
one_more byte bytes low are (suc i) = are i

frame_is_bytes : (frame : Frame) → IsFrame frame → AreBytes (frame_bytes frame)
frame_is_bytes frame is =
    let size : List ℕ = to_be_bytes w16 (length (payload_of frame)) in
    let serial : List ℕ = to_be_bytes w32 (serial_of frame) in
    let numbers : AreBytes (to_be_bytes w16 (length (payload_of frame)) ++ to_be_bytes w32 (serial_of frame)) =
    append_bytes size serial (high_bytes 2 (length (payload_of frame))) (high_bytes 4 (serial_of frame)) in
    append_bytes (header_bytes (frame_kind frame) (length (payload_of frame)) (serial_of frame)) (payload_of frame)
    (one_more (frame_kind frame) (frame_version ∷ (size ++ serial)) (kind_is_byte frame) (one_more frame_version (size ++ serial) (lit< tt) numbers)) is.bytes

few_bytes : (frame : Frame) → IsFrame frame → length (frame_bytes frame) ≤ 2048
few_bytes frame is =
    let fits = payload_bound frame is in
    omega (arith, fits)

-- the back of a frame
back_is_bytes : (part rest : List ℕ) (frame : Frame) → IsFrame frame → part ++ rest ≡ frame_bytes frame → AreBytes rest
back_is_bytes part rest frame is joined =
    subst AreBytes (ap (drop (length part)) (sym joined) ∙ drop-append_seam part rest) (bytes_drop (length part) (frame_bytes frame) (frame_is_bytes frame is))

back_is_few : (part rest : List ℕ) (frame : Frame) → IsFrame frame → part ++ rest ≡ frame_bytes frame → length rest ≤ 2048
back_is_few part rest frame is joined =
    let few = few_bytes frame is in
    let long = ap length joined in
    let two = length-append part rest in
    omega (arith, few, long, two)

-- each kind of move has its line
told_dial : (answer : Answer) → answer ≡ Made → is_told (entry (Dial []) answer) ≡ true
told_dial answer made = ap (λ (a : Answer). is_told (entry (Dial []) a)) made

told_close : (answer : Answer) → answer ≡ Made → is_told (entry Close answer) ≡ true
told_close answer made = ap (λ (a : Answer). is_told (entry Close a)) made

told_send : (bytes : List ℕ) (answer : Answer) → answer ≡ Made → AreBytes bytes → length bytes ≤ 2048 → is_told (entry (Send bytes) answer) ≡ true
told_send bytes answer made are few =
    let twice = length-encode_with lower_digits bytes in
    let long = length-append (encode_lower bytes) (codes " " ++ (codes "ok" ++ line_end)) in
    ap (λ (a : Answer). is_told (entry (Send bytes) a)) made
    ∙ hold_both (list_all is_byte bytes && true) (nat_le (length (line (entry (Send bytes) Made))) 4201)
    (hold_both (list_all is_byte bytes) true (bytes_pass bytes are) refl) (le-leb (length (line (entry (Send bytes) Made))) 4201 (omega (arith, twice, long, few)))

told_take : (most : ℕ) (answer : Answer) (bytes : List ℕ) → answer ≡ Piece bytes → AreBytes bytes → 0 < length bytes → length bytes ≤ most → most ≤ 2048 → is_told (entry (Take most) answer) ≡ true
told_take most answer bytes given are some within few =
    let twice = length-encode_with lower_digits bytes in
    let small : most < 2 ^ 64 = omega (arith, few) in
    let digits = length-decimal-le 4 most (omega arith) (omega (arith, few)) small in
    let back = length-append (encode_lower bytes) line_end in
    let long = length-append (decimal most) (codes " " ++ (encode_lower bytes ++ line_end)) in
    let made : Entry = entry (Take most) (Piece bytes) in
    ap (λ (a : Answer). is_told (entry (Take most) a)) given
    ∙ hold_both (is_told_move (Take most) (Piece bytes)) (nat_le (length (line (entry (Take most) (Piece bytes)))) 4201)
    (hold_both (nat_lt most (2 ^ 64)) (is_given most (Piece bytes)) (lt-ltb most (2 ^ 64) small)
    (hold_both (nat_lt 0 (length bytes)) (nat_le (length bytes) most && list_all is_byte bytes) (lt-ltb 0 (length bytes) some)
    (hold_both (nat_le (length bytes) most) (list_all is_byte bytes) (le-leb (length bytes) most within) (bytes_pass bytes are))))
    (le-leb (length (line (entry (Take most) (Piece bytes)))) 4201 (omega (arith, twice, digits, back, long, within, few)))

-- the key dials its address alone
same_move : (one other : Move) → Some one ≡ Some other → one ≡ other
same_move one other e = cc

address_of : (to other : List ℕ) → Dial to ≡ Dial other → to ≡ other
address_of to other e = cc

abbrev no_dial : Move → Bool
no_dial (Dial _) = false
no_dial (Listen _) = true
no_dial Accept = true
no_dial (Send _) = true
no_dial (Take _) = true
no_dial Close = true

other_move : (move : Move) (to : List ℕ) → no_dial move ≡ true → Some move ≡ Some (Dial to) → {P : Type 0} → P
other_move move to other e = never (ap no_dial (sym (same_move move (Dial to) e)) ∙ other)
  where
    never : false ≡ true → {P : Type 0} → P
    never e = cc

no_dial_left : (catalog : Catalog) (heard : Heard) (awaits : Awaits) → no_dial (take_or_close catalog heard awaits) ≡ true
no_dial_left catalog heard (AwaitsCatalog bytes) = refl
no_dial_left catalog heard (AwaitsReply asked serial later count last) = refl
no_dial_left catalog heard AwaitsNothing = refl

dials_there : (o c s : Bool) (at to : List ℕ) (f : Option Frame) (rest : Move) → no_dial rest ≡ true
    → (if not o then Some (Dial at) else if c then None else if s then Some Close else Some (send_or rest f)) ≡ Some (Dial to) → at ≡ to
dials_there false c s at to f rest other e = address_of at to (same_move (Dial at) (Dial to) e)
dials_there true true s at to f rest other e = never e
  where
    never : {P : Type 0} → None ≡ Some (Dial to) → P
    never e = cc
dials_there true false true at to f rest other e = other_move Close to refl e
dials_there true false false at to None rest other e = other_move rest to other e
dials_there true false false at to (Some frame) rest other e = other_move (Send (frame_bytes frame)) to refl e

dials_at : (catalog : Catalog) (at : List ℕ) (asks : List NumberedAsk) (gone : Journal) (to : List ℕ) → next_with catalog at asks gone ≡ Some (Dial to) → at ≡ to
dials_at catalog at asks gone to e =
    let l = standing_after catalog asks gone in
    dials_there l.opened l.closed (l.stopped || l.heard.broken) at to (slice_get l.heard.due l.sent) (take_or_close catalog l.heard l.heard.awaits) (no_dial_left catalog l.heard l.heard.awaits) e

module _ (held : Holding) (asks : List NumberedAsk) (can : CanServe held asks) where
  -- each move that the host served
  told_sends : (gone : Journal) (before : Desk) (bytes : List ℕ) (answer : Answer) (much : ℕ) → answer ≡ Made → Sends held [] asks can (standing_after held.catalog asks gone) before.stand before.owed much bytes
      → is_told (entry (Send bytes) answer) ≡ true
  told_sends gone before bytes answer much made s =
      let is : IsFrame s.frame = due_is_frame held asks can (standing_after held.catalog asks gone).heard s.frame before.stand s.what in
      told_send bytes answer made (subst AreBytes (sym s.spelled) (frame_is_bytes s.frame is)) (subst (λ (bs : List ℕ). length bs ≤ 2048) (sym s.spelled) (few_bytes s.frame is))

  told_takes : (gone : Journal) (before : Desk) (most : ℕ) (answer : Answer) (much : ℕ) → (t : Piecing held [] asks can (standing_after held.catalog asks gone) before.stand before.owed much most)
      → answer ≡ Piece (take most t.rest) → 0 < length (take most t.rest) → is_told (entry (Take most) answer) ≡ true
  told_takes gone before most answer much t given some =
      let is : IsFrame t.frame = (may_come held asks can t.h t.frame t.after before.stand t.comes).fits in
      let size : length (take most t.rest) ≡ most = length-take-le most t.rest t.within in
      let few = back_is_few t.part t.rest t.frame is t.joined in
      let within = t.within in
      told_take most answer (take most t.rest) given (bytes_take most t.rest (back_is_bytes t.part t.rest t.frame is t.joined)) some (omega (arith, size)) (omega (arith, few, within))

  told_move : (gone : Journal) (before after : Desk) (move : Move) (answer : Answer) → Walked held [] asks can gone before → next_with held.catalog [] asks gone ≡ Some move → serves_move held before move answer after
      → is_told (entry move answer) ≡ true
  told_move gone before after (Dial to) answer w next served =
      subst (λ (at : List ℕ). is_told (entry (Dial at) answer) ≡ true) (dials_at held.catalog [] asks gone to next) (told_dial answer served.made)
  told_move gone before after (Listen at) answer w next served =
      absurd (moves_at held [] asks can (standing_after held.catalog asks gone) before.stand before.owed (Listen at) w.there next)
  told_move gone before after Accept answer w next served =
      absurd (moves_at held [] asks can (standing_after held.catalog asks gone) before.stand before.owed Accept w.there next)
  told_move gone before after (Send bytes) answer w next served =
      told_sends gone before bytes answer _ served.made (moves_at held [] asks can (standing_after held.catalog asks gone) before.stand before.owed (Send bytes) w.there next)
  told_move gone before after (Take most) answer w next served =
      let t = moves_at held [] asks can (standing_after held.catalog asks gone) before.stand before.owed (Take most) w.there next in
      let on = hands_on held [] asks can gone before _ most t in
      told_takes gone before most answer _ t (served.given ∙ on.given) on.some
  told_move gone before after Close answer w next served = told_close answer served.made

  told_on : ServedJournalsJoin → (gone journal : Journal) (desk last : Desk) → GoesOn held.catalog [] asks [] gone → ServedFrom held first_desk gone desk → GoesOn held.catalog [] asks gone journal → ServedFrom held desk journal last
      → list_all is_told journal ≡ true
  told_on join gone [] desk last past was goes served = refl
  told_on join gone (made ∷ later) desk last past was goes served =
      hold_both (is_told made) (list_all is_told later)
      (told_move gone desk served.0 made.move made.answer (walked held [] asks can gone desk past was) goes.0 served.1)
      (told_on join (gone ++ made ∷ []) later served.0 last (goes_more held.catalog [] asks [] gone made past goes.0) (join held first_desk desk served.0 gone (made ∷ []) was (served.0, served.1, refl)) goes.1 served.2)

pub local_told : ServedJournalsJoin → (catalog : Catalog) (database : Database) (texts : List (List ℕ)) (journal : Journal) → IsLocal catalog database [] texts journal → list_all is_told journal ≡ true
local_told join catalog database texts journal is =
    told_on (holding_of catalog database) (asked_of catalog.schema texts) (can_serve catalog database texts is.setting is.stored) join [] journal first_desk is.desk tt refl is.proper is.served

-- a finished journal is closed
pub finished_closed : (journal : Journal) → IsFinished journal → list_any (λ made. is_close made.move) journal ≡ true
finished_closed [] finished = absurd finished
finished_closed (made ∷ []) finished = ap (λ (move : Move). is_close move || false) finished
finished_closed (made ∷ next ∷ later) finished = either (is_close made.move) (finished_closed (next ∷ later) finished)
  where
    either : (b : Bool) {c : Bool} → c ≡ true → (b || c) ≡ true
    either true e = refl
    either false e = e
