-- Where a session with a host in the process stands: what the next move is, and what each move leads to.
use Rattle.std.proofs.Common.{◌≡◌, ℕ, ◌+◌, ◌-◌, ◌*◌, ◌<◌, ◌≤◌, Bool, true, false, ◌||◌, List, [], ◌∷◌, ◌++◌, length, sym, ◌∙◌, ap, subst, refl, arith, append-nil, append_assoc, length-append, Option, Some, None, slice_get}
use Rattle.std.specs.Prelude.{flat_map, if◌then◌else◌, not, nat_lt}
use Rattle.std.proofs.lemmas.Bool.{ltb-true}
use Rattle.std.proofs.lemmas.Grind.{flat_map-append}
use Rattle.std.specs.List.{list_any}
use Rattle.ghost_model.specs.core.Schema.{is_empty}
use Rattle.ghost_model.specs.core.Channel.{Catalog, Frame, HelloFrame, Move, Dial, Listen, Accept, Send, Take, Close, Made, Piece, Entry, Journal}
use Rattle.ghost_model.specs.forms.Frames.{frame_bytes, frame_in, size_in}
use Rattle.ghost_model.specs.core.Moves.{taken, sent, sent_by, piece_of}
use Rattle.ghost_model.specs.core.Asks.{NumberedAsk}
use Rattle.ghost_model.specs.core.NextMove as next
use Rattle.ghost_model.specs.core.NextMove.{Awaits, Verdict, Heard, Standing, standing_after, verdict, heard_as, heard_frame, hear_all, bytes_missing, move_from, take_or_close, send_or, is_close, is_stop}
use Rattle.ghost_model.specs.laws.ChannelLaws.{IsAwaited}
use Rattle.ghost_model.specs.core.Lines.{was_refused}
use Rattle.ghost_model.specs.core.Host.{Holding, Stand, Response, answer_to}
use Rattle.ghost_model.specs.core.Host as host
use Rattle.ghost_model.proofs.ChannelLemmas.{payload_bound}
use Rattle.ghost_model.proofs.ChannelLemmas.Hearing.{lacking, heard_on}
use Rattle.ghost_model.proofs.ChannelLemmas.Sending.{heard_more}
use Rattle.session_laws.proofs.Exchanges.{CanServe, Due, Comes, Finished, Next, over, exchange, answered_due, may_come, heeds, frames_left, fewer_left, Turned, calls, more_comes, says_hello, says_ask, says_more, says_bye, welcome, some_rows, done}

-- what was heard, with this part of the frame at hand
abbrev pub whole : Heard → List ℕ → Heard
whole h part = record { awaits = h.awaits; part = part; frames = h.frames; due = h.due; rows = h.rows; ended = h.ended; broken = false }

whole_self : (h : Heard) → h.part ≡ [] → h.broken ≡ false → h ≡ whole h []
whole_self h p b =
    ap (λ (x : List ℕ). record h { part = x }) p ∙ ap (λ (x : Bool). record h { part = []; broken = x }) b

module _ (catalog : Catalog) (asks : List NumberedAsk) (frame : Frame) where
  -- a part of a frame that may come
  heard_part : (h : Heard) (part piece : List ℕ) (byte : ℕ) (more : List ℕ) → IsAwaited catalog h.awaits frame → part ++ (piece ++ byte ∷ more) ≡ frame_bytes frame → hear_all catalog asks (whole h part) piece ≡ whole h (part ++ piece)
  unfolding hear_all
  heard_part h part [] byte more can e = ap (λ (p : List ℕ). whole h p) (sym (append-nil part))
  heard_part h part (x ∷ []) byte more can e =
      let joined : (part ++ x ∷ []) ++ byte ∷ more ≡ frame_bytes frame = append_assoc part (x ∷ []) (byte ∷ more) ∙ e in
      let short = lacking catalog h.awaits frame can (part ++ x ∷ []) byte more joined in
      ap (λ (v : Verdict). heard_as catalog asks (whole h part) (part ++ x ∷ []) v) short.1
  heard_part h part (x ∷ y ∷ piece) byte more can e =
      let joined : (part ++ x ∷ []) ++ y ∷ (piece ++ byte ∷ more) ≡ frame_bytes frame = append_assoc part (x ∷ []) (y ∷ (piece ++ byte ∷ more)) ∙ e in
      let short = lacking catalog h.awaits frame can (part ++ x ∷ []) y (piece ++ byte ∷ more) joined in
      ap (λ (v : Verdict). hear_all catalog asks (heard_as catalog asks (whole h part) (part ++ x ∷ []) v) (y ∷ piece)) short.1
      ∙ (heard_part h (part ++ x ∷ []) (y ∷ piece) byte more can joined
      ∙ ap (λ (p : List ℕ). whole h p) (append_assoc part (x ∷ []) (y ∷ piece)))

-- what a journal has led to after one more entry
abbrev pub goes : Catalog → List NumberedAsk → Standing → Entry → Standing
goes catalog asks l entry = record {
  opened = true;
  closed = l.closed || is_close entry.move;
  stopped = l.stopped || is_stop entry.answer;
  sent = l.sent + length (sent_by entry.move);
  heard = hear_all catalog asks l.heard (piece_of entry.answer);
}

not_empty : (before : Journal) (entry : Entry) → not (is_empty (before ++ entry ∷ [])) ≡ true
not_empty [] entry = refl
not_empty (_ ∷ before) entry = refl

pub any_more : {X : Type 0} (p : X → Bool) (before : List X) (entry : X) → list_any p (before ++ entry ∷ []) ≡ (list_any p before || p entry)
any_more p [] entry = or_false (p entry)
  where
    or_false : (b : Bool) → (b || false) ≡ b
    or_false true = refl
    or_false false = refl
any_more p (e ∷ before) entry = ap (λ (b : Bool). p e || b) (any_more p before entry) ∙ or_again (p e) (list_any p before) (p entry)
  where
    or_again : (a b c : Bool) → (a || (b || c)) ≡ (a || b || c)
    or_again true b c = refl
    or_again false b c = refl

pub taken_more : (before : Journal) (entry : Entry) → taken (before ++ entry ∷ []) ≡ taken before ++ piece_of entry.answer
taken_more before entry = flat_map-append (λ (e : Entry). piece_of e.answer) before (entry ∷ []) ∙ ap (λ (bs : List ℕ). taken before ++ bs) (append-nil (piece_of entry.answer))

pub sent_more : (before : Journal) (entry : Entry) → sent (before ++ entry ∷ []) ≡ sent before ++ sent_by entry.move
sent_more before entry = flat_map-append (λ (e : Entry). sent_by e.move) before (entry ∷ []) ∙ ap (λ (bs : List (List ℕ)). sent before ++ bs) (append-nil (sent_by entry.move))

abbrev left_of : (opened closed stopped : Bool) → ℕ → Heard → Standing
left_of opened closed stopped sent heard = record { opened = opened; closed = closed; stopped = stopped; sent = sent; heard = heard }

five : (a b : Bool) (c d : Bool) (e f : Bool) (m n : ℕ) (g h : Heard) → a ≡ b → c ≡ d → e ≡ f → m ≡ n → g ≡ h → left_of a c e m g ≡ left_of b d f n h
five a b c d e f m n g h p q r s t = cc

pub left_more : (catalog : Catalog) (asks : List NumberedAsk) (before : Journal) (entry : Entry) → standing_after catalog asks (before ++ entry ∷ []) ≡ goes catalog asks (standing_after catalog asks before) entry
left_more catalog asks before entry =
    five _ true _ _ _ _ _ _ _ _
    (not_empty before entry)
    (any_more (λ (e : Entry). is_close e.move) before entry)
    (any_more (λ (e : Entry). is_stop e.answer) before entry)
    (ap length (sent_more before entry) ∙ length-append (sent before) (sent_by entry.move))
    (ap (λ (bs : List ℕ). next.heard catalog asks bs) (taken_more before entry) ∙ heard_more catalog [] asks (next.at_first catalog) (taken before) (piece_of entry.answer))

-- a part of a frame lacks some bytes
lacks_some : (short header part payload : Bool) (m n k : ℕ) → (short ≡ true → 0 < m) → (part ≡ true → 0 < n)
    → (if short then next.Lacking m else if not header then next.Invalid else if part then next.Lacking n else if payload then next.Complete else next.Invalid) ≡ next.Lacking k → 0 < k
lacks_some true header part payload m n k p q e = subst (λ (x : ℕ). 0 < x) (same_short m k e) (p refl)
  where
    same_short : (a b : ℕ) → next.Lacking a ≡ next.Lacking b → a ≡ b
    same_short a b e = cc
lacks_some false false part payload m n k p q e = let bad : ⊥ = cc in absurd bad
lacks_some false true true payload m n k p q e = subst (λ (x : ℕ). 0 < x) (same_short n k e) (q refl)
  where
    same_short : (a b : ℕ) → next.Lacking a ≡ next.Lacking b → a ≡ b
    same_short a b e = cc
lacks_some false true false true m n k p q e = let bad : ⊥ = cc in absurd bad
lacks_some false true false false m n k p q e = let bad : ⊥ = cc in absurd bad

short_is_some : (catalog : Catalog) (awaits : Awaits) (part : List ℕ) (missing : ℕ) → verdict catalog awaits part ≡ next.Lacking missing → 0 < missing
short_is_some catalog awaits part missing e =
    lacks_some (nat_lt (length part) 8) (next.header_fits catalog awaits part) (nat_lt (length part) (8 + size_in part)) (next.payload_fits catalog awaits (frame_in part))
    (8 - length part) (8 + size_in part - length part) missing
    (λ t. (let less = ltb-true (length part) 8 t in omega (arith, less))) (λ t. (let less = ltb-true (length part) (8 + size_in part) t in omega (arith, less))) e

-- nothing has ended the session
pub record Quiet (l : Standing) : Type 0 where
  pub closed : l.closed ≡ false
  pub stopped : l.stopped ≡ false
  pub valid : l.heard.broken ≡ false

or_false : (b : Bool) → (b || false) ≡ b
or_false true = refl
or_false false = refl

or_true : (b : Bool) → (b || true) ≡ true
or_true true = refl
or_true false = refl

get_last : (before : List Frame) (frame : Frame) → slice_get (before ++ frame ∷ []) (length before) ≡ Some frame
get_last [] frame = refl
get_last (_ ∷ before) frame = get_last before frame

none_there : (frames : List Frame) → slice_get frames (length frames) ≡ None
none_there [] = refl
none_there (_ ∷ frames) = none_there frames

all_sent : (frames before : List Frame) (frame : Frame) (number : ℕ) → frames ≡ before ++ frame ∷ [] → length before ≡ number → length frames ≡ number + 1
all_sent frames before frame number is count = ap length is ∙ (length-append before (frame ∷ []) ∙ ap (λ (n : ℕ). n + 1) count)

bytes_there : (frame : Frame) → 0 < length (frame_bytes frame)
bytes_there frame = omega arith

-- the next move, by the tests of which it is made
abbrev chosen : (address : List ℕ) (opened shut stopped broken : Bool) → Move → Option Frame → Option Move
chosen address opened shut stopped broken rest o =
    if not opened then Some (Dial address)
    else if shut then None
    else if stopped || broken then Some Close
    else Some (send_or rest o)

open_is : (address : List ℕ) (shut stopped broken : Bool) (rest : Move) (o : Option Frame) → shut ≡ false → stopped ≡ false → broken ≡ false → chosen address true shut stopped broken rest o ≡ Some (send_or rest o)
open_is address shut stopped broken rest o c s b = rw (c, s, b)

shut_is : (address : List ℕ) (shut stopped broken : Bool) (rest : Move) (o : Option Frame) → shut ≡ true → chosen address true shut stopped broken rest o ≡ None
shut_is address shut stopped broken rest o c = rw c

same_some : (o : Option Move) (m n : Move) → o ≡ Some m → o ≡ Some n → n ≡ m
same_some o m n e f = cc

none_is_not : (o : Option Move) (move : Move) → o ≡ None → o ≡ Some move → ⊥
none_is_not o move e f = cc

-- nothing comes after Close
pub next_closed : (catalog : Catalog) (address : List ℕ) (l : Standing) → l.opened ≡ true → l.closed ≡ true → move_from catalog address l ≡ None
next_closed catalog address l o c =
    ap (λ (x : Bool). chosen address x l.closed l.stopped l.heard.broken (take_or_close catalog l.heard l.heard.awaits) (slice_get l.heard.due l.sent)) o
    ∙ shut_is address l.closed l.stopped l.heard.broken (take_or_close catalog l.heard l.heard.awaits) (slice_get l.heard.due l.sent) c

module _ (held : Holding) (address : List ℕ) (asks : List NumberedAsk) (can : CanServe held asks) where
  -- where a session stands: a frame is due, a frame is being taken and others were said after it, the close is next, or
  -- it is closed
  pub data At (l : Standing) (stand : Stand) (owed : List ℕ) : Type 0 where
    sending : (frame : Frame) (before : List Frame) → Quiet l → l.heard.part ≡ [] → l.heard.due ≡ before ++ frame ∷ [] → length before ≡ l.sent → owed ≡ [] → Due held asks can l.heard frame stand → At l stand owed
    taking : (h : Heard) (frame : Frame) (after : List Frame) (part rest : List ℕ) → l.opened ≡ true → l.closed ≡ false → l.stopped ≡ false → l.heard ≡ whole h part → length h.due ≡ l.sent
        → part ++ rest ≡ frame_bytes frame → owed ≡ rest ++ flat_map frame_bytes after → 0 < length rest → Comes held asks can h frame after stand → At l stand owed
    ending : l.opened ≡ true → Quiet l → length l.heard.due ≡ l.sent → owed ≡ [] → Finished held asks can l.heard → At l stand owed
    closed : l.opened ≡ true → l.closed ≡ true → l.stopped ≡ false → l.heard.broken ≡ false → Finished held asks can l.heard → At l stand owed

  -- how much is still to be done: a frame that is to come counts for more than its bytes
  abbrev pub rank : (l : Standing) (stand : Stand) (owed : List ℕ) → At l stand owed → ℕ
  rank l stand owed (sending _ _ _ _ _ _ _ _) = frames_left held asks can l.heard.awaits * 8192 + (if l.opened then 4000 else 4001)
  rank l stand owed (taking h _ _ _ rest _ _ _ _ _ _ _ _ _) = frames_left held asks can h.awaits * 8192 + length rest
  rank l stand owed (ending _ _ _ _ _) = 1
  rank l stand owed (closed _ _ _ _ _) = 0

  -- a session stands there, and less is to be done than so much
  pub record Lower (l : Standing) (stand : Stand) (owed : List ℕ) (much : ℕ) : Type 0 where
    pub there : At l stand owed
    pub less : rank l stand owed there < much

  -- nothing stopped the session, and no invalid frame came
  pub not_stopped : (l : Standing) (stand : Stand) (owed : List ℕ) → At l stand owed → l.stopped ≡ false
  not_stopped l stand owed (sending _ _ quiet _ _ _ _ _) = quiet.stopped
  not_stopped l stand owed (taking _ _ _ _ _ _ _ s _ _ _ _ _ _) = s
  not_stopped l stand owed (ending _ quiet _ _ _) = quiet.stopped
  not_stopped l stand owed (closed _ _ s _ _) = s

  pub not_broken : (l : Standing) (stand : Stand) (owed : List ℕ) → At l stand owed → l.heard.broken ≡ false
  not_broken l stand owed (sending _ _ quiet _ _ _ _ _) = quiet.valid
  not_broken l stand owed (taking _ _ _ _ _ _ _ _ is _ _ _ _ _) = ap (λ (x : Heard). x.broken) is
  not_broken l stand owed (ending _ quiet _ _ _) = quiet.valid
  not_broken l stand owed (closed _ _ _ b _) = b

  -- the host refused no ask
  due_none_refused : (h : Heard) (frame : Frame) (stand : Stand) → Due held asks can h frame stand → was_refused h.ended ≡ false
  due_none_refused h frame stand (says_hello greeted _ _) = greeted.none_refused
  due_none_refused h frame stand (says_ask _ _ going _ _ _) = going.none_refused
  due_none_refused h frame stand (says_more _ _ _ _ going _ _) = going.none_refused
  due_none_refused h frame stand (says_bye _ finished _ _) = finished.none_refused

  comes_none_refused : (h : Heard) (frame : Frame) (after : List Frame) (stand : Stand) → Comes held asks can h frame after stand → was_refused h.ended ≡ false
  comes_none_refused h frame after stand (welcome _ _ greeted _ _ _ _) = greeted.none_refused
  comes_none_refused h frame after stand (some_rows _ _ _ _ _ going _ _ _) = going.none_refused
  comes_none_refused h frame after stand (done _ _ _ going _ _ _) = going.none_refused

  pub none_refused : (l : Standing) (stand : Stand) (owed : List ℕ) → At l stand owed → was_refused l.heard.ended ≡ false
  none_refused l stand owed (sending frame _ _ _ _ _ _ what) = due_none_refused l.heard frame stand what
  none_refused l stand owed (taking h frame after _ _ _ _ _ is _ _ _ _ comes) = ap (λ (x : Heard). was_refused x.ended) is ∙ comes_none_refused h frame after stand comes
  none_refused l stand owed (ending _ _ _ _ finished) = finished.none_refused
  none_refused l stand owed (closed _ _ _ _ finished) = finished.none_refused

  -- a frame is due: it is sent, or the dial comes first
  due_next : (l : Standing) (frame : Frame) (before : List Frame) → Quiet l → l.heard.due ≡ before ++ frame ∷ [] → length before ≡ l.sent → (b : Bool) → l.opened ≡ b → move_from held.catalog address l ≡ Some (if b then Send (frame_bytes frame) else Dial address)
  due_next l frame before quiet is count true e =
      let there : slice_get l.heard.due l.sent ≡ Some frame = ap (λ (fs : List Frame). slice_get fs l.sent) is ∙ (ap (slice_get (before ++ frame ∷ [])) (sym count) ∙ get_last before frame) in
      ap (λ (o : Bool). chosen address o l.closed l.stopped l.heard.broken (take_or_close held.catalog l.heard l.heard.awaits) (slice_get l.heard.due l.sent)) e
      ∙ (open_is address l.closed l.stopped l.heard.broken (take_or_close held.catalog l.heard l.heard.awaits) (slice_get l.heard.due l.sent) quiet.closed quiet.stopped quiet.valid
      ∙ ap (λ (o : Option Frame). Some (send_or (take_or_close held.catalog l.heard l.heard.awaits) o)) there)
  due_next l frame before quiet is count false e =
      ap (λ (o : Bool). chosen address o l.closed l.stopped l.heard.broken (take_or_close held.catalog l.heard l.heard.awaits) (slice_get l.heard.due l.sent)) e

  -- all that was due was sent
  rest_next : (l : Standing) → l.opened ≡ true → l.closed ≡ false → l.stopped ≡ false → l.heard.broken ≡ false → length l.heard.due ≡ l.sent → move_from held.catalog address l ≡ Some (take_or_close held.catalog l.heard l.heard.awaits)
  rest_next l o c s b count =
      let none : slice_get l.heard.due l.sent ≡ None = ap (slice_get l.heard.due) (sym count) ∙ none_there l.heard.due in
      ap (λ (x : Bool). chosen address x l.closed l.stopped l.heard.broken (take_or_close held.catalog l.heard l.heard.awaits) (slice_get l.heard.due l.sent)) o
      ∙ (open_is address l.closed l.stopped l.heard.broken (take_or_close held.catalog l.heard l.heard.awaits) (slice_get l.heard.due l.sent) c s b
      ∙ ap (λ (x : Option Frame). Some (send_or (take_or_close held.catalog l.heard l.heard.awaits) x)) none)

  -- what is awaited of a frame that comes is bytes
  comes_take : (h : Heard) (frame : Frame) (after : List Frame) (stand : Stand) (part : List ℕ) → Comes held asks can h frame after stand → take_or_close held.catalog (whole h part) h.awaits ≡ Take (bytes_missing (verdict held.catalog h.awaits part))
  comes_take h frame after stand part (welcome _ _ greeted _ _ _ _) = ap (take_or_close held.catalog (whole h part)) greeted.awaits
  comes_take h frame after stand part (some_rows _ _ _ _ _ going _ _ _) = ap (take_or_close held.catalog (whole h part)) going.awaits
  comes_take h frame after stand part (done _ _ _ going _ _ _) = ap (take_or_close held.catalog (whole h part)) going.awaits

  -- a frame is being taken: so many bytes of it are taken, no more than are left of it
  record Takes (l : Standing) (rest : List ℕ) : Type 0 where
    most : ℕ
    next : move_from held.catalog address l ≡ Some (Take most)
    some : 0 < most
    within : most ≤ length rest

  first_of : (owed : List ℕ) → 0 < length owed → (byte : ℕ) × (more : List ℕ) × (owed ≡ byte ∷ more)
  first_of [] h = absurd (omega (arith, h))
  first_of (byte ∷ more) h = (byte, more, refl)

  taking_next : (l : Standing) (stand : Stand) (h : Heard) (frame : Frame) (after : List Frame) (part rest : List ℕ) → l.opened ≡ true → l.closed ≡ false → l.stopped ≡ false → l.heard ≡ whole h part → length h.due ≡ l.sent
      → part ++ rest ≡ frame_bytes frame → 0 < length rest → Comes held asks can h frame after stand → Takes l rest
  taking_next l stand h frame after part rest o c s is count joined some comes =
      let awaited : IsAwaited held.catalog h.awaits frame = may_come held asks can h frame after stand comes in
      let first = first_of rest some in
      let short = lacking held.catalog h.awaits frame awaited part first.0 first.1 (ap (λ (bs : List ℕ). part ++ bs) (sym first.2) ∙ joined) in
      record {
        most = short.0;
        next =
            rest_next l o c s (ap (λ (x : Heard). x.broken) is) (ap (λ (x : Heard). length x.due) is ∙ count)
            ∙ ap Some (ap (λ (x : Heard). take_or_close held.catalog x x.awaits) is ∙ (comes_take h frame after stand part comes
            ∙ ap (λ (v : Verdict). Take (bytes_missing v)) short.1));
        some = short_is_some held.catalog h.awaits part short.0 short.1;
        within = subst (λ (bs : List ℕ). short.0 ≤ length bs) (sym first.2) short.2;
      }

  ending_next : (l : Standing) → l.opened ≡ true → Quiet l → length l.heard.due ≡ l.sent → Finished held asks can l.heard → move_from held.catalog address l ≡ Some Close
  ending_next l o quiet count finished =
      rest_next l o quiet.closed quiet.stopped quiet.valid count ∙ ap (λ (a : Awaits). Some (take_or_close held.catalog l.heard a)) finished.awaits

  -- a frame is sent
  pub record Sends (l : Standing) (stand : Stand) (owed : List ℕ) (much : ℕ) (bytes : List ℕ) : Type 0 where
    pub frame : Frame
    pub before : List Frame
    pub quiet : Quiet l
    pub part : l.heard.part ≡ []
    pub is_due : l.heard.due ≡ before ++ frame ∷ []
    pub count : length before ≡ l.sent
    pub none_owed : owed ≡ []
    pub what : Due held asks can l.heard frame stand
    pub spelled : bytes ≡ frame_bytes frame
    pub much_is : much ≡ frames_left held asks can l.heard.awaits * 8192 + 4000

  -- a piece is taken
  pub record Piecing (l : Standing) (stand : Stand) (owed : List ℕ) (much most : ℕ) : Type 0 where
    pub h : Heard
    pub frame : Frame
    pub after : List Frame
    pub part : List ℕ
    pub rest : List ℕ
    pub not_closed : l.closed ≡ false
    pub not_stopped : l.stopped ≡ false
    pub heard_is : l.heard ≡ whole h part
    pub count : length h.due ≡ l.sent
    pub joined : part ++ rest ≡ frame_bytes frame
    pub owed_is : owed ≡ rest ++ flat_map frame_bytes after
    pub some : 0 < length rest
    pub comes : Comes held asks can h frame after stand
    pub positive : 0 < most
    pub within : most ≤ length rest
    pub much_is : much ≡ frames_left held asks can h.awaits * 8192 + length rest

  -- a move that the host is not in
  pub record Quietly (l : Standing) (stand : Stand) (owed : List ℕ) (much : ℕ) (move : Move) : Type 0 where
    pub none_owed : owed ≡ []
    pub lower : Lower (goes held.catalog asks l (record { move = move; answer = Made })) stand owed much

  -- what the next move may be where a session stands there and so much is to be done
  abbrev pub MovesBy : Standing → Stand → List ℕ → (much : ℕ) → Move → Type 0
  MovesBy l stand owed much (Dial to) = Quietly l stand owed much (Dial to)
  MovesBy l stand owed much (Listen _) = ⊥
  MovesBy l stand owed much Accept = ⊥
  MovesBy l stand owed much (Send bytes) = Sends l stand owed much bytes
  MovesBy l stand owed much (Take most) = Piecing l stand owed much most
  MovesBy l stand owed much Close = Quietly l stand owed much Close

  -- the next move where a session stands there
  pub data Nexts (l : Standing) : Type 0 where
    dials : move_from held.catalog address l ≡ Some (Dial address) → Nexts l
    sends_one : (bytes : List ℕ) → move_from held.catalog address l ≡ Some (Send bytes) → Nexts l
    takes : (most : ℕ) → move_from held.catalog address l ≡ Some (Take most) → Nexts l
    closes : move_from held.catalog address l ≡ Some Close → Nexts l
    is_closed : l.closed ≡ true → Nexts l

  sends_or_dials : (l : Standing) (frame : Frame) (b : Bool) → move_from held.catalog address l ≡ Some (if b then Send (frame_bytes frame) else Dial address) → Nexts l
  sends_or_dials l frame true e = sends_one (frame_bytes frame) e
  sends_or_dials l frame false e = dials e

  pub nexts_at : (l : Standing) (stand : Stand) (owed : List ℕ) → At l stand owed → Nexts l
  nexts_at l stand owed (sending frame before quiet part is count none what) =
      sends_or_dials l frame l.opened (due_next l frame before quiet is count l.opened refl)
  nexts_at l stand owed (taking h frame after part rest o c s is count joined owed_is some comes) =
      let t = taking_next l stand h frame after part rest o c s is count joined some comes in takes t.most t.next
  nexts_at l stand owed (ending o quiet count none finished) = closes (ending_next l o quiet count finished)
  nexts_at l stand owed (closed o c s b finished) = is_closed c

  by_move : (l : Standing) (stand : Stand) (owed : List ℕ) (much : ℕ) (move other : Move) → move_from held.catalog address l ≡ Some other → move_from held.catalog address l ≡ Some move → MovesBy l stand owed much other → MovesBy l stand owed much move
  by_move l stand owed much move other e f m = subst (λ (x : Move). MovesBy l stand owed much x) (sym (same_some (move_from held.catalog address l) other move e f)) m

  due_moves : (l : Standing) (stand : Stand) (owed : List ℕ) (frame : Frame) (before : List Frame) → Quiet l → l.heard.part ≡ [] → l.heard.due ≡ before ++ frame ∷ [] → length before ≡ l.sent → owed ≡ [] → Due held asks can l.heard frame stand
      → (b : Bool) → MovesBy l stand owed (frames_left held asks can l.heard.awaits * 8192 + (if b then 4000 else 4001)) (if b then Send (frame_bytes frame) else Dial address)
  unfolding hear_all
  due_moves l stand owed frame before quiet part is count none what true = record { frame = frame; before = before; quiet = quiet; part = part; is_due = is; count = count; none_owed = none; what = what; spelled = refl; much_is = refl }
  due_moves l stand owed frame before quiet part is count none what false = record {
    none_owed = none;
    lower = record {
      there = sending frame before (record { closed = or_false l.closed ∙ quiet.closed; stopped = or_false l.stopped ∙ quiet.stopped; valid = quiet.valid }) part is
          (let same : length before ≡ l.sent + 0 = omega (arith, count) in same) none what;
      less = omega arith;
    };
  }

  close_moves : (l : Standing) (stand : Stand) (owed : List ℕ) → Quiet l → owed ≡ [] → Finished held asks can l.heard → MovesBy l stand owed 1 Close
  unfolding hear_all
  close_moves l stand owed quiet none finished = record {
    none_owed = none;
    lower = record { there = closed refl (or_true l.closed) (or_false l.stopped ∙ quiet.stopped) quiet.valid finished; less = omega arith };
  }

  pub moves_at : (l : Standing) (stand : Stand) (owed : List ℕ) (move : Move) → (a : At l stand owed) → move_from held.catalog address l ≡ Some move → MovesBy l stand owed (rank l stand owed a) move
  moves_at l stand owed move (sending frame before quiet part is count none what) e =
      by_move l stand owed _ move _ (due_next l frame before quiet is count l.opened refl) e (due_moves l stand owed frame before quiet part is count none what l.opened)
  moves_at l stand owed move (taking h frame after part rest o c s is count joined owed_is some comes) e =
      let t = taking_next l stand h frame after part rest o c s is count joined some comes in
      by_move l stand owed _ move (Take t.most) t.next e (record {
        h = h;
        frame = frame;
        after = after;
        part = part;
        rest = rest;
        not_closed = c;
        not_stopped = s;
        heard_is = is;
        count = count;
        joined = joined;
        owed_is = owed_is;
        some = some;
        comes = comes;
        positive = t.some;
        within = t.within;
        much_is = refl;
      })
  moves_at l stand owed move (ending o quiet count none finished) e =
      by_move l stand owed _ move Close (ending_next l o quiet count finished) e (close_moves l stand owed quiet none finished)
  moves_at l stand owed move (closed o c s b finished) e = absurd (none_is_not _ move (next_closed held.catalog address l o c) e)

  -- the host answers the frame that was sent
  pub record Answers (l : Standing) (stand : Stand) (much : ℕ) (bytes : List ℕ) (frame : Frame) : Type 0 where
    pub response : Response
    pub is : answer_to held stand frame ≡ Some response
    pub stands : Lower (goes held.catalog asks l (record { move = Send bytes; answer = Made })) response.stand (flat_map frame_bytes response.says) much

  few_bytes : (h : Heard) (frame : Frame) (after : List Frame) (stand : Stand) → Comes held asks can h frame after stand → length (frame_bytes frame) ≤ 2048
  few_bytes h frame after stand comes =
      let fits = payload_bound frame (may_come held asks can h frame after stand comes).fits in omega (arith, fits)

  answers_by : (l : Standing) (stand : Stand) (owed : List ℕ) (much : ℕ) (bytes : List ℕ) → (s : Sends l stand owed much bytes) → Next held asks can l.heard (answer_to held stand s.frame) → Answers l stand much bytes s.frame
  unfolding hear_all
  answers_by l stand owed much bytes s (over finished is) = record {
    response = record { says = []; stand = host.Over };
    is = is;
    stands = record {
      there = ending refl (record { closed = or_false l.closed ∙ s.quiet.closed; stopped = or_false l.stopped ∙ s.quiet.stopped; valid = s.quiet.valid })
          (all_sent l.heard.due s.before s.frame l.sent s.is_due s.count) refl finished;
      less = (let much_is = s.much_is in omega (arith, much_is));
    };
  }
  answers_by l stand owed much bytes s (exchange x) = record {
    response = record { says = x.frame ∷ x.after; stand = x.stand };
    is = x.is;
    stands = record {
      there = taking l.heard x.frame x.after [] (frame_bytes x.frame) refl (or_false l.closed ∙ s.quiet.closed) (or_false l.stopped ∙ s.quiet.stopped) (whole_self l.heard s.part s.quiet.valid)
          (all_sent l.heard.due s.before s.frame l.sent s.is_due s.count) refl refl (bytes_there x.frame) x.comes;
      less = (let much_is = s.much_is in let few = few_bytes l.heard x.frame x.after x.stand x.comes in omega (arith, much_is, few));
    };
  }

  pub answers_at : (l : Standing) (stand : Stand) (owed : List ℕ) (much : ℕ) (bytes : List ℕ) → (s : Sends l stand owed much bytes) → Answers l stand much bytes s.frame
  answers_at l stand owed much bytes s = answers_by l stand owed much bytes s (answered_due held asks can l.heard s.frame stand s.what)

  abbrev after_take : Standing → Heard → Standing
  after_take l h = record { opened = true; closed = l.closed || false; stopped = l.stopped || false; sent = l.sent + 0; heard = h }

  same_count : (n m : ℕ) → n ≡ m → n ≡ m + 0
  same_count n m e = omega (arith, e)

  -- one frame fewer
  frame_fewer : (fewer more much rest inner : ℕ) → fewer < more → much ≡ more * 8192 + rest → inner ≤ 4000 → fewer * 8192 + inner < much
  frame_fewer fewer more much rest inner less is small = omega (arith, less, is, small)

  turned_at : (l : Standing) (stand : Stand) (owed : List ℕ) (much most : ℕ) (t : Piecing l stand owed much most) → Turned held asks can t.h (heard_frame held.catalog asks t.h t.frame) t.after stand
      → Lower (after_take l (heard_frame held.catalog asks t.h t.frame)) stand (flat_map frame_bytes t.after) much
  turned_at l stand owed much most t (calls frame due none what) = record {
    there = sending frame t.h.due (record { closed = or_false l.closed ∙ t.not_closed; stopped = or_false l.stopped ∙ t.not_stopped; valid = refl }) refl
        due (same_count (length t.h.due) l.sent t.count) (ap (flat_map frame_bytes) none) what;
    less = frame_fewer _ _ much (length t.rest) 4000 (fewer_left held asks can t.h t.frame t.after stand t.comes) t.much_is (omega arith);
  }
  turned_at l stand owed much most t (more_comes frame later due is comes) = record {
    there = taking (heard_frame held.catalog asks t.h t.frame) frame later [] (frame_bytes frame) refl (or_false l.closed ∙ t.not_closed) (or_false l.stopped ∙ t.not_stopped) refl
        (ap length due ∙ same_count (length t.h.due) l.sent t.count) refl (ap (flat_map frame_bytes) is) (bytes_there frame) comes;
    less = frame_fewer _ _ much (length t.rest) (length (frame_bytes frame)) (fewer_left held asks can t.h t.frame t.after stand t.comes) t.much_is
        (let few = few_bytes (heard_frame held.catalog asks t.h t.frame) frame later stand comes in omega (arith, few));
  }

  took_whole : (l : Standing) (stand : Stand) (owed : List ℕ) (much most byte : ℕ) (more : List ℕ) → (t : Piecing l stand owed much most) → t.part ++ byte ∷ more ≡ frame_bytes t.frame
      → Lower (goes held.catalog asks l (record { move = Take most; answer = Piece (byte ∷ more) })) stand (flat_map frame_bytes t.after) much
  took_whole l stand owed much most byte more t e =
      let awaited : IsAwaited held.catalog t.h.awaits t.frame = may_come held asks can t.h t.frame t.after stand t.comes in
      let heard : hear_all held.catalog asks l.heard (byte ∷ more) ≡ heard_frame held.catalog asks t.h t.frame =
      ap (λ (x : Heard). hear_all held.catalog asks x (byte ∷ more)) t.heard_is
      ∙ heard_on held.catalog t.h.awaits t.frame awaited asks t.h.frames t.h.due t.h.rows t.h.ended t.part byte more e in
      subst (λ (x : Heard). Lower (after_take l x) stand (flat_map frame_bytes t.after) much) (sym heard)
      (turned_at l stand owed much most t (heeds held asks can t.h t.frame t.after stand t.comes))

  took_part : (l : Standing) (stand : Stand) (owed : List ℕ) (much most : ℕ) (piece : List ℕ) (byte : ℕ) (more : List ℕ) → (t : Piecing l stand owed much most) → t.rest ≡ piece ++ byte ∷ more → 0 < length piece
      → Lower (goes held.catalog asks l (record { move = Take most; answer = Piece piece })) stand ((byte ∷ more) ++ flat_map frame_bytes t.after) much
  took_part l stand owed much most piece byte more t cut some =
      let e : t.part ++ (piece ++ byte ∷ more) ≡ frame_bytes t.frame = ap (λ (bs : List ℕ). t.part ++ bs) (sym cut) ∙ t.joined in
      let awaited : IsAwaited held.catalog t.h.awaits t.frame = may_come held asks can t.h t.frame t.after stand t.comes in
      let heard : hear_all held.catalog asks l.heard piece ≡ whole t.h (t.part ++ piece) =
      ap (λ (x : Heard). hear_all held.catalog asks x piece) t.heard_is ∙ heard_part held.catalog asks t.frame t.h t.part piece byte more awaited e in
      let long : length t.rest ≡ length piece + length (byte ∷ more) = ap length cut ∙ length-append piece (byte ∷ more) in
      subst (λ (x : Heard). Lower (after_take l x) stand ((byte ∷ more) ++ flat_map frame_bytes t.after) much) (sym heard)
      (record {
        there = taking t.h t.frame t.after (t.part ++ piece) (byte ∷ more) refl (or_false l.closed ∙ t.not_closed) (or_false l.stopped ∙ t.not_stopped) refl
            (same_count (length t.h.due) l.sent t.count) (append_assoc t.part piece (byte ∷ more) ∙ e) refl (omega arith) t.comes;
        less = (let much_is = t.much_is in omega (arith, much_is, long, some));
      })

  pub took_at : (l : Standing) (stand : Stand) (owed : List ℕ) (much most : ℕ) (piece later : List ℕ) → (t : Piecing l stand owed much most) → t.rest ≡ piece ++ later → 0 < length piece
      → Lower (goes held.catalog asks l (record { move = Take most; answer = Piece piece })) stand (later ++ flat_map frame_bytes t.after) much
  took_at l stand owed much most [] later t e some = absurd (omega (arith, some))
  took_at l stand owed much most (byte ∷ more) [] t e some =
      took_whole l stand owed much most byte more t (ap (λ (bs : List ℕ). t.part ++ bs) (sym (append-nil (byte ∷ more)) ∙ sym e) ∙ t.joined)
  took_at l stand owed much most (byte ∷ more) (x ∷ later) t e some = took_part l stand owed much most (byte ∷ more) x later t e some

  -- the session begins
  pub begins : At (standing_after held.catalog asks []) host.Greeting []
  unfolding hear_all
  begins =
      sending (HelloFrame held.catalog.generation) [] (record { closed = refl; stopped = refl; valid = refl }) refl refl refl refl
      (says_hello (record { awaits = refl; none_refused = refl }) refl refl)
