-- A move with a near ask at hand leaves a far one unsent.
use Rattle.std.proofs.Common.{◌≡◌, ℕ, zero, suc, ◌+◌, ◌<◌, ◌≤◌, Bool, true, false, not, List, [], ◌∷◌, ◌++◌, length, map, sum_by, refl, sym, ap, ◌∙◌, subst, arith, Option, Some, None, if◌then◌else◌, ◌⊎◌, inl, inr, append-nil, append_assoc}
use Rattle.std.specs.Prelude.{◌==◌, ◌||◌, nat_lt, nat_le, slice_get, drop, is_some}
use Rattle.std.specs.List.{list_all}
use Rattle.std.proofs.lemmas.List.{length-append}
use Rattle.std.proofs.lemmas.List.Sums.{sum_by-cons}
use Rattle.std.proofs.lemmas.Bool.Decides.{nat_tests}
use Rattle.ghost_model.specs.core.Channel.{Catalog, Frame, HelloFrame, AskFrame, MoreFrame, ByeFrame, WelcomeFrame, RowsFrame, DoneFrame, SorryFrame, Move, Dial, Listen, Accept, Send, Take, Close, Answer, Made, Port, Piece, End, Failed, Entry, Journal}
use Rattle.ghost_model.specs.forms.Frames.{frame_in, frame_bytes}
use Rattle.ghost_model.specs.core.Asks.{NumberedAsk, asked_of, ask_payload}
use Rattle.ghost_model.specs.core.Moves.{sent, sent_by, piece_of}
use Rattle.ghost_model.specs.core.NextMove.{Awaits, AwaitsCatalog, AwaitsReply, AwaitsNothing, EndedAsk, Heard, Standing, Verdict, Lacking, Complete, Invalid, GoesOn, after_frame, ask_next, still, of_later_texts, verdict, heard_as, hear, hear_all, standing_after, take_or_close, send_or, move_from, next_with, is_close, is_stop}
use Rattle.ghost_model.proofs.ChannelLemmas.Tests.{both_hold, hold_both}
use Rattle.channel_pump.specs.Progress.{Tells, IsUnbroken, ended_on}
use Rattle.channel_pump.specs.Sessions.{asked_in, leads_on}
use Rattle.channel_pump.specs.State.{IsAfter, IsLeft, IsStage, IsCause, is_link, is_protocol, is_opened, has_stopped, has_broken}
use Rattle.channel_pump.specs.declared.state.Pump.{Pump}
use Rattle.channel_pump.specs.declared.state.Stage.{Stage}
use Rattle.channel_pump.specs.declared.state.Stage.TheVariants as stage_is
use Rattle.channel_pump.specs.declared.state.Cause.{Cause}
use Rattle.channel_pump.specs.declared.state.Cause.TheVariants as cause_is
use Rattle.channel_pump.specs.declared.state.Event.{Event}
use Rattle.channel_pump.specs.declared.state.Event.TheVariants as event_is
use Rattle.channel_pump.proofs.JournalLemmas.{left_more, hear_none}
use Rattle.session_laws.specs.TextEnds.{heard_in}
use Rattle.key_session.specs.Going.{IsNear}
use Rattle.key_session.specs.Unsent.{serial_at, IsUnsent, FarIsUnsent}
use Rattle.key_session.proofs.Fitting.{all_heard}
use Rattle.key_session.proofs.Moving.{heard_none}
use Rattle.key_session.proofs.Hearing.{Orderly, who}
use Rattle.key_session.proofs.Ordering.{texts_come_in_order}

got_more : (xs more : List Frame) (k : ℕ) (frame : Frame) → slice_get xs k ≡ Some frame → slice_get (xs ++ more) k ≡ Some frame
got_more [] more k frame e = cc
got_more (x ∷ xs) more zero frame e = e
got_more (x ∷ xs) more (suc k) frame e = got_more xs more k frame e

got_last : (xs : List Frame) (frame : Frame) → slice_get (xs ++ frame ∷ []) (length xs) ≡ Some frame
got_last [] frame = refl
got_last (x ∷ xs) frame = got_last xs frame

got_within : (xs : List Frame) (k : ℕ) → is_some (slice_get xs k) ≡ true → k < length xs
got_within [] k e = cc
got_within (x ∷ xs) zero e = omega arith
got_within (x ∷ xs) (suc k) e = let less = got_within xs k e in omega (arith, less)

-- ---- what bytes lead to: the ask at hand stays, or the frame of another one comes behind those that were due

module _ (catalog : Catalog) (asks : List NumberedAsk) (start : Awaits) (least : ℕ) where
  record IsDue (due : List Frame) (one : NumberedAsk) (serial : ℕ) : Type 0 where
    place : ℕ
    behind : least ≤ place
    there : slice_get due place ≡ Some (AskFrame serial (ask_payload catalog.schema one.ask))

  record Grown (awaits : Awaits) (due : List Frame) : Type 0 where
    long : least ≤ length due
    asked : (one : NumberedAsk) → asked_in awaits ≡ Some one → (asked_in start ≡ Some one) ⊎ IsDue due one (serial_at awaits)

  longer : (due more : List Frame) → least ≤ length due → least ≤ length (due ++ more)
  longer due more h = let all = length-append due more in omega (arith, all, h)

  kept : (a b : Awaits) (due more : List Frame) → asked_in b ≡ asked_in a → serial_at b ≡ serial_at a → Grown a due → Grown b (due ++ more)
  kept a b due more same serial g = record {
    long = longer due more g.long;
    asked = λ one e. go one (g.asked one (sym same ∙ e));
  }
    where
      go : (one : NumberedAsk) → (asked_in start ≡ Some one) ⊎ IsDue due one (serial_at a) → (asked_in start ≡ Some one) ⊎ IsDue (due ++ more) one (serial_at b)
      go one (inl was) = inl was
      go one (inr is) = inr (record {
        place = is.place;
        behind = is.behind;
        there = got_more due more is.place _ is.there ∙ ap (λ (n : ℕ). Some (AskFrame n (ask_payload catalog.schema one.ask))) (sym serial);
      })

  by_next : (serial : ℕ) (later : List NumberedAsk) (due : List Frame) → least ≤ length due
      → Grown (ask_next catalog.schema serial later).awaits (due ++ (ask_next catalog.schema serial later).due)
  by_next serial [] due long = record { long = longer due (ByeFrame ∷ []) long; asked = λ one e. absurd (none_some one e) }
    where
      none_some : (one : NumberedAsk) → None ≡ Some one → ⊥
      none_some one e = cc
  by_next serial (first ∷ later) due long = record {
    long = longer due (AskFrame serial (ask_payload catalog.schema first.ask) ∷ []) long;
    asked = λ one e. inr (record {
      place = length due;
      behind = long;
      there = got_last due (AskFrame serial (ask_payload catalog.schema first.ask)) ∙ ap (λ (it : NumberedAsk). Some (AskFrame serial (ask_payload catalog.schema it.ask))) (same_one first one e);
    });
  }
    where
      same_one : (x y : NumberedAsk) → Some x ≡ Some y → x ≡ y
      same_one x y e = cc

  by_frame : (awaits : Awaits) (due : List Frame) (frame : Frame) → Grown awaits due → Grown (after_frame catalog asks awaits frame).awaits (due ++ (after_frame catalog asks awaits frame).due)
  by_frame (AwaitsCatalog bytes) due (WelcomeFrame last piece) g =
      (elim (length piece == length bytes) as (λ v. Grown (if v then ask_next catalog.schema 1 asks else still (AwaitsCatalog (drop (length piece) bytes))).awaits (due ++ (if v then ask_next catalog.schema 1 asks else still (AwaitsCatalog (drop (length piece) bytes))).due)) [
        | true ↦ by_next 1 asks due g.long
        | false ↦ kept (AwaitsCatalog bytes) (AwaitsCatalog (drop (length piece) bytes)) due [] refl refl g
      ])
  by_frame (AwaitsCatalog bytes) due (HelloFrame _) g = kept (AwaitsCatalog bytes) (AwaitsCatalog bytes) due [] refl refl g
  by_frame (AwaitsCatalog bytes) due (AskFrame _ _) g = kept (AwaitsCatalog bytes) (AwaitsCatalog bytes) due [] refl refl g
  by_frame (AwaitsCatalog bytes) due (MoreFrame _) g = kept (AwaitsCatalog bytes) (AwaitsCatalog bytes) due [] refl refl g
  by_frame (AwaitsCatalog bytes) due ByeFrame g = kept (AwaitsCatalog bytes) (AwaitsCatalog bytes) due [] refl refl g
  by_frame (AwaitsCatalog bytes) due (RowsFrame _ _) g = kept (AwaitsCatalog bytes) (AwaitsCatalog bytes) due [] refl refl g
  by_frame (AwaitsCatalog bytes) due (DoneFrame _ _) g = kept (AwaitsCatalog bytes) (AwaitsCatalog bytes) due [] refl refl g
  by_frame (AwaitsCatalog bytes) due (SorryFrame _ _) g = kept (AwaitsCatalog bytes) (AwaitsCatalog bytes) due [] refl refl g
  by_frame (AwaitsReply one serial later count last) due (RowsFrame number payload) g =
      kept (AwaitsReply one serial later count last) (AwaitsReply one serial later _ _) due (MoreFrame serial ∷ []) refl refl g
  by_frame (AwaitsReply one serial later count last) due (DoneFrame number total) g = by_next (serial + 1) later due g.long
  by_frame (AwaitsReply one serial later count last) due (SorryFrame number code) g = by_next (serial + 1) (of_later_texts one.text later) due g.long
  by_frame (AwaitsReply one serial later count last) due (HelloFrame _) g = kept (AwaitsReply one serial later count last) (AwaitsReply one serial later count last) due [] refl refl g
  by_frame (AwaitsReply one serial later count last) due (AskFrame _ _) g = kept (AwaitsReply one serial later count last) (AwaitsReply one serial later count last) due [] refl refl g
  by_frame (AwaitsReply one serial later count last) due (MoreFrame _) g = kept (AwaitsReply one serial later count last) (AwaitsReply one serial later count last) due [] refl refl g
  by_frame (AwaitsReply one serial later count last) due ByeFrame g = kept (AwaitsReply one serial later count last) (AwaitsReply one serial later count last) due [] refl refl g
  by_frame (AwaitsReply one serial later count last) due (WelcomeFrame _ _) g = kept (AwaitsReply one serial later count last) (AwaitsReply one serial later count last) due [] refl refl g
  by_frame AwaitsNothing due frame g = kept AwaitsNothing AwaitsNothing due [] refl refl g

  by_verdict : (h : Heard) (part : List ℕ) (v : Verdict) → Grown h.awaits h.due → Grown (heard_as catalog asks h part v).awaits (heard_as catalog asks h part v).due
  by_verdict h part (Lacking missing) g = g
  by_verdict h part Invalid g = g
  by_verdict h part Complete g = by_frame h.awaits h.due (frame_in part) g

  by_byte : (h : Heard) (byte : ℕ) → Grown h.awaits h.due → Grown (hear catalog asks h byte).awaits (hear catalog asks h byte).due
  by_byte h byte g =
      (elim h.broken as (λ v. Grown (if v then h else heard_as catalog asks h (h.part ++ byte ∷ []) (verdict catalog h.awaits (h.part ++ byte ∷ []))).awaits (if v then h else heard_as catalog asks h (h.part ++ byte ∷ []) (verdict catalog h.awaits (h.part ++ byte ∷ []))).due) [
        | true ↦ g
        | false ↦ by_verdict h (h.part ++ byte ∷ []) (verdict catalog h.awaits (h.part ++ byte ∷ [])) g
      ])

  by_bytes : (h : Heard) (bytes : List ℕ) → Grown h.awaits h.due → Grown (hear_all catalog asks h bytes).awaits (hear_all catalog asks h bytes).due
  unfolding hear_all
  by_bytes h [] g = g
  by_bytes h (byte ∷ bytes) g = by_bytes (hear catalog asks h byte) bytes (by_byte h byte g)

grown : (catalog : Catalog) (asks : List NumberedAsk) (h : Heard) (bytes : List ℕ) → Grown catalog asks h.awaits (length h.due) (hear_all catalog asks h bytes).awaits (hear_all catalog asks h bytes).due
grown catalog asks h bytes = by_bytes catalog asks h.awaits (length h.due) h bytes (record { long = omega arith; asked = λ one e. inl e })

-- where nothing is awaited nothing is awaited later
module _ (catalog : Catalog) (asks : List NumberedAsk) where
  nothing_judged : (h : Heard) (part : List ℕ) (v : Verdict) → h.awaits ≡ AwaitsNothing → (heard_as catalog asks h part v).awaits ≡ AwaitsNothing
  nothing_judged h part (Lacking missing) e = e
  nothing_judged h part Invalid e = e
  nothing_judged h part Complete e = ap (λ (a : Awaits). (after_frame catalog asks a (frame_in part)).awaits) e

  nothing_heard : (h : Heard) (byte : ℕ) → h.awaits ≡ AwaitsNothing → (hear catalog asks h byte).awaits ≡ AwaitsNothing
  nothing_heard h byte e =
      (elim h.broken as (λ v. (if v then h else heard_as catalog asks h (h.part ++ byte ∷ []) (verdict catalog h.awaits (h.part ++ byte ∷ []))).awaits ≡ AwaitsNothing) [
        | true ↦ e
        | false ↦ nothing_judged h (h.part ++ byte ∷ []) (verdict catalog h.awaits (h.part ++ byte ∷ [])) e
      ])

  nothing_more : (h : Heard) (bytes : List ℕ) → h.awaits ≡ AwaitsNothing → (hear_all catalog asks h bytes).awaits ≡ AwaitsNothing
  unfolding hear_all
  nothing_more h [] e = e
  nothing_more h (byte ∷ bytes) e = nothing_more (hear catalog asks h byte) bytes (nothing_heard h byte e)

-- ---- no more frames are sent than are due

sends_some : (opened closed over : Bool) (at : List ℕ) (other : Move) (frame : Option Frame) (bytes : List ℕ) → length (sent_by other) ≡ 0
    → (if not opened then Some (Dial at) else if closed then None else if over then Some Close else Some (send_or other frame)) ≡ Some (Send bytes) → is_some frame ≡ true
sends_some false closed over at other frame bytes quiet e = cc
sends_some true true over at other frame bytes quiet e = cc
sends_some true false true at other frame bytes quiet e = cc
sends_some true false false at other (Some frame) bytes quiet e = refl
sends_some true false false at other None bytes quiet e = absurd (bad (ap (λ (m : Move). length (sent_by m)) (same other (Send bytes) e)))
  where
    same : (x y : Move) → Some x ≡ Some y → x ≡ y
    same x y e = cc

    bad : length (sent_by other) ≡ 1 → ⊥
    bad one = omega (arith, one, quiet)

quiet_other : (catalog : Catalog) (h : Heard) (awaits : Awaits) → length (sent_by (take_or_close catalog h awaits)) ≡ 0
quiet_other catalog h (AwaitsCatalog bytes) = refl
quiet_other catalog h (AwaitsReply asked serial later count last) = refl
quiet_other catalog h AwaitsNothing = refl

module _ (catalog : Catalog) (at : List ℕ) (asks : List NumberedAsk) where
  abbrev due_after : Journal → List Frame
  due_after journal = (standing_after catalog asks journal).heard.due

  send_fits : (l : Standing) (move : Move) → move_from catalog at l ≡ Some move → l.sent ≤ length l.heard.due → l.sent + length (sent_by move) ≤ length l.heard.due
  send_fits l (Send bytes) e few =
      let less = got_within l.heard.due l.sent (sends_some l.opened l.closed (l.stopped || l.heard.broken) at (take_or_close catalog l.heard l.heard.awaits) (slice_get l.heard.due l.sent) bytes (quiet_other catalog l.heard l.heard.awaits) e) in
      omega (arith, less)
  send_fits l (Dial _) e few = omega (arith, few)
  send_fits l (Listen _) e few = omega (arith, few)
  send_fits l Accept e few = omega (arith, few)
  send_fits l (Take _) e few = omega (arith, few)
  send_fits l Close e few = omega (arith, few)

  one_sent : (journal : Journal) (entry : Entry) → next_with catalog at asks journal ≡ Some entry.move → length (sent journal) ≤ length (due_after journal)
      → length (sent (journal ++ entry ∷ [])) ≤ length (due_after journal)
  one_sent journal entry e few =
      let all : length (sent (journal ++ entry ∷ [])) ≡ length (sent journal) + length (sent_by entry.move) = ap (λ (l : Standing). l.sent) (left_more catalog asks journal entry) in
      let fits = send_fits (standing_after catalog asks journal) entry.move e few in
      omega (arith, all, fits)

  due_grows : (journal : Journal) (entry : Entry) → length (due_after journal) ≤ length (due_after (journal ++ entry ∷ []))
  due_grows journal entry =
      let more : due_after (journal ++ entry ∷ []) ≡ (hear_all catalog asks (standing_after catalog asks journal).heard (piece_of entry.answer)).due = ap (λ (l : Standing). l.heard.due) (left_more catalog asks journal entry) in
      let long = (grown catalog asks (standing_after catalog asks journal).heard (piece_of entry.answer)).long in
      subst (λ (due : List Frame). length (due_after journal) ≤ length due) (sym more) long

  all_sent : (before journal : Journal) (entry : Entry) → GoesOn catalog at asks before (journal ++ entry ∷ []) → length (sent before) ≤ length (due_after before)
      → length (sent ((before ++ journal) ++ entry ∷ [])) ≤ length (due_after (before ++ journal))
  all_sent before [] entry goes few =
      subst (λ (j : Journal). length (sent (j ++ entry ∷ [])) ≤ length (due_after j)) (sym (append-nil before)) (one_sent before entry goes.0 few)
  all_sent before (first ∷ journal) entry goes few =
      let one = one_sent before first goes.0 few in
      let more = due_grows before first in
      subst (λ (j : Journal). length (sent (j ++ entry ∷ [])) ≤ length (due_after j)) (append_assoc before (first ∷ []) journal)
      (all_sent (before ++ first ∷ []) journal entry goes.1 (omega (arith, one, more)))

-- ---- a frame that is due behind those that were sent is sent by the next move

-- after a failure, the end of the stream or an invalid frame it is the close
closes : (opened closed over : Bool) (at : List ℕ) (rest : Option Move) (move : Move) → opened ≡ true → over ≡ true
    → (if not opened then Some (Dial at) else if closed then None else if over then Some Close else rest) ≡ Some move → move ≡ Close
closes false closed over at rest move o s e = cc
closes true true over at rest move o s e = cc
closes true false false at rest move o s e = cc
closes true false true at rest move o s e = cc

goes_last : (opened closed stopped broken : Bool) (at : List ℕ) (last move : Move) → opened ≡ true → stopped ≡ false → broken ≡ false
    → (if not opened then Some (Dial at) else if closed then None else if stopped || broken then Some Close else Some last) ≡ Some move → move ≡ last
goes_last false closed stopped broken at last move o s b e = cc
goes_last true true stopped broken at last move o s b e = cc
goes_last true false true broken at last move o s b e = cc
goes_last true false false true at last move o s b e = cc
goes_last true false false false at last move o s b e = cc

none_closed : (opened closed : Bool) (at : List ℕ) (rest : Option Move) (move : Move) → opened ≡ true → closed ≡ true
    → (if not opened then Some (Dial at) else if closed then None else rest) ≡ Some move → ⊥
none_closed false closed at rest move o c e = cc
none_closed true false at rest move o c e = cc
none_closed true true at rest move o c e = cc

first_over : (a b : Bool) → a ≡ true → (a || b) ≡ true
first_over true b e = refl
first_over false b e = cc

second_over : (a b : Bool) → b ≡ true → (a || b) ≡ true
second_over true b e = refl
second_over false b e = e

neither_over : (a b : Bool) → (a ≡ true → ⊥) → (b ≡ true → ⊥) → (a || b) ≡ false
neither_over true b na nb = absurd (na refl)
neither_over false true na nb = absurd (nb refl)
neither_over false false na nb = refl

both_ways : true ≡ false → ⊥
both_ways e = cc

some_got : (found : Option Frame) (frame : Frame) → found ≡ Some frame → is_some found ≡ true
some_got (Some _) frame e = refl
some_got None frame e = cc

module _ (catalog : Catalog) (at : List ℕ) (asks : List NumberedAsk) (pump : Pump) (l : Standing) (opened : l.opened ≡ true) (stopped : l.stopped ≡ false) (broken : l.heard.broken ≡ false)
    (stands : IsLeft catalog asks pump l) (place : ℕ) (frame : Frame) (there : slice_get l.heard.due place ≡ Some frame) (unsent : l.sent ≤ place) where
  is_within : place < length l.heard.due
  is_within = got_within l.heard.due place (some_got (slice_get l.heard.due place) frame there)

  all_were_sent : length l.heard.due ≡ l.sent → ⊥
  all_were_sent e = let less = is_within in omega (arith, e, less, unsent)

  here_next : length l.heard.due ≡ l.sent + 1 → (move : Move) → move_from catalog at l ≡ Some move → move ≡ Send (frame_bytes frame)
  here_next last move e =
      let less = is_within in
      let same : place ≡ l.sent = omega (arith, last, less, unsent) in
      let found : slice_get l.heard.due l.sent ≡ Some frame = ap (slice_get l.heard.due) (sym same) ∙ there in
      let other = take_or_close catalog l.heard l.heard.awaits in
      goes_last l.opened l.closed l.stopped l.heard.broken at (Send (frame_bytes frame)) move opened stopped broken
      (subst (λ (o : Option Frame). (if not l.opened then Some (Dial at) else if l.closed then None else if l.stopped || l.heard.broken then Some Close else Some (send_or other o)) ≡ Some move) found e)

  no_cause : (cause : Cause) → IsCause pump l cause → l.stopped ≡ is_link cause → l.heard.broken ≡ is_protocol cause → ⊥
  no_cause cause_is.Finished is by_link by_frame = all_were_sent is.sent
  no_cause cause_is.Link is by_link by_frame = both_ways (sym by_link ∙ stopped)
  no_cause (cause_is.Protocol _ _) is by_link by_frame = both_ways (sym by_frame ∙ broken)

  sends_next : (stage : Stage) → pump.stage ≡ stage → (move : Move) → move_from catalog at l ≡ Some move → move ≡ Send (frame_bytes frame)
  sends_next stage_is.Dialling is move e = absurd (both_ways (sym opened ∙ (stands.opened ∙ ap is_opened is)))
  sends_next (stage_is.Sending outgoing) is move e = here_next (subst (λ (s : Stage). IsStage catalog pump l s) is stands.stage).last move e
  sends_next stage_is.Taking is move e = absurd (all_were_sent (subst (λ (s : Stage). IsStage catalog pump l s) is stands.stage).sent)
  sends_next (stage_is.Closing cause) is move e =
      absurd (no_cause cause (subst (λ (s : Stage). IsStage catalog pump l s) is stands.stage) (stands.stopped ∙ ap has_stopped is) (stands.broken ∙ ap has_broken is))
  sends_next (stage_is.Closed cause) is move e =
      absurd (no_cause cause (subst (λ (s : Stage). IsStage catalog pump l s) is stands.stage) (stands.stopped ∙ ap has_stopped is) (stands.broken ∙ ap has_broken is))

-- ---- the session was not stopped where another ask came to hand

piece_of_stop : (answer : Answer) → is_stop answer ≡ true → piece_of answer ≡ []
piece_of_stop Made e = refl
piece_of_stop (Port _) e = refl
piece_of_stop (Piece _) e = cc
piece_of_stop End e = refl
piece_of_stop Failed e = refl

is_close_of : (move : Move) → move ≡ Close → is_close move ≡ true
is_close_of move e = ap is_close e

module _ (catalog : Catalog) (at : List ℕ) (asks : List NumberedAsk) where
  made_by : (before journal : Journal) (made : Entry) → GoesOn catalog at asks before (journal ++ made ∷ []) → next_with catalog at asks (before ++ journal) ≡ Some made.move
  made_by before [] made goes = subst (λ (j : Journal). next_with catalog at asks j ≡ Some made.move) (sym (append-nil before)) goes.0
  made_by before (first ∷ journal) made goes =
      subst (λ (j : Journal). next_with catalog at asks j ≡ Some made.move) (append_assoc before (first ∷ []) journal) (made_by (before ++ first ∷ []) journal made goes.1)

  -- after a stop the next move is the close
  closes_stopped : (journal : Journal) (move : Move) → (standing_after catalog asks journal).stopped ≡ true → next_with catalog at asks journal ≡ Some move → move ≡ Close
  closes_stopped [] move e next = absurd (both_ways (sym e))
  closes_stopped (first ∷ journal) move e next =
      let l : Standing = standing_after catalog asks (first ∷ journal) in
      closes true l.closed (l.stopped || l.heard.broken) at _ move refl (first_over l.stopped l.heard.broken e) next

  not_stopped : (journal : Journal) (made : Entry) (move : Move) → GoesOn catalog at asks [] (journal ++ made ∷ []) → (is_stop made.answer ≡ true → ⊥)
      → next_with catalog at asks (journal ++ made ∷ []) ≡ Some move → (standing_after catalog asks (journal ++ made ∷ [])).stopped ≡ false
  not_stopped journal made move goes answered next =
      let l : Standing = standing_after catalog asks journal in
      let more = left_more catalog asks journal made in
      ap (λ (l : Standing). l.stopped) more
      ∙ neither_over l.stopped (is_stop made.answer)
      (λ (stopped : l.stopped ≡ true).
      let close : made.move ≡ Close = closes_stopped journal made.move stopped (made_by [] journal made goes) in
      let new : Standing = standing_after catalog asks (journal ++ made ∷ []) in
      none_closed new.opened new.closed at _ move (ap (λ (l : Standing). l.opened) more)
      (ap (λ (l : Standing). l.closed) more ∙ second_over l.closed (is_close made.move) (is_close_of made.move close)) next)
      answered

-- ---- no ask of the text was ended

lower : (a b : ℕ) (ends : List EndedAsk) → a < b → list_all (λ (end : EndedAsk). nat_le end.asked.text a) ends ≡ true → list_all (λ (end : EndedAsk). nat_lt end.asked.text b) ends ≡ true
lower a b [] less e = refl
lower a b (end ∷ ends) less e =
    let both = both_hold (nat_le end.asked.text a) _ e in
    hold_both _ _ (one end.asked.text both.one) (lower a b ends less both.other)
  where
    one : (text : ℕ) → nat_le text a ≡ true → nat_lt text b ≡ true
    one text e = grind (arith, nat_tests, less)

joined : (b : ℕ) (ends more : List EndedAsk) → list_all (λ (end : EndedAsk). nat_lt end.asked.text b) ends ≡ true → list_all (λ (end : EndedAsk). nat_lt end.asked.text b) more ≡ true
    → list_all (λ (end : EndedAsk). nat_lt end.asked.text b) (ends ++ more) ≡ true
joined b [] more e f = f
joined b (end ∷ ends) more e f =
    let both = both_hold (nat_lt end.asked.text b) _ e in
    hold_both _ _ both.one (joined b ends more both.other f)

is_below : (a b : ℕ) → a < b → nat_lt a b ≡ true
is_below a b h = grind (arith, nat_tests)

ended_below : (b : ℕ) (event : Event) (one : NumberedAsk) (serial : ℕ) (later : List NumberedAsk) (count last : ℕ) (rows : List ℕ) → one.text < b
    → list_all (λ (end : EndedAsk). nat_lt end.asked.text b) (ended_on event (AwaitsReply one serial later count last) rows) ≡ true
ended_below b event_is.Part one serial later count last rows less = refl
ended_below b event_is.Welcome one serial later count last rows less = refl
ended_below b (event_is.Rows _) one serial later count last rows less = refl
ended_below b event_is.Done one serial later count last rows less = hold_both _ _ (is_below one.text b less) refl
ended_below b (event_is.Sorry _) one serial later count last rows less = hold_both _ _ (is_below one.text b less) refl
ended_below b (event_is.Invalid _ _) one serial later count last rows less = refl

ended_greeting : (event : Event) (bytes rows : List ℕ) → ended_on event (AwaitsCatalog bytes) rows ≡ []
ended_greeting event_is.Part bytes rows = refl
ended_greeting event_is.Welcome bytes rows = refl
ended_greeting (event_is.Rows _) bytes rows = refl
ended_greeting event_is.Done bytes rows = refl
ended_greeting (event_is.Sorry _) bytes rows = refl
ended_greeting (event_is.Invalid _ _) bytes rows = refl

none_ended : (ends : List EndedAsk) (all : ℕ) → sum_by (λ (one : NumberedAsk). 1) (map who ends) + all ≤ all → ends ≡ []
none_ended [] all few = refl
none_ended (end ∷ ends) all few =
    let split = sum_by-cons (λ (one : NumberedAsk). 1) end.asked (map who ends) in
    absurd (omega (arith, split, few))

-- ---- one move

module _ (catalog : Catalog) (at : List ℕ) (texts : List (List ℕ)) (journal : Journal) (made : Entry) (page : List ℕ) (event : Event) (count : ℕ) where
  abbrev asks : List NumberedAsk
  asks = asked_of catalog.schema texts

  abbrev before : Heard
  before = heard_in catalog texts journal

  abbrev after : Heard
  after = heard_in catalog texts (journal ++ made ∷ [])

  heard_more : after ≡ hear_all catalog asks before (piece_of made.answer)
  heard_more = ap (λ (l : Standing). l.heard) (left_more catalog asks journal made)

  first_so : (awaits : Awaits) → before.awaits ≡ awaits → IsNear catalog texts journal (count + 2) → Tells catalog page event before after
      → (asked : NumberedAsk) → asked_in after.awaits ≡ Some asked → count + 3 ≤ asked.text → list_all (λ (end : EndedAsk). nat_lt end.asked.text asked.text) after.ended ≡ true
  first_so (AwaitsReply one serial later n last) is near tells asked awaited far =
      let at_hand : asked_in before.awaits ≡ Some one = ap asked_in is in
      let close = near one at_hand in
      let less : one.text < asked.text = omega (arith, close, far) in
      subst (λ (ends : List EndedAsk). list_all (λ (end : EndedAsk). nat_lt end.asked.text asked.text) ends ≡ true) (sym tells.ended)
      (joined asked.text before.ended (ended_on event before.awaits before.rows)
      (lower one.text asked.text before.ended less (texts_come_in_order catalog texts _ one at_hand).ended)
      (subst (λ (a : Awaits). list_all (λ (end : EndedAsk). nat_lt end.asked.text asked.text) (ended_on event a before.rows) ≡ true) (sym is)
      (ended_below asked.text event one serial later n last before.rows less)))
  first_so (AwaitsCatalog bytes) is near tells asked awaited far =
      let o = subst (λ (a : Awaits). Orderly catalog asks 1 (length texts) a before.rows before.ended) is (all_heard catalog texts _) in
      let none = none_ended before.ended _ (o.weigh (λ (one : NumberedAsk). 1)) in
      let more : ended_on event before.awaits before.rows ≡ [] = ap (λ (a : Awaits). ended_on event a before.rows) is ∙ ended_greeting event bytes before.rows in
      let all : after.ended ≡ [] = tells.ended ∙ ap (λ (ends : List EndedAsk). ends ++ ended_on event before.awaits before.rows) none ∙ more in
      ap (λ (ends : List EndedAsk). list_all (λ (end : EndedAsk). nat_lt end.asked.text asked.text) ends) all
  first_so AwaitsNothing is near tells asked awaited far =
      let nothing : after.awaits ≡ AwaitsNothing = ap (λ (h : Heard). h.awaits) heard_more ∙ nothing_more catalog asks before (piece_of made.answer) is in
      absurd (none_some asked (ap asked_in (sym nothing) ∙ awaited))
    where
      none_some : (one : NumberedAsk) → None ≡ Some one → ⊥
      none_some one e = cc

  -- an event that leads to another ask leaves no invalid frame
  unbroken : (event : Event) → IsUnbroken event after → (leads_on event ≡ false → ⊥) → after.broken ≡ false
  unbroken event_is.Part is leads = absurd (leads refl)
  unbroken event_is.Welcome is leads = is
  unbroken (event_is.Rows _) is leads = is
  unbroken event_is.Done is leads = is
  unbroken (event_is.Sorry _) is leads = is
  unbroken (event_is.Invalid _ _) is leads = absurd (leads refl)

  pub far_unsent : (pump : Pump) → IsAfter catalog asks (journal ++ made ∷ []) pump → GoesOn catalog at asks [] (journal ++ made ∷ []) → IsNear catalog texts journal (count + 2) → Tells catalog page event before after
      → (leads_on event ≡ false → asked_in after.awaits ≡ asked_in before.awaits) → FarIsUnsent catalog at texts (journal ++ made ∷ []) count
  far_unsent pump stands goes near tells same_ask = λ asked awaited far. go asked awaited far ((subst (λ (h : Heard). Grown catalog asks before.awaits (length before.due) h.awaits h.due) (sym heard_more) (grown catalog asks before (piece_of made.answer))).asked asked awaited)
    where
      not_near : (asked : NumberedAsk) → count + 3 ≤ asked.text → asked_in before.awaits ≡ Some asked → ⊥
      not_near asked far was = let close = near asked was in omega (arith, close, far)

      go : (asked : NumberedAsk) → asked_in after.awaits ≡ Some asked → count + 3 ≤ asked.text
          → (asked_in before.awaits ≡ Some asked) ⊎ IsDue catalog asks before.awaits (length before.due) after.due asked (serial_at after.awaits)
          → IsUnsent catalog at texts (journal ++ made ∷ []) asked
      go asked awaited far (inl was) = absurd (not_near asked far was)
      go asked awaited far (inr is) =
          let sent_few = all_sent catalog at asks [] journal made goes (omega arith) in
          let behind = is.behind in
          record {
            first = first_so before.awaits refl near tells asked awaited far;
            place = is.place;
            due = is.there;
            unsent = omega (arith, sent_few, behind);
            next = λ move e. sends_next catalog at asks pump (standing_after catalog asks (journal ++ made ∷ [])) (ap (λ (l : Standing). l.opened) (left_more catalog asks journal made))
                (not_stopped catalog at asks journal made move goes
                (λ (stop : is_stop made.answer ≡ true). not_near asked far (sym (ap (λ (h : Heard). asked_in h.awaits)
                (heard_more ∙ (ap (hear_all catalog asks before) (piece_of_stop made.answer stop) ∙ hear_none catalog asks before))) ∙ awaited)) e)
                (unbroken event tells.unbroken (λ (stays : leads_on event ≡ false). not_near asked far (sym (same_ask stays) ∙ awaited)))
                stands is.place _ is.there (omega (arith, sent_few, behind)) pump.stage refl move e;
          }

-- before the first move no ask is at hand
pub none_at_first : (catalog : Catalog) (at : List ℕ) (texts : List (List ℕ)) (count : ℕ) → FarIsUnsent catalog at texts [] count
none_at_first catalog at texts count = λ asked awaited far. absurd (none_some asked (ap (λ (h : Heard). asked_in h.awaits) (sym (heard_none catalog texts)) ∙ awaited))
  where
    none_some : (one : NumberedAsk) → None ≡ Some one → ⊥
    none_some one e = cc

-- after more texts fewer asks are far
pub later_far : (catalog : Catalog) (at : List ℕ) (texts : List (List ℕ)) (journal : Journal) (count later : ℕ) → count ≤ later → FarIsUnsent catalog at texts journal count → FarIsUnsent catalog at texts journal later
later_far catalog at texts journal count later onward unsent = λ asked awaited far. unsent asked awaited (omega (arith, onward, far))
