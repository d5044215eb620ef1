-- One more move of a session.
use Rattle.std.proofs.Common.{◌≡◌, ◌<◌, ◌≤◌, ◌+◌, ◌-◌, ℕ, zero, suc, arith, Bool, true, false, ◌||◌, length, take, drop, List, [], ◌∷◌, ◌++◌, Option, Some, None, refl, sym, ◌∙◌, ap, subst, append-nil, append_assoc}
use Rattle.std.proofs.lemmas.Grind.{flat_map-append}
use Rattle.std.specs.Prelude.{if◌then◌else◌, not, nat_lt}
use Rattle.ghost_model.specs.core.Channel.{Catalog, Frame, HelloFrame, AskFrame, MoreFrame, ByeFrame, WelcomeFrame, RowsFrame, DoneFrame, SorryFrame, Move, Dial, Listen, Accept, Send, Take, Close, Answer, Piece, End, Entry, Journal}
use Rattle.ghost_model.specs.core.Asks.{NumberedAsk}
use Rattle.ghost_model.specs.forms.Frames.{AreBytes, frame_in, size_in}
use Rattle.ghost_model.specs.core.Moves.{taken, piece_of}
use Rattle.ghost_model.proofs.ChannelLemmas.{bytes_snoc}
use Rattle.ghost_model.specs.core.NextMove.{Heard, Standing, Awaits, AwaitsCatalog, AwaitsReply, AwaitsNothing, Verdict, Lacking, Complete, Invalid, GoesOn, IsFinished, standing_after, heard, hear_all, heard_as, after_frame, verdict, header_fits, payload_fits, next_with, is_close}
use Rattle.channel_pump.specs.Turning.{event_of, event_at, event_after}
use Rattle.channel_pump.proofs.CuttingLemmas.{cut}
use Rattle.std.proofs.lemmas.List.{length-take-le, length-drop}
use Rattle.channel_pump.specs.State.{IsAfter, Keeps, entry, taken_entry, IsStage, want_at, want_of, is_closed, has_broken}
use Rattle.channel_pump.specs.declared.state.Pump.{Pump}
use Rattle.channel_pump.specs.declared.state.Stage.{Stage}
use Rattle.channel_pump.specs.declared.state.Stage.TheVariants as stage
use Rattle.channel_pump.specs.declared.state.Want.TheVariants as want
use Rattle.channel_pump.specs.Progress.{Tells}
use Rattle.channel_pump.specs.declared.state.Event.{Event}
use Rattle.channel_pump.specs.declared.state.Event.TheVariants as event_is
use Rattle.channel_pump.proofs.JournalLemmas.{left_more}
use Rattle.channel_pump.specs.Sessions.{IsLive, Moved, heard_by, piece_at, asked_in, leads_on}

pub goes_more : (catalog : Catalog) (at : List ℕ) (asks : List NumberedAsk) (before journal : Journal) (entry : Entry) → GoesOn catalog at asks before journal → next_with catalog at asks (before ++ journal) ≡ Some entry.move → GoesOn catalog at asks before (journal ++ entry ∷ [])
goes_more catalog at asks before [] entry goes e = (ap (λ (j : Journal). next_with catalog at asks j) (sym (append-nil before)) ∙ e, tt)
goes_more catalog at asks before (first ∷ journal) entry goes e =
    (goes.0, goes_more catalog at asks (before ++ first ∷ []) journal entry goes.1 (ap (λ (j : Journal). next_with catalog at asks j) (append_assoc before (first ∷ []) journal) ∙ e))

finished_last : (journal : Journal) (entry : Entry) → entry.move ≡ Close → IsFinished (journal ++ entry ∷ [])
finished_last [] entry e = e
finished_last (first ∷ []) entry e = e
finished_last (first ∷ second ∷ journal) entry e = finished_last (second ∷ journal) entry e

not_closed : (closed : Bool) (rest : Option Move) (move : Move) → (if closed then None else rest) ≡ Some move → closed ≡ false
not_closed true rest move e = cc
not_closed false rest move e = refl

-- a session that has a next move was not closed
still_open : (catalog : Catalog) (at : List ℕ) (asks : List NumberedAsk) (journal : Journal) (move : Move) → next_with catalog at asks journal ≡ Some move → (standing_after catalog asks journal).closed ≡ false
still_open catalog at asks [] move e = refl
still_open catalog at asks (first ∷ journal) move e = not_closed (standing_after catalog asks (first ∷ journal)).closed _ move e

is_close_only : (move : Move) → is_close move ≡ true → move ≡ Close
is_close_only (Dial _) e = cc
is_close_only (Listen _) e = cc
is_close_only Accept e = cc
is_close_only (Send _) e = cc
is_close_only (Take _) e = cc
is_close_only Close e = refl

false_or : (a b : Bool) → a ≡ false → (a || b) ≡ true → b ≡ true
false_or false b e f = f
false_or true b e f = cc

taken_more : (journal : Journal) (entry : Entry) → taken (journal ++ entry ∷ []) ≡ taken journal ++ piece_of entry.answer
taken_more journal entry =
    flat_map-append (λ (e : Entry). piece_of e.answer) journal (entry ∷ []) ∙ ap (λ (bs : List ℕ). taken journal ++ bs) (append-nil (piece_of entry.answer))

bytes_more : (xs ys : List ℕ) → AreBytes xs → AreBytes ys → AreBytes (xs ++ ys)
bytes_more xs [] first second = subst AreBytes (sym (append-nil xs)) first
bytes_more xs (y ∷ ys) first second =
    subst AreBytes (append_assoc xs (y ∷ []) ys) (bytes_more (xs ++ y ∷ []) ys (bytes_snoc xs y first (second 0)) (λ i. second (suc i)))

pub no_bytes : AreBytes []
no_bytes i = omega arith

-- after one more move the session is closed only by a Close
finished_more : (catalog : Catalog) (at : List ℕ) (asks : List NumberedAsk) (journal : Journal) (entry : Entry) → next_with catalog at asks journal ≡ Some entry.move
    → (standing_after catalog asks (journal ++ entry ∷ [])).closed ≡ true → IsFinished (journal ++ entry ∷ [])
finished_more catalog at asks journal entry next shut =
    finished_last journal entry
    (is_close_only entry.move (false_or (standing_after catalog asks journal).closed (is_close entry.move) (still_open catalog at asks journal entry.move next)
    (sym (ap (λ (l : Standing). l.closed) (left_more catalog asks journal entry)) ∙ shut)))

-- a session goes on by the move that is next
pub live_more : (catalog : Catalog) (at : List ℕ) (asks : List NumberedAsk) (journal : Journal) (entry : Entry) (old new : Pump) (was page : List ℕ)
    → IsLive catalog at asks journal old was → next_with catalog at asks journal ≡ Some entry.move
    → AreBytes (piece_of entry.answer)
    → IsAfter catalog asks (journal ++ entry ∷ []) new → Keeps catalog asks (journal ++ entry ∷ []) page → IsLive catalog at asks (journal ++ entry ∷ []) new page
live_more catalog at asks journal entry old new was page live next bytes after keeps = record {
  proper = goes_more catalog at asks [] journal entry live.proper next;
  after = after;
  keeps = keeps;
  bytes = subst AreBytes (sym (taken_more journal entry)) (bytes_more (taken journal) (piece_of entry.answer) live.bytes bytes);
  finished = finished_more catalog at asks journal entry next;
}

same_taken : (journal : Journal) (entry : Entry) → piece_of entry.answer ≡ [] → taken (journal ++ entry ∷ []) ≡ taken journal
same_taken journal entry none = taken_more journal entry ∙ (ap (λ (bs : List ℕ). taken journal ++ bs) none ∙ append-nil (taken journal))

-- a move that takes nothing tells nothing
tells_nothing : (catalog : Catalog) (asks : List NumberedAsk) (journal : Journal) (entry : Entry) (page : List ℕ) → piece_of entry.answer ≡ []
    → Tells catalog page event_is.Part (heard_by catalog asks journal) (heard_by catalog asks (journal ++ entry ∷ []))
tells_nothing catalog asks journal entry page none =
    let same : heard_by catalog asks (journal ++ entry ∷ []) ≡ heard_by catalog asks journal = ap (λ (bytes : List ℕ). heard catalog asks bytes) (same_taken journal entry none) in
    record { rows = ap (λ (h : Heard). h.rows) same; ended = ap (λ (h : Heard). h.ended) same ∙ sym (append-nil (heard_by catalog asks journal).ended); came = tt; unbroken = tt }

-- a move that takes nothing was made
pub quiet : (goes : Journal → Type 0) (catalog : Catalog) (at : List ℕ) (asks : List NumberedAsk) (journal : Journal) (entry : Entry) (old new : Pump) (was page : List ℕ)
    → goes (entry ∷ []) → IsLive catalog at asks journal old was → next_with catalog at asks journal ≡ Some entry.move → piece_of entry.answer ≡ []
    → IsAfter catalog asks (journal ++ entry ∷ []) new → Keeps catalog asks (journal ++ entry ∷ []) page
    → Moved goes catalog at asks journal event_is.Part new page
quiet goes catalog at asks journal entry old new was page went live next none after keeps = record {
  made = entry;
  went = went;
  live = live_more catalog at asks journal entry old new was page live next (subst AreBytes (sym none) no_bytes) after keeps;
  tells = tells_nothing catalog asks journal entry page none;
  same_ask = λ _. ap (λ (bytes : List ℕ). asked_in (heard catalog asks bytes).awaits) (same_taken journal entry none);
  greeting = λ e. cc;
}

pub closed_stage : (p : Pump) (s : Stage) → want_at p s ≡ want.Closed → is_closed s ≡ true
closed_stage p stage.Dialling e = cc
closed_stage p (stage.Sending _) e = cc
closed_stage p stage.Taking e = cc
closed_stage p (stage.Closing _) e = cc
closed_stage p (stage.Closed _) e = refl

-- what a take is wanted for: bytes behind the part at hand, so many
pub record IsTake (catalog : Catalog) (asks : List NumberedAsk) (journal : Journal) (p : Pump) (place most : ℕ) : Type 0 where
  pub have : p.have ≡ place
  pub lacks : p.lacks ≡ most
  pub part : length (heard_by catalog asks journal).part ≡ place
  pub short : verdict catalog (heard_by catalog asks journal).awaits (heard_by catalog asks journal).part ≡ Lacking most

take_at : (catalog : Catalog) (asks : List NumberedAsk) (journal : Journal) (p : Pump) (place most : ℕ) (s : Stage) → IsStage catalog p (standing_after catalog asks journal) s
    → want_at p s ≡ want.Take place most → IsTake catalog asks journal p place most
take_at catalog asks journal p place most stage.Dialling h e = cc
take_at catalog asks journal p place most (stage.Sending _) h e = cc
take_at catalog asks journal p place most stage.Taking h e = record {
  have = cc;
  lacks = cc;
  part = h.have ∙ (let same : p.have ≡ place = cc in same);
  short = h.lacks ∙ (let same : p.lacks ≡ most = cc in ap Lacking same);
}
take_at catalog asks journal p place most (stage.Closing _) h e = cc
take_at catalog asks journal p place most (stage.Closed _) h e = cc

pub is_take : (catalog : Catalog) (at : List ℕ) (asks : List NumberedAsk) (journal : Journal) (pump : Pump) (page : List ℕ) (place most : ℕ) → IsLive catalog at asks journal pump page
    → want_of pump ≡ want.Take place most → IsTake catalog asks journal pump place most
is_take catalog at asks journal pump page place most live e = take_at catalog asks journal pump place most pump.stage live.after.stage e

-- a page whose front is the same keeps the part
pub front_keeps : (catalog : Catalog) (asks : List NumberedAsk) (journal : Journal) (place : ℕ) (old new : List ℕ) → length (heard_by catalog asks journal).part ≡ place
    → take place new ≡ take place old → Keeps catalog asks journal old → Keeps catalog asks journal new
front_keeps catalog asks journal place old new long same keeps =
    ap (λ (n : ℕ). take n new) long ∙ (same ∙ (ap (λ (n : ℕ). take n old) (sym long) ∙ keeps))

pub gave_some : (at count : ℕ) (page : List ℕ) → (count ≡ 0 → ⊥) → piece_at at count page ≡ Piece (take count (drop at page))
gave_some at zero page some = absurd (some refl)
gave_some at (suc more) page some = refl

-- a frame that leads to no other ask
frame_stays : (catalog : Catalog) (asks : List NumberedAsk) (awaits : Awaits) (frame : Frame) (rows : ℕ) → leads_on (event_of rows frame) ≡ false
    → asked_in (after_frame catalog asks awaits frame).awaits ≡ asked_in awaits
frame_stays catalog asks (AwaitsCatalog bytes) (HelloFrame _) rows e = refl
frame_stays catalog asks (AwaitsCatalog bytes) (AskFrame _ _) rows e = refl
frame_stays catalog asks (AwaitsCatalog bytes) (MoreFrame _) rows e = refl
frame_stays catalog asks (AwaitsCatalog bytes) ByeFrame rows e = refl
frame_stays catalog asks (AwaitsCatalog bytes) (WelcomeFrame _ _) rows e = cc
frame_stays catalog asks (AwaitsCatalog bytes) (RowsFrame _ _) rows e = refl
frame_stays catalog asks (AwaitsCatalog bytes) (DoneFrame _ _) rows e = refl
frame_stays catalog asks (AwaitsCatalog bytes) (SorryFrame _ _) rows e = refl
frame_stays catalog asks (AwaitsReply asked serial later count last) (HelloFrame _) rows e = refl
frame_stays catalog asks (AwaitsReply asked serial later count last) (AskFrame _ _) rows e = refl
frame_stays catalog asks (AwaitsReply asked serial later count last) (MoreFrame _) rows e = refl
frame_stays catalog asks (AwaitsReply asked serial later count last) ByeFrame rows e = refl
frame_stays catalog asks (AwaitsReply asked serial later count last) (WelcomeFrame _ _) rows e = refl
frame_stays catalog asks (AwaitsReply asked serial later count last) (RowsFrame _ _) rows e = refl
frame_stays catalog asks (AwaitsReply asked serial later count last) (DoneFrame _ _) rows e = cc
frame_stays catalog asks (AwaitsReply asked serial later count last) (SorryFrame _ _) rows e = cc
frame_stays catalog asks AwaitsNothing frame rows e = refl

heard_stays : (catalog : Catalog) (asks : List NumberedAsk) (before : Heard) (part : List ℕ) (v : Verdict) → leads_on (event_at catalog before part v) ≡ false
    → asked_in (heard_as catalog asks before part v).awaits ≡ asked_in before.awaits
heard_stays catalog asks before part (Lacking _) e = refl
heard_stays catalog asks before part Complete e = frame_stays catalog asks before.awaits (frame_in part) _ e
heard_stays catalog asks before part Invalid e = refl

piece_stays : (catalog : Catalog) (asks : List NumberedAsk) (before : Heard) (piece : List ℕ) (missing : ℕ) → before.broken ≡ false
    → verdict catalog before.awaits before.part ≡ Lacking missing → 0 < length piece → length piece ≤ missing → leads_on (event_after catalog before piece) ≡ false
    → asked_in (hear_all catalog asks before piece).awaits ≡ asked_in before.awaits
piece_stays catalog asks before piece missing whole short some fits e =
    ap (λ (h : Heard). asked_in h.awaits) (cut catalog asks before piece missing whole short some fits)
    ∙ heard_stays catalog asks before (before.part ++ piece) (verdict catalog before.awaits (before.part ++ piece)) e

heard_more : (catalog : Catalog) (asks : List NumberedAsk) (journal : Journal) (entry : Entry) → heard_by catalog asks (journal ++ entry ∷ []) ≡ hear_all catalog asks (heard_by catalog asks journal) (piece_of entry.answer)
heard_more catalog asks journal entry = ap (λ (l : Standing). l.heard) (left_more catalog asks journal entry)

whole_fits : (short narrow longer fits : Bool) (first second : ℕ)
    → (if short then Lacking first else if narrow then Invalid else if longer then Lacking second else if fits then Complete else Invalid) ≡ Complete → fits ≡ true
whole_fits true narrow longer fits first second e = cc
whole_fits false true longer fits first second e = cc
whole_fits false false true fits first second e = cc
whole_fits false false false true first second e = refl
whole_fits false false false false first second e = cc

-- a part of the catalog comes where no ask is awaited
welcome_fits_none : (catalog : Catalog) (awaits : Awaits) (frame : Frame) (rows : ℕ) → payload_fits catalog awaits frame ≡ true → event_of rows frame ≡ event_is.Welcome → asked_in awaits ≡ None
welcome_fits_none catalog (AwaitsCatalog bytes) frame rows fits e = refl
welcome_fits_none catalog AwaitsNothing frame rows fits e = refl
welcome_fits_none catalog (AwaitsReply asked serial later count last) (HelloFrame _) rows fits e = cc
welcome_fits_none catalog (AwaitsReply asked serial later count last) (AskFrame _ _) rows fits e = cc
welcome_fits_none catalog (AwaitsReply asked serial later count last) (MoreFrame _) rows fits e = cc
welcome_fits_none catalog (AwaitsReply asked serial later count last) ByeFrame rows fits e = cc
welcome_fits_none catalog (AwaitsReply asked serial later count last) (WelcomeFrame _ _) rows fits e = cc
welcome_fits_none catalog (AwaitsReply asked serial later count last) (RowsFrame _ _) rows fits e = cc
welcome_fits_none catalog (AwaitsReply asked serial later count last) (DoneFrame _ _) rows fits e = cc
welcome_fits_none catalog (AwaitsReply asked serial later count last) (SorryFrame _ _) rows fits e = cc

event_whole : (catalog : Catalog) (before : Heard) (part : List ℕ) (v : Verdict) → event_at catalog before part v ≡ event_is.Welcome → v ≡ Complete
event_whole catalog before part (Lacking _) e = cc
event_whole catalog before part Complete e = refl
event_whole catalog before part Invalid e = cc

welcomed : (catalog : Catalog) (before : Heard) (piece : List ℕ) → event_after catalog before piece ≡ event_is.Welcome → asked_in before.awaits ≡ None
welcomed catalog before piece e =
    let part : List ℕ = before.part ++ piece in
    let whole : verdict catalog before.awaits part ≡ Complete = event_whole catalog before part (verdict catalog before.awaits part) e in
    welcome_fits_none catalog before.awaits (frame_in part) _ (whole_fits (nat_lt (length part) 8) (not (header_fits catalog before.awaits part)) (nat_lt (length part) (8 + size_in part)) (payload_fits catalog before.awaits (frame_in part)) (8 - length part) (8 + size_in part - length part) whole) (ap (event_at catalog before part) (sym whole) ∙ e)

-- a piece was taken into the page behind the part at hand
pub took_piece : (goes : Journal → Type 0) (catalog : Catalog) (at : List ℕ) (asks : List NumberedAsk) (journal : Journal) (old new : Pump) (was page : List ℕ) (place most count : ℕ) (event : Event)
    (piece : List ℕ) → 0 < count → count ≤ most → place + most ≤ length page → (heard_by catalog asks journal).broken ≡ false
    → event ≡ event_after catalog (heard_by catalog asks journal) (take count (drop old.have page)) → IsLive catalog at asks journal old was → next_with catalog at asks journal ≡ Some (Take most) → IsTake catalog asks journal old place most
    → (answer : Answer) → goes (entry (Take most) answer ∷ []) → answer ≡ Piece (take count (drop place page)) → piece ≡ take count (drop place page) → AreBytes piece
    → IsAfter catalog asks (journal ++ taken_entry old page count ∷ []) new
    → Keeps catalog asks (journal ++ taken_entry old page count ∷ []) page
    → Tells catalog page event (heard_by catalog asks journal) (heard_by catalog asks (journal ++ taken_entry old page count ∷ []))
    → Moved goes catalog at asks journal event new page
took_piece goes catalog at asks journal old new was page place most count event piece some fits room whole is_event live next wanted answer went gave is bytes after keeps tells =
    let same : entry (Take most) (Piece (take count (drop place page))) ≡ taken_entry old page count = rw (wanted.lacks, wanted.have) refl in
    let long : length (take count (drop old.have page)) ≡ count =
    length-take-le count (drop old.have page) (let dropped : length (drop old.have page) ≡ length page - old.have = length-drop old.have page in omega (arith, dropped, fits, room, wanted.have)) in
    record {
      made = taken_entry old page count;
      went = subst (λ (e : Entry). goes (e ∷ [])) (ap (entry (Take most)) gave ∙ same) went;
      live = live_more catalog at asks journal (taken_entry old page count) old new was page live (next ∙ ap (λ (e : Entry). Some e.move) same)
          (subst AreBytes (is ∙ ap (λ (e : Entry). piece_of e.answer) same) bytes) after keeps;
      tells = tells;
      greeting = λ e. welcomed catalog (heard_by catalog asks journal) (take count (drop old.have page)) (sym is_event ∙ e);
      same_ask = λ e.
          ap (λ (h : Heard). asked_in h.awaits) (heard_more catalog asks journal (taken_entry old page count))
          ∙ piece_stays catalog asks (heard_by catalog asks journal) (take count (drop old.have page)) most whole wanted.short
          (omega (arith, some, long)) (omega (arith, fits, long)) (sym (ap leads_on is_event) ∙ e);
    }

pub gave_none : (at count : ℕ) (page : List ℕ) → count ≡ 0 → piece_at at count page ≡ End
gave_none at zero page none = refl
gave_none at (suc more) page none = cc

-- the stream ended
pub ended : (goes : Journal → Type 0) (catalog : Catalog) (at : List ℕ) (asks : List NumberedAsk) (journal : Journal) (most : ℕ) (answer : Answer) (old new : Pump) (was page : List ℕ)
    → goes (entry (Take most) answer ∷ []) → answer ≡ End → IsLive catalog at asks journal old was → next_with catalog at asks journal ≡ Some (Take most)
    → IsAfter catalog asks (journal ++ entry (Take most) End ∷ []) new → Keeps catalog asks (journal ++ entry (Take most) End ∷ []) page
    → Moved goes catalog at asks journal event_is.Part new page
ended goes catalog at asks journal most answer old new was page went is live next after keeps =
    quiet goes catalog at asks journal (entry (Take most) End) old new was page (subst (λ (a : Answer). goes (entry (Take most) a ∷ [])) is went) live next refl after keeps

pub positive : (count : ℕ) → (count ≡ 0 → ⊥) → 0 < count
positive zero some = absurd (some refl)
positive (suc count) some = omega arith

pub taking_unbroken : (p : Pump) (s : Stage) (place most : ℕ) → want_at p s ≡ want.Take place most → has_broken s ≡ false
taking_unbroken p stage.Dialling place most e = cc
taking_unbroken p (stage.Sending _) place most e = cc
taking_unbroken p stage.Taking place most e = refl
taking_unbroken p (stage.Closing _) place most e = cc
taking_unbroken p (stage.Closed _) place most e = cc
