-- That a proper journal sent the first of the frames that are due.
use Rattle.std.proofs.Common.{◌≡◌, ℕ, Bool, true, false, List, [], ◌∷◌, ◌++◌, length, map, sym, ◌∙◌, ap, subst, refl, append-nil, append_assoc, Option, Some, None}
use Rattle.std.specs.Prelude.{not, ◌||◌, if◌then◌else◌, slice_get}
use Rattle.std.proofs.lemmas.List.{length-map, map-append}
use Rattle.std.proofs.lemmas.Grind.{flat_map-append}
use Rattle.ghost_model.specs.core.Channel.{Catalog, Frame, Move, Dial, Listen, Accept, Send, Take, Close, Answer, Entry, Journal}
use Rattle.ghost_model.specs.core.Asks.{NumberedAsk}
use Rattle.ghost_model.specs.forms.Frames.{frame_bytes}
use Rattle.ghost_model.specs.core.Moves.{sent, taken, sent_by, piece_of}
use Rattle.ghost_model.specs.core.NextMove.{Awaits, AwaitsCatalog, AwaitsReply, AwaitsNothing, Verdict, Lacking, Complete, Invalid, verdict, Heard, heard, heard_as, hear, hear_all, at_first, standing_after, Standing, next_with, send_or, take_or_close, GoesOn}
use Rattle.ghost_model.specs.laws.ShortWords.{due}
use Rattle.ghost_model.specs.laws.ChannelLaws.{IsDue}
use Rattle.ghost_model.specs.laws.HostLaws.{IsFront}

same_front : (frames : List Frame) → IsFront frames frames
same_front frames = record { rest = []; joined = sym (append-nil frames) }

longer_front : (a b c : List Frame) → IsFront a b → IsFront b c → IsFront a c
longer_front a b c f g = record {
  rest = f.rest ++ g.rest;
  joined = g.joined ∙ (ap (λ (xs : List Frame). xs ++ g.rest) f.joined ∙ append_assoc a f.rest g.rest);
}

-- entries and moves
sent_more : (before : Journal) (entry : Entry) → sent (before ++ entry ∷ []) ≡ sent before ++ sent_by entry.move
sent_more before entry =
    flat_map-append (λ (e : Entry). sent_by e.move) before (entry ∷ []) ∙ ap (λ (xs : List (List ℕ)). sent before ++ xs) (append-nil (sent_by entry.move))

taken_more : (before : Journal) (entry : Entry) → taken (before ++ entry ∷ []) ≡ taken before ++ piece_of entry.answer
taken_more before entry =
    flat_map-append (λ (e : Entry). piece_of e.answer) before (entry ∷ []) ∙ ap (λ (xs : List ℕ). taken before ++ xs) (append-nil (piece_of entry.answer))

-- what is next of a list at the end of its front
next_after : (frames rest : List Frame) (frame : Frame) → slice_get (frames ++ rest) (length frames) ≡ Some frame → slice_get rest 0 ≡ Some frame
next_after [] rest frame e = e
next_after (x ∷ xs) rest frame e = next_after xs rest frame e

none_is_not : (frame : Frame) → None ≡ Some frame → ⊥
none_is_not frame e = cc

same_some : (a b : Frame) → Some a ≡ Some b → a ≡ b
same_some a b e = cc

record Begun (rest : List Frame) (frame : Frame) : Type 0 where
  later : List Frame
  is : rest ≡ frame ∷ later

begun : (rest : List Frame) (frame : Frame) → slice_get rest 0 ≡ Some frame → Begun rest frame
begun [] frame e = absurd (none_is_not frame e)
begun (x ∷ xs) frame e = record { later = xs; is = ap (λ (f : Frame). f ∷ xs) (same_some x frame e) }

-- a Send is of the next frame that is due
record Sends (o : Option Frame) (bytes : List ℕ) : Type 0 where
  frame : Frame
  is_next : o ≡ Some frame
  same : bytes ≡ frame_bytes frame

same_move : (m n : Move) → Some m ≡ Some n → m ≡ n
same_move m n e = cc

same_sent : (a b : List ℕ) → Send a ≡ Send b → a ≡ b
same_sent a b e = cc

dial_is_not : (at bytes : List ℕ) → Some (Dial at) ≡ Some (Send bytes) → ⊥
dial_is_not at bytes e = cc

no_move_is_not : (bytes : List ℕ) → None ≡ Some (Send bytes) → ⊥
no_move_is_not bytes e = cc

close_is_not : (bytes : List ℕ) → Some Close ≡ Some (Send bytes) → ⊥
close_is_not bytes e = cc

take_is_not : (most : ℕ) (bytes : List ℕ) → Some (Take most) ≡ Some (Send bytes) → ⊥
take_is_not most bytes e = cc

rest_is_not : (catalog : Catalog) (h : Heard) (awaits : Awaits) (bytes : List ℕ) → Some (take_or_close catalog h awaits) ≡ Some (Send bytes) → ⊥
rest_is_not catalog h (AwaitsCatalog missing) bytes e = take_is_not _ bytes e
rest_is_not catalog h (AwaitsReply asked serial later count last) bytes e = take_is_not _ bytes e
rest_is_not catalog h AwaitsNothing bytes e = close_is_not bytes e

sends : (catalog : Catalog) (at : List ℕ) (h : Heard) (opened closed stopped : Bool) (o : Option Frame) (bytes : List ℕ)
    → (if not opened then Some (Dial at) else if closed then None else if stopped then Some Close else Some (send_or (take_or_close catalog h h.awaits) o)) ≡ Some (Send bytes)
    → Sends o bytes
sends catalog at h false closed stopped o bytes e = absurd (dial_is_not at bytes e)
sends catalog at h true true stopped o bytes e = absurd (no_move_is_not bytes e)
sends catalog at h true false true o bytes e = absurd (close_is_not bytes e)
sends catalog at h true false false None bytes e = absurd (rest_is_not catalog h h.awaits bytes e)
sends catalog at h true false false (Some frame) bytes e =
    record { frame = frame; is_next = refl; same = sym (same_sent (frame_bytes frame) bytes (same_move _ _ e)) }

module _ (catalog : Catalog) (at : List ℕ) (asks : List NumberedAsk) where
  due_judged : (h : Heard) (part : List ℕ) (v : Verdict) → IsFront h.due (heard_as catalog asks h part v).due
  due_judged h part (Lacking m) = same_front h.due
  due_judged h part Complete = record { rest = _; joined = refl }
  due_judged h part Invalid = same_front h.due

  due_either : (h : Heard) (other : Heard) (broken : Bool) → IsFront h.due other.due → IsFront h.due (if broken then h else other).due
  due_either h other true f = same_front h.due
  due_either h other false f = f

  due_grows : (h : Heard) (bytes : List ℕ) → IsFront h.due (hear_all catalog asks h bytes).due
  unfolding hear_all
  due_grows h [] = same_front h.due
  due_grows h (byte ∷ bytes) =
      longer_front _ _ _
      (due_either h (heard_as catalog asks h (h.part ++ byte ∷ []) (verdict catalog h.awaits (h.part ++ byte ∷ []))) h.broken
      (due_judged h (h.part ++ byte ∷ []) (verdict catalog h.awaits (h.part ++ byte ∷ []))))
      (due_grows (hear catalog asks h byte) bytes)

  pub heard_more : (h : Heard) (xs ys : List ℕ) → hear_all catalog asks h (xs ++ ys) ≡ hear_all catalog asks (hear_all catalog asks h xs) ys
  unfolding hear_all
  heard_more h [] ys = refl
  heard_more h (x ∷ xs) ys = heard_more (hear catalog asks h x) xs ys

  -- the frames that are due after one more entry begin with those before
  due_after : (before : Journal) (entry : Entry) → IsFront (due catalog asks (taken before)) (due catalog asks (taken (before ++ entry ∷ [])))
  due_after before entry =
      let grown : IsFront (due catalog asks (taken before)) (hear_all catalog asks (heard catalog asks (taken before)) (piece_of entry.answer)).due = due_grows (heard catalog asks (taken before)) (piece_of entry.answer) in
      subst (λ (h : Heard). IsFront (due catalog asks (taken before)) h.due)
      (sym (ap (λ (bytes : List ℕ). heard catalog asks bytes) (taken_more before entry) ∙ heard_more (at_first catalog) (taken before) (piece_of entry.answer)))
      grown

  -- a move that sends nothing
  quiet : (before : Journal) (entry : Entry) → IsDue catalog asks before → sent_by entry.move ≡ [] → IsDue catalog asks (before ++ entry ∷ [])
  quiet before entry d e =
      let more : IsFront (due catalog asks (taken before)) (due catalog asks (taken (before ++ entry ∷ []))) = due_after before entry in
      record {
        frames = d.frames;
        sent_are = sent_more before entry ∙ (ap (λ (xs : List (List ℕ)). sent before ++ xs) e ∙ (append-nil (sent before) ∙ d.sent_are));
        rest = d.rest ++ more.rest;
        due_are = more.joined ∙ (ap (λ (xs : List Frame). xs ++ more.rest) d.due_are ∙ append_assoc d.frames d.rest more.rest);
      }

  sending : (before : Journal) (bytes : List ℕ) (answer : Answer) → IsDue catalog asks before → next_with catalog at asks before ≡ Some (Send bytes) → IsDue catalog asks (before ++ record { move = Send bytes; answer = answer } ∷ [])
  sending before bytes answer d e =
      let entry : Entry = record { move = Send bytes; answer = answer } in
      let l : Standing = standing_after catalog asks before in
      let way : Sends (slice_get l.heard.due l.sent) bytes = sends catalog at l.heard l.opened l.closed (l.stopped || l.heard.broken) (slice_get l.heard.due l.sent) bytes e in
      let count : length (sent before) ≡ length d.frames = ap length d.sent_are ∙ length-map d.frames frame_bytes in
      let here : slice_get (d.frames ++ d.rest) (length d.frames) ≡ Some way.frame =
      sym (ap (λ (n : ℕ). slice_get (d.frames ++ d.rest) n) count) ∙ (sym (ap (λ (xs : List Frame). slice_get xs (length (sent before))) d.due_are) ∙ way.is_next) in
      let next : Begun d.rest way.frame = begun d.rest way.frame (next_after d.frames d.rest way.frame here) in
      let more : IsFront (due catalog asks (taken before)) (due catalog asks (taken (before ++ entry ∷ []))) = due_after before entry in
      record {
        frames = d.frames ++ way.frame ∷ [];
        sent_are =
            sent_more before entry
            ∙ (ap (λ (xs : List (List ℕ)). xs ++ bytes ∷ []) d.sent_are
            ∙ (ap (λ (bs : List ℕ). map frame_bytes d.frames ++ bs ∷ []) way.same
            ∙ sym (map-append frame_bytes d.frames (way.frame ∷ []))));
        rest = next.later ++ more.rest;
        due_are =
            more.joined
            ∙ (ap (λ (xs : List Frame). xs ++ more.rest) (d.due_are ∙ ap (λ (xs : List Frame). d.frames ++ xs) next.is)
            ∙ simp append_assoc);
      }

  one_more : (before : Journal) (move : Move) (answer : Answer) → IsDue catalog asks before → next_with catalog at asks before ≡ Some move → IsDue catalog asks (before ++ record { move = move; answer = answer } ∷ [])
  one_more before (Dial to) answer d e = quiet before (record { move = Dial to; answer = answer }) d refl
  one_more before (Listen to) answer d e = quiet before (record { move = Listen to; answer = answer }) d refl
  one_more before Accept answer d e = quiet before (record { move = Accept; answer = answer }) d refl
  one_more before (Send bytes) answer d e = sending before bytes answer d e
  one_more before (Take most) answer d e = quiet before (record { move = Take most; answer = answer }) d refl
  one_more before Close answer d e = quiet before (record { move = Close; answer = answer }) d refl

  all_more : (before journal : Journal) → IsDue catalog asks before → GoesOn catalog at asks before journal → IsDue catalog asks (before ++ journal)
  all_more before [] d goes = subst (λ (j : Journal). IsDue catalog asks j) (sym (append-nil before)) d
  all_more before (entry ∷ later) d goes =
      subst (λ (j : Journal). IsDue catalog asks j) (append_assoc before (entry ∷ []) later)
      (all_more (before ++ entry ∷ []) later (one_more before entry.move entry.answer d goes.0) goes.1)

  pub sent_is_due : (journal : Journal) → GoesOn catalog at asks [] journal → IsDue catalog asks journal
  unfolding hear_all
  sent_is_due journal goes = all_more [] journal (record { frames = []; sent_are = refl; rest = _; due_are = refl }) goes
