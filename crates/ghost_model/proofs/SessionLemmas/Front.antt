-- That the asks of a proper journal with an honest host are the first of the session's asks, and that what the key heard
-- of them begins their whole replies.
use Rattle.std.proofs.Common.{◌≡◌, ℕ, suc, ◌+◌, ◌≤◌, Bool, true, false, ◌||◌, List, [], ◌∷◌, ◌++◌, length, map, sym, ◌∙◌, ap, subst, refl, arith, append-nil, append_assoc, length-append}
use Rattle.std.specs.Prelude.{◌==◌, if◌then◌else◌, flat_map}
use Rattle.std.proofs.lemmas.Grind.{flat_map-append}
use Rattle.std.proofs.lemmas.List.{length-map}
use Rattle.ghost_model.specs.core.Channel.{Catalog, Frame, HelloFrame, AskFrame, MoreFrame, ByeFrame, WelcomeFrame, RowsFrame, DoneFrame, SorryFrame}
use Rattle.ghost_model.specs.core.Asks.{NumberedAsk, ask_payload}
use Rattle.ghost_model.specs.forms.Frames.{frame_in}
use Rattle.ghost_model.specs.core.NextMove.{Awaits, AwaitsCatalog, AwaitsReply, AwaitsNothing, Verdict, Lacking, Complete, Invalid, verdict, FrameOutcome, ask_next, of_later_texts, still, turn_of_greeting, turn_of_reply, after_frame, EndedAsk, ended_by, Heard, heard_frame, heard_as, hear, hear_all, at_first, heard}
use Rattle.ghost_model.specs.core.Lines.{is_refused_by, was_refused}
use Rattle.ghost_model.proofs.ChannelLemmas.Tests.{false_is_not}
use Rattle.ghost_model.proofs.ChannelLemmas.Sending.{heard_more}

-- a list begins another
pub record Begins {X : Type 0} (front whole : List X) : Type 0 where
  pub rest : List X
  pub joined : whole ≡ front ++ rest

pub begins_itself : {X : Type 0} (xs : List X) → Begins xs xs
begins_itself xs = record { rest = []; joined = sym (append-nil xs) }

pub begins_longer : {X : Type 0} (a b c : List X) → Begins a b → Begins b c → Begins a c
begins_longer {X} a b c f g = record {
  rest = f.rest ++ g.rest;
  joined = g.joined ∙ (ap (λ (xs : List X). xs ++ g.rest) f.joined ∙ append_assoc a f.rest g.rest);
}

same_heads : {X : Type 0} (x y : X) (xs ys : List X) → x ∷ xs ≡ y ∷ ys → (x ≡ y) × (xs ≡ ys)
same_heads x y xs ys e = (cc, cc)

-- of two fronts of one list one begins the other, the shorter one the longer
pub shorter_begins : {X : Type 0} (a b c : List X) → Begins a c → Begins b c → length a ≤ length b → Begins a b
shorter_begins [] b c f g h = record { rest = b; joined = refl }
shorter_begins (x ∷ a) [] c f g h = absurd (omega (arith, h))
shorter_begins {X} (x ∷ a) (y ∷ b) c f g h =
    let same = same_heads x y (a ++ f.rest) (b ++ g.rest) (sym f.joined ∙ g.joined) in
    let later : Begins a b = shorter_begins a b (b ++ g.rest) (record { rest = f.rest; joined = sym same.1 }) (record { rest = g.rest; joined = refl }) (omega (arith, h)) in
    record { rest = later.rest; joined = ap (λ (z : X). z ∷ b) (sym same.0) ∙ ap (λ (zs : List X). x ∷ zs) later.joined }

-- the asks in frames of the key, by what is awaited and what was sent
abbrev pub still_to_come : List NumberedAsk → Awaits → List NumberedAsk
still_to_come asks (AwaitsCatalog bytes) = asks
still_to_come asks (AwaitsReply one serial later count last) = later
still_to_come asks AwaitsNothing = []

module _ (catalog : Catalog) (asks : List NumberedAsk) where
  -- the payloads of the asks in frames
  abbrev pub payload_in : Frame → List (List ℕ)
  payload_in (AskFrame serial payload) = payload ∷ []
  payload_in _ = []

  abbrev pub payload_of : NumberedAsk → List ℕ
  payload_of one = ask_payload catalog.schema one.ask

  -- the asks that are due and those to come are all asks, unless one was refused
  abbrev pub Accounts : List Frame → Awaits → Type 0
  Accounts due awaits = flat_map payload_in due ++ map payload_of (still_to_come asks awaits) ≡ map payload_of asks

  abbrev pub KeepsCount : List Frame → Awaits → Type 0
  KeepsCount due awaits = length (flat_map payload_in due) + length (still_to_come asks awaits) ≤ length asks

  -- what a turn makes due stands first among what was to come
  record IsNext (before : List NumberedAsk) (next : FrameOutcome) : Type 0 where
    accounts : flat_map payload_in next.due ++ map payload_of (still_to_come asks next.awaits) ≡ map payload_of before

  counted_next : (before : List NumberedAsk) (next : FrameOutcome) → IsNext before next → length (flat_map payload_in next.due) + length (still_to_come asks next.awaits) ≡ length before
  counted_next before next n =
      let sizes = ap length n.accounts in
      let one = length-append (flat_map payload_in next.due) (map payload_of (still_to_come asks next.awaits)) in
      let two = length-map (still_to_come asks next.awaits) payload_of in
      let three = length-map before payload_of in
      omega (arith, sizes, one, two, three)

  next_asks : (serial : ℕ) (later : List NumberedAsk) → IsNext later (ask_next catalog.schema serial later)
  next_asks serial [] = record { accounts = refl }
  next_asks serial (one ∷ later) = record { accounts = refl }

  next_quiet : (awaits : Awaits) → IsNext (still_to_come asks awaits) (still awaits)
  next_quiet awaits = record { accounts = refl }

  next_if : (whole : Bool) (before : List NumberedAsk) (one other : FrameOutcome) → IsNext before one → IsNext before other → IsNext before (if whole then one else other)
  next_if true before one other h k = h
  next_if false before one other h k = k

  greeting_next : (missing : List ℕ) (frame : Frame) → IsNext asks (turn_of_greeting catalog.schema asks missing frame)
  greeting_next missing (WelcomeFrame last part) =
      next_if (length part == length missing) asks _ _ (next_asks 1 asks) (record { accounts = refl })
  greeting_next missing (HelloFrame _) = record { accounts = refl }
  greeting_next missing (AskFrame _ _) = record { accounts = refl }
  greeting_next missing (MoreFrame _) = record { accounts = refl }
  greeting_next missing ByeFrame = record { accounts = refl }
  greeting_next missing (RowsFrame _ _) = record { accounts = refl }
  greeting_next missing (DoneFrame _ _) = record { accounts = refl }
  greeting_next missing (SorryFrame _ _) = record { accounts = refl }

  later_fewer : (text : ℕ) (xs : List NumberedAsk) → length (of_later_texts text xs) ≤ length xs
  later_fewer text [] = omega arith
  later_fewer text (one ∷ later) =
      let rest = later_fewer text later in
      (elim (one.text == text) as (λ v. length (if v then of_later_texts text later else one ∷ later) ≤ suc (length later)) [ true ↦ omega (arith, rest) | false ↦ omega arith ])

  -- what an ended ask leaves
  record IsStep (before : List NumberedAsk) (next : FrameOutcome) (ends : List EndedAsk) : Type 0 where
    unless_refused : was_refused ends ≡ false → IsNext before next
    count : length (flat_map payload_in next.due) + length (still_to_come asks next.awaits) ≤ length before

  plain_step : (before : List NumberedAsk) (next : FrameOutcome) (ends : List EndedAsk) → IsNext before next → IsStep before next ends
  plain_step before next ends n = record { unless_refused = λ _. n; count = let same = counted_next before next n in omega (arith, same) }

  reply_step : (one : NumberedAsk) (serial : ℕ) (later : List NumberedAsk) (count last : ℕ) (rows : List ℕ) (frame : Frame) → IsStep later (turn_of_reply catalog.schema one serial later count last frame) (ended_by (AwaitsReply one serial later count last) rows frame)
  reply_step one serial later count last rows (RowsFrame _ payload) = plain_step later _ _ (record { accounts = refl })
  reply_step one serial later count last rows (DoneFrame _ _) = plain_step later _ _ (next_asks (serial + 1) later)
  reply_step one serial later count last rows (SorryFrame _ _) =
      let same = counted_next (of_later_texts one.text later) (ask_next catalog.schema (serial + 1) (of_later_texts one.text later)) (next_asks (serial + 1) (of_later_texts one.text later)) in
      record { unless_refused = λ e. absurd (false_is_not (sym e)); count = omega (arith, same, later_fewer one.text later) }
  reply_step one serial later count last rows (HelloFrame _) = plain_step later _ _ (record { accounts = refl })
  reply_step one serial later count last rows (AskFrame _ _) = plain_step later _ _ (record { accounts = refl })
  reply_step one serial later count last rows (MoreFrame _) = plain_step later _ _ (record { accounts = refl })
  reply_step one serial later count last rows ByeFrame = plain_step later _ _ (record { accounts = refl })
  reply_step one serial later count last rows (WelcomeFrame _ _) = plain_step later _ _ (record { accounts = refl })

  step : (awaits : Awaits) (rows : List ℕ) (frame : Frame) → IsStep (still_to_come asks awaits) (after_frame catalog asks awaits frame) (ended_by awaits rows frame)
  step (AwaitsCatalog missing) rows frame = plain_step asks _ _ (greeting_next missing frame)
  step (AwaitsReply one serial later count last) rows frame = reply_step one serial later count last rows frame
  step AwaitsNothing rows frame = plain_step [] _ _ (record { accounts = refl })

  pub record IsAccounted (h : Heard) : Type 0 where
    pub accounts : was_refused h.ended ≡ false → Accounts h.due h.awaits
    pub count : KeepsCount h.due h.awaits

  refused_joined : (one other : List EndedAsk) → was_refused (one ++ other) ≡ false → (was_refused one ≡ false) × (was_refused other ≡ false)
  refused_joined [] other e = (refl, e)
  refused_joined (end ∷ one) other e =
      (elim (is_refused_by end.ending) as (λ v. (v || was_refused (one ++ other)) ≡ false → ((v || was_refused one) ≡ false) × (was_refused other ≡ false)) [
        | true ↦ λ k. absurd (false_is_not (sym k))
        | false ↦ λ k. refused_joined one other k
      ]) e

  accounted_frame : (h : Heard) (frame : Frame) → IsAccounted h → IsStep (still_to_come asks h.awaits) (after_frame catalog asks h.awaits frame) (ended_by h.awaits h.rows frame) → IsAccounted (heard_frame catalog asks h frame)
  accounted_frame h frame a s =
      let next : FrameOutcome = after_frame catalog asks h.awaits frame in
      let joined = flat_map-append payload_in h.due (after_frame catalog asks h.awaits frame).due in
      record {
        accounts = λ e.
            let both = refused_joined h.ended (ended_by h.awaits h.rows frame) e in
            ap (λ (xs : List (List ℕ)). xs ++ map payload_of (still_to_come asks next.awaits)) joined
            ∙ (append_assoc (flat_map payload_in h.due) (flat_map payload_in next.due) (map payload_of (still_to_come asks next.awaits))
            ∙ (ap (λ (xs : List (List ℕ)). flat_map payload_in h.due ++ xs) (s.unless_refused both.1).accounts
            ∙ a.accounts both.0));
        count =
            let sizes = ap length joined in
            let split = length-append (flat_map payload_in h.due) (flat_map payload_in (after_frame catalog asks h.awaits frame).due) in
            let more = s.count in
            let all = a.count in
            omega (arith, sizes, split, more, all);
      }

  accounted_as : (h : Heard) (part : List ℕ) (v : Verdict) → IsAccounted h → IsAccounted (heard_as catalog asks h part v)
  accounted_as h part (Lacking _) a = record { accounts = a.accounts; count = a.count }
  accounted_as h part Complete a = accounted_frame h (frame_in part) a (step h.awaits h.rows (frame_in part))
  accounted_as h part Invalid a = record { accounts = a.accounts; count = a.count }

  accounted_either : (broken : Bool) (h other : Heard) → IsAccounted h → IsAccounted other → IsAccounted (if broken then h else other)
  accounted_either true h other a b = a
  accounted_either false h other a b = b

  accounted_all : (h : Heard) (bytes : List ℕ) → IsAccounted h → IsAccounted (hear_all catalog asks h bytes)
  unfolding hear_all
  accounted_all h [] a = a
  accounted_all h (byte ∷ bytes) a =
      accounted_all (hear catalog asks h byte) bytes
      (accounted_either h.broken h _ a (accounted_as h (h.part ++ byte ∷ []) (verdict catalog h.awaits (h.part ++ byte ∷ [])) a))

  pub accounted : (received : List ℕ) → IsAccounted (heard catalog asks received)
  accounted received = accounted_all (at_first catalog) received (record { accounts = λ _. refl; count = omega arith })

  -- what is due and what was ended only grow
  pub record Grows (h other : Heard) : Type 0 where
    pub due : Begins h.due other.due
    pub ended : Begins h.ended other.ended

  grows_itself : (h : Heard) → Grows h h
  grows_itself h = record { due = begins_itself h.due; ended = begins_itself h.ended }

  grows_as : (h : Heard) (part : List ℕ) (v : Verdict) → Grows h (heard_as catalog asks h part v)
  grows_as h part (Lacking _) = record { due = begins_itself h.due; ended = begins_itself h.ended }
  grows_as h part Complete = record { due = record { rest = _; joined = refl }; ended = record { rest = _; joined = refl } }
  grows_as h part Invalid = record { due = begins_itself h.due; ended = begins_itself h.ended }

  grows_either : (broken : Bool) (h other : Heard) → Grows h other → Grows h (if broken then h else other)
  grows_either true h other g = grows_itself h
  grows_either false h other g = g

  pub grows : (h : Heard) (bytes : List ℕ) → Grows h (hear_all catalog asks h bytes)
  unfolding hear_all
  grows h [] = grows_itself h
  grows h (byte ∷ bytes) =
      let one : Grows h (hear catalog asks h byte) = grows_either h.broken h _ (grows_as h (h.part ++ byte ∷ []) (verdict catalog h.awaits (h.part ++ byte ∷ []))) in
      let later : Grows (hear catalog asks h byte) (hear_all catalog asks (hear catalog asks h byte) bytes) = grows (hear catalog asks h byte) bytes in
      record { due = begins_longer _ _ _ one.due later.due; ended = begins_longer _ _ _ one.ended later.ended }

  pub grown : (xs ys : List ℕ) → Grows (heard catalog asks xs) (heard catalog asks (xs ++ ys))
  grown xs ys =
      subst (λ (h : Heard). Grows (heard catalog asks xs) h) (sym (heard_more catalog [] asks (at_first catalog) xs ys)) (grows (heard catalog asks xs) ys)
