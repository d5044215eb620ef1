-- That the frames that a proper journal sent are frames.
use Rattle.std.proofs.Common.{◌≡◌, ℕ, suc, ◌+◌, ◌<◌, ◌≤◌, ◌^◌, Bool, true, false, not, List, [], ◌∷◌, ◌++◌, length, map, ◌∙◌, subst, refl, arith, lit<}
use Rattle.std.specs.Prelude.{◌==◌, if◌then◌else◌, Result, Ok, Err}
use Rattle.std.specs.List.{list_all}
use Rattle.std.proofs.lemmas.Bool.Decides.{nat_tests}
use Rattle.std.proofs.lemmas.List.Folds.{list_all-append, list_all-map}
use Rattle.ghost_model.specs.core.Schema.{Schema}
use Rattle.ghost_model.specs.core.Query.{Query}
use Rattle.ghost_model.specs.refusals.QueryMeaning.{Refusal}
use Rattle.ghost_model.specs.readings.QueryReading.{reading}
use Rattle.ghost_model.specs.core.Channel.{Catalog, Frame, HelloFrame, AskFrame, MoreFrame, ByeFrame, WelcomeFrame, RowsFrame, DoneFrame, SorryFrame, Journal}
use Rattle.ghost_model.specs.core.Asks.{NumberedAsk, asked, asked_from, asked_of, asks_of, asks_of_reading, is_proper_ask}
use Rattle.ghost_model.specs.forms.Frames.{IsFrame, frame_in}
use Rattle.ghost_model.specs.core.Moves.{taken}
use Rattle.ghost_model.specs.core.NextMove.{Awaits, AwaitsCatalog, AwaitsReply, AwaitsNothing, Verdict, Lacking, Complete, Invalid, verdict, FrameOutcome, ask_next, of_later_texts, still, turn_of_greeting, turn_of_reply, after_frame, Heard, heard_as, hear, hear_all, at_first}
use Rattle.ghost_model.specs.laws.ShortWords.{due}
use Rattle.ghost_model.specs.laws.ChannelLaws.{IsDue}
use Rattle.ghost_model.proofs.ChannelLemmas.Tests.{BothHold, both_hold, hold_both}
use Rattle.ghost_model.proofs.ChannelLemmas.Proper.{asks_are_proper}
use Rattle.ghost_model.proofs.SessionLemmas.Limits.{IsSmall, ask_is_frame, high_bytes}

-- each of some frames is one
abbrev pub AreFrames : List Frame → Type 0
AreFrames [] = Unit {0}
AreFrames (frame ∷ frames) = IsFrame frame × AreFrames frames

pub join_frames : (one other : List Frame) → AreFrames one → AreFrames other → AreFrames (one ++ other)
join_frames [] other h k = k
join_frames (frame ∷ one) other h k = (h.0, join_frames one other h.1 k)

pub front_frames : (one other : List Frame) → AreFrames (one ++ other) → AreFrames one
front_frames [] other h = tt
front_frames (frame ∷ one) other h = (h.0, front_frames one other h.1)

not_zero : (n : ℕ) → 0 < n → not (n == 0) ≡ true
not_zero n h = grind (arith, nat_tests)

bye_is_frame : IsFrame ByeFrame
bye_is_frame = record { serial = refl; size = refl; payload = refl; bytes = λ i. lit< tt; serial_fits = lit< tt; number_fits = lit< tt }

more_is_frame : (serial : ℕ) → 0 < serial → serial < 2 ^ 32 → IsFrame (MoreFrame serial)
more_is_frame serial some fits = record { serial = not_zero serial some; size = refl; payload = refl; bytes = λ i. lit< tt; serial_fits = fits; number_fits = lit< tt }

hello_is_frame : (generation : ℕ) → generation < 2 ^ 32 → IsFrame (HelloFrame generation)
hello_is_frame generation fits = record { serial = refl; size = refl; payload = refl; bytes = high_bytes 4 generation; serial_fits = lit< tt; number_fits = fits }

abbrev pub AreProper : Schema → List NumberedAsk → Type 0
AreProper schema asks = list_all (λ one. is_proper_ask schema one.ask) asks ≡ true

module _ (schema : Schema) where
  proper_if : (same : Bool) (fewer all : List NumberedAsk) → AreProper schema fewer → AreProper schema all → AreProper schema (if same then fewer else all)
  proper_if true fewer all h k = h
  proper_if false fewer all h k = k

  later_proper : (text : ℕ) (asks : List NumberedAsk) → AreProper schema asks → AreProper schema (of_later_texts text asks)
  later_proper text [] h = refl
  later_proper text (one ∷ later) h =
      let both : BothHold (is_proper_ask schema one.ask) (list_all (λ one. is_proper_ask schema one.ask) later) = both_hold _ _ h in
      proper_if (one.text == text) (of_later_texts text later) (one ∷ later) (later_proper text later both.other) h

  fewer_if : (same : Bool) (fewer all : List NumberedAsk) (most : ℕ) → length fewer ≤ most → length all ≤ most → length (if same then fewer else all) ≤ most
  fewer_if true fewer all most h k = h
  fewer_if false fewer all most h k = k

  later_fewer : (text : ℕ) (asks : List NumberedAsk) → length (of_later_texts text asks) ≤ length asks
  later_fewer text [] = omega arith
  later_fewer text (one ∷ later) =
      let rest = later_fewer text later in
      fewer_if (one.text == text) (of_later_texts text later) (one ∷ later) (suc (length later)) (omega (arith, rest)) (omega arith)

  asked_proper : (number : ℕ) (text : List ℕ) (read : Result Query Refusal) → reading schema text ≡ read → AreProper schema (map (asked number) (asks_of_reading schema read))
  asked_proper number text (Err refusal) e = refl
  asked_proper number text (Ok query) e =
      list_all-map (λ one. is_proper_ask schema one.ask) (asked number) (asks_of schema query) ∙ asks_are_proper schema text query e

  -- the asks of texts are such as a key may send
  asks_proper_from : (number : ℕ) (texts : List (List ℕ)) → AreProper schema (asked_from schema number (map (reading schema) texts))
  asks_proper_from number [] = refl
  asks_proper_from number (text ∷ texts) =
      list_all-append (λ one. is_proper_ask schema one.ask) (map (asked number) (asks_of_reading schema (reading schema text))) (asked_from schema (number + 1) (map (reading schema) texts))
      ∙ hold_both _ _ (asked_proper number text (reading schema text) refl) (asks_proper_from (number + 1) texts)

module _ (catalog : Catalog) (small : IsSmall catalog.schema) (asks : List NumberedAsk) (proper : AreProper catalog.schema asks) (few : length asks < 2 ^ 32) where
  -- the asks that are still to come have serials that fit
  abbrev CanCome : Awaits → Type 0
  CanCome (AwaitsCatalog bytes) = Unit {0}
  CanCome (AwaitsReply one serial later count last) = (0 < serial) × (serial + length later < 2 ^ 32) × AreProper catalog.schema later
  CanCome AwaitsNothing = Unit {0}

  record IsGoodTurn (next : FrameOutcome) : Type 0 where
    come : CanCome next.awaits
    frames : AreFrames next.due

  asking : (serial : ℕ) (later : List NumberedAsk) → 0 < serial → serial + length later ≤ 2 ^ 32 → AreProper catalog.schema later → IsGoodTurn (ask_next catalog.schema serial later)
  asking serial [] some fits h = record { come = tt; frames = (bye_is_frame, tt) }
  asking serial (one ∷ later) some fits h =
      let both : BothHold (is_proper_ask catalog.schema one.ask) (list_all (λ one. is_proper_ask catalog.schema one.ask) later) = both_hold _ _ h in
      record {
        come = (some, omega (arith, fits), both.other);
        frames = (ask_is_frame catalog.schema small one.ask serial both.one some (omega (arith, fits)), tt);
      }

  quiet : (awaits : Awaits) → CanCome awaits → IsGoodTurn (still awaits)
  quiet awaits h = record { come = h; frames = tt }

  good_if : (whole : Bool) (one other : FrameOutcome) → IsGoodTurn one → IsGoodTurn other → IsGoodTurn (if whole then one else other)
  good_if true one other h k = h
  good_if false one other h k = k

  greeting_turn : (missing : List ℕ) (frame : Frame) → IsGoodTurn (turn_of_greeting catalog.schema asks missing frame)
  greeting_turn missing (WelcomeFrame last part) =
      good_if (length part == length missing) _ _ (asking 1 asks (lit< tt) (omega (arith, few)) proper) (quiet (AwaitsCatalog _) tt)
  greeting_turn missing (HelloFrame _) = quiet (AwaitsCatalog missing) tt
  greeting_turn missing (AskFrame _ _) = quiet (AwaitsCatalog missing) tt
  greeting_turn missing (MoreFrame _) = quiet (AwaitsCatalog missing) tt
  greeting_turn missing ByeFrame = quiet (AwaitsCatalog missing) tt
  greeting_turn missing (RowsFrame _ _) = quiet (AwaitsCatalog missing) tt
  greeting_turn missing (DoneFrame _ _) = quiet (AwaitsCatalog missing) tt
  greeting_turn missing (SorryFrame _ _) = quiet (AwaitsCatalog missing) tt

  reply_turn :
      (one : NumberedAsk) (serial : ℕ) (later : List NumberedAsk) (count last : ℕ) (frame : Frame) → CanCome (AwaitsReply one serial later count last)
      → IsGoodTurn (turn_of_reply catalog.schema one serial later count last frame)
  reply_turn one serial later count last (RowsFrame _ payload) h =
      record { come = h; frames = (more_is_frame serial h.0 (let fits = h.1 in omega (arith, fits)), tt) }
  reply_turn one serial later count last (DoneFrame _ _) h =
      let fits = h.1 in asking (serial + 1) later (omega arith) (omega (arith, fits)) h.2
  reply_turn one serial later count last (SorryFrame _ _) h =
      let fits = h.1 in
      asking (serial + 1) (of_later_texts one.text later) (omega arith) (omega (arith, fits, later_fewer catalog.schema one.text later))
      (later_proper catalog.schema one.text later h.2)
  reply_turn one serial later count last (HelloFrame _) h = quiet (AwaitsReply one serial later count last) h
  reply_turn one serial later count last (AskFrame _ _) h = quiet (AwaitsReply one serial later count last) h
  reply_turn one serial later count last (MoreFrame _) h = quiet (AwaitsReply one serial later count last) h
  reply_turn one serial later count last ByeFrame h = quiet (AwaitsReply one serial later count last) h
  reply_turn one serial later count last (WelcomeFrame _ _) h = quiet (AwaitsReply one serial later count last) h

  good_turn : (awaits : Awaits) (frame : Frame) → CanCome awaits → IsGoodTurn (after_frame catalog asks awaits frame)
  good_turn (AwaitsCatalog missing) frame h = greeting_turn missing frame
  good_turn (AwaitsReply one serial later count last) frame h = reply_turn one serial later count last frame h
  good_turn AwaitsNothing frame h = quiet AwaitsNothing tt

  record IsGood (h : Heard) : Type 0 where
    come : CanCome h.awaits
    frames : AreFrames h.due

  good_as : (h : Heard) (part : List ℕ) (v : Verdict) → IsGood h → IsGood (heard_as catalog asks h part v)
  good_as h part (Lacking _) g = record { come = g.come; frames = g.frames }
  good_as h part Complete g =
      let next : IsGoodTurn (after_frame catalog asks h.awaits (frame_in part)) = good_turn h.awaits (frame_in part) g.come in
      record { come = next.come; frames = join_frames h.due (after_frame catalog asks h.awaits (frame_in part)).due g.frames next.frames }
  good_as h part Invalid g = record { come = g.come; frames = g.frames }

  good_either : (broken : Bool) (h other : Heard) → IsGood h → IsGood other → IsGood (if broken then h else other)
  good_either true h other g k = g
  good_either false h other g k = k

  good_all : (h : Heard) (bytes : List ℕ) → IsGood h → IsGood (hear_all catalog asks h bytes)
  unfolding hear_all
  good_all h [] g = g
  good_all h (byte ∷ bytes) g =
      good_all (hear catalog asks h byte) bytes
      (good_either h.broken h _ g (good_as h (h.part ++ byte ∷ []) (verdict catalog h.awaits (h.part ++ byte ∷ [])) g))

  due_are_frames : (received : List ℕ) → catalog.generation < 2 ^ 32 → AreFrames (due catalog asks received)
  due_are_frames received fits =
      (good_all (at_first catalog) received (record { come = tt; frames = (hello_is_frame catalog.generation fits, tt) })).frames

  -- what a proper journal sent is frames
  pub sent_are_frames :
      (journal : Journal) → catalog.generation < 2 ^ 32 → (sent : IsDue catalog asks journal) → AreFrames sent.frames
  sent_are_frames journal fits sent =
      front_frames sent.frames sent.rest (subst AreFrames sent.due_are (due_are_frames (taken journal) fits))

pub asks_are_good : (schema : Schema) (texts : List (List ℕ)) → AreProper schema (asked_of schema texts)
asks_are_good schema texts = asks_proper_from schema 1 texts
