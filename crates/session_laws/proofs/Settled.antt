-- That nothing changes of a text that is settled.
use Rattle.std.proofs.Common.{◌≡◌, ℕ, suc, ◌+◌, Bool, true, false, not, ◌||◌, List, [], ◌∷◌, ◌++◌, length, drop, filter, sym, ◌∙◌, ap, subst, refl, arith, append-nil, slice_get, Option, Some, None, if◌then◌else◌}
use Rattle.std.specs.Prelude.{◌==◌, ◌&&◌, filter_map, codes}
use Rattle.std.specs.List.{list_any, cons_option}
use Rattle.std.proofs.lemmas.Grind.{flat_map-append}
use Rattle.ghost_model.specs.core.Printed.{word_line, answer_lines}
use Rattle.ghost_model.specs.core.Query.{Query}
use Rattle.ghost_model.specs.core.Channel.{Catalog, Frame, HelloFrame, AskFrame, MoreFrame, ByeFrame, WelcomeFrame, RowsFrame, DoneFrame, SorryFrame, Entry, Journal}
use Rattle.ghost_model.specs.forms.Frames.{frame_in}
use Rattle.ghost_model.specs.core.Asks.{NumberedAsk, asked_of}
use Rattle.ghost_model.specs.core.Moves.{taken, answers, piece_of}
use Rattle.ghost_model.specs.core.NextMove.{Awaits, AwaitsCatalog, AwaitsReply, AwaitsNothing, Ending, Answered, Refused, EndedAsk, ended, Heard, Verdict, Lacking, Complete, Invalid, verdict, after_frame, ask_next, still, of_later_texts, ended_by, heard_as, hear, hear_all, at_first, heard, is_stop, ended_of}
use Rattle.ghost_model.specs.core.Split.{Hidden}
use Rattle.ghost_model.specs.core.Replies as answered
use Rattle.ghost_model.specs.core.Replies.{reply_for, answer_from}
use Rattle.ghost_model.specs.core.Lines.{Reason, WasRefused, WasBroken, WasAnswered, MetFault, AreLinesFor, AreLines, was_refused, all_done, broken_word, session_text}
use Rattle.ghost_model.specs.laws.ShortWords.{rows_from_replies}
use Rattle.ghost_model.proofs.ChannelLemmas.Tests.{false_is_not}
use Rattle.ghost_model.proofs.ChannelLemmas.Sending.{heard_more}
use Rattle.ghost_model.proofs.SessionLemmas.Answered.{filter_joined}
use Rattle.session_laws.specs.TextEnds.{not_ended, is_settled, is_settled_in, StaysSettled, StaysSettledIn}
use Rattle.session_laws.specs.TextCases.{is_refused_in}
use Rattle.session_laws.proofs.Decided.{decided}

filter_map_joined : {X Y : Type 0} (f : X → Option Y) (xs ys : List X) → filter_map f (xs ++ ys) ≡ filter_map f xs ++ filter_map f ys
filter_map_joined f [] ys = refl
filter_map_joined {X} {Y} f (x ∷ xs) ys =
    ap (λ (zs : List Y). cons_option (f x) zs) (filter_map_joined f xs ys) ∙ cons_joined (f x) (filter_map f xs) (filter_map f ys)
  where
    cons_joined : (o : Option Y) (one other : List Y) → cons_option o (one ++ other) ≡ cons_option o one ++ other
    cons_joined None one other = refl
    cons_joined (Some y) one other = refl

neither : (a b : Bool) → not (a || b) ≡ true → (a ≡ false) × (not b ≡ true)
neither false b e = (refl, e)
neither true b e = absurd (false_is_not e)

module _ (catalog : Catalog) (asks : List NumberedAsk) (text : ℕ) where
  abbrev is_this : NumberedAsk → Bool
  is_this one = one.text == text

  abbrev ends_this : EndedAsk → Bool
  ends_this end = end.asked.text == text

  abbrev NoneOf : List NumberedAsk → Type 0
  NoneOf some = not (list_any is_this some) ≡ true

  settled_on : (serial : ℕ) (later : List NumberedAsk) → NoneOf later → NoneOf (not_ended asks (ask_next catalog.schema serial later).awaits)
  settled_on serial [] h = refl
  settled_on serial (one ∷ later) h = h

  fewer : (other : ℕ) (later : List NumberedAsk) → NoneOf later → NoneOf (of_later_texts other later)
  fewer other [] h = refl
  fewer other (one ∷ later) h =
      (elim (one.text == other) as (λ v. NoneOf (if v then of_later_texts other later else one ∷ later)) [
        | true ↦ fewer other later (neither (is_this one) (list_any is_this later) h).1
        | false ↦ h
      ])

  record IsKept (before after : List EndedAsk) : Type 0 where
    ends : filter ends_this after ≡ filter ends_this before
    replied : filter_map (reply_for catalog.schema text) after ≡ filter_map (reply_for catalog.schema text) before

  kept_none : (ends : List EndedAsk) → IsKept ends (ends ++ [])
  kept_none ends = record { ends = ap (filter ends_this) (append-nil ends); replied = ap (filter_map (reply_for catalog.schema text)) (append-nil ends) }

  kept_one : (ends : List EndedAsk) (one : NumberedAsk) (ending : Ending) → is_this one ≡ false → IsKept ends (ends ++ ended one ending ∷ [])
  kept_one ends one ending other = record {
    ends = filter_joined ends_this ends (ended one ending ∷ [])
        ∙ (ap (λ (b : Bool). filter ends_this ends ++ (if b then ended one ending ∷ [] else [])) other ∙ append-nil (filter ends_this ends));
    replied = filter_map_joined (reply_for catalog.schema text) ends (ended one ending ∷ [])
        ∙ (ap (λ (b : Bool). filter_map (reply_for catalog.schema text) ends ++ cons_option (if b then answered.reply_of catalog.schema one ending else None) []) other
        ∙ append-nil (filter_map (reply_for catalog.schema text) ends));
  }

  record IsPassed (after : Awaits) (ends more : List EndedAsk) : Type 0 where
    settled : NoneOf (not_ended asks after)
    kept : IsKept ends more

  same_passed : (awaits : Awaits) (ends : List EndedAsk) → NoneOf (not_ended asks awaits) → IsPassed awaits ends (ends ++ [])
  same_passed awaits ends h = record { settled = h; kept = kept_none ends }

  pass_frame : (awaits : Awaits) (rows : List ℕ) (ends : List EndedAsk) (frame : Frame) → NoneOf (not_ended asks awaits) → IsPassed (after_frame catalog asks awaits frame).awaits ends (ends ++ ended_by awaits rows frame)
  pass_frame (AwaitsCatalog bytes) rows ends (WelcomeFrame last piece) h =
      (elim (length piece == length bytes) as (λ v. IsPassed (if v then ask_next catalog.schema 1 asks else still (AwaitsCatalog (drop (length piece) bytes))).awaits ends (ends ++ [])) [
        | true ↦ record { settled = settled_on 1 asks h; kept = kept_none ends }
        | false ↦ record { settled = h; kept = kept_none ends }
      ])
  pass_frame (AwaitsCatalog bytes) rows ends (HelloFrame generation) h = same_passed (AwaitsCatalog bytes) ends h
  pass_frame (AwaitsCatalog bytes) rows ends (AskFrame serial payload) h = same_passed (AwaitsCatalog bytes) ends h
  pass_frame (AwaitsCatalog bytes) rows ends (MoreFrame serial) h = same_passed (AwaitsCatalog bytes) ends h
  pass_frame (AwaitsCatalog bytes) rows ends ByeFrame h = same_passed (AwaitsCatalog bytes) ends h
  pass_frame (AwaitsCatalog bytes) rows ends (RowsFrame serial payload) h = same_passed (AwaitsCatalog bytes) ends h
  pass_frame (AwaitsCatalog bytes) rows ends (DoneFrame serial total) h = same_passed (AwaitsCatalog bytes) ends h
  pass_frame (AwaitsCatalog bytes) rows ends (SorryFrame serial code) h = same_passed (AwaitsCatalog bytes) ends h
  pass_frame (AwaitsReply one serial later count last) rows ends (DoneFrame _ total) h =
      let both = neither (is_this one) (list_any is_this later) h in
      record { settled = settled_on (serial + 1) later both.1; kept = kept_one ends one (Answered rows) both.0 }
  pass_frame (AwaitsReply one serial later count last) rows ends (SorryFrame _ code) h =
      let both = neither (is_this one) (list_any is_this later) h in
      record { settled = settled_on (serial + 1) (of_later_texts one.text later) (fewer one.text later both.1); kept = kept_one ends one (Refused code) both.0 }
  pass_frame (AwaitsReply one serial later count last) rows ends (RowsFrame _ payload) h = record { settled = h; kept = kept_none ends }
  pass_frame (AwaitsReply one serial later count last) rows ends (HelloFrame generation) h = record { settled = h; kept = kept_none ends }
  pass_frame (AwaitsReply one serial later count last) rows ends (AskFrame _ payload) h = record { settled = h; kept = kept_none ends }
  pass_frame (AwaitsReply one serial later count last) rows ends (MoreFrame _) h = record { settled = h; kept = kept_none ends }
  pass_frame (AwaitsReply one serial later count last) rows ends ByeFrame h = record { settled = h; kept = kept_none ends }
  pass_frame (AwaitsReply one serial later count last) rows ends (WelcomeFrame _ piece) h = record { settled = h; kept = kept_none ends }
  pass_frame AwaitsNothing rows ends frame h = record { settled = refl; kept = kept_none ends }

  abbrev Passes : Heard → Heard → Type 0
  Passes h after = IsPassed after.awaits h.ended after.ended

  itself : (h : Heard) → NoneOf (not_ended asks h.awaits) → Passes h h
  itself h s = record { settled = s; kept = record { ends = refl; replied = refl } }

  pass_verdict : (h : Heard) (part : List ℕ) (v : Verdict) → NoneOf (not_ended asks h.awaits) → Passes h (heard_as catalog asks h part v)
  pass_verdict h part (Lacking missing) s = record { settled = s; kept = record { ends = refl; replied = refl } }
  pass_verdict h part Invalid s = record { settled = s; kept = record { ends = refl; replied = refl } }
  pass_verdict h part Complete s = pass_frame h.awaits h.rows h.ended (frame_in part) s

  pass_byte : (h : Heard) (byte : ℕ) → NoneOf (not_ended asks h.awaits) → Passes h (hear catalog asks h byte)
  pass_byte h byte s =
      (elim h.broken as (λ v. Passes h (if v then h else heard_as catalog asks h (h.part ++ byte ∷ []) (verdict catalog h.awaits (h.part ++ byte ∷ [])))) [
        | true ↦ itself h s
        | false ↦ pass_verdict h (h.part ++ byte ∷ []) (verdict catalog h.awaits (h.part ++ byte ∷ [])) s
      ])

  pass_bytes : (h : Heard) (bytes : List ℕ) → NoneOf (not_ended asks h.awaits) → Passes h (hear_all catalog asks h bytes)
  unfolding hear_all
  pass_bytes h [] s = itself h s
  pass_bytes h (byte ∷ bytes) s =
      let one = pass_byte h byte s in
      let later = pass_bytes (hear catalog asks h byte) bytes one.settled in
      record { settled = later.settled; kept = record { ends = later.kept.ends ∙ one.kept.ends; replied = later.kept.replied ∙ one.kept.replied } }

pub settled_stays : (catalog : Catalog) (asks : List NumberedAsk) (before : Heard) (bytes : List ℕ) (text : ℕ) → is_settled asks text before.awaits ≡ true
    → StaysSettled catalog asks text before (hear_all catalog asks before bytes)
settled_stays catalog asks before bytes text s =
    let passed = pass_bytes catalog asks text before bytes s in
    record { settled = passed.settled; ends = passed.kept.ends; replied = passed.kept.replied }

pub ended_stays : (catalog : Catalog) (texts : List (List ℕ)) (journal more : Journal) (text : ℕ) → is_settled_in catalog texts journal text ≡ true
    → StaysSettledIn catalog texts text journal (journal ++ more)
ended_stays catalog texts journal more text s =
    let asks : List NumberedAsk = asked_of catalog.schema texts in
    let same = settled_stays catalog asks (heard catalog asks (taken journal)) (taken more) text s in
    let joined : heard catalog (asked_of catalog.schema texts) (taken (journal ++ more)) ≡ hear_all catalog (asked_of catalog.schema texts) (heard catalog (asked_of catalog.schema texts) (taken journal)) (taken more) =
    ap (λ (bytes : List ℕ). heard catalog asks bytes) (flat_map-append (λ (e : Entry). piece_of e.answer) journal more) ∙ heard_more catalog [] asks (at_first catalog) (taken journal) (taken more) in
    record {
      settled = ap (λ (h : Heard). is_settled asks text h.awaits) joined ∙ same.settled;
      ends = ap (λ (h : Heard). filter (λ (end : EndedAsk). end.asked.text == text) h.ended) joined ∙ same.ends;
      replied = ap (λ (h : Heard). filter_map (reply_for catalog.schema text) h.ended) joined ∙ same.replied;
    }

-- lines
module _ (catalog : Catalog) (kept : Hidden) (texts : List (List ℕ)) (journal more : Journal) (place : ℕ) (s : is_settled_in catalog texts journal (suc place) ≡ true) where
  stays : StaysSettledIn catalog texts (suc place) journal (journal ++ more)
  stays = ended_stays catalog texts journal more (suc place) s

  done_stays : (query : Query) (b : Bool) → all_done catalog.schema query (ended_of catalog (asked_of catalog.schema texts) journal (suc place)) ≡ b → all_done catalog.schema query (ended_of catalog (asked_of catalog.schema texts) (journal ++ more) (suc place)) ≡ b
  done_stays query b e = ap (all_done catalog.schema query) stays.ends ∙ e

  rows_stay : (query : Query) → rows_from_replies catalog kept (asked_of catalog.schema texts) (journal ++ more) (suc place) query ≡ rows_from_replies catalog kept (asked_of catalog.schema texts) journal (suc place) query
  rows_stay query = ap (answer_from catalog.schema kept query) stays.replied

  -- a settled text that is not done was refused
  refused_if : (refused settled : Bool) → settled ≡ true → (not refused && settled) ≡ false → refused ≡ true
  refused_if true settled e f = refl
  refused_if false settled e f = absurd (false_is_not (sym f ∙ e))

  host_word : (ends : List EndedAsk) (one : Journal) → was_refused ends ≡ true → broken_word ends one ≡ codes "host"
  host_word ends one e = ap (λ (b : Bool). if b then codes "host" else if list_any is_stop (answers one) then codes "link" else codes "protocol") e

  pub lines_for : (written : List ℕ) (lines : List (List ℕ)) (reason : Reason) → slice_get texts place ≡ Some written → AreLinesFor reason (session_text catalog kept texts journal (suc place) written) lines
      → AreLinesFor reason (session_text catalog kept texts (journal ++ more) (suc place) written) lines
  lines_for written lines WasRefused here are = record { refusal = are.refusal; refused = are.refused; line = are.line }
  lines_for written lines WasBroken here are =
      let d = decided catalog texts journal place written are.query here are.accepted in
      let refused : was_refused (ended_of catalog (asked_of catalog.schema texts) journal (suc place)) ≡ true =
      d.refused ∙ refused_if (is_refused_in catalog texts journal (suc place)) (is_settled_in catalog texts journal (suc place)) s (sym d.done ∙ are.broken) in
      record {
        query = are.query;
        accepted = are.accepted;
        broken = done_stays are.query false are.broken;
        line = are.line ∙ ap (λ (word : List ℕ). word_line (suc place) word ∷ [])
            (host_word (ended_of catalog (asked_of catalog.schema texts) journal (suc place)) journal refused
            ∙ sym (host_word (ended_of catalog (asked_of catalog.schema texts) (journal ++ more) (suc place)) (journal ++ more) (ap was_refused stays.ends ∙ refused)));
      }
  lines_for written lines WasAnswered here are = record {
    query = are.query;
    accepted = are.accepted;
    done = done_stays are.query true are.done;
    answer = are.answer ∙ ap (answer_lines (suc place)) (sym (rows_stay are.query));
  }
  lines_for written lines (MetFault fault) here are = record {
    query = are.query;
    accepted = are.accepted;
    done = done_stays are.query true are.done;
    given = are.given;
    left = are.left;
    front = rows_stay are.query ∙ are.front;
    answer = are.answer;
  }

lines_at : (catalog : Catalog) (kept : Hidden) (texts : List (List ℕ)) (journal more : Journal) (text place : ℕ) → text ≡ suc place → is_settled_in catalog texts journal text ≡ true
    → (written : List ℕ) (lines : List (List ℕ)) (reason : Reason) → slice_get texts place ≡ Some written → AreLinesFor reason (session_text catalog kept texts journal text written) lines
    → AreLinesFor reason (session_text catalog kept texts (journal ++ more) text written) lines
lines_at catalog kept texts journal more text place number s written lines reason here are =
    subst (λ (n : ℕ). AreLinesFor reason (session_text catalog kept texts (journal ++ more) n written) lines) (sym number)
    (lines_for catalog kept texts journal more place (subst (λ (n : ℕ). is_settled_in catalog texts journal n ≡ true) number s) written lines reason here
    (subst (λ (n : ℕ). AreLinesFor reason (session_text catalog kept texts journal n written) lines) number are))

pub lines_stay : (catalog : Catalog) (kept : Hidden) (texts : List (List ℕ)) (journal more : Journal) (text : ℕ) (lines : List (List ℕ)) → is_settled_in catalog texts journal text ≡ true
    → AreLines catalog kept texts journal text lines → AreLines catalog kept texts (journal ++ more) text lines
lines_stay catalog kept texts journal more text lines s are = record {
  place = are.place;
  numbered = are.numbered;
  written = are.written;
  stands = are.stands;
  reason = are.reason;
  lines_are = lines_at catalog kept texts journal more text are.place (let e = are.numbered in omega (arith, e)) s are.written lines are.reason are.stands are.lines_are;
}
