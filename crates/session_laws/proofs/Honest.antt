-- That a session with an honest host goes smoothly, and what its lines are.
use Rattle.std.proofs.Common.{◌≡◌, ℕ, suc, ◌+◌, ◌<◌, ◌≤◌, ◌^◌, Bool, true, false, ◌||◌, List, [], ◌∷◌, ◌++◌, length, map, sym, ◌∙◌, ap, subst, refl, arith, append_assoc, length-append, Option, Some, slice_get, Ok}
use Rattle.std.specs.Prelude.{◌==◌, flat_map, filter_map, option_to_list, Result}
use Rattle.std.specs.List.{list_all}
use Rattle.std.proofs.lemmas.Grind.{flat_map-append}
use Rattle.ghost_model.specs.core.Values.{Database}
use Rattle.ghost_model.specs.core.Query.{Query}
use Rattle.ghost_model.specs.refusals.QueryMeaning.{Refusal}
use Rattle.ghost_model.specs.readings.QueryReading.{reading}
use Rattle.ghost_model.specs.core.Meaning.{answer}
use Rattle.ghost_model.specs.core.Channel.{Catalog, Ask, Frame, HelloFrame, AskFrame, MoreFrame, ByeFrame, WelcomeFrame, RowsFrame, DoneFrame, SorryFrame, Journal}
use Rattle.ghost_model.specs.forms.Catalog.{canonical_text, catalog_bytes}
use Rattle.ghost_model.specs.forms.Frames.{AreBytes, frame_bytes}
use Rattle.ghost_model.specs.core.Asks.{NumberedAsk, asked_of, is_proper_ask}
use Rattle.ghost_model.specs.readings.AskReading.{ask_in}
use Rattle.ghost_model.specs.core.Moves.{taken}
use Rattle.ghost_model.specs.core.NextMove.{Heard, EndedAsk, IsFinished, ask_next, heard, hear_all, at_first, ended_of}
use Rattle.ghost_model.specs.laws.ChannelLaws.{IsDue}
use Rattle.ghost_model.specs.core.Split.{public_of, hidden_of}
use Rattle.ghost_model.specs.core.Host.{welcomes_of, asks_in_frame}
use Rattle.ghost_model.specs.laws.HostLaws.{Exchange, asked_in, ended_in, exchange_frames, reply_frames, AreExchanges, IsHeardWhole, IsGreeted}
use Rattle.ghost_model.specs.core.Honest.{AreWelcomes, AreReplies, asks_sent}
use Rattle.ghost_model.specs.core.Lines.{Reason, WasRefused, WasBroken, WasAnswered, MetFault, AreLinesFor, is_refused_by, was_refused, all_done, session_text}
use Rattle.ghost_model.specs.laws.ShortWords.{rows_from_replies}
use Rattle.ghost_model.specs.core.Printed.{answer_lines, lines_of_reading, lines_of_text, lines_from, printed_lines}
use Rattle.ghost_model.proofs.ChannelLemmas.Asks.{spelled_ask_is_read}
use Rattle.ghost_model.proofs.ChannelLemmas.Greeting.{greetings_are_heard}
use Rattle.ghost_model.proofs.ChannelLemmas.Replies.{replies_are_heard}
use Rattle.ghost_model.proofs.ChannelLemmas.Sending.{heard_more, sent_is_due}
use Rattle.ghost_model.proofs.ChannelLemmas.Tests.{false_is_not, BothHold, both_hold, hold_both}
use Rattle.ghost_model.proofs.SessionLemmas.Settings.{serials_fit, counts_fit, bytes_are}
use Rattle.ghost_model.proofs.SessionLemmas.Ended.{ended_now}
use Rattle.ghost_model.proofs.SessionLemmas.Front.{payload_in, payload_of, still_to_come, accounted}
use Rattle.ghost_model.proofs.SessionLemmas.Groups.{joined_parts}
use Rattle.ghost_model.proofs.SessionLemmas.Honest.{exchanged}
use Rattle.ghost_model.proofs.SessionLemmas.Limits.{IsSmall, schema_is_small, proper_columns}
use Rattle.ghost_model.proofs.SessionLemmas.Replies.{honest_replies_answer}
use Rattle.ghost_model.proofs.SessionLemmas.SentFrames.{AreFrames, AreProper, sent_are_frames, asks_are_good}
use Rattle.ghost_model.proofs.SessionLemmas.ThisHost.{asks_in_bytes, asks_in_frames}
use Rattle.session_laws.specs.TextCases.{is_refused_in, IsDone, ByHost, ByLink, ByFrame}
use Rattle.session_laws.specs.HonestSessions.{IsHonestSession, IsSmooth, is_own_fault, AreSoundLines, AreAllLines}
use Rattle.session_laws.proofs.Stored.{no_query}
use Rattle.session_laws.proofs.Order.{none_of_part}
use Rattle.session_laws.proofs.Closing.{stays_closed}
use Rattle.session_laws.proofs.Decided.{decided}
use Rattle.session_laws.proofs.Outcomes.{outcome}

abbrev ask_of : NumberedAsk → Ask
ask_of one = one.ask

same_heads : {X : Type 0} (x y : X) (xs ys : List X) → x ∷ xs ≡ y ∷ ys → (x ≡ y) × (xs ≡ ys)
same_heads x y xs ys e = (cc, cc)

no_refusal : (exchanges : List Exchange) → was_refused (map ended_in exchanges) ≡ false
no_refusal [] = refl
no_refusal (exchange ∷ exchanges) = no_refusal exchanges

refused_front : (one other : List EndedAsk) → was_refused (one ++ other) ≡ false → was_refused one ≡ false
refused_front [] other e = refl
refused_front (end ∷ one) other e =
    (elim (is_refused_by end.ending) as (λ v. (v || was_refused (one ++ other)) ≡ false → (v || was_refused one) ≡ false) [
      | true ↦ λ k. absurd (false_is_not (sym k))
      | false ↦ λ k. refused_front one other k
    ]) e

-- a front of a list that a function was applied to
record IsMapped {Y : Type 0} (f : NumberedAsk → Y) (front : List Y) (xs : List NumberedAsk) : Type 0 where
  one : List NumberedAsk
  later : List NumberedAsk
  whole : xs ≡ one ++ later
  front_is : front ≡ map f one

mapped_front : {Y : Type 0} (f : NumberedAsk → Y) (front rest : List Y) (xs : List NumberedAsk) → front ++ rest ≡ map f xs → IsMapped f front xs
mapped_front f [] rest xs e = record { one = []; later = xs; whole = refl; front_is = refl }
mapped_front f (y ∷ front) rest [] e = let bad : ⊥ = cc in absurd bad
mapped_front {Y} f (y ∷ front) rest (x ∷ xs) e =
    let same = same_heads y (f x) (front ++ rest) (map f xs) e in
    let m : IsMapped f front xs = mapped_front f front rest xs same.1 in
    record {
      one = x ∷ m.one;
      later = m.later;
      whole = ap (λ (zs : List NumberedAsk). x ∷ zs) m.whole;
      front_is = ap (λ (z : Y). z ∷ front) same.0 ∙ ap (λ (zs : List Y). f x ∷ zs) m.front_is;
    }

module _ (catalog : Catalog) (asks : List NumberedAsk) where
  -- the asks in frames, by their payloads
  asks_of_payloads : (frames : List Frame) → flat_map (asks_in_frame catalog.schema) frames ≡ flat_map (λ (payload : List ℕ). option_to_list (ask_in catalog.schema payload)) (flat_map (payload_in catalog asks) frames)
  asks_of_payloads [] = refl
  asks_of_payloads (AskFrame serial payload ∷ frames) = ap (λ (xs : List Ask). option_to_list (ask_in catalog.schema payload) ++ xs) (asks_of_payloads frames)
  asks_of_payloads (HelloFrame _ ∷ frames) = asks_of_payloads frames
  asks_of_payloads (MoreFrame _ ∷ frames) = asks_of_payloads frames
  asks_of_payloads (ByeFrame ∷ frames) = asks_of_payloads frames
  asks_of_payloads (WelcomeFrame _ _ ∷ frames) = asks_of_payloads frames
  asks_of_payloads (RowsFrame _ _ ∷ frames) = asks_of_payloads frames
  asks_of_payloads (DoneFrame _ _ ∷ frames) = asks_of_payloads frames
  asks_of_payloads (SorryFrame _ _ ∷ frames) = asks_of_payloads frames

  read_again : (some : List NumberedAsk) → AreProper catalog.schema some → flat_map (λ (payload : List ℕ). option_to_list (ask_in catalog.schema payload)) (map (payload_of catalog asks) some) ≡ map ask_of some
  read_again [] h = refl
  read_again (one ∷ some) h =
      let both : BothHold (is_proper_ask catalog.schema one.ask) (list_all (λ other. is_proper_ask catalog.schema other.ask) some) = both_hold _ _ h in
      ap (λ (o : Option Ask). option_to_list o ++ flat_map (λ (payload : List ℕ). option_to_list (ask_in catalog.schema payload)) (map (payload_of catalog asks) some)) (spelled_ask_is_read catalog.schema one.ask both.one)
      ∙ ap (λ (xs : List Ask). one.ask ∷ xs) (read_again some both.other)

  front_proper : (one later : List NumberedAsk) → AreProper catalog.schema (one ++ later) → AreProper catalog.schema one
  front_proper [] later h = refl
  front_proper (x ∷ one) later h =
      let both : BothHold (is_proper_ask catalog.schema x.ask) (list_all (λ other. is_proper_ask catalog.schema other.ask) (one ++ later)) = both_hold _ _ h in
      hold_both _ _ both.one (front_proper one later both.other)

  -- exchanges are heard one after another without an invalid frame
  hear_two : (h : Heard) (one other : List Frame) → hear_all catalog asks h (flat_map frame_bytes (one ++ other)) ≡ hear_all catalog asks (hear_all catalog asks h (flat_map frame_bytes one)) (flat_map frame_bytes other)
  hear_two h one other =
      ap (λ (bytes : List ℕ). hear_all catalog asks h bytes) (flat_map-append frame_bytes one other)
      ∙ heard_more catalog [] asks h (flat_map frame_bytes one) (flat_map frame_bytes other)

  exchanges_valid :
      (exchanges : List Exchange) (later : List NumberedAsk) (serial : ℕ) (before : Heard) → 0 < serial
      → before.awaits ≡ (ask_next catalog.schema serial (map asked_in exchanges ++ later)).awaits
      → before.part ≡ [] → before.rows ≡ [] → before.broken ≡ false → AreExchanges catalog serial exchanges
      → (hear_all catalog asks before (flat_map frame_bytes (exchange_frames serial exchanges))).broken ≡ false
  unfolding hear_all
  exchanges_valid [] later serial before some a p r b all = b
  exchanges_valid (exchange ∷ exchanges) later serial before some a p r b all =
      let whole : IsHeardWhole catalog exchange.asked serial (map asked_in exchanges ++ later) exchange.groups before (hear_all catalog asks before (flat_map frame_bytes (reply_frames serial exchange.groups))) =
      replies_are_heard catalog asks exchange.asked serial (map asked_in exchanges ++ later) exchange.groups before a p r b some all.0 all.1 all.2 in
      ap (λ (h : Heard). h.broken) (hear_two before (reply_frames serial exchange.groups) (exchange_frames (serial + 1) exchanges))
      ∙ exchanges_valid exchanges later (serial + 1) _ (omega arith) whole.awaits whole.part whole.rows whole.valid all.3

  stream_valid :
      (greeting : List Frame) (exchanges : List Exchange) (later : List NumberedAsk) → AreBytes (catalog_bytes catalog) → AreWelcomes catalog greeting
      → AreExchanges catalog 1 exchanges → map asked_in exchanges ++ later ≡ asks
      → (heard catalog asks (flat_map frame_bytes (greeting ++ exchange_frames 1 exchanges))).broken ≡ false
  stream_valid greeting exchanges later bytes welcomes are all =
      let greeted : IsGreeted catalog asks (heard catalog asks (flat_map frame_bytes (welcomes_of welcomes.parts))) =
      greetings_are_heard catalog asks welcomes.parts bytes welcomes.cut (sym (joined_parts welcomes.parts) ∙ welcomes.whole) in
      ap (λ (frames : List Frame). (heard catalog asks (flat_map frame_bytes (frames ++ exchange_frames 1 exchanges))).broken) welcomes.frames_are
      ∙ (ap (λ (h : Heard). h.broken) (hear_two (at_first catalog) (welcomes_of welcomes.parts) (exchange_frames 1 exchanges))
      ∙ exchanges_valid exchanges later 1 _ (omega arith) (greeted.awaits ∙ ap (λ (xs : List NumberedAsk). (ask_next catalog.schema 1 xs).awaits) (sym all)) greeted.part greeted.rows greeted.valid are)

  -- what begins bytes without an invalid frame has none
  front_valid : (received rest : List ℕ) (b : Bool) → (heard catalog asks received).broken ≡ b → (heard catalog asks (received ++ rest)).broken ≡ false → b ≡ false
  front_valid received rest false e whole = refl
  front_valid received rest true e whole =
      absurd (false_is_not (sym whole ∙ (ap (λ (h : Heard). h.broken) (heard_more catalog [] asks (at_first catalog) received rest) ∙ stays_closed catalog asks (heard catalog asks received) rest e)))

module _ (catalog : Catalog) (database : Database) (at : List ℕ) (texts : List (List ℕ)) (journal : Journal) (is : IsHonestSession catalog database at texts journal) where
  abbrev asks : List NumberedAsk
  asks = asked_of catalog.schema texts

  small : IsSmall catalog.schema
  small = schema_is_small (canonical_text catalog.schema) catalog.schema is.setting.proper.meant

  due : IsDue catalog (asked_of catalog.schema texts) journal
  due = sent_is_due catalog at (asked_of catalog.schema texts) journal is.proper

  proper : AreProper catalog.schema (asked_of catalog.schema texts)
  proper = asks_are_good catalog.schema texts

  replied : AreReplies catalog.schema (public_of catalog.schema database) 1 (flat_map (asks_in_frame catalog.schema) due.frames) is.honest.replies
  replied =
      let good : AreFrames due.frames = sent_are_frames catalog small (asked_of catalog.schema texts) proper (serials_fit catalog texts is.setting) journal is.setting.proper.generation_fits due in
      let names : asks_sent catalog.schema journal ≡ flat_map (asks_in_frame catalog.schema) due.frames =
      ap (flat_map (asks_in_bytes catalog.schema)) due.sent_are ∙ asks_in_frames catalog.schema due.frames good in
      subst (λ (xs : List Ask). AreReplies catalog.schema (public_of catalog.schema database) 1 xs is.honest.replies) names is.honest.replied

  none_refused : was_refused (heard catalog (asked_of catalog.schema texts) (taken journal)).ended ≡ false
  none_refused =
      let ended = ended_now catalog database is.stored.is_database no_query is.stored.counts_are (counts_fit catalog database is.stored) (λ ask e. proper_columns catalog.schema small ask e) (asked_of catalog.schema texts) proper (serials_fit catalog texts is.setting) (bytes_are catalog is.stored.proper)
      is.honest.greeting is.honest.greets (taken journal) is.honest.rest is.honest.replies is.honest.taken_before
      due.frames (record { rest = due.rest; joined = due.due_are }) replied in
      refused_front (heard catalog (asked_of catalog.schema texts) (taken journal)).ended ended.ended.rest (ap was_refused (sym ended.ended.joined) ∙ no_refusal ended.exchanges)

  -- the asks that were sent are the first ones
  sent_first : IsMapped (payload_of catalog (asked_of catalog.schema texts)) (flat_map (payload_in catalog (asked_of catalog.schema texts)) due.frames) (asked_of catalog.schema texts)
  sent_first =
      let later : List (List ℕ) = map (payload_of catalog asks) (still_to_come asks (heard catalog asks (taken journal)).awaits) in
      mapped_front (payload_of catalog asks) (flat_map (payload_in catalog asks) due.frames) (flat_map (payload_in catalog asks) due.rest ++ later) asks
      (sym (append_assoc (flat_map (payload_in catalog asks) due.frames) (flat_map (payload_in catalog asks) due.rest) later)
      ∙ (ap (λ (ps : List (List ℕ)). ps ++ later) (sym (flat_map-append (payload_in catalog asks) due.frames due.rest) ∙ ap (flat_map (payload_in catalog asks)) (sym due.due_are))
      ∙ (accounted catalog asks (taken journal)).accounts none_refused))

  pub smooth : IsSmooth catalog texts journal
  smooth =
      let m = sent_first in
      let good : AreProper catalog.schema m.one = front_proper catalog asks m.one m.later (subst (λ (xs : List NumberedAsk). AreProper catalog.schema xs) m.whole proper) in
      let names : flat_map (asks_in_frame catalog.schema) due.frames ≡ map ask_of m.one =
      asks_of_payloads catalog asks due.frames ∙ (ap (λ (ps : List (List ℕ)). flat_map (λ (payload : List ℕ). option_to_list (ask_in catalog.schema payload)) ps) m.front_is ∙ read_again catalog asks m.one good) in
      let sizes : length asks ≡ length m.one + length m.later = ap length m.whole ∙ length-append m.one m.later in
      let fits : 1 + length m.one ≤ 2 ^ 32 = (let few = serials_fit catalog texts is.setting in omega (arith, sizes, few)) in
      let ex = exchanged catalog database is.stored.is_database no_query is.stored.counts_are (counts_fit catalog database is.stored) (λ ask e. proper_columns catalog.schema small ask e) 1 m.one is.honest.replies good fits
      (subst (λ (xs : List Ask). AreReplies catalog.schema (public_of catalog.schema database) 1 xs is.honest.replies) names replied) in
      let whole : taken journal ++ is.honest.rest ≡ flat_map frame_bytes (is.honest.greeting ++ exchange_frames 1 ex.exchanges) =
      is.honest.taken_before ∙ ap (λ (fs : List Frame). flat_map frame_bytes (is.honest.greeting ++ fs)) ex.frames_are in
      let valid : (heard catalog asks (flat_map frame_bytes (is.honest.greeting ++ exchange_frames 1 ex.exchanges))).broken ≡ false =
      stream_valid catalog asks is.honest.greeting ex.exchanges m.later (bytes_are catalog is.stored.proper) is.honest.greets ex.are (ap (λ (xs : List NumberedAsk). xs ++ m.later) ex.asked_are ∙ sym m.whole) in
      record {
        valid = front_valid catalog asks (taken journal) is.honest.rest (heard catalog asks (taken journal)).broken refl (ap (λ (bytes : List ℕ). (heard catalog asks bytes).broken) whole ∙ valid);
        none_refused = none_refused;
      }

  true_is_not : (b : Bool) → b ≡ false → b ≡ true → ⊥
  true_is_not b e f = cc

  pub asks_are_done : (place : ℕ) (written : List ℕ) (query : Query) → IsFinished journal → slice_get texts place ≡ Some written → reading catalog.schema written ≡ Ok query → all_done catalog.schema query (ended_of catalog (asked_of catalog.schema texts) journal (suc place)) ≡ true
  asks_are_done place written query finished here read =
      let none : is_refused_in catalog texts journal (suc place) ≡ false =
      sym (decided catalog texts journal place written query here read).refused ∙ none_of_part (λ (one : EndedAsk). one.asked.text == suc place) (heard catalog (asked_of catalog.schema texts) (taken journal)).ended none_refused in
      elim (outcome catalog texts journal place written query here read at is.proper finished) [
        | IsDone d ↦ d
        | ByHost d refused word ↦ absurd (true_is_not _ none refused)
        | ByLink d not_refused stops word ↦ absurd (true_is_not _ is.honest.nothing_breaks_off stops)
        | ByFrame d not_refused goes_on invalid word ↦ absurd (true_is_not _ smooth.valid invalid)
      ]

  pub replies_answer : (place : ℕ) (written : List ℕ) (query : Query) → IsFinished journal → slice_get texts place ≡ Some written → reading catalog.schema written ≡ Ok query
      → rows_from_replies catalog (hidden_of catalog.schema database) (asked_of catalog.schema texts) journal (suc place) query ≡ answer catalog.schema database query
  replies_answer place written query finished here read =
      honest_replies_answer catalog database at texts journal place written query is.setting is.stored is.proper is.honest here read
      (asks_are_done place written query finished here read)

  -- the lines of one text
  lines_for :
      (place : ℕ) (written : List ℕ) (lines : List (List ℕ)) (reason : Reason) → IsFinished journal → slice_get texts place ≡ Some written → is_own_fault reason ≡ false
      → AreLinesFor reason (session_text catalog (hidden_of catalog.schema database) texts journal (suc place) written) lines → lines ≡ lines_of_text catalog.schema database (suc place) written
  lines_for place written lines WasRefused finished here sound are =
      are.line ∙ ap (λ (r : Result Query Refusal). lines_of_reading catalog.schema database (suc place) r) (sym are.refused)
  lines_for place written lines WasBroken finished here sound are =
      absurd (false_is_not (sym are.broken ∙ asks_are_done place written are.query finished here are.accepted))
  lines_for place written lines WasAnswered finished here sound are =
      are.answer
      ∙ (ap (answer_lines (suc place)) (replies_answer place written are.query finished here are.accepted)
      ∙ ap (λ (r : Result Query Refusal). lines_of_reading catalog.schema database (suc place) r) (sym are.accepted))
  lines_for place written lines (MetFault fault) finished here sound are = absurd (false_is_not (sym sound))

  lines_of_one : (place : ℕ) (written : List ℕ) (lines : List (List ℕ)) → IsFinished journal → slice_get texts place ≡ Some written
      → AreSoundLines catalog (hidden_of catalog.schema database) texts journal (suc place) lines → lines ≡ lines_of_text catalog.schema database (suc place) written
  lines_of_one place written lines finished here are =
      let its = are.lines_are in
      let number : its.place ≡ place = (let e = its.numbered in omega (arith, e)) in
      let same : its.written ≡ written = same_some its.written written (slice_get texts place) (ap (slice_get texts) (sym number) ∙ its.stands) here in
      lines_for place written lines its.reason finished here are.sound
      (subst (λ (w : List ℕ). AreLinesFor its.reason (session_text catalog (hidden_of catalog.schema database) texts journal (suc place) w) lines) same its.lines_are)
    where
      same_some : (a b : List ℕ) (o : Option (List ℕ)) → o ≡ Some a → o ≡ Some b → a ≡ b
      same_some a b o e f = cc

  all_lines :
      (before : ℕ) (some : List (List ℕ)) (given : List (List (List ℕ))) → length given ≡ length some
      → ((place : ℕ) (lines : List (List ℕ)) (written : List ℕ) → slice_get given place ≡ Some lines → slice_get some place ≡ Some written → lines ≡ lines_of_text catalog.schema database (suc (before + place)) written)
      → flat_map (λ (lines : List (List ℕ)). lines) given ≡ lines_from catalog.schema database (suc before) some
  all_lines before [] [] long each = refl
  all_lines before [] (_ ∷ _) long each = absurd (omega (arith, long))
  all_lines before (_ ∷ _) [] long each = absurd (omega (arith, long))
  all_lines before (written ∷ some) (lines ∷ given) long each =
      let here : suc (before + 0) ≡ suc before = omega arith in
      let next : suc (suc before) ≡ suc before + 1 = omega arith in
      ap (λ (xs : List (List ℕ)). xs ++ flat_map (λ (ls : List (List ℕ)). ls) given) (each 0 lines written refl refl ∙ ap (λ (n : ℕ). lines_of_text catalog.schema database n written) here)
      ∙ ap (λ (xs : List (List ℕ)). lines_of_text catalog.schema database (suc before) written ++ xs)
      (all_lines (suc before) some given (let e : length given ≡ length some = omega (arith, long) in e)
      (λ place ls w e f. (let moved : suc (before + suc place) ≡ suc (suc before + place) = omega arith in
      subst (λ (n : ℕ). ls ≡ lines_of_text catalog.schema database n w) moved (each (suc place) ls w e f)))
      ∙ ap (λ (n : ℕ). lines_from catalog.schema database n some) next)

  pub lines_are_printed : (given : List (List (List ℕ))) → IsFinished journal → AreAllLines catalog (hidden_of catalog.schema database) texts journal given
      → flat_map (λ (lines : List (List ℕ)). lines) given ≡ printed_lines catalog.schema texts database
  lines_are_printed given finished are =
      all_lines 0 texts given are.as_many
      (λ place lines written e f. (let same : suc place ≡ suc (0 + place) = omega arith in
      subst (λ (n : ℕ). lines ≡ lines_of_text catalog.schema database n written) same (lines_of_one place written lines finished f (are.each place lines e))))
