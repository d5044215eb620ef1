-- That the asks that ended with an honest host are the first of the session's asks, each with its whole reply.
use Rattle.std.proofs.Common.{◌≡◌, ℕ, ◌+◌, ◌<◌, ◌≤◌, ◌^◌, inl, inr, true, false, ◌||◌, List, [], ◌∷◌, ◌++◌, length, map, sym, ◌∙◌, ap, subst, refl, arith, append-nil, append_assoc, length-append, Option}
use Rattle.std.specs.Prelude.{flat_map, option_to_list}
use Rattle.std.specs.List.{list_all}
use Rattle.std.proofs.lemmas.List.{length-map}
use Rattle.std.proofs.lemmas.List.Folds.{list_all-append}
use Rattle.std.proofs.lemmas.Grind.{flat_map-append}
use Rattle.std.proofs.lemmas.Bool.Decides.{leb_tells}
use Rattle.ghost_model.specs.core.Schema.{Schema, is_visible}
use Rattle.ghost_model.specs.core.Values.{Database}
use Rattle.ghost_model.specs.core.Query.{Query}
use Rattle.ghost_model.specs.core.Channel.{Catalog, Ask, Frame, HelloFrame, AskFrame, MoreFrame, ByeFrame, WelcomeFrame, RowsFrame, DoneFrame, SorryFrame}
use Rattle.ghost_model.specs.forms.Catalog.{catalog_bytes}
use Rattle.ghost_model.specs.core.Database.{rows_of, row_counts, IsDatabase}
use Rattle.ghost_model.specs.forms.Frames.{AreBytes, frame_bytes}
use Rattle.ghost_model.specs.core.Asks.{NumberedAsk, is_proper_ask}
use Rattle.ghost_model.specs.readings.AskReading.{ask_in}
use Rattle.ghost_model.specs.core.NextMove.{Awaits, Heard, EndedAsk, ask_next, heard}
use Rattle.ghost_model.specs.core.Split.{Public, public_of}
use Rattle.ghost_model.specs.core.Host.{asks_in_frame}
use Rattle.ghost_model.specs.laws.HostLaws.{Exchange, asked_in, ended_in, exchange_frames}
use Rattle.ghost_model.specs.core.Honest.{AreWelcomes, AreReplies}
use Rattle.ghost_model.specs.core.Lines.{is_refused_by, was_refused}
use Rattle.ghost_model.proofs.ChannelLemmas.Tests.{false_is_not, BothHold, both_hold}
use Rattle.ghost_model.proofs.ChannelLemmas.Asks.{spelled_ask_is_read}
use Rattle.ghost_model.proofs.SessionLemmas.Accepted.{Each}
use Rattle.ghost_model.proofs.SessionLemmas.SentFrames.{AreProper}
use Rattle.ghost_model.proofs.SessionLemmas.Front.{Begins, begins_longer, shorter_begins, still_to_come, payload_in, payload_of, IsAccounted, accounted, Grows, grown}
use Rattle.ghost_model.proofs.SessionLemmas.Honest.{IsHeardSoFar, stream_heard, IsWhole, AreExchanged, exchanged}

abbrev ask_of : NumberedAsk → Ask
ask_of one = one.ask

same_heads : {X : Type 0} (x y : X) (xs ys : List X) → x ∷ xs ≡ y ∷ ys → (x ≡ y) × (xs ≡ ys)
same_heads x y xs ys e = (cc, cc)

no_refusal : (exchanges : List Exchange) → was_refused (map ended_in exchanges) ≡ false
no_refusal [] = refl
no_refusal (exchange ∷ exchanges) = no_refusal exchanges

refused_front : (one other : List EndedAsk) → was_refused (one ++ other) ≡ false → was_refused one ≡ false
refused_front [] other e = refl
refused_front (end ∷ one) other e =
    (elim (is_refused_by end.ending) as (λ v. (v || was_refused (one ++ other)) ≡ false → (v || was_refused one) ≡ false) [
      | true ↦ λ k. absurd (false_is_not (sym k))
      | false ↦ λ k. refused_front one other k
    ]) e

-- a front of a list that a function was applied to
record IsMapped {Y : Type 0} (f : NumberedAsk → Y) (front : List Y) (xs : List NumberedAsk) : Type 0 where
  one : List NumberedAsk
  later : List NumberedAsk
  whole : xs ≡ one ++ later
  front_is : front ≡ map f one

mapped_front : {Y : Type 0} (f : NumberedAsk → Y) (front : List Y) (xs : List NumberedAsk) → Begins front (map f xs) → IsMapped f front xs
mapped_front f [] xs b = record { one = []; later = xs; whole = refl; front_is = refl }
mapped_front f (y ∷ front) [] b = let bad = b.joined in absurd (cc)
mapped_front {Y} f (y ∷ front) (x ∷ xs) b =
    let same = same_heads (f x) y (map f xs) (front ++ b.rest) b.joined in
    let m : IsMapped f front xs = mapped_front f front xs (record { rest = b.rest; joined = same.1 }) in
    record {
      one = x ∷ m.one;
      later = m.later;
      whole = ap (λ (zs : List NumberedAsk). x ∷ zs) m.whole;
      front_is = ap (λ (z : Y). z ∷ front) (sym same.0) ∙ ap (λ (zs : List Y). f x ∷ zs) m.front_is;
    }

record SplitReplies (schema : Schema) (public : Public) (serial : ℕ) (one : List Ask) (frames : List Frame) : Type 0 where
  front : List Frame
  back : List Frame
  joined : frames ≡ front ++ back
  replied : AreReplies schema public serial one front

split_replies : (schema : Schema) (public : Public) (serial : ℕ) (one other : List Ask) (frames : List Frame) → AreReplies schema public serial (one ++ other) frames → SplitReplies schema public serial one frames
unfolding AreReplies
split_replies schema public serial [] other frames r = record { front = []; back = frames; joined = refl; replied = refl }
split_replies schema public serial (ask ∷ one) other frames r =
    let s : SplitReplies schema public (serial + 1) one r.1 = split_replies schema public (serial + 1) one other r.1 r.3 in
    record {
      front = r.0 ++ s.front;
      back = s.back;
      joined = r.4 ∙ (ap (λ (fs : List Frame). r.0 ++ fs) s.joined ∙ sym (append_assoc r.0 s.front s.back));
      replied = (r.0, s.front, r.2, s.replied, refl);
    }

module _ (catalog : Catalog) (asks : List NumberedAsk) where
  abbrev payloads : List Frame → List (List ℕ)
  payloads frames = flat_map (payload_in catalog asks) frames

  asks_of_payloads : (frames : List Frame) → flat_map (asks_in_frame catalog.schema) frames ≡ flat_map (λ (payload : List ℕ). option_to_list (ask_in catalog.schema payload)) (payloads frames)
  asks_of_payloads [] = refl
  asks_of_payloads (AskFrame serial payload ∷ frames) = ap (λ (xs : List Ask). option_to_list (ask_in catalog.schema payload) ++ xs) (asks_of_payloads frames)
  asks_of_payloads (HelloFrame _ ∷ frames) = asks_of_payloads frames
  asks_of_payloads (MoreFrame _ ∷ frames) = asks_of_payloads frames
  asks_of_payloads (ByeFrame ∷ frames) = asks_of_payloads frames
  asks_of_payloads (WelcomeFrame _ _ ∷ frames) = asks_of_payloads frames
  asks_of_payloads (RowsFrame _ _ ∷ frames) = asks_of_payloads frames
  asks_of_payloads (DoneFrame _ _ ∷ frames) = asks_of_payloads frames
  asks_of_payloads (SorryFrame _ _ ∷ frames) = asks_of_payloads frames

  read_again : (some : List NumberedAsk) → AreProper catalog.schema some → flat_map (λ (payload : List ℕ). option_to_list (ask_in catalog.schema payload)) (map (payload_of catalog asks) some) ≡ map ask_of some
  read_again [] h = refl
  read_again (one ∷ some) h =
      let both : BothHold (is_proper_ask catalog.schema one.ask) (list_all (λ other. is_proper_ask catalog.schema other.ask) some) = both_hold _ _ h in
      ap (λ (o : Option Ask). option_to_list o ++ flat_map (λ (payload : List ℕ). option_to_list (ask_in catalog.schema payload)) (map (payload_of catalog asks) some)) (spelled_ask_is_read catalog.schema one.ask both.one)
      ∙ ap (λ (xs : List Ask). one.ask ∷ xs) (read_again some both.other)

  asks_back : (frames : List Frame) (some : List NumberedAsk) → payloads frames ≡ map (payload_of catalog asks) some → AreProper catalog.schema some → flat_map (asks_in_frame catalog.schema) frames ≡ map ask_of some
  asks_back frames some e h = asks_of_payloads frames ∙ (ap (λ (ps : List (List ℕ)). flat_map (λ (payload : List ℕ). option_to_list (ask_in catalog.schema payload)) ps) e ∙ read_again some h)

  payloads_begin : (a b : List Frame) → Begins a b → Begins (payloads a) (payloads b)
  payloads_begin a b h = record { rest = payloads h.rest; joined = ap payloads h.joined ∙ flat_map-append (payload_in catalog asks) a h.rest }

  at_most_one : (frame : Frame) → length (payloads (frame ∷ [])) ≤ 1
  at_most_one (AskFrame serial payload) = omega arith
  at_most_one (HelloFrame _) = omega arith
  at_most_one (MoreFrame _) = omega arith
  at_most_one ByeFrame = omega arith
  at_most_one (WelcomeFrame _ _) = omega arith
  at_most_one (RowsFrame _ _) = omega arith
  at_most_one (DoneFrame _ _) = omega arith
  at_most_one (SorryFrame _ _) = omega arith

  -- enough is due once whole replies to some asks were heard
  enough_due : (front more due_after one all : ℕ) (serial : ℕ) (later : List NumberedAsk) → due_after + length (still_to_come asks (ask_next catalog.schema serial later).awaits) ≡ all → all ≡ one + length later → front ≡ one → more ≤ 1 → front + more ≤ all → front + more ≤ due_after
  enough_due front more due_after one all serial [] e f g m h = omega (arith, e, h)
  enough_due front more due_after one all serial (first ∷ later) e f g m h = omega (arith, e, f, g, m)

front_proper : (schema : Schema) (one later : List NumberedAsk) → AreProper schema (one ++ later) → AreProper schema one
front_proper schema one later h =
    let both : BothHold (list_all (λ other. is_proper_ask schema other.ask) one) (list_all (λ other. is_proper_ask schema other.ask) later) =
    both_hold _ _ (sym (list_all-append (λ other. is_proper_ask schema other.ask) one later) ∙ h) in both.one

module _ (catalog : Catalog) (database : Database) (is : IsDatabase catalog.schema database) (asked : Query)
    (counts : row_counts database ≡ catalog.counts) (few : (table : ℕ) → length (rows_of database table) < 2 ^ 32)
    (visible_in : (ask : Ask) → is_proper_ask catalog.schema ask ≡ true → list_all (is_visible catalog.schema ask.table) ask.columns ≡ true)
    (asks : List NumberedAsk) (proper : AreProper catalog.schema asks) (serials : length asks < 2 ^ 32) (bytes : AreBytes (catalog_bytes catalog))
    (greeting : List Frame) (welcomes : AreWelcomes catalog greeting) (received rest : List ℕ) (replies : List Frame)
    (stream : received ++ rest ≡ flat_map frame_bytes (greeting ++ replies)) where
  abbrev due_now : List Frame
  due_now = (heard catalog asks received).due

  abbrev owed : List (List ℕ)
  owed = map (payload_of catalog asks) asks

  step :
      (done : List Frame) (frame : Frame) (others : List Ask) → Begins (done ++ frame ∷ []) due_now
      → AreReplies catalog.schema (public_of catalog.schema database) 1 (flat_map (asks_in_frame catalog.schema) done ++ others) replies
      → Begins (payloads catalog asks done) owed → Begins (payloads catalog asks (done ++ frame ∷ [])) owed
  step done frame others due replied front =
      let m : IsMapped (payload_of catalog asks) (payloads catalog asks done) asks = mapped_front (payload_of catalog asks) (payloads catalog asks done) asks front in
      let good : AreProper catalog.schema m.one = front_proper catalog.schema m.one m.later (subst (λ (xs : List NumberedAsk). AreProper catalog.schema xs) m.whole proper) in
      let names : flat_map (asks_in_frame catalog.schema) done ≡ map ask_of m.one = asks_back catalog asks done m.one m.front_is good in
      let s : SplitReplies catalog.schema (public_of catalog.schema database) 1 (map ask_of m.one) replies =
      split_replies catalog.schema (public_of catalog.schema database) 1 (map ask_of m.one) others replies (subst (λ (xs : List Ask). AreReplies catalog.schema (public_of catalog.schema database) 1 (xs ++ others) replies) names replied) in
      let sizes : length asks ≡ length m.one + length m.later = ap length m.whole ∙ length-append m.one m.later in
      let ex : AreExchanged catalog database is asked counts few visible_in 1 m.one s.front = exchanged catalog database is asked counts few visible_in 1 m.one s.front good (omega (arith, sizes, serials)) s.replied in
      let h : IsHeardSoFar catalog asks 1 [] ex.exchanges m.later (heard catalog asks (flat_map frame_bytes (greeting ++ exchange_frames 1 ex.exchanges))) =
      stream_heard catalog asks greeting ex.exchanges m.later bytes welcomes ex.are (ap (λ (xs : List NumberedAsk). xs ++ m.later) ex.asked_are ∙ sym m.whole) in
      let first : Begins received (flat_map frame_bytes (greeting ++ replies)) = record { rest = rest; joined = sym stream } in
      let frames : greeting ++ replies ≡ (greeting ++ exchange_frames 1 ex.exchanges) ++ s.back =
      ap (λ (fs : List Frame). greeting ++ fs) (s.joined ∙ ap (λ (fs : List Frame). fs ++ s.back) ex.frames_are) ∙ sym (append_assoc greeting (exchange_frames 1 ex.exchanges) s.back) in
      let second : Begins (flat_map frame_bytes (greeting ++ exchange_frames 1 ex.exchanges)) (flat_map frame_bytes (greeting ++ replies)) =
      record { rest = flat_map frame_bytes s.back; joined = ap (flat_map frame_bytes) frames ∙ flat_map-append frame_bytes (greeting ++ exchange_frames 1 ex.exchanges) s.back } in
      let sent : Begins (payloads catalog asks (done ++ frame ∷ [])) (payloads catalog asks due_now) = payloads_begin catalog asks (done ++ frame ∷ []) due_now due in
      let now : IsAccounted catalog asks (heard catalog asks received) = accounted catalog asks received in
      elim (leb_tells (length received) (length (flat_map frame_bytes (greeting ++ exchange_frames 1 ex.exchanges)))) [
        | inl p ↦
            (let f : Begins received (flat_map frame_bytes (greeting ++ exchange_frames 1 ex.exchanges)) = shorter_begins received _ _ first second p.1 in
            let g : Grows catalog asks (heard catalog asks received) (heard catalog asks (flat_map frame_bytes (greeting ++ exchange_frames 1 ex.exchanges))) =
            subst (λ (bs : List ℕ). Grows catalog asks (heard catalog asks received) (heard catalog asks bs)) (sym f.joined) (grown catalog asks received f.rest) in
            let none : was_refused (heard catalog asks received).ended ≡ false =
            refused_front (heard catalog asks received).ended g.ended.rest (ap was_refused (sym g.ended.joined ∙ h.ends) ∙ no_refusal ex.exchanges) in
            begins_longer _ _ _ sent (record { rest = map (payload_of catalog asks) (still_to_come asks (heard catalog asks received).awaits); joined = sym (now.accounts none) }))
        | inr q ↦
            (let f : Begins (flat_map frame_bytes (greeting ++ exchange_frames 1 ex.exchanges)) received = shorter_begins _ received _ second first (omega (arith, q.1)) in
            let g : Grows catalog asks (heard catalog asks (flat_map frame_bytes (greeting ++ exchange_frames 1 ex.exchanges))) (heard catalog asks received) =
            subst (λ (bs : List ℕ). Grows catalog asks (heard catalog asks (flat_map frame_bytes (greeting ++ exchange_frames 1 ex.exchanges))) (heard catalog asks bs)) (sym f.joined) (grown catalog asks (flat_map frame_bytes (greeting ++ exchange_frames 1 ex.exchanges)) f.rest) in
            let then : IsAccounted catalog asks (heard catalog asks (flat_map frame_bytes (greeting ++ exchange_frames 1 ex.exchanges))) = accounted catalog asks (flat_map frame_bytes (greeting ++ exchange_frames 1 ex.exchanges)) in
            let after : Heard = heard catalog asks (flat_map frame_bytes (greeting ++ exchange_frames 1 ex.exchanges)) in
            let all = then.accounts (ap was_refused h.ends ∙ no_refusal ex.exchanges) in
            let begun : Begins (payloads catalog asks (heard catalog asks (flat_map frame_bytes (greeting ++ exchange_frames 1 ex.exchanges))).due) (payloads catalog asks due_now) = payloads_begin catalog asks _ due_now g.due in
            let total : length (payloads catalog asks after.due) + length (still_to_come asks (ask_next catalog.schema (1 + length ex.exchanges) m.later).awaits) ≡ length asks =
            ap (λ (a : Awaits). length (payloads catalog asks after.due) + length (still_to_come asks a)) (sym h.awaits)
            ∙ (let lengths = ap length all in let split = length-append (payloads catalog asks after.due) (map (payload_of catalog asks) (still_to_come asks after.awaits)) in let a = length-map (still_to_come asks after.awaits) (payload_of catalog asks) in let b = length-map asks (payload_of catalog asks) in omega (arith, lengths, split, a, b)) in
            let parts : length (payloads catalog asks (done ++ frame ∷ [])) ≡ length (payloads catalog asks done) + length (payloads catalog asks (frame ∷ [])) =
            ap length (flat_map-append (payload_in catalog asks) done (frame ∷ [])) ∙ length-append (payloads catalog asks done) (payloads catalog asks (frame ∷ [])) in
            let count : length (payloads catalog asks done) ≡ length m.one = ap length m.front_is ∙ length-map m.one (payload_of catalog asks) in
            let most : length (payloads catalog asks (done ++ frame ∷ [])) ≤ length (payloads catalog asks due_now) =
            (let lengths = ap length sent.joined in let split = length-append (payloads catalog asks (done ++ frame ∷ [])) sent.rest in omega (arith, lengths, split)) in
            let bound : length (payloads catalog asks done) + length (payloads catalog asks (frame ∷ [])) ≤ length asks = (let keeps = now.count in omega (arith, parts, most, keeps)) in
            let enough = enough_due catalog asks (length (payloads catalog asks done)) (length (payloads catalog asks (frame ∷ []))) (length (payloads catalog asks after.due)) (length m.one) (length asks) (1 + length ex.exchanges) m.later total sizes count (at_most_one catalog asks frame) bound in
            begins_longer _ _ _ (shorter_begins _ _ _ sent begun (omega (arith, parts, enough))) (record { rest = map (payload_of catalog asks) (still_to_come asks after.awaits); joined = sym all }))
      ]

  walk :
      (todo done : List Frame) → Begins (done ++ todo) due_now → AreReplies catalog.schema (public_of catalog.schema database) 1 (flat_map (asks_in_frame catalog.schema) (done ++ todo)) replies
      → Begins (payloads catalog asks done) owed → Begins (payloads catalog asks (done ++ todo)) owed
  walk [] done due replied b = subst (λ (fs : List Frame). Begins (payloads catalog asks fs) owed) (sym (append-nil done)) b
  walk (frame ∷ todo) done due replied b =
      let moved : (done ++ frame ∷ []) ++ todo ≡ done ++ frame ∷ todo = append_assoc done (frame ∷ []) todo in
      let next : Begins (payloads catalog asks (done ++ frame ∷ [])) owed =
      step done frame (flat_map (asks_in_frame catalog.schema) (frame ∷ todo)) (begins_longer _ _ _ (record { rest = todo; joined = sym moved }) due)
      (subst (λ (names : List Ask). AreReplies catalog.schema (public_of catalog.schema database) 1 names replies) (flat_map-append (asks_in_frame catalog.schema) done (frame ∷ todo)) replied) b in
      subst (λ (fs : List Frame). Begins (payloads catalog asks fs) owed) moved
      (walk todo (done ++ frame ∷ []) (subst (λ (fs : List Frame). Begins fs due_now) (sym moved) due)
      (subst (λ (fs : List Frame). AreReplies catalog.schema (public_of catalog.schema database) 1 (flat_map (asks_in_frame catalog.schema) fs) replies) (sym moved) replied) next)

  -- the asks that were ended are the first ones, each with its whole reply
  pub record AreEnded : Type 0 where
    pub exchanges : List Exchange
    pub later : List NumberedAsk
    pub asked_are : asks ≡ map asked_in exchanges ++ later
    pub whole : Each (IsWhole catalog database is asked counts few visible_in) exchanges
    pub ended : Begins (heard catalog asks received).ended (map ended_in exchanges)

  pub ended_now : (frames : List Frame) → Begins frames due_now → AreReplies catalog.schema (public_of catalog.schema database) 1 (flat_map (asks_in_frame catalog.schema) frames) replies → AreEnded
  ended_now frames due replied =
      let front : Begins (payloads catalog asks frames) owed = walk frames [] due replied (record { rest = owed; joined = refl }) in
      let m : IsMapped (payload_of catalog asks) (payloads catalog asks frames) asks = mapped_front (payload_of catalog asks) (payloads catalog asks frames) asks front in
      let good : AreProper catalog.schema m.one = front_proper catalog.schema m.one m.later (subst (λ (xs : List NumberedAsk). AreProper catalog.schema xs) m.whole proper) in
      let names : flat_map (asks_in_frame catalog.schema) frames ≡ map ask_of m.one = asks_back catalog asks frames m.one m.front_is good in
      let sizes : length asks ≡ length m.one + length m.later = ap length m.whole ∙ length-append m.one m.later in
      let ex : AreExchanged catalog database is asked counts few visible_in 1 m.one replies =
      exchanged catalog database is asked counts few visible_in 1 m.one replies good (omega (arith, sizes, serials))
      (subst (λ (xs : List Ask). AreReplies catalog.schema (public_of catalog.schema database) 1 xs replies) names replied) in
      let h : IsHeardSoFar catalog asks 1 [] ex.exchanges m.later (heard catalog asks (flat_map frame_bytes (greeting ++ exchange_frames 1 ex.exchanges))) =
      stream_heard catalog asks greeting ex.exchanges m.later bytes welcomes ex.are (ap (λ (xs : List NumberedAsk). xs ++ m.later) ex.asked_are ∙ sym m.whole) in
      let g : Grows catalog asks (heard catalog asks received) (heard catalog asks (received ++ rest)) = grown catalog asks received rest in
      let same : received ++ rest ≡ flat_map frame_bytes (greeting ++ exchange_frames 1 ex.exchanges) = stream ∙ ap (λ (fs : List Frame). flat_map frame_bytes (greeting ++ fs)) ex.frames_are in
      record {
        exchanges = ex.exchanges;
        later = m.later;
        asked_are = m.whole ∙ ap (λ (xs : List NumberedAsk). xs ++ m.later) (sym ex.asked_are);
        whole = ex.whole;
        ended = subst (λ (ends : List EndedAsk). Begins (heard catalog asks received).ended ends) (ap (λ (bs : List ℕ). (heard catalog asks bs).ended) same ∙ h.ends) g.ended;
      }
