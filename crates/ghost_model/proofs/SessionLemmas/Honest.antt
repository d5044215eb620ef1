-- That the replies of a proper journal with an honest host are whole.
use Rattle.std.proofs.Common.{◌≡◌, ℕ, suc, ◌+◌, ◌<◌, ◌≤◌, ◌^◌, true, false, List, [], ◌∷◌, ◌++◌, length, map, sym, ◌∙◌, ap, subst, refl, arith, append-nil, append_assoc}
use Rattle.std.specs.Prelude.{flat_map}
use Rattle.std.specs.List.{list_all}
use Rattle.std.proofs.lemmas.Grind.{flat_map-append}
use Rattle.ghost_model.specs.core.Schema.{is_visible}
use Rattle.ghost_model.specs.core.Values.{Database}
use Rattle.ghost_model.specs.core.Query.{Query}
use Rattle.ghost_model.specs.core.Channel.{Catalog, count_of, Ask, Frame, DoneFrame}
use Rattle.ghost_model.specs.forms.Catalog.{catalog_bytes}
use Rattle.ghost_model.specs.core.Database.{rows_of, row_counts, IsDatabase}
use Rattle.ghost_model.specs.forms.Frames.{AreBytes, frame_bytes}
use Rattle.ghost_model.specs.core.Asks.{NumberedAsk, RowCells, is_proper_ask, kinds_of}
use Rattle.ghost_model.specs.core.NextMove.{Heard, EndedAsk, ask_next, heard, hear_all, at_first, rows_fit}
use Rattle.ghost_model.specs.core.Split.{Public, public_of, reply_rows, visible_rows}
use Rattle.ghost_model.specs.core.Host.{welcomes_of, rows_frame}
use Rattle.ghost_model.specs.laws.HostLaws.{reply_frames, rows_of_groups, Exchange, asked_in, ended_in, exchange_frames, AreExchanges, IsHeardWhole, IsGreeted}
use Rattle.ghost_model.specs.core.Honest.{AreWelcomes, IsReply, AreReplies}
use Rattle.ghost_model.proofs.ChannelLemmas.Tests.{BothHold, both_hold}
use Rattle.ghost_model.proofs.ChannelLemmas.Sending.{heard_more}
use Rattle.ghost_model.proofs.ChannelLemmas.Replies.{replies_are_heard}
use Rattle.ghost_model.proofs.ChannelLemmas.Greeting.{greetings_are_heard}
use Rattle.ghost_model.proofs.SessionLemmas.Accepted.{Each}
use Rattle.ghost_model.proofs.SessionLemmas.Groups.{joined_parts}
use Rattle.ghost_model.proofs.SessionLemmas.SentFrames.{AreProper}
use Rattle.ghost_model.proofs.SessionLemmas.Replied.{IsSendable, all_sendable, are_groups, count_is, AreRepliable, repliable}

abbrev ask_of : NumberedAsk → Ask
ask_of one = one.ask

-- exchanges heard one after another, others being still to come
module _ (catalog : Catalog) (asks : List NumberedAsk) where
  pub record IsHeardSoFar (serial : ℕ) (ended : List EndedAsk) (exchanges : List Exchange) (later : List NumberedAsk) (after : Heard) : Type 0 where
    pub awaits : after.awaits ≡ (ask_next catalog.schema (serial + length exchanges) later).awaits
    pub ends : after.ended ≡ ended ++ map ended_in exchanges

  hear_two : (h : Heard) (one other : List Frame) → hear_all catalog asks h (flat_map frame_bytes (one ++ other)) ≡ hear_all catalog asks (hear_all catalog asks h (flat_map frame_bytes one)) (flat_map frame_bytes other)
  hear_two h one other =
      ap (λ (bytes : List ℕ). hear_all catalog asks h bytes) (flat_map-append frame_bytes one other)
      ∙ heard_more catalog [] asks h (flat_map frame_bytes one) (flat_map frame_bytes other)

  exchanges_heard :
      (exchanges : List Exchange) (later : List NumberedAsk) (serial : ℕ) (before : Heard) → 0 < serial
      → before.awaits ≡ (ask_next catalog.schema serial (map asked_in exchanges ++ later)).awaits
      → before.part ≡ [] → before.rows ≡ [] → before.broken ≡ false → AreExchanges catalog serial exchanges
      → IsHeardSoFar serial before.ended exchanges later (hear_all catalog asks before (flat_map frame_bytes (exchange_frames serial exchanges)))
  unfolding hear_all
  exchanges_heard [] later serial before some a p r b all =
      let same : serial ≡ serial + 0 = omega arith in
      record { awaits = a ∙ ap (λ (n : ℕ). (ask_next catalog.schema n later).awaits) same; ends = sym (append-nil before.ended) }
  exchanges_heard (exchange ∷ exchanges) later serial before some a p r b all =
      let whole : IsHeardWhole catalog exchange.asked serial (map asked_in exchanges ++ later) exchange.groups before (hear_all catalog asks before (flat_map frame_bytes (reply_frames serial exchange.groups))) =
      replies_are_heard catalog asks exchange.asked serial (map asked_in exchanges ++ later) exchange.groups before a p r b some all.0 all.1 all.2 in
      let rest : IsHeardSoFar (serial + 1) (hear_all catalog asks before (flat_map frame_bytes (reply_frames serial exchange.groups))).ended exchanges later (hear_all catalog asks (hear_all catalog asks before (flat_map frame_bytes (reply_frames serial exchange.groups))) (flat_map frame_bytes (exchange_frames (serial + 1) exchanges))) =
      exchanges_heard exchanges later (serial + 1) _ (omega arith) whole.awaits whole.part whole.rows whole.valid all.3 in
      let moved : serial + 1 + length exchanges ≡ serial + suc (length exchanges) = omega arith in
      subst (λ (after : Heard). IsHeardSoFar serial before.ended (exchange ∷ exchanges) later after) (sym (hear_two before (reply_frames serial exchange.groups) (exchange_frames (serial + 1) exchanges)))
      (record {
        awaits = rest.awaits ∙ ap (λ (n : ℕ). (ask_next catalog.schema n later).awaits) moved;
        ends = rest.ends ∙ (ap (λ (xs : List EndedAsk). xs ++ map ended_in exchanges) whole.ended ∙ append_assoc before.ended (ended_in exchange ∷ []) (map ended_in exchanges));
      })

  pub stream_heard :
      (greeting : List Frame) (exchanges : List Exchange) (later : List NumberedAsk) → AreBytes (catalog_bytes catalog) → AreWelcomes catalog greeting
      → AreExchanges catalog 1 exchanges → map asked_in exchanges ++ later ≡ asks
      → IsHeardSoFar 1 [] exchanges later (heard catalog asks (flat_map frame_bytes (greeting ++ exchange_frames 1 exchanges)))
  stream_heard greeting exchanges later bytes welcomes are all =
      let opening : List Frame = welcomes_of welcomes.parts in
      let greeted : IsGreeted catalog asks (heard catalog asks (flat_map frame_bytes (welcomes_of welcomes.parts))) =
      greetings_are_heard catalog asks welcomes.parts bytes welcomes.cut (sym (joined_parts welcomes.parts) ∙ welcomes.whole) in
      let end : IsHeardSoFar 1 (heard catalog asks (flat_map frame_bytes (welcomes_of welcomes.parts))).ended exchanges later (hear_all catalog asks (heard catalog asks (flat_map frame_bytes (welcomes_of welcomes.parts))) (flat_map frame_bytes (exchange_frames 1 exchanges))) =
      exchanges_heard exchanges later 1 _ (omega arith) (greeted.awaits ∙ ap (λ (xs : List NumberedAsk). (ask_next catalog.schema 1 xs).awaits) (sym all)) greeted.part greeted.rows greeted.valid are in
      subst (λ (frames : List Frame). IsHeardSoFar 1 [] exchanges later (heard catalog asks (flat_map frame_bytes (frames ++ exchange_frames 1 exchanges)))) (sym welcomes.frames_are)
      (subst (λ (after : Heard). IsHeardSoFar 1 [] exchanges later after) (sym (hear_two (at_first catalog) (welcomes_of welcomes.parts) (exchange_frames 1 exchanges)))
      (record { awaits = end.awaits; ends = end.ends ∙ ap (λ (xs : List EndedAsk). xs ++ map ended_in exchanges) greeted.ended }))

-- the exchanges of replies
module _ (catalog : Catalog) (database : Database) (is : IsDatabase catalog.schema database) (asked : Query)
    (counts : row_counts database ≡ catalog.counts) (few : (table : ℕ) → length (rows_of database table) < 2 ^ 32)
    (visible_in : (ask : Ask) → is_proper_ask catalog.schema ask ≡ true → list_all (is_visible catalog.schema ask.table) ask.columns ≡ true) where
  abbrev public : Public
  public = public_of catalog.schema database

  abbrev pub IsWhole : Exchange → Type 0
  IsWhole exchange = (is_proper_ask catalog.schema exchange.asked.ask ≡ true) × (rows_of_groups exchange.groups ≡ reply_rows catalog.schema (public_of catalog.schema database) exchange.asked.ask)

  pub record AreExchanged (serial : ℕ) (asks : List NumberedAsk) (frames : List Frame) : Type 0 where
    pub exchanges : List Exchange
    pub asked_are : map asked_in exchanges ≡ asks
    pub frames_are : frames ≡ exchange_frames serial exchanges
    pub are : AreExchanges catalog serial exchanges
    pub whole : Each IsWhole exchanges

  pub exchanged :
      (serial : ℕ) (asks : List NumberedAsk) (frames : List Frame) → AreProper catalog.schema asks → serial + length asks ≤ 2 ^ 32
      → AreReplies catalog.schema public serial (map ask_of asks) frames → AreExchanged serial asks frames
  unfolding AreReplies
  exchanged serial [] frames proper fits replies = record { exchanges = []; asked_are = refl; frames_are = replies; are = tt; whole = tt }
  exchanged serial (one ∷ asks) frames proper fits replies =
      let both : BothHold (is_proper_ask catalog.schema one.ask) (list_all (λ other. is_proper_ask catalog.schema other.ask) asks) = both_hold _ _ proper in
      let reply : IsReply catalog.schema serial one.ask (reply_rows catalog.schema public one.ask) replies.0 = replies.2 in
      let later : AreExchanged (serial + 1) asks replies.1 = exchanged (serial + 1) asks replies.1 both.other (omega (arith, fits)) replies.3 in
      let rows : AreRepliable catalog.schema database is asked one.ask (visible_in one.ask both.one) (few one.ask.table) = repliable catalog.schema database is asked one.ask (visible_in one.ask both.one) (few one.ask.table) in
      let count : count_of catalog one.ask.table ≡ length (rows_of database one.ask.table) = count_is catalog database one.ask.table counts in
      let this : Exchange = record { asked = one; groups = reply.packing } in
      let ascend : rows_fit (count_of catalog one.ask.table) 0 (kinds_of catalog.schema one.ask) (rows_of_groups reply.packing) ≡ true =
      ap (λ (n : ℕ). rows_fit n 0 (kinds_of catalog.schema one.ask) (rows_of_groups reply.packing)) count
      ∙ (ap (λ (rs : List RowCells). rows_fit (length (rows_of database one.ask.table)) 0 (kinds_of catalog.schema one.ask) rs) reply.whole ∙ rows.ascend) in
      let sendable : Each (IsSendable catalog.schema one.ask) (rows_of_groups reply.packing) =
      subst (λ (rs : List RowCells). Each (IsSendable catalog.schema one.ask) rs) (sym reply.whole) (all_sendable catalog.schema one.ask (visible_rows catalog.schema public one.ask) rows.kinds) in
      record {
        exchanges = this ∷ later.exchanges;
        asked_are = ap (λ (xs : List NumberedAsk). one ∷ xs) later.asked_are;
        frames_are =
            replies.4
            ∙ (ap (λ (xs : List Frame). xs ++ replies.1) (reply.frames_are ∙ ap (λ (rs : List RowCells). map (rows_frame serial) reply.packing ++ DoneFrame serial (length rs) ∷ []) (sym reply.whole))
            ∙ ap (λ (xs : List Frame). reply_frames serial reply.packing ++ xs) later.frames_are);
        are = (
          omega (arith, fits),
          subst (λ (rs : List RowCells). length rs < 2 ^ 32) (sym reply.whole) rows.few_rows,
          are_groups catalog one.ask 0 reply.packing reply.fits ascend sendable,
          later.are,
        );
        whole = ((both.one, reply.whole), later.whole);
      }
