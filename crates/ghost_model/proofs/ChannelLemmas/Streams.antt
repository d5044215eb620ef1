-- That an honest stream is heard to its end.
use Rattle.std.proofs.Common.{◌≡◌, ℕ, ◌+◌, ◌<◌, true, false, ◌&&◌, List, [], ◌∷◌, ◌++◌, length, map, sym, ◌∙◌, ap, subst, arith, append-nil, append_assoc}
use Rattle.std.specs.Prelude.{nat_lt, nat_le, flat_map}
use Rattle.std.specs.List.{list_all}
use Rattle.std.proofs.lemmas.Grind.{flat_map-append}
use Rattle.ghost_model.specs.core.Channel.{Catalog, Frame}
use Rattle.ghost_model.specs.forms.Catalog.{catalog_bytes}
use Rattle.ghost_model.specs.core.Asks.{NumberedAsk}
use Rattle.ghost_model.specs.forms.Frames.{AreBytes, frame_bytes}
use Rattle.ghost_model.specs.core.NextMove.{AwaitsNothing, Heard, EndedAsk, hear_all, heard, at_first, ask_next}
use Rattle.ghost_model.specs.core.Host.{most_part, welcomes_of}
use Rattle.ghost_model.specs.laws.HostLaws.{reply_frames, Exchange, asked_in, ended_in, exchange_frames, AreExchanges, IsHeardWhole, IsGreeted, IsHeardToTheEnd}
use Rattle.ghost_model.proofs.ChannelLemmas.Sending.{heard_more}
use Rattle.ghost_model.proofs.ChannelLemmas.Replies.{replies_are_heard}
use Rattle.ghost_model.proofs.ChannelLemmas.Greeting.{greetings_are_heard}

module _ (catalog : Catalog) (asks : List NumberedAsk) where
  record IsEnd (ended : List EndedAsk) (exchanges : List Exchange) (after : Heard) : Type 0 where
    nothing_awaited : after.awaits ≡ AwaitsNothing
    valid : after.broken ≡ false
    ends : after.ended ≡ ended ++ map ended_in exchanges

  hear_two : (h : Heard) (one other : List Frame) → hear_all catalog asks h (flat_map frame_bytes (one ++ other)) ≡ hear_all catalog asks (hear_all catalog asks h (flat_map frame_bytes one)) (flat_map frame_bytes other)
  hear_two h one other =
      ap (λ (bytes : List ℕ). hear_all catalog asks h bytes) (flat_map-append frame_bytes one other)
      ∙ heard_more catalog [] asks h (flat_map frame_bytes one) (flat_map frame_bytes other)

  exchanges_heard :
      (exchanges : List Exchange) (serial : ℕ) (before : Heard) → 0 < serial → before.awaits ≡ (ask_next catalog.schema serial (map asked_in exchanges)).awaits
      → before.part ≡ [] → before.rows ≡ [] → before.broken ≡ false → AreExchanges catalog serial exchanges
      → IsEnd before.ended exchanges (hear_all catalog asks before (flat_map frame_bytes (exchange_frames serial exchanges)))
  unfolding hear_all
  exchanges_heard [] serial before some a p r b all = record { nothing_awaited = a; valid = b; ends = sym (append-nil before.ended) }
  exchanges_heard (exchange ∷ later) serial before some a p r b all =
      let middle : Heard = hear_all catalog asks before (flat_map frame_bytes (reply_frames serial exchange.groups)) in
      let whole : IsHeardWhole catalog exchange.asked serial (map asked_in later) exchange.groups before (hear_all catalog asks before (flat_map frame_bytes (reply_frames serial exchange.groups))) =
      replies_are_heard catalog asks exchange.asked serial (map asked_in later) exchange.groups before a p r b some all.0 all.1 all.2 in
      let rest : IsEnd (hear_all catalog asks before (flat_map frame_bytes (reply_frames serial exchange.groups))).ended later (hear_all catalog asks (hear_all catalog asks before (flat_map frame_bytes (reply_frames serial exchange.groups))) (flat_map frame_bytes (exchange_frames (serial + 1) later))) =
      exchanges_heard later (serial + 1) _ (omega arith) whole.awaits whole.part whole.rows whole.valid all.3 in
      subst (λ (after : Heard). IsEnd before.ended (exchange ∷ later) after) (sym (hear_two before (reply_frames serial exchange.groups) (exchange_frames (serial + 1) later)))
      (record {
        nothing_awaited = rest.nothing_awaited;
        valid = rest.valid;
        ends = rest.ends ∙ (ap (λ (xs : List EndedAsk). xs ++ map ended_in later) whole.ended ∙ append_assoc before.ended (ended_in exchange ∷ []) (map ended_in later));
      })

pub honest_streams_are_heard :
    (catalog : Catalog) (parts : List (List ℕ)) (exchanges : List Exchange) → AreBytes (catalog_bytes catalog)
    → list_all (λ part. nat_lt 0 (length part) && nat_le (length part) most_part) parts ≡ true
    → flat_map (λ part. part) parts ≡ catalog_bytes catalog → AreExchanges catalog 1 exchanges
    → IsHeardToTheEnd exchanges (heard catalog (map asked_in exchanges) (flat_map frame_bytes (welcomes_of parts ++ exchange_frames 1 exchanges)))
honest_streams_are_heard catalog parts exchanges h e w all =
    let asks : List NumberedAsk = map asked_in exchanges in
    let greeted : IsGreeted catalog (map asked_in exchanges) (heard catalog (map asked_in exchanges) (flat_map frame_bytes (welcomes_of parts))) = greetings_are_heard catalog (map asked_in exchanges) parts h e w in
    let end : IsEnd catalog (map asked_in exchanges) (heard catalog (map asked_in exchanges) (flat_map frame_bytes (welcomes_of parts))).ended exchanges (hear_all catalog (map asked_in exchanges) (heard catalog (map asked_in exchanges) (flat_map frame_bytes (welcomes_of parts))) (flat_map frame_bytes (exchange_frames 1 exchanges))) =
    exchanges_heard catalog (map asked_in exchanges) exchanges 1 _ (omega arith) greeted.awaits greeted.part greeted.rows greeted.valid all in
    subst (λ (after : Heard). IsHeardToTheEnd exchanges after) (sym (hear_two catalog (map asked_in exchanges) (at_first catalog) (welcomes_of parts) (exchange_frames 1 exchanges)))
    (record {
      nothing_awaited = end.nothing_awaited;
      valid = end.valid;
      ended = end.ends ∙ ap (λ (xs : List EndedAsk). xs ++ map ended_in exchanges) greeted.ended;
    })
