-- That each ask which was ended has its whole reply, where the host is honest.
use Rattle.std.proofs.Common.{◌≡◌, ℕ, suc, ◌+◌, Bool, true, false, List, [], ◌∷◌, ◌++◌, length, map, filter, sym, ◌∙◌, ap, subst, refl, arith, append_assoc, Option, Some, None, slice_get, Ok}
use Rattle.std.specs.Prelude.{◌==◌, filter_map, flat_map, if◌then◌else◌, Result}
use Rattle.std.specs.List.{cons_option}
use Rattle.std.proofs.lemmas.List.{map-append}
use Rattle.std.proofs.lemmas.Bool.{eqb-true}
use Rattle.std.proofs.lemmas.Bool.Decides.{nat_tests}
use Rattle.ghost_model.specs.core.Values.{Database}
use Rattle.ghost_model.specs.core.Query.{Query}
use Rattle.ghost_model.specs.refusals.QueryMeaning.{Refusal}
use Rattle.ghost_model.specs.readings.QueryReading.{reading}
use Rattle.ghost_model.specs.core.Channel.{Catalog, Ask, Journal}
use Rattle.ghost_model.specs.forms.Catalog.{canonical_text}
use Rattle.ghost_model.specs.core.Asks.{NumberedAsk, asked, asks_of, asks_of_reading, asked_of}
use Rattle.ghost_model.specs.core.Moves.{taken}
use Rattle.ghost_model.specs.core.NextMove.{EndedAsk, heard, ended_of}
use Rattle.ghost_model.specs.laws.ChannelLaws.{IsDue}
use Rattle.ghost_model.specs.core.Split.{Public, public_of}
use Rattle.ghost_model.specs.core.Host.{asks_in_frame}
use Rattle.ghost_model.specs.laws.HostLaws.{Exchange, asked_in, ended_in}
use Rattle.ghost_model.specs.core.Honest.{AreReplies, asks_sent}
use Rattle.ghost_model.specs.core.Replies.{Reply, reply_of, replies, reply_for}
use Rattle.ghost_model.specs.core.Lines.{was_refused, all_done}
use Rattle.ghost_model.specs.laws.SessionLaws.{whole_reply, whole_replies}
use Rattle.ghost_model.proofs.ChannelLemmas.Tests.{false_is_not}
use Rattle.ghost_model.proofs.ChannelLemmas.Sending.{sent_is_due}
use Rattle.ghost_model.proofs.SessionLemmas.Settings.{serials_fit, counts_fit, bytes_are}
use Rattle.ghost_model.proofs.SessionLemmas.Accepted.{Each}
use Rattle.ghost_model.proofs.SessionLemmas.Limits.{IsSmall, schema_is_small, proper_columns}
use Rattle.ghost_model.proofs.SessionLemmas.SentFrames.{AreFrames, AreProper, sent_are_frames, asks_are_good}
use Rattle.ghost_model.proofs.SessionLemmas.ThisHost.{asks_in_bytes, asks_in_frames}
use Rattle.ghost_model.proofs.SessionLemmas.Front.{Begins}
use Rattle.ghost_model.proofs.SessionLemmas.Replied.{AreRepliable, repliable}
use Rattle.ghost_model.proofs.SessionLemmas.Honest.{IsWhole}
use Rattle.ghost_model.proofs.SessionLemmas.Ended.{AreEnded, ended_now}
use Rattle.ghost_model.proofs.SessionLemmas.Answered.{filter_joined, of_text, IsGiven, wanted, all_replies, count_of, all_wanted}
use Rattle.session_laws.specs.HonestSessions.{IsHonestSession, AreRepliedWhole, HonestAsksAreRepliedWhole, HonestTextsAreRepliedWhole, replies_in, whole_reply_to}
use Rattle.session_laws.proofs.Stored.{no_query}

same_heads : {X : Type 0} (x y : X) (xs ys : List X) → x ∷ xs ≡ y ∷ ys → (x ≡ y) × (xs ≡ ys)
same_heads x y xs ys e = (cc, cc)

record IsEndedFront (front : List EndedAsk) (exchanges : List Exchange) : Type 0 where
  one : List Exchange
  later : List Exchange
  whole : exchanges ≡ one ++ later
  front_is : front ≡ map ended_in one

ended_front : (front : List EndedAsk) (exchanges : List Exchange) → Begins front (map ended_in exchanges) → IsEndedFront front exchanges
ended_front [] exchanges b = record { one = []; later = exchanges; whole = refl; front_is = refl }
ended_front (end ∷ front) [] b = let bad = b.joined in absurd (cc)
ended_front (end ∷ front) (exchange ∷ exchanges) b =
    let same = same_heads (ended_in exchange) end (map ended_in exchanges) (front ++ b.rest) b.joined in
    let m : IsEndedFront front exchanges = ended_front front exchanges (record { rest = b.rest; joined = same.1 }) in
    record {
      one = exchange ∷ m.one;
      later = m.later;
      whole = ap (λ (es : List Exchange). exchange ∷ es) m.whole;
      front_is = ap (λ (e : EndedAsk). e ∷ front) (sym same.0) ∙ ap (λ (es : List EndedAsk). ended_in exchange ∷ es) m.front_is;
    }

each_front : {X : Type 0} (P : X → Type 0) (one later : List X) → Each P (one ++ later) → Each P one
each_front P [] later e = tt
each_front P (x ∷ one) later e = (e.0, each_front P one later e.1)

each_weaker : {X : Type 0} (P Q : X → Type 0) (xs : List X) → ((x : X) → P x → Q x) → Each P xs → Each Q xs
each_weaker P Q [] h e = tt
each_weaker P Q (x ∷ xs) h e = (h x e.0, each_weaker P Q xs h e.1)

done_count : (refused : Bool) (n m : ℕ) → (if refused then false else n == m) ≡ true → n ≡ m
done_count true n m e = absurd (false_is_not e)
done_count false n m e = eqb-true n m e

same_number : (n : ℕ) → (n == n) ≡ true
same_number n = grind (arith, nat_tests)

module _ (catalog : Catalog) (database : Database) where
  abbrev given_reply : Exchange → Option Reply
  given_reply exchange = reply_of catalog.schema exchange.asked (ended_in exchange).ending

  abbrev IsGivenWhole : Exchange → Type 0
  IsGivenWhole exchange = IsGiven catalog.schema (public_of catalog.schema database) 0 exchange

  one_whole : (exchange : Exchange) → IsGivenWhole exchange → given_reply exchange ≡ Some (whole_reply_to catalog database exchange.asked)
  one_whole exchange given =
      let text : ℕ = exchange.asked.text in
      let all = all_replies catalog.schema (public_of catalog.schema database) exchange.asked.text (exchange ∷ []) (given, tt) in
      let one : cons_option (given_reply exchange) [] ≡ whole_reply_to catalog database exchange.asked ∷ [] =
      subst (λ (b : Bool). cons_option (if b then given_reply exchange else None) [] ≡ map (whole_reply catalog.schema (public_of catalog.schema database)) (map (λ (one : NumberedAsk). one.ask) (if b then exchange.asked ∷ [] else [])))
      (same_number exchange.asked.text) all in
      cc

  all_whole : (exchanges : List Exchange) → Each IsGivenWhole exchanges → replies_in catalog.schema (map ended_in exchanges) ≡ map (whole_reply_to catalog database) (map asked_in exchanges)
  all_whole [] e = refl
  all_whole (exchange ∷ exchanges) e =
      ap (λ (o : Option Reply). cons_option o (replies_in catalog.schema (map ended_in exchanges))) (one_whole exchange e.0)
      ∙ ap (λ (rs : List Reply). whole_reply_to catalog database exchange.asked ∷ rs) (all_whole exchanges e.1)

module _ (catalog : Catalog) (database : Database) (at : List ℕ) (texts : List (List ℕ)) (journal : Journal) (is : IsHonestSession catalog database at texts journal) where
  small : IsSmall catalog.schema
  small = schema_is_small (canonical_text catalog.schema) catalog.schema is.setting.proper.meant

  proper : AreProper catalog.schema (asked_of catalog.schema texts)
  proper = asks_are_good catalog.schema texts

  due : IsDue catalog (asked_of catalog.schema texts) journal
  due = sent_is_due catalog at (asked_of catalog.schema texts) journal is.proper

  -- the exchanges of the asks that were ended, and the asks behind them
  record HasExchanges : Type 0 where
    one : List Exchange
    later : List NumberedAsk
    asked_are : asked_of catalog.schema texts ≡ map asked_in one ++ later
    ended_are : (heard catalog (asked_of catalog.schema texts) (taken journal)).ended ≡ map ended_in one
    given : Each (IsGivenWhole catalog database) one

  exchanges : HasExchanges
  exchanges =
      let good : AreFrames due.frames = sent_are_frames catalog small (asked_of catalog.schema texts) proper (serials_fit catalog texts is.setting) journal is.setting.proper.generation_fits due in
      let names : asks_sent catalog.schema journal ≡ flat_map (asks_in_frame catalog.schema) due.frames =
      ap (flat_map (asks_in_bytes catalog.schema)) due.sent_are ∙ asks_in_frames catalog.schema due.frames good in
      let ended = ended_now catalog database is.stored.is_database no_query is.stored.counts_are (counts_fit catalog database is.stored) (λ ask e. proper_columns catalog.schema small ask e) (asked_of catalog.schema texts) proper (serials_fit catalog texts is.setting) (bytes_are catalog is.stored.proper)
      is.honest.greeting is.honest.greets (taken journal) is.honest.rest is.honest.replies is.honest.taken_before
      due.frames (record { rest = due.rest; joined = due.due_are })
      (subst (λ (xs : List Ask). AreReplies catalog.schema (public_of catalog.schema database) 1 xs is.honest.replies) names is.honest.replied) in
      let m : IsEndedFront (heard catalog (asked_of catalog.schema texts) (taken journal)).ended ended.exchanges = ended_front _ ended.exchanges ended.ended in
      record {
        one = m.one;
        later = map asked_in m.later ++ ended.later;
        asked_are = ended.asked_are ∙ (ap (λ (es : List Exchange). map asked_in es ++ ended.later) m.whole
            ∙ (ap (λ (xs : List NumberedAsk). xs ++ ended.later) (map-append asked_in m.one m.later) ∙ append_assoc (map asked_in m.one) (map asked_in m.later) ended.later));
        ended_are = m.front_is;
        given = each_weaker (IsWhole catalog database is.stored.is_database no_query is.stored.counts_are (counts_fit catalog database is.stored) (λ ask e. proper_columns catalog.schema small ask e)) (IsGivenWhole catalog database) m.one
            (λ exchange w.
            let rows : AreRepliable catalog.schema database is.stored.is_database no_query exchange.asked.ask (proper_columns catalog.schema small exchange.asked.ask w.0) ((counts_fit catalog database is.stored) exchange.asked.ask.table) =
            repliable catalog.schema database is.stored.is_database no_query exchange.asked.ask (proper_columns catalog.schema small exchange.asked.ask w.0) ((counts_fit catalog database is.stored) exchange.asked.ask.table) in
            (rows.kinds, w.1))
            (each_front _ m.one m.later (subst (λ (es : List Exchange). Each (IsWhole catalog database is.stored.is_database no_query is.stored.counts_are (counts_fit catalog database is.stored) (λ ask e. proper_columns catalog.schema small ask e)) es) m.whole ended.whole));
      }

  asks_are_whole : AreRepliedWhole catalog database texts journal
  asks_are_whole =
      let ex = exchanges in
      record {
        first = map asked_in ex.one;
        later = ex.later;
        asked_are = ex.asked_are;
        replied = ap (replies_in catalog.schema) ex.ended_are ∙ all_whole catalog database ex.one ex.given;
      }

  text_is_whole : (place : ℕ) (written : List ℕ) (query : Query) → slice_get texts place ≡ Some written → reading catalog.schema written ≡ Ok query
      → all_done catalog.schema query (ended_of catalog (asked_of catalog.schema texts) journal (suc place)) ≡ true
      → replies catalog (asked_of catalog.schema texts) journal (suc place) ≡ whole_replies catalog.schema (public_of catalog.schema database) query
  text_is_whole place written query here read done =
      let ex = exchanges in
      let number : 1 + place ≡ suc place = omega arith in
      let of_this : filter (λ (one : NumberedAsk). one.text == suc place) (asked_of catalog.schema texts) ≡ map (asked (suc place)) (asks_of catalog.schema query) =
      subst (λ (n : ℕ). filter (λ (one : NumberedAsk). one.text == n) (asked_of catalog.schema texts) ≡ map (asked n) (asks_of_reading catalog.schema (reading catalog.schema written))) number (of_text catalog.schema 1 place texts written here)
      ∙ ap (λ (r : Result Query Refusal). map (asked (suc place)) (asks_of_reading catalog.schema r)) read in
      let split : wanted catalog.schema (public_of catalog.schema database) (suc place) ex.one ++ filter (λ (one : NumberedAsk). one.text == suc place) ex.later ≡ map (asked (suc place)) (asks_of catalog.schema query) =
      sym (filter_joined (λ (one : NumberedAsk). one.text == suc place) (map asked_in ex.one) ex.later)
      ∙ (ap (filter (λ (one : NumberedAsk). one.text == suc place)) (sym ex.asked_are) ∙ of_this) in
      let count : length (wanted catalog.schema (public_of catalog.schema database) (suc place) ex.one) ≡ length (asks_of catalog.schema query) =
      sym (count_of catalog.schema (public_of catalog.schema database) (suc place) ex.one)
      ∙ (ap (λ (es : List EndedAsk). length (filter (λ (end : EndedAsk). end.asked.text == suc place) es)) (sym ex.ended_are)
      ∙ done_count (was_refused (ended_of catalog (asked_of catalog.schema texts) journal (suc place))) _ _ done) in
      ap (filter_map (reply_for catalog.schema (suc place))) ex.ended_are
      ∙ (all_replies catalog.schema (public_of catalog.schema database) (suc place) ex.one ex.given
      ∙ ap (map (whole_reply catalog.schema (public_of catalog.schema database))) (all_wanted catalog.schema (public_of catalog.schema database) (suc place) ex.one _ (suc place) (asks_of catalog.schema query) split count))

pub asks_whole : HonestAsksAreRepliedWhole
asks_whole catalog database at texts journal is = asks_are_whole catalog database at texts journal is

pub texts_whole : HonestTextsAreRepliedWhole
texts_whole catalog database at texts journal place written query is here read done =
    text_is_whole catalog database at texts journal is place written query here read done
