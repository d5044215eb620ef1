-- That what an honest host's replies answer is the meaning of the text.
use Rattle.std.proofs.Common.{◌≡◌, ℕ, suc, ◌+◌, Bool, true, false, List, [], ◌∷◌, ◌++◌, length, map, filter, sym, ◌∙◌, ap, subst, refl, arith, append_assoc, Some, slice_get, Ok}
use Rattle.std.specs.Prelude.{◌==◌, filter_map, flat_map, if◌then◌else◌, Result}
use Rattle.std.proofs.lemmas.List.{map-append}
use Rattle.std.proofs.lemmas.Bool.{eqb-true}
use Rattle.ghost_model.specs.core.Schema.{Schema}
use Rattle.ghost_model.specs.laws.SchemaTrees.{IsTree}
use Rattle.ghost_model.specs.core.Values.{Database}
use Rattle.ghost_model.specs.core.Query.{Query}
use Rattle.ghost_model.specs.refusals.QueryMeaning.{Refusal}
use Rattle.ghost_model.specs.readings.QueryReading.{reading}
use Rattle.ghost_model.specs.core.Channel.{Catalog, Ask, Journal}
use Rattle.ghost_model.specs.forms.Catalog.{canonical_text}
use Rattle.ghost_model.specs.core.Asks.{NumberedAsk, asked, asks_of, asks_of_reading, asked_of}
use Rattle.ghost_model.specs.core.Moves.{taken}
use Rattle.ghost_model.specs.core.NextMove.{IsProper, EndedAsk, heard, ended_of}
use Rattle.ghost_model.specs.laws.ChannelLaws.{IsDue}
use Rattle.ghost_model.specs.core.Split.{Public, public_of, hidden_of}
use Rattle.ghost_model.specs.core.Host.{asks_in_frame}
use Rattle.ghost_model.specs.laws.HostLaws.{Exchange, asked_in, ended_in}
use Rattle.ghost_model.specs.core.Honest.{AreReplies, asks_sent, IsHonest, IsSetting, IsCatalogOf}
use Rattle.ghost_model.specs.core.Meaning.{answer}
use Rattle.ghost_model.specs.core.Replies.{replies, reply_for, answer_from}
use Rattle.ghost_model.specs.core.Lines.{was_refused, all_done}
use Rattle.ghost_model.specs.laws.SessionLaws.{whole_reply, whole_replies}
use Rattle.ghost_model.proofs.ChannelLemmas.Tests.{false_is_not}
use Rattle.ghost_model.proofs.ChannelLemmas.Sending.{sent_is_due}
use Rattle.ghost_model.proofs.SessionLemmas.Settings.{tree_of, serials_fit, counts_fit, bytes_are}
use Rattle.ghost_model.proofs.QueryReadingLemmas.{means_of}
use Rattle.ghost_model.proofs.SessionLemmas.Accepted.{Each}
use Rattle.ghost_model.proofs.SessionLemmas.Limits.{IsSmall, schema_is_small, proper_columns}
use Rattle.ghost_model.proofs.SessionLemmas.SentFrames.{AreFrames, AreProper, sent_are_frames, asks_are_good}
use Rattle.ghost_model.proofs.SessionLemmas.ThisHost.{asks_in_bytes, asks_in_frames}
use Rattle.ghost_model.proofs.SessionLemmas.Front.{Begins}
use Rattle.ghost_model.proofs.SessionLemmas.Replied.{AreRepliable, repliable}
use Rattle.ghost_model.proofs.SessionLemmas.Honest.{IsWhole}
use Rattle.ghost_model.proofs.SessionLemmas.Ended.{AreEnded, ended_now}
use Rattle.ghost_model.proofs.SessionLemmas.Answered.{filter_joined, of_text, IsGiven, wanted, all_replies, count_of, all_wanted}
use Rattle.ghost_model.proofs.SessionLemmas.Combined.{whole_replies_answer}

same_heads : {X : Type 0} (x y : X) (xs ys : List X) → x ∷ xs ≡ y ∷ ys → (x ≡ y) × (xs ≡ ys)
same_heads x y xs ys e = (cc, cc)

record IsEndedFront (front : List EndedAsk) (exchanges : List Exchange) : Type 0 where
  one : List Exchange
  later : List Exchange
  whole : exchanges ≡ one ++ later
  front_is : front ≡ map ended_in one

ended_front : (front : List EndedAsk) (exchanges : List Exchange) → Begins front (map ended_in exchanges) → IsEndedFront front exchanges
ended_front [] exchanges b = record { one = []; later = exchanges; whole = refl; front_is = refl }
ended_front (end ∷ front) [] b = let bad = b.joined in absurd (cc)
ended_front (end ∷ front) (exchange ∷ exchanges) b =
    let same = same_heads (ended_in exchange) end (map ended_in exchanges) (front ++ b.rest) b.joined in
    let m : IsEndedFront front exchanges = ended_front front exchanges (record { rest = b.rest; joined = same.1 }) in
    record {
      one = exchange ∷ m.one;
      later = m.later;
      whole = ap (λ (es : List Exchange). exchange ∷ es) m.whole;
      front_is = ap (λ (e : EndedAsk). e ∷ front) (sym same.0) ∙ ap (λ (es : List EndedAsk). ended_in exchange ∷ es) m.front_is;
    }

each_front : {X : Type 0} (P : X → Type 0) (one later : List X) → Each P (one ++ later) → Each P one
each_front P [] later e = tt
each_front P (x ∷ one) later e = (e.0, each_front P one later e.1)

each_weaker : {X : Type 0} (P Q : X → Type 0) (xs : List X) → ((x : X) → P x → Q x) → Each P xs → Each Q xs
each_weaker P Q [] h e = tt
each_weaker P Q (x ∷ xs) h e = (h x e.0, each_weaker P Q xs h e.1)

done_count : (refused : Bool) (n m : ℕ) → (if refused then false else n == m) ≡ true → n ≡ m
done_count true n m e = absurd (false_is_not e)
done_count false n m e = eqb-true n m e

pub honest_replies_answer :
    (catalog : Catalog) (database : Database) (at : List ℕ) (texts : List (List ℕ)) (journal : Journal)
    (place : ℕ) (written : List ℕ) (query : Query)
    → IsSetting catalog texts → IsCatalogOf catalog database → IsProper catalog at texts journal
    → IsHonest catalog (public_of catalog.schema database) journal
    → slice_get texts place ≡ Some written → reading catalog.schema written ≡ Ok query
    → all_done catalog.schema query (ended_of catalog (asked_of catalog.schema texts) journal (suc place)) ≡ true
    → answer_from catalog.schema (hidden_of catalog.schema database) query (replies catalog (asked_of catalog.schema texts) journal (suc place))
    ≡ answer catalog.schema database query
honest_replies_answer catalog database at texts journal place written query setting stored goes honest here read done =
    let schema : Schema = catalog.schema in
    let public : Public = public_of catalog.schema database in
    let asks : List NumberedAsk = asked_of catalog.schema texts in
    let small : IsSmall catalog.schema = schema_is_small (canonical_text catalog.schema) catalog.schema setting.proper.meant in
    let tree : IsTree catalog.schema = tree_of catalog setting.proper in
    let proper : AreProper catalog.schema (asked_of catalog.schema texts) = asks_are_good catalog.schema texts in
    let due : IsDue catalog (asked_of catalog.schema texts) journal = sent_is_due catalog at (asked_of catalog.schema texts) journal goes in
    let good : AreFrames due.frames = sent_are_frames catalog small (asked_of catalog.schema texts) proper (serials_fit catalog texts setting) journal setting.proper.generation_fits due in
    let names : asks_sent catalog.schema journal ≡ flat_map (asks_in_frame catalog.schema) due.frames =
    ap (flat_map (asks_in_bytes catalog.schema)) due.sent_are ∙ asks_in_frames catalog.schema due.frames good in
    let ended : AreEnded catalog database stored.is_database query stored.counts_are (counts_fit catalog database stored) (λ ask e. proper_columns catalog.schema small ask e) (asked_of catalog.schema texts) proper (serials_fit catalog texts setting) (bytes_are catalog stored.proper) honest.greeting honest.greets (taken journal) honest.rest honest.replies honest.taken_before =
    ended_now catalog database stored.is_database query stored.counts_are (counts_fit catalog database stored) (λ ask e. proper_columns catalog.schema small ask e) (asked_of catalog.schema texts) proper (serials_fit catalog texts setting) (bytes_are catalog stored.proper) honest.greeting honest.greets (taken journal) honest.rest honest.replies honest.taken_before
    due.frames (record { rest = due.rest; joined = due.due_are })
    (subst (λ (xs : List Ask). AreReplies catalog.schema (public_of catalog.schema database) 1 xs honest.replies) names honest.replied) in
    let m : IsEndedFront (heard catalog (asked_of catalog.schema texts) (taken journal)).ended ended.exchanges = ended_front _ ended.exchanges ended.ended in
    let given : Each (IsGiven catalog.schema (public_of catalog.schema database) (suc place)) m.one =
    each_weaker (IsWhole catalog database stored.is_database query stored.counts_are (counts_fit catalog database stored) (λ ask e. proper_columns catalog.schema small ask e)) (IsGiven catalog.schema (public_of catalog.schema database) (suc place)) m.one
    (λ exchange w.
    let rows : AreRepliable catalog.schema database stored.is_database query exchange.asked.ask (proper_columns catalog.schema small exchange.asked.ask w.0) ((counts_fit catalog database stored) exchange.asked.ask.table) =
    repliable catalog.schema database stored.is_database query exchange.asked.ask (proper_columns catalog.schema small exchange.asked.ask w.0) ((counts_fit catalog database stored) exchange.asked.ask.table) in
    (rows.kinds, w.1))
    (each_front _ m.one m.later (subst (λ (es : List Exchange). Each (IsWhole catalog database stored.is_database query stored.counts_are (counts_fit catalog database stored) (λ ask e. proper_columns catalog.schema small ask e)) es) m.whole ended.whole)) in
    let others : List NumberedAsk = map asked_in m.later ++ ended.later in
    let all : asked_of catalog.schema texts ≡ map asked_in m.one ++ (map asked_in m.later ++ ended.later) =
    ended.asked_are ∙ (ap (λ (es : List Exchange). map asked_in es ++ ended.later) m.whole
    ∙ (ap (λ (xs : List NumberedAsk). xs ++ ended.later) (map-append asked_in m.one m.later) ∙ append_assoc (map asked_in m.one) (map asked_in m.later) ended.later)) in
    let number : 1 + place ≡ suc place = omega arith in
    let of_this : filter (λ (one : NumberedAsk). one.text == suc place) (asked_of catalog.schema texts) ≡ map (asked (suc place)) (asks_of catalog.schema query) =
    subst (λ (n : ℕ). filter (λ (one : NumberedAsk). one.text == n) (asked_of catalog.schema texts) ≡ map (asked n) (asks_of_reading catalog.schema (reading catalog.schema written))) number (of_text catalog.schema 1 place texts written here)
    ∙ ap (λ (r : Result Query Refusal). map (asked (suc place)) (asks_of_reading catalog.schema r)) read in
    let split : wanted catalog.schema (public_of catalog.schema database) (suc place) m.one ++ filter (λ (one : NumberedAsk). one.text == suc place) (map asked_in m.later ++ ended.later) ≡ map (asked (suc place)) (asks_of catalog.schema query) =
    sym (filter_joined (λ (one : NumberedAsk). one.text == suc place) (map asked_in m.one) (map asked_in m.later ++ ended.later))
    ∙ (ap (filter (λ (one : NumberedAsk). one.text == suc place)) (sym all) ∙ of_this) in
    let count : length (wanted catalog.schema (public_of catalog.schema database) (suc place) m.one) ≡ length (asks_of catalog.schema query) =
    sym (count_of catalog.schema (public_of catalog.schema database) (suc place) m.one)
    ∙ (ap (λ (es : List EndedAsk). length (filter (λ (end : EndedAsk). end.asked.text == suc place) es)) (sym m.front_is)
    ∙ done_count (was_refused (ended_of catalog (asked_of catalog.schema texts) journal (suc place))) _ _ done) in
    let whole : replies catalog (asked_of catalog.schema texts) journal (suc place) ≡ whole_replies catalog.schema (public_of catalog.schema database) query =
    ap (filter_map (reply_for catalog.schema (suc place))) m.front_is
    ∙ (all_replies catalog.schema (public_of catalog.schema database) (suc place) m.one given
    ∙ ap (map (whole_reply catalog.schema (public_of catalog.schema database))) (all_wanted catalog.schema (public_of catalog.schema database) (suc place) m.one _ (suc place) (asks_of catalog.schema query) split count)) in
    ap (answer_from catalog.schema (hidden_of catalog.schema database) query) whole
    ∙ whole_replies_answer catalog.schema tree database stored.is_database written query (means_of catalog.schema written query read)
