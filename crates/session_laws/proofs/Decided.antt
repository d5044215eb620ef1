-- Whatever a host sends: which asks of a text were ended by DONE.
use Rattle.std.proofs.Common.{◌≡◌, ℕ, suc, Bool, true, false, not, ◌||◌, ◌&&◌, List, [], ◌∷◌, length, filter, sym, ◌∙◌, ap, refl, arith, Some, slice_get, Ok}
use Rattle.std.specs.Prelude.{◌==◌, if◌then◌else◌}
use Rattle.std.specs.List.{list_any}
use Rattle.std.proofs.lemmas.Bool.{eq-eqb, ne_eqb}
use Rattle.ghost_model.specs.core.Query.{Query}
use Rattle.ghost_model.specs.readings.QueryReading.{reading}
use Rattle.ghost_model.specs.core.Channel.{Catalog, Journal}
use Rattle.ghost_model.specs.core.Asks.{NumberedAsk, asks_of, asked_of}
use Rattle.ghost_model.specs.core.Moves.{taken}
use Rattle.ghost_model.specs.core.NextMove.{EndedAsk, Heard, heard, ended_of}
use Rattle.ghost_model.specs.core.Lines.{is_refused_by, was_refused, all_done}
use Rattle.ghost_model.proofs.ChannelLemmas.Tests.{false_is_not}
use Rattle.session_laws.specs.TextEnds.{not_ended}
use Rattle.session_laws.specs.TextCases.{is_refused_in, IsDecided}
use Rattle.session_laws.proofs.Order.{in_order, parts_of_text, asks_of_text}

-- whether an ask of a text was refused
pub refused_same : (text : ℕ) (ends : List EndedAsk) → was_refused (filter (λ (end : EndedAsk). end.asked.text == text) ends) ≡ list_any (λ (end : EndedAsk). is_refused_by end.ending && end.asked.text == text) ends
refused_same text [] = refl
refused_same text (end ∷ ends) =
    let later = refused_same text ends in
    (elim (end.asked.text == text) as (λ v. was_refused (if v then end ∷ filter (λ (e : EndedAsk). e.asked.text == text) ends else filter (λ (e : EndedAsk). e.asked.text == text) ends)
    ≡ ((is_refused_by end.ending && v) || list_any (λ (e : EndedAsk). is_refused_by e.ending && e.asked.text == text) ends)) [
      | true ↦ ap (λ (b : Bool). is_refused_by end.ending || b) later ∙ ap (λ (b : Bool). b || list_any (λ (e : EndedAsk). is_refused_by e.ending && e.asked.text == text) ends) (and_true (is_refused_by end.ending))
      | false ↦ later ∙ ap (λ (b : Bool). b || list_any (λ (e : EndedAsk). is_refused_by e.ending && e.asked.text == text) ends) (and_false (is_refused_by end.ending))
    ])
  where
    and_true : (b : Bool) → b ≡ (b && true)
    and_true true = refl
    and_true false = refl

    and_false : (b : Bool) → false ≡ (b && false)
    and_false true = refl
    and_false false = refl

none_kept : (text : ℕ) (asks : List NumberedAsk) → list_any (λ (one : NumberedAsk). one.text == text) asks ≡ false → length (filter (λ (one : NumberedAsk). one.text == text) asks) ≡ 0
none_kept text [] e = refl
none_kept text (one ∷ later) e =
    (elim (one.text == text) as (λ v. (v || list_any (λ (x : NumberedAsk). x.text == text) later) ≡ false → length (if v then one ∷ filter (λ (x : NumberedAsk). x.text == text) later else filter (λ (x : NumberedAsk). x.text == text) later) ≡ 0) [
      | true ↦ λ k. absurd (false_is_not (sym k))
      | false ↦ λ k. none_kept text later k
    ]) e

some_kept : (text : ℕ) (asks : List NumberedAsk) → list_any (λ (one : NumberedAsk). one.text == text) asks ≡ true → (n : ℕ) × (length (filter (λ (one : NumberedAsk). one.text == text) asks) ≡ suc n)
some_kept text [] e = absurd (false_is_not e)
some_kept text (one ∷ later) e =
    (elim (one.text == text) as (λ v. (v || list_any (λ (x : NumberedAsk). x.text == text) later) ≡ true → (n : ℕ) × (length (if v then one ∷ filter (λ (x : NumberedAsk). x.text == text) later else filter (λ (x : NumberedAsk). x.text == text) later) ≡ suc n)) [
      | true ↦ λ k. (length (filter (λ (x : NumberedAsk). x.text == text) later), refl)
      | false ↦ λ k. some_kept text later k
    ]) e

module _ (catalog : Catalog) (texts : List (List ℕ)) (journal : Journal) (place : ℕ) (written : List ℕ) (query : Query) (here : slice_get texts place ≡ Some written) (read : reading catalog.schema written ≡ Ok query) where
  abbrev pub now : Heard
  now = heard catalog (asked_of catalog.schema texts) (taken journal)

  abbrev pub mine : List EndedAsk
  mine = ended_of catalog (asked_of catalog.schema texts) journal (suc place)

  abbrev pub rest : List NumberedAsk
  rest = not_ended (asked_of catalog.schema texts) now.awaits

  pub refused_is : was_refused mine ≡ is_refused_in catalog texts journal (suc place)
  refused_is = refused_same (suc place) now.ended

  pub decide : (refused waits : Bool) → was_refused mine ≡ refused → list_any (λ (one : NumberedAsk). one.text == suc place) rest ≡ waits → all_done catalog.schema query mine ≡ (not refused && not waits)
  decide true waits r w = ap (λ (b : Bool). if b then false else length mine == length (asks_of catalog.schema query)) r
  decide false true r w =
      let parts = parts_of_text catalog (asked_of catalog.schema texts) (suc place) rest now.ended (in_order catalog (asked_of catalog.schema texts) (suc place) (taken journal)) r in
      let size = asks_of_text catalog texts place written query here read in
      let some = some_kept (suc place) rest w in
      let more = some.1 in
      ap (λ (b : Bool). if b then false else length mine == length (asks_of catalog.schema query)) r
      ∙ ne_eqb _ _ (λ same. absurd (omega (arith, parts, size, more, same)))
  decide false false r w =
      let parts = parts_of_text catalog (asked_of catalog.schema texts) (suc place) rest now.ended (in_order catalog (asked_of catalog.schema texts) (suc place) (taken journal)) r in
      let size = asks_of_text catalog texts place written query here read in
      let none = none_kept (suc place) rest w in
      ap (λ (b : Bool). if b then false else length mine == length (asks_of catalog.schema query)) r
      ∙ eq-eqb _ _ (omega (arith, parts, size, none))

  pub decided : IsDecided catalog texts journal (suc place) query
  decided = record {
    refused = refused_is;
    done = decide (is_refused_in catalog texts journal (suc place)) (list_any (λ (one : NumberedAsk). one.text == suc place) rest) refused_is refl;
  }
