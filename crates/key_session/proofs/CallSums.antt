-- What all texts take: their work, and two calls for each page of the replies to their asks.
use Rattle.std.proofs.Common.{◌≡◌, ℕ, zero, suc, ◌+◌, ◌*◌, List, [], ◌∷◌, map, take, ap, refl, arith, Some, Ok, slice_get}
use Rattle.std.specs.Prelude.{sum_by, Result, Err}
use Rattle.std.proofs.lemmas.List.Sums.{sum_by-append, sum_by-cons}
use Rattle.ghost_model.specs.core.Values.{Database}
use Rattle.ghost_model.specs.core.Query.{Query}
use Rattle.ghost_model.specs.refusals.QueryMeaning.{Refusal}
use Rattle.ghost_model.specs.readings.QueryReading.{reading}
use Rattle.ghost_model.specs.core.Channel.{Catalog, Ask}
use Rattle.ghost_model.specs.core.Asks.{NumberedAsk, asked, asked_from, asks_of_reading}
use Rattle.session_laws.specs.HonestSessions.{whole_reply_to}
use Rattle.key_exec.specs.Within.{text_work}
use Rattle.key_session.specs.Calls.{pages_of_reply, reply_pages, text_calls, session_calls}

-- one text more
pub taken_more : (f : List ℕ → ℕ) (texts : List (List ℕ)) (place : ℕ) (written : List ℕ) → slice_get texts place ≡ Some written → sum_by f (take (suc place) texts) ≡ sum_by f (take place texts) + f written
taken_more f [] place written e = let bad : ⊥ = cc in absurd bad
taken_more f (first ∷ texts) zero written e =
    let same : first ≡ written = cc in
    let one = sum_by-cons f first [] in
    let is = ap f same in
    omega (arith, one, is)
taken_more f (first ∷ texts) (suc place) written e =
    let later = taken_more f texts place written e in
    let one = sum_by-cons f first (take (suc place) texts) in
    let two = sum_by-cons f first (take place texts) in
    omega (arith, later, one, two)

module _ (catalog : Catalog) (database : Database) where
  abbrev pages : NumberedAsk → ℕ
  pages one = reply_pages catalog.schema database one.ask

  -- whole replies
  pub whole_pages : (asks : List NumberedAsk) → sum_by (pages_of_reply catalog.schema) (map (whole_reply_to catalog database) asks) ≡ sum_by pages asks
  whole_pages [] = refl
  whole_pages (one ∷ asks) =
      let later = whole_pages asks in
      let here = sum_by-cons (pages_of_reply catalog.schema) (whole_reply_to catalog database one) (map (whole_reply_to catalog database) asks) in
      let there = sum_by-cons pages one asks in
      omega (arith, later, here, there)

  of_text : (number : ℕ) (asks : List Ask) → sum_by pages (map (asked number) asks) ≡ sum_by (reply_pages catalog.schema database) asks
  of_text number [] = refl
  of_text number (ask ∷ asks) =
      let later = of_text number asks in
      let here = sum_by-cons pages (asked number ask) (map (asked number) asks) in
      let there = sum_by-cons (reply_pages catalog.schema database) ask asks in
      omega (arith, later, here, there)

  by_reading : (written : List ℕ) (read : Result Query Refusal) → reading catalog.schema written ≡ read
      → text_work catalog.schema database written + 2 * sum_by (reply_pages catalog.schema database) (asks_of_reading catalog.schema (reading catalog.schema written)) ≡ text_calls catalog.schema database written
  by_reading written (Ok query) e = rw e refl
  by_reading written (Err refusal) e = rw e refl

  pub all_calls : (number : ℕ) (texts : List (List ℕ))
      → sum_by (text_work catalog.schema database) texts + 2 * sum_by pages (asked_from catalog.schema number (map (reading catalog.schema) texts)) ≡ session_calls catalog.schema database texts
  all_calls number [] = refl
  all_calls number (written ∷ texts) =
      let later = all_calls (number + 1) texts in
      let one = by_reading written (reading catalog.schema written) refl in
      let works = sum_by-cons (text_work catalog.schema database) written texts in
      let calls = sum_by-cons (text_calls catalog.schema database) written texts in
      let split = sum_by-append pages (map (asked number) (asks_of_reading catalog.schema (reading catalog.schema written))) (asked_from catalog.schema (number + 1) (map (reading catalog.schema) texts)) in
      let own = of_text number (asks_of_reading catalog.schema (reading catalog.schema written)) in
      omega (arith, later, one, works, calls, split, own)
