-- That the replies to an accepted text whose asks an honest host ended are whole.
use Rattle.std.proofs.Common.{◌≡◌, ℕ, zero, suc, ◌+◌, ◌<◌, Bool, true, false, List, [], ◌∷◌, ◌++◌, length, map, filter, sym, ◌∙◌, ap, subst, refl, arith, append-nil, length-append, Option, Some, None, slice_get}
use Rattle.std.specs.Prelude.{◌==◌, filter_map, flat_map, if◌then◌else◌}
use Rattle.std.specs.List.{cons_option}
use Rattle.std.proofs.lemmas.List.{length-map, nil_from_length}
use Rattle.std.proofs.lemmas.Bool.Decides.{nat_tests}
use Rattle.ghost_model.specs.core.Schema.{Schema}
use Rattle.ghost_model.specs.core.Channel.{Ask}
use Rattle.ghost_model.specs.core.Asks.{NumberedAsk, asked, asked_from, asks_of_reading, RowCells, row_bytes, rows_in}
use Rattle.ghost_model.specs.readings.QueryReading.{reading}
use Rattle.ghost_model.specs.core.NextMove.{EndedAsk}
use Rattle.ghost_model.specs.core.Split.{Public, RowValues, visible_rows, reply_rows}
use Rattle.ghost_model.specs.laws.HostLaws.{Exchange, asked_in, ended_in, rows_of_groups}
use Rattle.ghost_model.specs.core.Replies.{Reply, replied_row, reply_for}
use Rattle.ghost_model.specs.laws.SessionLaws.{whole_reply}
use Rattle.ghost_model.proofs.ChannelLemmas.Rows.{spelled_rows_are_read}
use Rattle.ghost_model.proofs.SessionLemmas.Accepted.{Each}
use Rattle.ghost_model.proofs.SessionLemmas.Replied.{IsOfKinds, all_sendable, all_rows, rows_back}

abbrev ask_of : NumberedAsk → Ask
ask_of one = one.ask

same_number : (n : ℕ) → (n == n) ≡ true
same_number n = grind (arith, nat_tests)

pub filter_joined : {X : Type 0} (p : X → Bool) (xs ys : List X) → filter p (xs ++ ys) ≡ filter p xs ++ filter p ys
filter_joined p [] ys = refl
filter_joined {X} p (x ∷ xs) ys =
    (elim (p x) as (λ v. (if v then x ∷ filter p (xs ++ ys) else filter p (xs ++ ys)) ≡ (if v then x ∷ filter p xs else filter p xs) ++ filter p ys) [
      | true ↦ ap (λ (zs : List X). x ∷ zs) (filter_joined p xs ys)
      | false ↦ filter_joined p xs ys
    ])

module _ (schema : Schema) where
  all_kept : (number text : ℕ) (asks : List Ask) → (number == text) ≡ true → filter (λ (one : NumberedAsk). one.text == text) (map (asked number) asks) ≡ map (asked number) asks
  all_kept number text [] e = refl
  all_kept number text (ask ∷ asks) e =
      ap (λ (b : Bool). if b then asked number ask ∷ filter (λ (one : NumberedAsk). one.text == text) (map (asked number) asks) else filter (λ (one : NumberedAsk). one.text == text) (map (asked number) asks)) e
      ∙ ap (λ (xs : List NumberedAsk). asked number ask ∷ xs) (all_kept number text asks e)

  none_kept : (number text : ℕ) (asks : List Ask) → (number == text) ≡ false → filter (λ (one : NumberedAsk). one.text == text) (map (asked number) asks) ≡ []
  none_kept number text [] e = refl
  none_kept number text (ask ∷ asks) e =
      ap (λ (b : Bool). if b then asked number ask ∷ filter (λ (one : NumberedAsk). one.text == text) (map (asked number) asks) else filter (λ (one : NumberedAsk). one.text == text) (map (asked number) asks)) e
      ∙ none_kept number text asks e

  below : (a b : ℕ) → a < b → (b == a) ≡ false
  below a b h = grind (arith, nat_tests)

  none_later : (number text : ℕ) (texts : List (List ℕ)) → text < number → filter (λ (one : NumberedAsk). one.text == text) (asked_from schema number (map (reading schema) texts)) ≡ []
  none_later number text [] h = refl
  none_later number text (written ∷ texts) h =
      filter_joined (λ (one : NumberedAsk). one.text == text) (map (asked number) (asks_of_reading schema (reading schema written))) (asked_from schema (number + 1) (map (reading schema) texts))
      ∙ (ap (λ (xs : List NumberedAsk). xs ++ filter (λ (one : NumberedAsk). one.text == text) (asked_from schema (number + 1) (map (reading schema) texts))) (none_kept number text (asks_of_reading schema (reading schema written)) (below text number h))
      ∙ none_later (number + 1) text texts (omega (arith, h)))

  -- the asks of one text
  pub of_text : (number place : ℕ) (texts : List (List ℕ)) (written : List ℕ) → slice_get texts place ≡ Some written → filter (λ (one : NumberedAsk). one.text == number + place) (asked_from schema number (map (reading schema) texts)) ≡ map (asked (number + place)) (asks_of_reading schema (reading schema written))
  of_text number place [] written e = absurd (cc)
  of_text number zero (first ∷ texts) written e =
      let same : first ≡ written = cc in
      let plus : number ≡ number + 0 = omega arith in
      let here : (number == number + 0) ≡ true = ap (λ (n : ℕ). number == n) (sym plus) ∙ same_number number in
      filter_joined (λ (one : NumberedAsk). one.text == number + 0) (map (asked number) (asks_of_reading schema (reading schema first))) (asked_from schema (number + 1) (map (reading schema) texts))
      ∙ (ap (λ (xs : List NumberedAsk). filter (λ (one : NumberedAsk). one.text == number + 0) (map (asked number) (asks_of_reading schema (reading schema first))) ++ xs) (none_later (number + 1) (number + 0) texts (omega arith))
      ∙ (append-nil _
      ∙ (all_kept number (number + 0) (asks_of_reading schema (reading schema first)) here
      ∙ (ap (λ (n : ℕ). map (asked n) (asks_of_reading schema (reading schema first))) plus
      ∙ ap (λ (w : List ℕ). map (asked (number + 0)) (asks_of_reading schema (reading schema w))) same))))
  of_text number (suc place) (first ∷ texts) written e =
      let moved : number + 1 + place ≡ number + suc place = omega arith in
      let differs : (number == number + suc place) ≡ false = grind (arith, nat_tests) in
      filter_joined (λ (one : NumberedAsk). one.text == number + suc place) (map (asked number) (asks_of_reading schema (reading schema first))) (asked_from schema (number + 1) (map (reading schema) texts))
      ∙ (ap (λ (xs : List NumberedAsk). xs ++ filter (λ (one : NumberedAsk). one.text == number + suc place) (asked_from schema (number + 1) (map (reading schema) texts))) (none_kept number (number + suc place) (asks_of_reading schema (reading schema first)) differs)
      ∙ subst (λ (n : ℕ). filter (λ (one : NumberedAsk). one.text == n) (asked_from schema (number + 1) (map (reading schema) texts)) ≡ map (asked n) (asks_of_reading schema (reading schema written))) moved
      (of_text (number + 1) place texts written e))

  asks_again : (number : ℕ) (asks : List Ask) → map ask_of (map (asked number) asks) ≡ asks
  asks_again number [] = refl
  asks_again number (ask ∷ asks) = ap (λ (xs : List Ask). ask ∷ xs) (asks_again number asks)

module _ (schema : Schema) (public : Public) (text : ℕ) where
  -- what a reply in this form is read as
  read_rows : (ask : Ask) → Each (IsOfKinds schema ask) (visible_rows schema public ask) → map (replied_row schema ask) (rows_in schema ask (flat_map row_bytes (reply_rows schema public ask))) ≡ visible_rows schema public ask
  read_rows ask kinds =
      ap (λ (rows : List RowCells). map (replied_row schema ask) rows) (spelled_rows_are_read schema ask (reply_rows schema public ask) (all_rows schema ask (reply_rows schema public ask) (all_sendable schema ask (visible_rows schema public ask) kinds)))
      ∙ rows_back schema ask (visible_rows schema public ask) kinds

  abbrev pub IsGiven : Exchange → Type 0
  IsGiven exchange = Each (IsOfKinds schema exchange.asked.ask) (visible_rows schema public exchange.asked.ask) × (rows_of_groups exchange.groups ≡ reply_rows schema public exchange.asked.ask)

  one_reply : (exchange : Exchange) → IsGiven exchange → reply_for schema text (ended_in exchange) ≡ (if exchange.asked.text == text then Some (whole_reply schema public exchange.asked.ask) else None)
  one_reply exchange given =
      ap (λ (rows : List RowValues). if exchange.asked.text == text then Some (record { ask = exchange.asked.ask; rows = rows }) else None)
      (ap (λ (rows : List RowCells). map (replied_row schema exchange.asked.ask) (rows_in schema exchange.asked.ask (flat_map row_bytes rows))) given.1 ∙ read_rows exchange.asked.ask given.0)

  abbrev pub wanted : List Exchange → List NumberedAsk
  wanted exchanges = filter (λ (one : NumberedAsk). one.text == text) (map asked_in exchanges)

  pub all_replies : (exchanges : List Exchange) → Each IsGiven exchanges → filter_map (reply_for schema text) (map ended_in exchanges) ≡ map (whole_reply schema public) (map ask_of (wanted exchanges))
  all_replies [] e = refl
  all_replies (exchange ∷ exchanges) e =
      let later = all_replies exchanges e.1 in
      ap (λ (o : Option Reply). cons_option o (filter_map (reply_for schema text) (map ended_in exchanges))) (one_reply exchange e.0)
      ∙ (elim (exchange.asked.text == text) as (λ v. cons_option (if v then Some (whole_reply schema public exchange.asked.ask) else None) (filter_map (reply_for schema text) (map ended_in exchanges)) ≡ map (whole_reply schema public) (map ask_of (if v then exchange.asked ∷ wanted exchanges else wanted exchanges))) [
        | true ↦ ap (λ (rs : List Reply). whole_reply schema public exchange.asked.ask ∷ rs) later
        | false ↦ later
      ])

  pub count_of : (exchanges : List Exchange) → length (filter (λ (end : EndedAsk). end.asked.text == text) (map ended_in exchanges)) ≡ length (wanted exchanges)
  count_of [] = refl
  count_of (exchange ∷ exchanges) =
      let later = count_of exchanges in
      (elim (exchange.asked.text == text) as (λ v. length (if v then ended_in exchange ∷ filter (λ (end : EndedAsk). end.asked.text == text) (map ended_in exchanges) else filter (λ (end : EndedAsk). end.asked.text == text) (map ended_in exchanges)) ≡ length (if v then exchange.asked ∷ wanted exchanges else wanted exchanges)) [
        | true ↦ ap suc later
        | false ↦ later
      ])

  -- as many as all are all
  pub all_wanted : (exchanges : List Exchange) (others : List NumberedAsk) (number : ℕ) (asks : List Ask) → wanted exchanges ++ others ≡ map (asked number) asks → length (wanted exchanges) ≡ length asks → map ask_of (wanted exchanges) ≡ asks
  all_wanted exchanges others number asks e n =
      let lengths = ap length e in
      let split = length-append (wanted exchanges) others in
      let size = length-map asks (asked number) in
      let none : others ≡ [] = nil_from_length others (omega (arith, lengths, split, size, n)) in
      ap (map ask_of) (sym (ap (λ (xs : List NumberedAsk). wanted exchanges ++ xs) none ∙ append-nil (wanted exchanges)) ∙ e) ∙ asks_again schema number asks
