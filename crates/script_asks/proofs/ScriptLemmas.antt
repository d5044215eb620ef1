-- The asks of a script, text after text.
use Rattle.std.proofs.Common.{◌≡◌, ◌+◌, ◌*◌, ◌<◌, ◌≤◌, ◌==◌, ◌&&◌, ◌||◌, nat_lt, nat_le, ℕ, suc, Bool, true, false, cond, arith, Option, Some, None, is_some, drop, List, [], ◌∷◌, ◌++◌, length, map, filter, Result, Ok, Err, refl, ap, ap₂, sym, ◌∙◌, length-append}
use Rattle.std.specs.List.{list_all, list_any}
use Rattle.std.specs.Cmp.{first_so}
use Rattle.std.proofs.lemmas.List.{length-map}
use Rattle.std.proofs.lemmas.List.Folds.{list_all-append, list_all-map}
use Rattle.ghost_model.specs.core.Schema.{Schema, places_from, places_of}
use Rattle.ghost_model.specs.core.Query.{Query}
use Rattle.ghost_model.specs.core.Channel.{Ask}
use Rattle.ghost_model.specs.core.Asks.{NumberedAsk, asked, asked_from, ask_for, asks_of, asks_of_reading, is_needed, is_proper_ask}
use Rattle.ghost_model.specs.laws.ShortWords.{is_from}
use Rattle.ghost_model.specs.laws.ChannelLaws.{AsksAreProper}
use Rattle.ghost_model.specs.readings.QueryReading.{reading}
use Rattle.ghost_model.specs.core.NextMove.{of_later_texts}
use Rattle.std.proofs.lemmas.Bool.Decides.{nat_tests}
use Rattle.spj_parse.specs.Laws.{JoinsCountOnce}
use Rattle.spj_parse.specs.Resolved.{IsMeant}
use Rattle.channel_codec.specs.AskViews.{ask_view}
use Rattle.script_asks.specs.declared.scripts.Hand.{Hand}
use Rattle.script_asks.specs.Left.{are_numbered, are_proper, asks_after, hand_asks, asked_left}

pub read_asks : (schema : Schema) (text : List ℕ) (query : Query) → JoinsCountOnce → IsMeant schema text query
    → asks_after schema query 0 ≡ asks_of_reading schema (reading schema text)
read_asks schema text query once h =
    ap (asks_of schema) h.once ∙ (once.asks schema h.meant ∙ sym (ap (asks_of_reading schema) h.reads))

-- the first of some texts, with what it asks
pub next_text : (schema : Schema) (number : ℕ) (texts later : List (List ℕ)) (text : List ℕ) (found : List Ask) → texts ≡ text ∷ later → found ≡ asks_of_reading schema (reading schema text)
    → map (asked number) found ++ asked_from schema (number + 1) (map (reading schema) later) ≡ asked_from schema number (map (reading schema) texts)
next_text schema number texts later text found e f =
    ap (λ (asks : List Ask). map (asked number) asks ++ asked_from schema (number + 1) (map (reading schema) later)) f
    ∙ sym (ap (λ (ts : List (List ℕ)). asked_from schema number (map (reading schema) ts)) e)

is_same : (n : ℕ) → (n == n) ≡ true
is_same n = grind (arith, nat_tests)

is_above : (k n : ℕ) → k < n → (n == k) ≡ false
is_above k n h = grind (arith, nat_tests)

-- the asks of a text are given up
pub dropped_all : (n : ℕ) (found : List Ask) (later : List NumberedAsk) → of_later_texts n (map (asked n) found ++ later) ≡ of_later_texts n later
dropped_all n [] later = refl
dropped_all n (ask ∷ found) later =
    ap (λ (k : Bool). cond k (of_later_texts n (map (asked n) found ++ later)) (asked n ask ∷ (map (asked n) found ++ later))) (is_same n)
    ∙ dropped_all n found later

-- those of later texts are not
pub kept_all : {Refusal : Type 0} (schema : Schema) (k n : ℕ) (readings : List (Result Query Refusal)) → k < n
    → of_later_texts k (asked_from schema n readings) ≡ asked_from schema n readings
kept_all schema k n [] h = refl
kept_all schema k n (reading ∷ later) h = by_asks (asks_of_reading schema reading) (kept_all schema k (n + 1) later (omega (arith, h)))
  where
    by_asks : (found : List Ask) → of_later_texts k (asked_from schema (n + 1) later) ≡ asked_from schema (n + 1) later
        → of_later_texts k (map (asked n) found ++ asked_from schema (n + 1) later) ≡ map (asked n) found ++ asked_from schema (n + 1) later
    by_asks [] rest = rest
    by_asks (ask ∷ found) rest =
        ap (λ (b : Bool). cond b (of_later_texts k (map (asked n) found ++ asked_from schema (n + 1) later)) (asked n ask ∷ (map (asked n) found ++ asked_from schema (n + 1) later))) (is_above k n h)

pub given_up : (schema : Schema) (number text : ℕ) (hand : Option Hand) (texts : List (List ℕ)) → is_some hand ≡ true → number ≡ text
    → of_later_texts text (asked_left schema number hand texts) ≡ asked_from schema (number + 1) (map (reading schema) texts)
given_up schema number text None texts some e = cc
given_up schema number text (Some hand) texts some e =
    ap (λ (n : ℕ). of_later_texts n (asked_left schema number (Some hand) texts)) (sym e)
    ∙ (dropped_all number (hand_asks schema (Some hand)) (asked_from schema (number + 1) (map (reading schema) texts))
    ∙ kept_all schema number (number + 1) (map (reading schema) texts) (omega arith))

-- where the text at hand has no further ask, those of the texts behind it are left
pub last_of_text : (schema : Schema) (number : ℕ) (hand : Hand) (texts : List (List ℕ)) → asks_after schema hand.query (hand.ask.table + 1) ≡ []
    → drop 1 (asked_left schema number (Some hand) texts) ≡ asked_from schema (number + 1) (map (reading schema) texts)
last_of_text schema number hand texts none =
    ap (λ (found : List Ask). map (asked number) found ++ asked_from schema (number + 1) (map (reading schema) texts)) none

-- where it has one, that is the next
pub next_of_text : (schema : Schema) (number : ℕ) (hand later : Hand) (texts : List (List ℕ)) → later.query ≡ hand.query
    → asks_after schema hand.query (hand.ask.table + 1) ≡ ask_view later.ask ∷ asks_after schema hand.query (later.ask.table + 1)
    → asked_left schema number (Some later) texts ≡ drop 1 (asked_left schema number (Some hand) texts)
next_of_text schema number hand later texts same h =
    ap (λ (found : List Ask). map (asked number) found ++ asked_from schema (number + 1) (map (reading schema) texts))
    (ap (λ (q : Query). ask_view later.ask ∷ asks_after schema q (later.ask.table + 1)) same ∙ sym h)

-- whether a text is asked anything

any_other : (n k : ℕ) (found : List Ask) (later : List NumberedAsk) → (n == k) ≡ false
    → list_any (λ (a : NumberedAsk). a.text == k) (map (asked n) found ++ later) ≡ list_any (λ (a : NumberedAsk). a.text == k) later
any_other n k [] later e = refl
any_other n k (ask ∷ found) later e =
    ap (λ (b : Bool). b || list_any (λ (a : NumberedAsk). a.text == k) (map (asked n) found ++ later)) e ∙ any_other n k found later e

any_past : {Refusal : Type 0} (schema : Schema) (k n : ℕ) (readings : List (Result Query Refusal)) → k < n
    → list_any (λ (a : NumberedAsk). a.text == k) (asked_from schema n readings) ≡ false
any_past schema k n [] h = refl
any_past schema k n (reading ∷ later) h =
    any_other n k (asks_of_reading schema reading) (asked_from schema (n + 1) later) (is_above k n h) ∙ any_past schema k (n + 1) later (omega (arith, h))

is_other : (n k : ℕ) → (n ≡ k → ⊥) → (n == k) ≡ false
is_other n k h = grind (arith, nat_tests)

pub another_text : (schema : Schema) (n k : ℕ) (texts later : List (List ℕ)) (text : List ℕ) → texts ≡ text ∷ later → (n ≡ k → ⊥)
    → list_any (λ (a : NumberedAsk). a.text == k) (asked_from schema (n + 1) (map (reading schema) later))
    ≡ list_any (λ (a : NumberedAsk). a.text == k) (asked_from schema n (map (reading schema) texts))
another_text schema n k texts later text e h =
    sym (ap (λ (ts : List (List ℕ)). list_any (λ (a : NumberedAsk). a.text == k) (asked_from schema n (map (reading schema) ts))) e
    ∙ any_other n k (asks_of_reading schema (reading schema text)) (asked_from schema (n + 1) (map (reading schema) later)) (is_other n k h))

any_of_hand : (schema : Schema) (n : ℕ) (found : Option Hand) (later : List (List ℕ))
    → is_some found ≡ list_any (λ (a : NumberedAsk). a.text == n) (map (asked n) (hand_asks schema found) ++ asked_from schema (n + 1) (map (reading schema) later))
any_of_hand schema n None later = sym (any_past schema n (n + 1) (map (reading schema) later) (omega arith))
any_of_hand schema n (Some hand) later =
    sym (ap (λ (b : Bool). b || list_any (λ (a : NumberedAsk). a.text == n) (map (asked n) (asks_after schema hand.query (hand.ask.table + 1)) ++ asked_from schema (n + 1) (map (reading schema) later)))
    (is_same n))

pub this_text : (schema : Schema) (n k : ℕ) (texts later : List (List ℕ)) (text : List ℕ) (found : Option Hand) → texts ≡ text ∷ later → n ≡ k
    → hand_asks schema found ≡ asks_of_reading schema (reading schema text)
    → is_some found ≡ list_any (λ (a : NumberedAsk). a.text == k) (asked_from schema n (map (reading schema) texts))
this_text schema n k texts later text found e same h =
    any_of_hand schema n found later
    ∙ (ap (λ (asks : List Ask). list_any (λ (a : NumberedAsk). a.text == n) (map (asked n) asks ++ asked_from schema (n + 1) (map (reading schema) later))) h
    ∙ (ap (λ (ts : List (List ℕ)). list_any (λ (a : NumberedAsk). a.text == n) (asked_from schema n (map (reading schema) ts))) (sym e)
    ∙ ap (λ (m : ℕ). list_any (λ (a : NumberedAsk). a.text == m) (asked_from schema n (map (reading schema) texts))) same))

pub text_at_hand : (schema : Schema) (n k : ℕ) (hand : Hand) (texts : List (List ℕ)) → n ≡ k
    → true ≡ list_any (λ (a : NumberedAsk). a.text == k) (asked_left schema n (Some hand) texts)
text_at_hand schema n k hand texts same =
    any_of_hand schema n (Some hand) texts ∙ ap (λ (m : ℕ). list_any (λ (a : NumberedAsk). a.text == m) (asked_left schema n (Some hand) texts)) same

pub text_behind : (schema : Schema) (n k : ℕ) (hand : Hand) (texts : List (List ℕ)) → (n ≡ k → ⊥)
    → list_any (λ (a : NumberedAsk). a.text == k) (asked_from schema (n + 1) (map (reading schema) texts))
    ≡ list_any (λ (a : NumberedAsk). a.text == k) (asked_left schema n (Some hand) texts)
text_behind schema n k hand texts h =
    sym (any_other n k (hand_asks schema (Some hand)) (asked_from schema (n + 1) (map (reading schema) texts)) (is_other n k h))

-- the asks of a script are such as a key may send
proper_reading : (schema : Schema) (text : List ℕ) → AsksAreProper → list_all (is_proper_ask schema) (asks_of_reading schema (reading schema text)) ≡ true
proper_reading schema text proper = by_reading (reading schema text) refl
  where
    by_reading : (r : _) → reading schema text ≡ r → list_all (is_proper_ask schema) (asks_of_reading schema r) ≡ true
    by_reading (Ok query) e = proper schema text query e
    by_reading (Err refusal) e = refl

pub proper_from : (schema : Schema) (n : ℕ) (texts : List (List ℕ)) → AsksAreProper → are_proper schema (asked_from schema n (map (reading schema) texts)) ≡ true
proper_from schema n [] proper = refl
proper_from schema n (text ∷ texts) proper =
    list_all-append (λ (a : NumberedAsk). is_proper_ask schema a.ask) (map (asked n) (asks_of_reading schema (reading schema text))) (asked_from schema (n + 1) (map (reading schema) texts))
    ∙ ap₂ (λ (b c : Bool). b && c)
    (list_all-map (λ (a : NumberedAsk). is_proper_ask schema a.ask) (asked n) (asks_of_reading schema (reading schema text)) ∙ proper_reading schema text proper)
    (proper_from schema (n + 1) texts proper)

pub first_is_proper : (schema : Schema) (ask : Ask) (n : ℕ) (later : List NumberedAsk) → are_proper schema (asked n ask ∷ later) ≡ true → is_proper_ask schema ask ≡ true
first_is_proper schema ask n later h = first_so (is_proper_ask schema ask) (are_proper schema later) h

-- their texts have numbers from 1 to 64

all_numbered : (n : ℕ) (found : List Ask) → (nat_lt 0 n && nat_le n 64) ≡ true → are_numbered (map (asked n) found) ≡ true
all_numbered n [] e = refl
all_numbered n (ask ∷ found) e = ap₂ (λ (b c : Bool). b && c) e (all_numbered n found e)

is_number : (n : ℕ) → 0 < n → n ≤ 64 → (nat_lt 0 n && nat_le n 64) ≡ true
is_number n some few = grind (arith, nat_tests)

pub numbered_from : (schema : Schema) (n : ℕ) (texts : List (List ℕ)) → 0 < n → n + length texts ≤ 65
    → are_numbered (asked_from schema n (map (reading schema) texts)) ≡ true
numbered_from schema n [] some few = refl
numbered_from schema n (text ∷ texts) some few =
    list_all-append (λ (a : NumberedAsk). nat_lt 0 a.text && nat_le a.text 64) (map (asked n) (asks_of_reading schema (reading schema text))) (asked_from schema (n + 1) (map (reading schema) texts))
    ∙ ap₂ (λ (b c : Bool). b && c)
    (all_numbered n (asks_of_reading schema (reading schema text)) (is_number n some (omega (arith, few))))
    (numbered_from schema (n + 1) texts (omega (arith, some)) (omega (arith, few)))
