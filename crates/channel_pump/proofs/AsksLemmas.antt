-- The asks of a script, as the pump sees them.
use Rattle.std.proofs.Common.{◌≡◌, ◌≤◌, ◌==◌, ◌&&◌, ◌||◌, nat_lt, nat_le, ℕ, zero, suc, Bool, true, false, cond, arith, Option, Some, None, IfSome, IfNone, option_map, List, [], ◌∷◌, length, take, drop, take_while, length-take, IsTrue, refl, ap, sym, ◌∙◌}
use Rattle.std.specs.List.{list_all, list_any}
use Rattle.std.specs.Cmp.{first_so, second_so}
use Rattle.std.proofs.lemmas.Bool.Decides.{nat_tests}
use Rattle.std.proofs.lemmas.List.Sums.{take_while-cons}
use Rattle.ghost_model.specs.core.Schema.{Schema, Kind}
use Rattle.ghost_model.specs.core.Channel.{Catalog}
use Rattle.ghost_model.specs.core.Asks.{NumberedAsk, ask_payload, kinds_of, is_proper_ask}
use Rattle.ghost_model.specs.core.NextMove.{of_later_texts}
use Rattle.script_asks.specs.Left.{are_numbered, are_proper}
use Rattle.channel_pump.specs.Asked.{AreAsked}
use Rattle.channel_pump.specs.Forms.{Form}
use Rattle.channel_pump.specs.Narrow.{is_narrow}
use Rattle.channel_pump.specs.Scripts.{IsHeld, form_asked, forms_asked, payload_held, kinds_held}
use Rattle.channel_pump.specs.Turning.{forms_after}

few_texts : (n : ℕ) → (nat_lt 0 n && nat_le n 64) ≡ true → n ≤ 64
few_texts n h = grind (arith, nat_tests)

pub are_asked : (catalog : Catalog) (asks : List NumberedAsk) → are_numbered asks ≡ true → AreAsked catalog (forms_asked catalog asks) asks
are_asked catalog [] h = tt
are_asked catalog (asked ∷ asks) h = (
  record {
    text = refl;
    payload = refl;
    kinds = refl;
    rows = refl;
    in_script = few_texts asked.text (first_so (nat_lt 0 asked.text && nat_le asked.text 64) (are_numbered asks) h);
    ask = refl;
  },
  are_asked catalog asks (second_so (nat_lt 0 asked.text && nat_le asked.text 64) (are_numbered asks) h),
)

all_drop : {X : Type 0} (p : X → Bool) (n : ℕ) (xs : List X) → list_all p xs ≡ true → list_all p (drop n xs) ≡ true
all_drop p zero xs h = h
all_drop p (suc n) [] h = h
all_drop p (suc n) (x ∷ xs) h = all_drop p n xs (second_so (p x) (list_all p xs) h)

pub still_proper : (schema : Schema) (n : ℕ) (asks : List NumberedAsk) → are_proper schema asks ≡ true → are_proper schema (drop n asks) ≡ true
still_proper schema n asks h = all_drop (λ (asked : NumberedAsk). is_proper_ask schema asked.ask) n asks h

later_by : (schema : Schema) (asked : NumberedAsk) (asks later : List NumberedAsk) (b : Bool) → are_proper schema later ≡ true → are_proper schema (asked ∷ asks) ≡ true
    → are_proper schema (cond b later (asked ∷ asks)) ≡ true
later_by schema asked asks later true rest h = rest
later_by schema asked asks later false rest h = h

pub later_proper : (schema : Schema) (text : ℕ) (asks : List NumberedAsk) → are_proper schema asks ≡ true → are_proper schema (of_later_texts text asks) ≡ true
later_proper schema text [] h = h
later_proper schema text (asked ∷ asks) h =
    later_by schema asked asks (of_later_texts text asks) (asked.text == text)
    (later_proper schema text asks (second_so (is_proper_ask schema asked.ask) (are_proper schema asks) h)) h

abbrev is_of : (text : ℕ) → Form → Bool
is_of text form = form.text == text

after_first : (text : ℕ) (form : Form) (forms : List Form) (b : Bool) → (form.text == text) ≡ b
    → forms_after text (form ∷ forms) ≡ drop (length (cond b (form ∷ take_while (is_of text) forms) [])) (form ∷ forms)
after_first text form forms b e =
    ap (λ (xs : List Form). drop (length xs) (form ∷ forms)) (take_while-cons (is_of text) form forms)
    ∙ ap (λ (k : Bool). drop (length (cond k (form ∷ take_while (is_of text) forms) [])) (form ∷ forms)) e

after_by : (catalog : Catalog) (text : ℕ) (asked : NumberedAsk) (asks later : List NumberedAsk) (b : Bool) → (asked.text == text) ≡ b
    → forms_asked catalog later ≡ forms_after text (forms_asked catalog asks)
    → forms_asked catalog (cond (asked.text == text) later (asked ∷ asks)) ≡ forms_after text (forms_asked catalog (asked ∷ asks))
after_by catalog text asked asks later true e rest =
    ap (λ (k : Bool). forms_asked catalog (cond k later (asked ∷ asks))) e
    ∙ (rest ∙ sym (after_first text (form_asked catalog asked) (forms_asked catalog asks) true e))
after_by catalog text asked asks later false e rest =
    ap (λ (k : Bool). forms_asked catalog (cond k later (asked ∷ asks))) e
    ∙ sym (after_first text (form_asked catalog asked) (forms_asked catalog asks) false e)

pub after_asked : (catalog : Catalog) (text : ℕ) (asks : List NumberedAsk) → forms_asked catalog (of_later_texts text asks) ≡ forms_after text (forms_asked catalog asks)
after_asked catalog text [] = refl
after_asked catalog text (asked ∷ asks) = after_by catalog text asked asks (of_later_texts text asks) _ refl (after_asked catalog text asks)

pub any_asked_text : (catalog : Catalog) (text : ℕ) (asks : List NumberedAsk)
    → list_any (λ (asked : NumberedAsk). asked.text == text) asks ≡ list_any (λ (form : Form). form.text == text) (forms_asked catalog asks)
any_asked_text catalog text [] = refl
any_asked_text catalog text (asked ∷ asks) = ap (λ (b : Bool). (asked.text == text) || b) (any_asked_text catalog text asks)

pub first_kinds_are : (schema : Schema) (asks later : List NumberedAsk) (asked : NumberedAsk) (kinds : List Kind) → asks ≡ asked ∷ later → kinds ≡ kinds_of schema asked.ask → kinds ≡ kinds_held schema asks
first_kinds_are schema asks later asked kinds e k = k ∙ sym (ap (kinds_held schema) e)

pub first_payload_is : (schema : Schema) (asks later : List NumberedAsk) (asked : NumberedAsk) (payload : List ℕ) → asks ≡ asked ∷ later → payload ≡ ask_payload schema asked.ask → payload ≡ payload_held schema asks
first_payload_is schema asks later asked payload e k = k ∙ sym (ap (payload_held schema) e)

pub if_some_map : {X Y : Type 0} (f : X → Y) (P : Y → Type 0) (x : Option X) → IfSome x (λ a. P (f a)) → IfSome (option_map f x) P
if_some_map f P None h = tt
if_some_map f P (Some x) h = h

pub if_none_map : {X Y : Type 0} (f : X → Y) (P : Type 0) (x : Option X) → IfNone x P → IfNone (option_map f x) P
if_none_map f P None h = h
if_none_map f P (Some x) h = tt

-- what is held of asks whose first one was looked at
pub held_of : (catalog : Catalog) (one other : Schema) (asks : List NumberedAsk) (out : List ℕ) (n : ℕ) (kinds : List Kind) → one ≡ catalog.schema → other ≡ catalog.schema → n ≤ 2040
    → take n out ≡ payload_held one asks → kinds ≡ kinds_held other asks → IsTrue (list_all is_narrow kinds) → are_proper catalog.schema asks ≡ true
    → (n ≤ 2040) × IsHeld catalog asks (take n out) kinds
held_of catalog one other asks out n kinds e f most payload its narrow proper = (
  most,
  record {
    proper = proper;
    its_payload = payload ∙ ap (λ (schema : Schema). payload_held schema asks) e;
    short = let short = length-take n out in omega (arith, short, most);
    its_kinds = its ∙ ap (λ (schema : Schema). kinds_held schema asks) f;
    narrow = narrow;
  },
)
