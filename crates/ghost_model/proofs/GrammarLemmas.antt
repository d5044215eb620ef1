-- What the laws of each grammar share: lists of items with a symbol between them, and that a text begins so.
use Rattle.std.proofs.Common.{◌≡◌, ℕ, zero, suc, ◌+◌, ◌<◌, ◌≤◌, true, List, [], ◌∷◌, ◌++◌, length, take, drop, take-append-drop, take-take, inl, inr, refl, sym, ◌∙◌, ap, subst, append_assoc, append-nil, length-append, arith}
use Rattle.std.specs.Prelude.{flat_map, Option, Some, None, option_and_then}
use Rattle.std.specs.List.{list_all}
use Rattle.std.proofs.lemmas.Bool.{and_parts, and_from, cases_order}
use Rattle.std.proofs.lemmas.Grind.{flat_map-append}
use Rattle.std.proofs.lemmas.List.{take-append-le}
use Rattle.std.proofs.Math.Seq.{take-append_seam, take-append-add}
use Rattle.std.proofs.lemmas.List.Folds.{list_all-append}
use Rattle.ghost_model.specs.refusals.Tokens.{Symbol, EndOfText, symbols}
use Rattle.ghost_model.specs.laws.Spelled.{is_spelled, text_of}
use Rattle.ghost_model.specs.refusals.Grammar.{IsViable, IsFault, Spells, separated}
use Rattle.ghost_model.specs.readings.Begun.{begun}
use Rattle.ghost_model.proofs.TokenLemmas.{spelled_text, before_end}

-- the items of a list before its last, and its last
abbrev pub front : {X : Type 0} → X → List X → List X
front x [] = []
front x (y ∷ ys) = x ∷ front y ys

abbrev pub final : {X : Type 0} → X → List X → X
final x [] = x
final x (y ∷ ys) = final y ys

pub front_final : {X : Type 0} (x : X) (xs : List X) → front x xs ++ final x xs ∷ [] ≡ x ∷ xs
front_final x [] = refl
front_final {X} x (y ∷ ys) = ap (λ (zs : List X). x ∷ zs) (front_final y ys)

-- the first item of a list that ends with an item, and the others
abbrev pub first_or : {X : Type 0} → List X → X → X
first_or [] x = x
first_or (y ∷ ys) x = y

abbrev pub others : {X : Type 0} → List X → X → List X
others [] x = []
others (y ∷ ys) x = ys ++ x ∷ []

-- an item and its separator go before the items that follow
pub begun_before : {X : Type 0} (by : Symbol) (spell : X → List Symbol) (x : X) (xs : List X) → (rest : List Symbol)
    → begun by spell (x ∷ xs) ++ rest ≡ spell x ++ by ∷ (begun by spell xs ++ rest)
begun_before by spell x xs rest = append_assoc (spell x ++ by ∷ []) (begun by spell xs) rest ∙ append_assoc (spell x) (by ∷ []) (begun by spell xs ++ rest)

-- separated items: each but the last has a separator after it
pub separated_ends : {X : Type 0} (by : Symbol) (spell : X → List Symbol) (x : X) (xs : List X)
    → separated by spell x xs ≡ begun by spell (front x xs) ++ spell (final x xs)
separated_ends by spell x [] = append-nil (spell x)
separated_ends by spell x (y ∷ ys) =
    ap (λ (zs : List Symbol). spell x ++ by ∷ zs) (separated_ends by spell y ys) ∙ sym (begun_before by spell x (front y ys) (spell (final y ys)))

-- and back
pub separated_made : {X : Type 0} (by : Symbol) (spell : X → List Symbol) (xs : List X) (x : X)
    → begun by spell xs ++ spell x ≡ separated by spell (first_or xs x) (others xs x)
separated_made by spell [] x = sym (append-nil (spell x))
separated_made by spell (y ∷ []) x =
    begun_before by spell y [] (spell x) ∙ ap (λ (zs : List Symbol). spell y ++ by ∷ zs) (sym (append-nil (spell x)))
separated_made by spell (y ∷ (z ∷ zs)) x =
    begun_before by spell y (z ∷ zs) (spell x) ∙ ap (λ (rest : List Symbol). spell y ++ by ∷ rest) (separated_made by spell (z ∷ zs) x)

-- one more item with its separator
pub more_begun : {X : Type 0} (by : Symbol) (spell : X → List Symbol) (xs : List X) (x : X)
    → begun by spell xs ++ (spell x ++ by ∷ []) ≡ begun by spell (xs ++ x ∷ [])
more_begun by spell xs x =
    sym (flat_map-append (λ y. spell y ++ by ∷ []) xs (x ∷ []) ∙ ap (λ (zs : List Symbol). begun by spell xs ++ zs) (append-nil (spell x ++ by ∷ [])))

-- one more item at the end of separated ones
pub separated_more : {X : Type 0} (by : Symbol) (spell : X → List Symbol) (x : X) (xs : List X) (y : X)
    → separated by spell x xs ++ by ∷ spell y ≡ separated by spell x (xs ++ y ∷ [])
separated_more by spell x xs y =
    append_assoc (spell x) (flat_map (λ other. by ∷ spell other) xs) (by ∷ spell y)
    ∙ ap (λ (zs : List Symbol). spell x ++ zs)
    (sym (flat_map-append (λ other. by ∷ spell other) xs (y ∷ []) ∙ ap (λ (zs : List Symbol). flat_map (λ other. by ∷ spell other) xs ++ by ∷ zs) (append-nil (spell y))))

-- symbols that bytes can spell
pub spelled_both : (xs ys : List Symbol) → list_all is_spelled xs ≡ true → list_all is_spelled ys ≡ true → list_all is_spelled (xs ++ ys) ≡ true
spelled_both xs ys p q = list_all-append is_spelled xs ys ∙ and_from _ _ p q

pub spelled_parts : (xs ys : List Symbol) → list_all is_spelled (xs ++ ys) ≡ true → (list_all is_spelled xs ≡ true) × (list_all is_spelled ys ≡ true)
spelled_parts xs ys e = and_parts _ _ (sym (list_all-append is_spelled xs ys) ∙ e)

pub spelled_begun : {X : Type 0} (by : Symbol) (spell : X → List Symbol) (xs : List X) → is_spelled by ≡ true
    → ((x : X) → list_all is_spelled (spell x) ≡ true) → list_all is_spelled (begun by spell xs) ≡ true
spelled_begun by spell [] b e = refl
spelled_begun by spell (x ∷ xs) b e =
    spelled_both (spell x ++ by ∷ []) (begun by spell xs) (spelled_both (spell x) (by ∷ []) (e x) (and_from _ _ b refl)) (spelled_begun by spell xs b e)

-- the end of a text stands nowhere but at its end
pub no_end_inside : (xs ys : List Symbol) → list_all is_spelled (xs ++ EndOfText ∷ ys) ≡ true → ⊥
no_end_inside xs ys e = let parts = spelled_parts xs (EndOfText ∷ ys) e in let h = parts.1 in cc

spelled_take : (xs : List Symbol) (k : ℕ) → list_all is_spelled xs ≡ true → list_all is_spelled (take k xs) ≡ true
spelled_take xs zero e = refl
spelled_take [] (suc k) e = refl
spelled_take (x ∷ xs) (suc k) e =
    let both = and_parts (is_spelled x) (list_all is_spelled xs) e in
    and_from _ _ both.0 (spelled_take xs k both.1)

-- what stands before a token of a text is spelled
pub spelled_before : (text : List ℕ) (place : ℕ) → place < length (symbols text) → list_all is_spelled (take place (symbols text)) ≡ true
spelled_before text place within =
    let found = before_end text in
    let size : length (symbols text) ≡ length found.0 + 1 = ap length found.1.whole ∙ length-append found.0 (EndOfText ∷ []) in
    let inside : place ≤ length found.0 = omega arith in
    ap (λ (xs : List Symbol). list_all is_spelled (take place xs)) found.1.whole
    ∙ (ap (list_all is_spelled) (take-append-le place found.0 (EndOfText ∷ []) inside) ∙ spelled_take found.0 place found.1.spelled)

pub spelled_front : (text : List ℕ) (read : List Symbol) (next : Symbol) (later : List Symbol) → symbols text ≡ read ++ next ∷ later → list_all is_spelled read ≡ true
spelled_front text read next later whole =
    let size : length (symbols text) ≡ length read + suc (length later) = ap length whole ∙ length-append read (next ∷ later) in
    let within : length read < length (symbols text) = omega arith in
    let same : take (length read) (symbols text) ≡ read = ap (take (length read)) whole ∙ take-append_seam read (next ∷ later) in
    ap (list_all is_spelled) (sym same) ∙ spelled_before text (length read) within

-- a text of the grammar begins with these symbols, where it goes on with spelled ones to the end
pub viable_of : {Tree : Type 0} (spelling : Tree → List Symbol) (tree : Tree) (read rest : List Symbol)
    → list_all is_spelled (read ++ rest) ≡ true → (read ++ rest) ++ EndOfText ∷ [] ≡ spelling tree → IsViable spelling read
viable_of spelling tree read rest spelled whole = record {
  text = text_of (read ++ rest);
  tree = tree;
  spells = spelled_text (read ++ rest) spelled ∙ whole;
  rest = rest ++ EndOfText ∷ [];
  begins = sym (spelled_text (read ++ rest) spelled ∙ append_assoc read rest (EndOfText ∷ []));
}

-- the same for the first symbols of a text
pub viable_front : {Tree : Type 0} (spelling : Tree → List Symbol) (tree : Tree) (text : List ℕ) (read : List Symbol) (next : Symbol) (later rest : List Symbol)
    → symbols text ≡ read ++ next ∷ later → list_all is_spelled rest ≡ true → (read ++ rest) ++ EndOfText ∷ [] ≡ spelling tree → IsViable spelling read
viable_front spelling tree text read next later rest given spelled whole =
    viable_of spelling tree read rest (spelled_both read rest (spelled_front text read next later given) spelled) whole

-- reading from place to place: `step` says where a symbol leads
abbrev pub run : {Place : Type 0} → (Place → Symbol → Option Place) → Place → List Symbol → Option Place
run step place [] = Some place
run step place (x ∷ xs) = option_and_then (λ next. run step next xs) (step place x)

pub run-append : {Place : Type 0} (step : Place → Symbol → Option Place) (place : Place) (xs ys : List Symbol)
    → run step place (xs ++ ys) ≡ option_and_then (λ next. run step next ys) (run step place xs)
run-append step place [] ys = refl
run-append {Place} step place (x ∷ xs) ys =
    elim (step place x) as (λ o. option_and_then (λ next. run step next (xs ++ ys)) o ≡ option_and_then (λ next. run step next ys) (option_and_then (λ next. run step next xs) o))
    [ None ↦ refl | Some next ↦ run-append step next xs ys ]

-- reading goes on from where the first symbols led
pub run_on : {Place : Type 0} (step : Place → Symbol → Option Place) (start place : Place) (xs ys : List Symbol)
    → run step start xs ≡ Some place → run step start (xs ++ ys) ≡ run step place ys
run_on step start place xs ys e = run-append step start xs ys ∙ ap (option_and_then (λ next. run step next ys)) e

-- places that are inside others: what leads inside leads outside too
pub run_within : {Place Outer : Type 0} (inner : Place → Symbol → Option Place) (outer : Outer → Symbol → Option Outer) (around : Place → Outer)
    → ((place : Place) (symbol : Symbol) (next : Place) → inner place symbol ≡ Some next → outer (around place) symbol ≡ Some (around next))
    → (place last : Place) (xs : List Symbol) → run inner place xs ≡ Some last → run outer (around place) xs ≡ Some (around last)
run_within inner outer around h place last [] leads = let same : place ≡ last = cc in ap (λ p. Some (around p)) same
run_within inner outer around h place last (x ∷ xs) leads =
    elim (inner place x) as (λ o. inner place x ≡ o → option_and_then (λ next. run inner next xs) o ≡ Some last → run outer (around place) (x ∷ xs) ≡ Some (around last)) [
      | None ↦ (λ is leads. absurd (cc))
      | Some next ↦ (λ is leads.
          ap (option_and_then (λ next. run outer next xs)) (h place x next is) ∙ run_within inner outer around h next last xs leads)
    ] refl leads

-- a text of the grammar does not go on with a symbol that leads nowhere
pub dead_after : {Tree Place : Type 0} (spelling : Tree → List Symbol) (step : Place → Symbol → Option Place) (start place : Place) (read : List Symbol) (next : Symbol)
    → ((tree : Tree) → (last : Place) × (run step start (spelling tree) ≡ Some last))
    → run step start read ≡ Some place → step place next ≡ None → IsViable spelling (read ++ next ∷ []) → ⊥
dead_after spelling step start place read next leads reaches nowhere viable =
    let led = leads viable.tree in
    let whole : read ++ next ∷ viable.rest ≡ spelling viable.tree = sym (append_assoc read (next ∷ []) viable.rest) ∙ (viable.begins ∙ viable.spells) in
    let stuck : run step start (read ++ next ∷ viable.rest) ≡ None =
    run_on step start place read (next ∷ viable.rest) reaches ∙ ap (option_and_then (λ after. run step after viable.rest)) nowhere in
    let goes : run step start (read ++ next ∷ viable.rest) ≡ Some led.0 = ap (run step start) whole ∙ led.1 in
    cc

-- the first token that leads nowhere is the fault
pub fault_after : {Tree : Type 0} (spelling : Tree → List Symbol) (text : List ℕ) (read : List Symbol) (next : Symbol) (later : List Symbol)
    → symbols text ≡ read ++ next ∷ later → IsViable spelling read → (IsViable spelling (read ++ next ∷ []) → ⊥)
    → IsFault spelling (symbols text) (length read)
fault_after spelling text read next later given viable dead =
    let size : length (symbols text) ≡ length read + suc (length later) = ap length given ∙ length-append read (next ∷ later) in
    let until : take (length read) (symbols text) ≡ read = ap (take (length read)) given ∙ take-append_seam read (next ∷ later) in
    let past : take (length read + 1) (symbols text) ≡ read ++ next ∷ [] = ap (take (length read + 1)) given ∙ take-append-add read (next ∷ later) 1 in
    record {
      within = omega arith;
      viable = subst (IsViable spelling) (sym until) viable;
      dead = λ v. dead (subst (IsViable spelling) past v);
    }

-- a text of the grammar has no fault
pub no_fault : {Tree : Type 0} (spelling : Tree → List Symbol) (text : List ℕ) (tree : Tree) (place : ℕ)
    → Spells spelling text tree → IsFault spelling (symbols text) place → ⊥
no_fault spelling text tree place spells fault =
    fault.dead (record {
      text = text;
      tree = tree;
      spells = spells;
      rest = drop (place + 1) (symbols text);
      begins = take-append-drop (place + 1) (symbols text);
    })

-- a front of a viable front is viable
pub viable_shorter : {Tree : Type 0} (spelling : Tree → List Symbol) (given : List Symbol) (short long : ℕ) → short ≤ long
    → IsViable spelling (take long given) → IsViable spelling (take short given)
viable_shorter spelling given short long less viable =
    let shorter : take short (take long given) ≡ take short given = take-take short long given less in
    let parts : take short given ++ drop short (take long given) ≡ take long given =
    ap (λ (xs : List Symbol). xs ++ drop short (take long given)) (sym shorter) ∙ take-append-drop short (take long given) in
    record {
      text = viable.text;
      tree = viable.tree;
      spells = viable.spells;
      rest = drop short (take long given) ++ viable.rest;
      begins = sym (append_assoc (take short given) (drop short (take long given)) viable.rest)
          ∙ (ap (λ (xs : List Symbol). xs ++ viable.rest) parts ∙ viable.begins);
    }

-- a text has one fault at most
pub one_fault : {Tree : Type 0} (spelling : Tree → List Symbol) (given : List Symbol) (a b : ℕ) → IsFault spelling given a → IsFault spelling given b → a ≡ b
one_fault spelling given a b p q =
    elim (cases_order a b) [
      | inl e ↦ e
      | inr (inl less) ↦ absurd (p.dead (viable_shorter spelling given (a + 1) b (omega arith) q.viable))
      | inr (inr more) ↦ absurd (q.dead (viable_shorter spelling given (b + 1) a (omega arith) p.viable))
    ]
