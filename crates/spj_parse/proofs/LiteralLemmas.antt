-- The numbers that digits write.
use Rattle.std.proofs.Common.{◌≡◌, ℕ, suc, ◌+◌, ◌-◌, ◌*◌, ◌<◌, ◌≤◌, ◌^◌, Bool, true, false, cond, List, [], ◌∷◌, ◌++◌, length, take, drop, fold, get_or, drop-cons, take-append-drop, length-append, length-take, take_all, min, refl, ap, sym, subst, ◌∙◌, arith}
use Rattle.std.proofs.lemmas.Grind.{fold-append}
use Rattle.std.proofs.lemmas.List.{drop_all, take-append-le}
use Rattle.ghost_model.specs.refusals.Tokens.{number_of, Read, read, Quoted, NoToken, quoted_from}
use Rattle.tree_schema.specs.Marks.{value_in, literal_of}
use Rattle.spj_parse.specs.declared.literals.InText.{InText}
use Rattle.spj_parse.specs.declared.literals.InText.TheVariants as in_text
use Rattle.spj_parse.specs.declared.literals.TextDraft.{TextDraft}
use Rattle.spj_parse.specs.Literals.{Keeps, read_on}

abbrev one_more_digit : ℕ → ℕ → ℕ
one_more_digit number digit = number * 10 + (digit - 48)

grows : (number : ℕ) (digits : List ℕ) → number ≤ fold one_more_digit number digits
grows number [] = omega arith
grows number (digit ∷ digits) = let later : one_more_digit number digit ≤ fold one_more_digit (one_more_digit number digit) digits = grows (one_more_digit number digit) digits in omega (arith, later)

split : (digits : List ℕ) (i : ℕ) → i < length digits → number_of digits ≡ fold one_more_digit (one_more_digit (number_of (take i digits)) (get_or digits i 0)) (drop (suc i) digits)
split digits i within =
    ap number_of (sym (take-append-drop i digits))
    ∙ fold-append one_more_digit 0 (take i digits) (drop i digits)
    ∙ ap (fold one_more_digit (number_of (take i digits))) (drop-cons digits i 0 within)

pub large : (digits : List ℕ) (i number least : ℕ) → number ≡ number_of (take i digits) → i < length digits → least ≤ number * 10 + (get_or digits i 0 - 48) → least ≤ number_of digits
large digits i number least e within h =
    let whole : number_of digits ≡ fold one_more_digit (one_more_digit number (get_or digits i 0)) (drop (suc i) digits) =
    split digits i within ∙ ap (λ n. fold one_more_digit (one_more_digit n (get_or digits i 0)) (drop (suc i) digits)) (sym e) in
    let later : one_more_digit number (get_or digits i 0) ≤ fold one_more_digit (one_more_digit number (get_or digits i 0)) (drop (suc i) digits) = grows (one_more_digit number (get_or digits i 0)) (drop (suc i) digits) in
    omega (arith, whole, later, h)

-- how far a literal was read
pub record Stands (inside : List ℕ) (ended : Bool) (text : TextDraft) (i : ℕ) : Type 0 where
  pub value : List ℕ
  pub keeps : Keeps text value
  pub few : length value ≤ i
  pub reads : quoted_from false [] 1 inside ≡ quoted_from ended value (i + 1) (drop i inside)

pub at_start : (inside : List ℕ) (text : TextDraft) → Keeps text [] → Stands inside false text 0
at_start inside text h = record { value = []; keeps = h; few = omega arith; reads = refl }

advance : (inside : List ℕ) (ended : Bool) (text : TextDraft) (i : ℕ) (what : InText) (h : Stands inside ended text i) → i < length inside
    → ((value : List ℕ) (count : ℕ) (rest : List ℕ) → quoted_from ended value count (get_or inside i 0 ∷ rest) ≡ read_on what (get_or inside i 0) value count rest)
    → quoted_from false [] 1 inside ≡ read_on what (get_or inside i 0) h.value (i + 1) (drop (i + 1) inside)
advance inside ended text i what h within steps =
    h.reads ∙ ap (quoted_from ended h.value (i + 1)) (drop-cons inside i 0 within) ∙ steps h.value (i + 1) (drop (suc i) inside)
    ∙ ap (λ n. read_on what (get_or inside i 0) h.value (i + 1) (drop n inside)) (let e : suc i ≡ i + 1 = omega arith in e)

pub ends : (inside : List ℕ) (ended : Bool) (text : TextDraft) (i : ℕ) → Stands inside ended text i → i < length inside
    → ((value : List ℕ) (count : ℕ) (rest : List ℕ) → quoted_from ended value count (get_or inside i 0 ∷ rest) ≡ read_on in_text.Ends (get_or inside i 0) value count rest)
    → Keeps text (value_in (quoted_from false [] 1 inside).symbol)
ends inside ended text i h within steps = subst (λ (r : Read). Keeps text (value_in r.symbol)) (sym (advance inside ended text i in_text.Ends h within steps)) h.keeps

pub breaks : (inside : List ℕ) (ended : Bool) (text none : TextDraft) (i : ℕ) → Stands inside ended text i → i < length inside
    → ((value : List ℕ) (count : ℕ) (rest : List ℕ) → quoted_from ended value count (get_or inside i 0 ∷ rest) ≡ read_on in_text.Breaks (get_or inside i 0) value count rest)
    → Keeps none [] → Keeps none (value_in (quoted_from false [] 1 inside).symbol)
breaks inside ended text none i h within steps k = subst (λ (r : Read). Keeps none (value_in r.symbol)) (sym (advance inside ended text i in_text.Breaks h within steps)) k

pub closes : (inside : List ℕ) (ended : Bool) (text : TextDraft) (i : ℕ) → Stands inside ended text i → i < length inside
    → ((value : List ℕ) (count : ℕ) (rest : List ℕ) → quoted_from ended value count (get_or inside i 0 ∷ rest) ≡ read_on in_text.Closes (get_or inside i 0) value count rest)
    → Stands inside true text (i + 1)
closes inside ended text i h within steps =
    record { value = h.value; keeps = h.keeps; few = omega (arith, h.few); reads = advance inside ended text i in_text.Closes h within steps }

pub gives : (inside : List ℕ) (ended : Bool) (text new : TextDraft) (i : ℕ) → Stands inside ended text i → i < length inside
    → ((value : List ℕ) (count : ℕ) (rest : List ℕ) → quoted_from ended value count (get_or inside i 0 ∷ rest) ≡ read_on in_text.Gives (get_or inside i 0) value count rest)
    → ((value : List ℕ) → Keeps text value → Keeps new (value ++ get_or inside i 0 ∷ []))
    → Stands inside false new (i + 1)
gives inside ended text new i h within steps pushed =
    let more : length (h.value ++ get_or inside i 0 ∷ []) ≡ length h.value + 1 = length-append h.value (get_or inside i 0 ∷ []) in
    record { value = h.value ++ get_or inside i 0 ∷ []; keeps = pushed h.value h.keeps; few = omega (arith, h.few, more); reads = advance inside ended text i in_text.Gives h within steps }

out_of : (ended : Bool) (value : List ℕ) (count : ℕ) → quoted_from ended value count [] ≡ cond ended (read (Quoted value) count) (read NoToken 1)
unfolding quoted_from
out_of true value count = refl
out_of false value count = refl

at_end : (inside : List ℕ) (ended : Bool) (text : TextDraft) (i : ℕ) (h : Stands inside ended text i) → length inside ≤ i → quoted_from false [] 1 inside ≡ cond ended (read (Quoted h.value) (i + 1)) (read NoToken 1)
at_end inside ended text i h past = h.reads ∙ ap (quoted_from ended h.value (i + 1)) (drop_all i inside past) ∙ out_of ended h.value (i + 1)

pub whole : (inside : List ℕ) (ended : Bool) (text : TextDraft) (i : ℕ) → Stands inside ended text i → length inside ≤ i → ended ≡ true → Keeps text (value_in (quoted_from false [] 1 inside).symbol)
whole inside ended text i h past e =
    subst (λ (r : Read). Keeps text (value_in r.symbol)) (sym (at_end inside ended text i h past ∙ ap (λ b. cond b (read (Quoted h.value) (i + 1)) (read NoToken 1)) e)) h.keeps

pub open_ended : (inside : List ℕ) (ended : Bool) (text none : TextDraft) (i : ℕ) → Stands inside ended text i → length inside ≤ i → ended ≡ false → Keeps none [] → Keeps none (value_in (quoted_from false [] 1 inside).symbol)
open_ended inside ended text none i h past e k =
    subst (λ (r : Read). Keeps none (value_in r.symbol)) (sym (at_end inside ended text i h past ∙ ap (λ b. cond b (read (Quoted h.value) (i + 1)) (read NoToken 1)) e)) k

pub room : (inside : List ℕ) (ended : Bool) (text : TextDraft) (i : ℕ) → Stands inside ended text i → i < length inside → length inside < 2 ^ 64 → text.len + 1 < 2 ^ 64
room inside ended text i h within fits = omega (arith, h.keeps.len, h.few, within, fits)

pub full : (value : List ℕ) (byte : ℕ) (kept : List ℕ) → kept ≡ take 64 value → length kept ≡ 64 → kept ≡ take 64 (value ++ byte ∷ [])
full value byte kept k h =
    let count : length kept ≡ min 64 (length value) = ap length k ∙ length-take 64 value in
    let past : 64 ≤ length value = omega (arith, count, h) in
    k ∙ sym (take-append-le 64 value (byte ∷ []) past)

pub spare : (value : List ℕ) (byte : ℕ) (kept new : List ℕ) → kept ≡ take 64 value → length kept < 64 → new ≡ kept ++ byte ∷ [] → new ≡ take 64 (value ++ byte ∷ [])
spare value byte kept new k h e =
    let count : length kept ≡ min 64 (length value) = ap length k ∙ length-take 64 value in
    let few : length value < 64 = omega (arith, count, h) in
    let more : length (value ++ byte ∷ []) ≡ length value + 1 = length-append value (byte ∷ []) in
    e ∙ ap (λ xs. xs ++ byte ∷ []) (k ∙ take_all 64 value (omega (arith, few))) ∙ sym (take_all 64 (value ++ byte ∷ []) (omega (arith, few, more)))

pub no_literal : literal_of [] ≡ []
unfolding quoted_from
no_literal = refl
