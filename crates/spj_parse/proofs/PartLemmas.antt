-- Where a script is cut, byte after byte, and how many texts it has at most.
use Rattle.std.proofs.Common.{◌≡◌, ℕ, zero, suc, ◌+◌, ◌<◌, ◌≤◌, Bool, true, false, not, ◌&&◌, ◌==◌, cond, if◌then◌else◌, List, [], ◌∷◌, ◌++◌, length, take, drop, filter, get_or, drop-cons, take_all, append-nil, refl, ap, sym, ◌∙◌, arith}
use Rattle.std.proofs.lemmas.Bool.{and_parts}
use Rattle.std.proofs.lemmas.List.{drop_all}
use Rattle.ghost_model.specs.readings.TextReading.{before_parts, parts_after, parts_of}
use Rattle.ghost_model.specs.core.Texts.{is_blank}
use Rattle.spj_parse.specs.Parts.{CutsAt, even_after, parts_or_none}

-- bytes before the first of some parts
abbrev pub prepended : List ℕ → List (List ℕ) → List (List ℕ)
prepended [] parts = parts
prepended (b ∷ bs) parts = before_parts b (prepended bs parts)

prepended_one : (bs : List ℕ) (b : ℕ) (parts : List (List ℕ)) → prepended (bs ++ b ∷ []) parts ≡ prepended bs (before_parts b parts)
prepended_one [] b parts = refl
prepended_one (x ∷ xs) b parts = ap (before_parts x) (prepended_one xs b parts)

prepended_part : (bs part : List ℕ) (parts : List (List ℕ)) → prepended bs (part ∷ parts) ≡ (bs ++ part) ∷ parts
prepended_part [] part parts = refl
prepended_part (x ∷ xs) part parts = ap (before_parts x) (prepended_part xs part parts)

take_more : (xs : List ℕ) (i : ℕ) → i < length xs → take (i + 1) xs ≡ take i xs ++ get_or xs i 0 ∷ []
take_more [] i h = absurd (omega (arith, h))
take_more (x ∷ xs) zero h = refl
take_more (x ∷ xs) (suc i) h =
    ap (λ (n : ℕ). take n (x ∷ xs)) (let e : suc i + 1 ≡ suc (i + 1) = omega arith in e) ∙ ap (λ rest. x ∷ rest) (take_more xs i (omega (arith, h)))

-- how far a script was read for its first part
pub record Reads (script : List ℕ) (even : Bool) (i : ℕ) : Type 0 where
  pub parts : parts_of script ≡ prepended (take i script) (parts_after even (drop i script))

pub at_start : (script : List ℕ) → Reads script true 0
at_start script = record { parts = refl }

chosen : (cuts quote even : Bool) (b : ℕ) (bs : List ℕ) → cuts ≡ false
    → (if cuts then [] ∷ parts_after even bs else if quote then before_parts b (parts_after (not even) bs) else before_parts b (parts_after even bs)) ≡ before_parts b (parts_after (if quote then not even else even) bs)
chosen true quote even b bs e = absurd (let no : true ≡ false = e in cc)
chosen false true even b bs e = refl
chosen false false even b bs e = refl

on : (even : Bool) (b : ℕ) (bs : List ℕ) → (even && b == 59) ≡ false → parts_after even (b ∷ bs) ≡ before_parts b (parts_after (even_after even b) bs)
unfolding parts_after
on even b bs e = chosen (even && b == 59) (b == 39) even b bs e

cut_here : (even : Bool) (b : ℕ) (bs : List ℕ) → (even && b == 59) ≡ true → parts_after even (b ∷ bs) ≡ [] ∷ parts_after even bs
unfolding parts_after
cut_here even b bs e = ap (λ v. if v then [] ∷ parts_after even bs else if b == 39 then before_parts b (parts_after (not even) bs) else before_parts b (parts_after even bs)) e

at_byte : (script : List ℕ) (even : Bool) (i : ℕ) → Reads script even i → i < length script → parts_of script ≡ prepended (take i script) (parts_after even (get_or script i 0 ∷ drop (i + 1) script))
at_byte script even i h within =
    h.parts ∙ ap (λ (bs : List ℕ). prepended (take i script) (parts_after even bs)) (drop-cons script i 0 within)
    ∙ ap (λ (n : ℕ). prepended (take i script) (parts_after even (get_or script i 0 ∷ drop n script))) (let e : suc i ≡ i + 1 = omega arith in e)

pub reads_on : (script : List ℕ) (even new : Bool) (i : ℕ) → Reads script even i → i < length script → (even && get_or script i 0 == 59) ≡ false → new ≡ even_after even (get_or script i 0) → Reads script new (i + 1)
reads_on script even new i h within e n = record {
  parts = at_byte script even i h within
      ∙ ap (prepended (take i script)) (on even (get_or script i 0) (drop (i + 1) script) e)
      ∙ sym (prepended_one (take i script) (get_or script i 0) (parts_after (even_after even (get_or script i 0)) (drop (i + 1) script)))
      ∙ ap (λ (bs : List ℕ). prepended bs (parts_after (even_after even (get_or script i 0)) (drop (i + 1) script))) (sym (take_more script i within))
      ∙ ap (λ t. prepended (take (i + 1) script) (parts_after t (drop (i + 1) script))) (sym n);
}

pub cuts : (script : List ℕ) (even : Bool) (i : ℕ) → Reads script even i → i < length script → (even && get_or script i 0 == 59) ≡ true → CutsAt script i
cuts script even i h within e = record {
  within = omega (arith, within);
  cut = λ _. at_byte script even i h within
      ∙ ap (prepended (take i script)) (cut_here even (get_or script i 0) (drop (i + 1) script) e)
      ∙ prepended_part (take i script) [] (parts_after even (drop (i + 1) script))
      ∙ ap (λ (part : List ℕ). part ∷ parts_after even (drop (i + 1) script)) (append-nil (take i script))
      ∙ ap (λ t. take i script ∷ parts_after t (drop (i + 1) script)) (and_parts even (get_or script i 0 == 59) e).0;
  whole = λ past. absurd (omega (arith, within, past));
}

last : (even : Bool) → parts_after even [] ≡ [] ∷ []
unfolding parts_after
last even = refl

pub ends : (script : List ℕ) (even : Bool) (i : ℕ) → Reads script even i → length script ≤ i → CutsAt script (length script)
ends script even i h past = record {
  within = omega arith;
  cut = λ within. absurd (omega (arith, within));
  whole = λ _. h.parts
      ∙ ap (λ (bs : List ℕ). prepended (take i script) (parts_after even bs)) (drop_all i script past)
      ∙ ap (prepended (take i script)) (last even)
      ∙ prepended_part (take i script) [] []
      ∙ ap (λ (part : List ℕ). part ∷ []) (append-nil (take i script) ∙ take_all i script past);
}

drop_short : (xs : List ℕ) (n : ℕ) → length (drop n xs) ≡ 0 → length xs ≤ n
drop_short [] n h = omega arith
drop_short (x ∷ xs) zero h = absurd (omega (arith, h))
drop_short (x ∷ xs) (suc n) h = let rest : length xs ≤ n = drop_short xs n h in omega (arith, rest)

drop_next : (xs : List ℕ) (n b : ℕ) (later : List ℕ) → drop n xs ≡ b ∷ later → (n < length xs) × (drop (n + 1) xs ≡ later)
drop_next [] zero b later h = absurd (let no : [] ≡ b ∷ later = h in cc)
drop_next [] (suc n) b later h = absurd (let no : [] ≡ b ∷ later = h in cc)
drop_next (x ∷ xs) zero b later h = (omega arith, (let same : xs ≡ later = cc in same))
drop_next (x ∷ xs) (suc n) b later h =
    let rest = drop_next xs n b later h in
    let short : n < length xs = rest.0 in
    (omega (arith, short), ap (λ (m : ℕ). drop m (x ∷ xs)) (let e : suc n + 1 ≡ suc (n + 1) = omega arith in e) ∙ rest.1)

pub last_part : (rest part behind : List ℕ) (len : ℕ) (ended : Bool) → ended ≡ false → CutsAt rest len → part ≡ take len rest → behind ≡ drop len rest → 0 ≡ length behind → parts_or_none ended rest ≡ part ∷ []
last_part rest part behind len ended e h p b none =
    let past : length rest ≤ len = drop_short rest len (ap length (sym b) ∙ sym none) in
    ap (λ t. parts_or_none t rest) e ∙ h.whole past ∙ ap (λ (xs : List ℕ). xs ∷ []) (sym (p ∙ take_all len rest past))

pub next_part : (rest part behind later : List ℕ) (len first : ℕ) (ended : Bool) → ended ≡ false → CutsAt rest len → part ≡ take len rest → behind ≡ drop len rest → behind ≡ first ∷ later
    → parts_or_none ended rest ≡ part ∷ parts_or_none ended later
next_part rest part behind later len first ended e h p b some =
    let next = drop_next rest len first later (sym b ∙ some) in
    ap (λ t. parts_or_none t rest) e ∙ h.cut next.0 ∙ ap (λ (xs : List ℕ). take len rest ∷ parts_of xs) next.1
    ∙ ap (λ (xs : List ℕ). xs ∷ parts_of later) (sym p) ∙ ap (λ t. part ∷ parts_or_none t later) (sym e)

-- a script has no more texts than bytes

abbrev texts_among : List (List ℕ) → ℕ
texts_among parts = length (filter (λ part. not (is_blank part)) parts)

one_by : (blank other : Bool) (n : ℕ) (part whole : List ℕ) (parts : List (List ℕ)) → length (cond (not other) (whole ∷ parts) parts) ≤ length (cond (not blank) (part ∷ parts) parts) + 1
one_by true true n part whole parts = omega arith
one_by true false n part whole parts = omega arith
one_by false true n part whole parts = omega arith
one_by false false n part whole parts = omega arith

one_more : (b : ℕ) (parts : List (List ℕ)) → texts_among (before_parts b parts) ≤ texts_among parts + 1
one_more b [] = one_by true (is_blank (b ∷ [])) 0 [] (b ∷ []) []
one_more b (part ∷ parts) = one_by (is_blank part) (is_blank (b ∷ part)) 0 part (b ∷ part) (filter (λ other. not (is_blank other)) parts)

by_byte : (cuts quote even : Bool) (b : ℕ) (bs : List ℕ) → texts_among (parts_after even bs) ≤ length bs → texts_among (parts_after (not even) bs) ≤ length bs
    → texts_among (if cuts then [] ∷ parts_after even bs else if quote then before_parts b (parts_after (not even) bs) else before_parts b (parts_after even bs)) ≤ length bs + 1
by_byte true quote even b bs h g = omega (arith, h)
by_byte false true even b bs h g = let more : texts_among (before_parts b (parts_after (not even) bs)) ≤ texts_among (parts_after (not even) bs) + 1 = one_more b (parts_after (not even) bs) in omega (arith, more, g)
by_byte false false even b bs h g = let more : texts_among (before_parts b (parts_after even bs)) ≤ texts_among (parts_after even bs) + 1 = one_more b (parts_after even bs) in omega (arith, more, h)

pub few_texts : (even : Bool) (script : List ℕ) → texts_among (parts_after even script) ≤ length script
unfolding parts_after
few_texts even [] = omega arith
few_texts even (b ∷ bs) = let more = by_byte (even && b == 59) (b == 39) even b bs (few_texts even bs) (few_texts (not even) bs) in omega (arith, more)
