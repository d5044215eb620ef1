-- A cursor's step: the white space before a token is passed over, and then the token's bytes.
use Rattle.std.proofs.Common.{◌≡◌, ℕ, zero, suc, ◌+◌, ◌-◌, ◌<◌, ◌≤◌, Bool, true, false, cond, ◌==◌, List, [], ◌∷◌, length, take, drop, take_while, ap, ap₂, sym, ◌∙◌, add-zero, arith}
use Rattle.std.proofs.lemmas.Bool.{ne_eqb}
use Rattle.std.proofs.lemmas.List.Sums.{take_while-cons}
use Rattle.ghost_model.specs.refusals.Tokens.{Token, EndOfText, is_space, token_at, tokens_from}
use Rattle.tree_schema.specs.declared.tokens.Mark.{Mark}
use Rattle.tree_schema.specs.Marks.{symbol_of, left_from, Begins}

-- the tokens of a text that does not begin with white space
abbrev pub first_then : (at : ℕ) → List ℕ → List Token
first_then at [] = record { symbol = EndOfText; at = at } ∷ []
first_then at (b ∷ bs) = record { symbol = (token_at b bs).symbol; at = at } ∷ tokens_from ((token_at b bs).bytes - 1) (at + 1) bs

spaces_by : (t : Bool) (at b : ℕ) (bs front : List ℕ) → tokens_from 0 (at + 1) bs ≡ first_then (at + 1 + length front) (drop (length front) bs)
    → cond t (tokens_from 0 (at + 1) bs) (first_then at (b ∷ bs)) ≡ first_then (at + length (cond t (b ∷ front) [])) (drop (length (cond t (b ∷ front) [])) (b ∷ bs))
spaces_by true at b bs front e =
    let same : at + 1 + length front ≡ at + length (b ∷ front) = omega arith in
    e ∙ ap (λ n. first_then n (drop (length front) bs)) same
spaces_by false at b bs front e = ap (λ n. first_then n (b ∷ bs)) (sym (add-zero at))

pub after_spaces : (text : List ℕ) (at : ℕ) → tokens_from 0 at text ≡ first_then (at + length (take_while is_space text)) (drop (length (take_while is_space text)) text)
unfolding tokens_from
after_spaces [] at = ap (λ n. first_then n []) (sym (add-zero at))
after_spaces (b ∷ bs) at =
    spaces_by (is_space b) at b bs (take_while is_space bs) (after_spaces bs (at + 1))
    ∙ ap (λ (front : List ℕ). first_then (at + length front) (drop (length front) (b ∷ bs))) (sym (take_while-cons is_space b bs))

-- the bytes of a token that was read are passed over
pub past_token : (left at : ℕ) (text : List ℕ) → left ≤ length text → tokens_from left at text ≡ tokens_from 0 (at + left) (drop left text)
unfolding tokens_from
past_token zero at text h = ap (λ n. tokens_from 0 n text) (sym (add-zero at))
past_token (suc left) at [] h = absurd (let no : suc left ≤ 0 = h in omega (arith, no))
past_token (suc left) at (b ∷ bs) h =
    let same : at + 1 + left ≡ at + suc left = omega arith in
    past_token left (at + 1) bs (omega (arith, h)) ∙ ap (λ n. tokens_from 0 n (drop left bs)) same

first_step : (text bytes rest : List ℕ) (at len : ℕ) (found : Mark) (ended : Bool) → Begins text found len → len ≤ length text → (0 < length text → 0 < len)
    → bytes ≡ take len text → rest ≡ drop len text → ended ≡ (length text == 0)
    → first_then at text ≡ record { symbol = symbol_of found bytes; at = at } ∷ left_from ended (at + len) rest
first_step [] bytes rest at len found ended begins within some b r e =
    ap₂ (λ symbol (others : List Token). record { symbol = symbol; at = at } ∷ others) (sym begins.symbol ∙ ap (symbol_of found) (sym b)) (ap (λ t. left_from t (at + len) rest) (sym e))
first_step (x ∷ xs) bytes rest at len found ended begins within some b r e =
    ap₂ (λ symbol (others : List Token). record { symbol = symbol; at = at } ∷ others) (sym begins.symbol ∙ ap (symbol_of found) (sym b))
    (ap (λ n. tokens_from (n - 1) (at + 1) xs) (sym begins.bytes) ∙ later len within (some (omega arith)) ∙ sym (ap₂ (λ t (after : List ℕ). left_from t (at + len) after) (e ∙ ne_eqb (length (x ∷ xs)) 0 (λ h. let no : suc (length xs) ≡ 0 = h in omega (arith, no))) r))
  where
    later : (n : ℕ) → n ≤ length (x ∷ xs) → 0 < n → tokens_from (n - 1) (at + 1) xs ≡ tokens_from 0 (at + n) (drop n (x ∷ xs))
    later zero h p = absurd (omega (arith, p))
    later (suc n) h p = ap (λ k. tokens_from k (at + 1) xs) (omega arith) ∙ past_token n (at + 1) xs (omega (arith, h)) ∙ ap (λ k. tokens_from 0 k (drop n xs)) (omega arith)

pub cursor_step : (before text bytes rest : List ℕ) (at spaces len : ℕ) (found : Mark) (ended : Bool) → spaces ≡ length (take_while is_space before) → text ≡ drop spaces before
    → Begins text found len → len ≤ length text → (0 < length text → 0 < len) → bytes ≡ take len text → rest ≡ drop len text → ended ≡ (length text == 0)
    → tokens_from 0 at before ≡ record { symbol = symbol_of found bytes; at = at + spaces } ∷ left_from ended (at + spaces + len) rest
cursor_step before text bytes rest at spaces len found ended s t begins within some b r e =
    after_spaces before at
    ∙ ap₂ (λ n (after : List ℕ). first_then (at + n) after) (sym s) (ap (λ n. drop n before) (sym s) ∙ sym t)
    ∙ first_step text bytes rest (at + spaces) len found ended begins within some b r e
