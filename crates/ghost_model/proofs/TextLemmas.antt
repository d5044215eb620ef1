-- Where a script is cut.
use Rattle.std.proofs.Common.{◌≡◌, ℕ, ◌+◌, ◌%◌, Bool, true, false, not, ◌&&◌, ◌==◌, cond, if◌then◌else◌, List, [], ◌∷◌, ◌++◌, refl, sym, ◌∙◌, ap, arith}
use Rattle.std.proofs.lemmas.Bool.{and_parts, eqb-true}
use Rattle.std.proofs.lemmas.List.Sums.{sum_by-cons}
use Rattle.ghost_model.specs.readings.TextReading.{before_parts, parts_after, parts_of}
use Rattle.ghost_model.specs.laws.TextLaws.{quotes}

-- whether the number of `'` is even after some bytes, where it was before them or was not
abbrev even_after : Bool → List ℕ → Bool
even_after even [] = even
even_after even (b ∷ bs) = even_after (if b == 39 then not even else even) bs

abbrev odd_one : Bool → ℕ
odd_one true = 0
odd_one false = 1

one_more : (even quote : Bool) (n : ℕ) → (odd_one even + (cond quote 1 0 + n)) % 2 ≡ (odd_one (if quote then not even else even) + n) % 2
one_more true true n = ap (λ m. m % 2) (omega arith)
one_more true false n = ap (λ m. m % 2) (omega arith)
one_more false true n = omega arith
one_more false false n = ap (λ m. m % 2) (omega arith)

counted : (even : Bool) (bs : List ℕ) → (odd_one even + quotes bs) % 2 ≡ odd_one (even_after even bs)
counted true [] = refl
counted false [] = refl
counted even (b ∷ bs) =
    ap (λ n. (odd_one even + n) % 2) (sum_by-cons (λ byte. cond (byte == 39) 1 0) b bs) ∙ (one_more even (b == 39) (quotes bs) ∙ counted (if b == 39 then not even else even) bs)

even_from : (even : Bool) → odd_one even ≡ 0 → even ≡ true
even_from true e = refl
even_from false e = cc

odd_from : (even : Bool) → odd_one even ≡ 1 → even ≡ false
odd_from true e = cc
odd_from false e = refl

-- there is a part always
abbrev has_part : List (List ℕ) → Bool
has_part [] = false
has_part (_ ∷ _) = true

before_has_part : (b : ℕ) (parts : List (List ℕ)) → has_part (before_parts b parts) ≡ true
before_has_part b [] = refl
before_has_part b (part ∷ parts) = refl

either_has_part : (test : Bool) (xs ys : List (List ℕ)) → has_part xs ≡ true → has_part ys ≡ true → has_part (if test then xs else ys) ≡ true
either_has_part true xs ys p q = p
either_has_part false xs ys p q = q

some_part : (even : Bool) (bs : List ℕ) → has_part (parts_after even bs) ≡ true
unfolding parts_after
some_part even [] = refl
some_part even (b ∷ bs) =
    either_has_part (even && b == 59) ([] ∷ parts_after even bs) _ refl
    (either_has_part (b == 39) (before_parts b (parts_after (not even) bs)) (before_parts b (parts_after even bs))
    (before_has_part b (parts_after (not even) bs)) (before_has_part b (parts_after even bs)))

before_first : (b : ℕ) (xs ys : List (List ℕ)) → has_part xs ≡ true → before_parts b (xs ++ ys) ≡ before_parts b xs ++ ys
before_first b [] ys e = cc
before_first b (x ∷ xs) ys e = refl

-- one byte that is read, by what it is
step_cut : (even : Bool) (b : ℕ) (bs : List ℕ) → (even && b == 59) ≡ true → parts_after even (b ∷ bs) ≡ [] ∷ parts_after even bs
unfolding parts_after
step_cut even b bs e = ap (λ v. if v then [] ∷ parts_after even bs else if b == 39 then before_parts b (parts_after (not even) bs) else before_parts b (parts_after even bs)) e

step_on : (even : Bool) (b : ℕ) (bs : List ℕ) → (even && b == 59) ≡ false → parts_after even (b ∷ bs) ≡ before_parts b (parts_after (if b == 39 then not even else even) bs)
unfolding parts_after
step_on even b bs e =
    ap (λ v. if v then [] ∷ parts_after even bs else if b == 39 then before_parts b (parts_after (not even) bs) else before_parts b (parts_after even bs)) e
    ∙ (elim (b == 39) as (λ v. (if v then before_parts b (parts_after (not even) bs) else before_parts b (parts_after even bs)) ≡ before_parts b (parts_after (if v then not even else even) bs))
    [ true ↦ refl | false ↦ refl ])

semicolon_is_no_quote : (even : Bool) (b : ℕ) → (even && b == 59) ≡ true → (b == 39) ≡ false
semicolon_is_no_quote even b e = ap (λ c. c == 39) (eqb-true b 59 ((and_parts even (b == 59) e).1))

by_step : (even : Bool) (b : ℕ) (before after : List ℕ) → even_after (if b == 39 then not even else even) before ≡ true
    → parts_after (if b == 39 then not even else even) (before ++ 59 ∷ after) ≡ parts_after (if b == 39 then not even else even) before ++ parts_after true after
    → (cuts : Bool) → (even && b == 59) ≡ cuts
    → parts_after even (b ∷ (before ++ 59 ∷ after)) ≡ parts_after even (b ∷ before) ++ parts_after true after
by_step even b before after e rest true cuts =
    let same : (if b == 39 then not even else even) ≡ even = ap (λ v. if v then not even else even) (semicolon_is_no_quote even b cuts) in
    let here : parts_after even (before ++ 59 ∷ after) ≡ parts_after even before ++ parts_after true after =
    ap (λ v. parts_after v (before ++ 59 ∷ after)) (sym same) ∙ (rest ∙ ap (λ v. parts_after v before ++ parts_after true after) same) in
    step_cut even b (before ++ 59 ∷ after) cuts
    ∙ (ap (λ (ps : List (List ℕ)). [] ∷ ps) here ∙ ap (λ (ps : List (List ℕ)). ps ++ parts_after true after) (sym (step_cut even b before cuts)))
by_step even b before after e rest false goes =
    step_on even b (before ++ 59 ∷ after) goes
    ∙ (ap (before_parts b) rest
    ∙ (before_first b (parts_after (if b == 39 then not even else even) before) (parts_after true after) (some_part (if b == 39 then not even else even) before)
    ∙ ap (λ (ps : List (List ℕ)). ps ++ parts_after true after) (sym (step_on even b before goes))))

uncut_step : (even : Bool) (b : ℕ) (bs : List ℕ) → ((before after : List ℕ) → (b ∷ bs) ≡ before ++ 59 ∷ after → even_after even before ≡ false)
    → parts_after (if b == 39 then not even else even) bs ≡ bs ∷ []
    → (cuts : Bool) → (even && b == 59) ≡ cuts → parts_after even (b ∷ bs) ≡ (b ∷ bs) ∷ []
uncut_step even b bs none rest true cuts =
    let parts = and_parts even (b == 59) cuts in
    let semicolon : b ∷ bs ≡ 59 ∷ bs = ap (λ c. c ∷ bs) (eqb-true b 59 parts.1) in
    let even_here : even ≡ true = parts.0 in
    let odd_here : even ≡ false = none [] bs semicolon in
    cc
uncut_step even b bs none rest false goes = step_on even b bs goes ∙ ap (before_parts b) rest

cut_from : (even : Bool) (before after : List ℕ) → even_after even before ≡ true
    → parts_after even (before ++ 59 ∷ after) ≡ parts_after even before ++ parts_after true after
unfolding parts_after
cut_from true [] after e = refl
cut_from false [] after e = cc
cut_from even (b ∷ before) after e = by_step even b before after e (cut_from (if b == 39 then not even else even) before after e) (even && b == 59) refl

pub cut_at : (before after : List ℕ) → quotes before % 2 ≡ 0 → parts_of (before ++ 59 ∷ after) ≡ parts_of before ++ parts_of after
cut_at before after e =
    let same : odd_one (even_after true before) ≡ 0 = sym (counted true before) ∙ (ap (λ n. n % 2) (omega arith) ∙ e) in
    cut_from true before after (even_from (even_after true before) same)

uncut_from : (even : Bool) (script : List ℕ) → ((before after : List ℕ) → script ≡ before ++ 59 ∷ after → even_after even before ≡ false)
    → parts_after even script ≡ script ∷ []
unfolding parts_after
uncut_from even [] none = refl
uncut_from even (b ∷ bs) none =
    uncut_step even b bs none
    (uncut_from (if b == 39 then not even else even) bs (λ before after e. none (b ∷ before) after (ap (λ (xs : List ℕ). b ∷ xs) e)))
    (even && b == 59) refl

pub uncut : (script : List ℕ) → ((before after : List ℕ) → script ≡ before ++ 59 ∷ after → quotes before % 2 ≡ 1) → parts_of script ≡ script ∷ []
uncut script none =
    uncut_from true script (λ before after e.
    odd_from (even_after true before) (sym (counted true before) ∙ (ap (λ n. n % 2) (omega arith) ∙ none before after e)))
