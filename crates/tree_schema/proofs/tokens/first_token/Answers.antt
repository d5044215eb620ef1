use Rattle.std.proofs.Common.{◌≡◌, ◌≢◌, ℕ, ◌+◌, ◌<◌, ◌≤◌, Bool, true, false, cond, ◌||◌, ◌==◌, eq-eqb, List, [], ◌∷◌, length, take, take_while, slice_get, Some, None, if◌then◌else◌, refl, ap, sym, ◌∙◌, arith}
use Rattle.std.specs.List.{prefix_len}
use Rattle.std.specs.Option.{option_copied}
use Rattle.std.proofs.lemmas.Bool.{ne_eqb}
use Rattle.std.proofs.lemmas.List.Folds.{length-prefix_len}
use Rattle.std.proofs.lemmas.List.Sums.{prefix_len-le-length}
use Rattle.ghost_model.specs.refusals.Tokens as tokens
use Rattle.tree_schema.specs.declared.tokens.Mark.{Mark}
use Rattle.tree_schema.specs.declared.tokens.Mark.TheVariants as mark
use Rattle.tree_schema.specs.Marks.{symbol_of, read_at, Begins}
use Rattle.tree_schema.proofs.Literals.{begins_literal, some_literal}
use Rattle.tree_schema.proofs.tokens.first_token.Goals as goal

-- what is read after the tests in their order have failed
abbrev behind_more : ℕ → List ℕ → tokens.Read
behind_more b bs = if b == 62 then tokens.more_and bs else tokens.read (tokens.sign_of b) 1

abbrev behind_less : ℕ → List ℕ → tokens.Read
behind_less b bs = if b == 60 then tokens.less_and bs else behind_more b bs

abbrev behind_digits : ℕ → List ℕ → tokens.Read
behind_digits b bs = if b == 39 then tokens.quoted_from false [] 1 bs else behind_less b bs

abbrev behind_names : ℕ → List ℕ → tokens.Read
behind_names b bs = if tokens.is_digit b then tokens.digits_at (take_while tokens.is_digit (b ∷ bs)) else behind_digits b bs

name_read : (b : ℕ) (bs : List ℕ) → tokens.begins_name b ≡ true → tokens.token_at b bs ≡ tokens.word_at (take_while tokens.is_name_byte (b ∷ bs))
name_read b bs e = ap (λ t. cond t (tokens.word_at (take_while tokens.is_name_byte (b ∷ bs))) (behind_names b bs)) e

no_name_read : (b : ℕ) (bs : List ℕ) → tokens.begins_name b ≡ false → tokens.token_at b bs ≡ behind_names b bs
no_name_read b bs e = ap (λ t. cond t (tokens.word_at (take_while tokens.is_name_byte (b ∷ bs))) (behind_names b bs)) e

digits_read : (b : ℕ) (bs : List ℕ) → tokens.begins_name b ≡ false → tokens.is_digit b ≡ true → tokens.token_at b bs ≡ tokens.digits_at (take_while tokens.is_digit (b ∷ bs))
digits_read b bs e f =
    no_name_read b bs e ∙ ap (λ t. cond t (tokens.digits_at (take_while tokens.is_digit (b ∷ bs))) (behind_digits b bs)) f

no_digits_read : (b : ℕ) (bs : List ℕ) → tokens.begins_name b ≡ false → tokens.is_digit b ≡ false → tokens.token_at b bs ≡ behind_digits b bs
no_digits_read b bs e f =
    no_name_read b bs e ∙ ap (λ t. cond t (tokens.digits_at (take_while tokens.is_digit (b ∷ bs))) (behind_digits b bs)) f

-- a sort and a length that agree with what is read
begins_by : (text rest : List ℕ) (b : ℕ) (found : Mark) (len : ℕ) (r : tokens.Read) → text ≡ b ∷ rest → tokens.token_at b rest ≡ r
    → symbol_of found (take len text) ≡ r.symbol → len ≡ r.bytes → Begins text found len
begins_by text rest b found len r f e s l =
    let whole : read_at text ≡ r = ap read_at f ∙ e in
    record { symbol = s ∙ ap (λ (q : tokens.Read). q.symbol) (sym whole); bytes = l ∙ ap (λ (q : tokens.Read). q.bytes) (sym whole) }

taken : (p : ℕ → Bool) (text rest : List ℕ) (b len : ℕ) → text ≡ b ∷ rest → len ≡ length (take_while p text) → take len text ≡ take_while p (b ∷ rest)
taken p text rest b len f l = ap (λ n. take n text) (l ∙ length-prefix_len p text) ∙ ap (take_while p) f

taken_within : (p : ℕ → Bool) (text : List ℕ) (len : ℕ) → len ≡ length (take_while p text) → len ≤ length text
taken_within p text len l = omega (arith, l ∙ length-prefix_len p text, prefix_len-le-length p text)

some_taken : (p : ℕ → Bool) (text rest : List ℕ) (b len : ℕ) → text ≡ b ∷ rest → p b ≡ true → len ≡ length (take_while p text) → 0 < len
some_taken p text rest b len f e l =
    let first : len ≡ prefix_len p (b ∷ rest) = l ∙ length-prefix_len p text ∙ ap (prefix_len p) f in
    let more : prefix_len p (b ∷ rest) ≡ 1 + prefix_len p rest = ap (λ t. cond t (1 + prefix_len p rest) 0) e in
    omega (arith, first, more)

begins_word : (text rest : List ℕ) (b len : ℕ) (found : Mark) → text ≡ b ∷ rest → tokens.begins_name b ≡ true → len ≡ length (take_while tokens.is_name_byte text)
    → symbol_of found (take len text) ≡ tokens.symbol_of_word (tokens.in_lower_case (take len text)) → Begins text found len
begins_word text rest b len found f e l s =
    begins_by text rest b found len _ f (name_read b rest e)
    (s ∙ ap (λ word. tokens.symbol_of_word (tokens.in_lower_case word)) (taken tokens.is_name_byte text rest b len f l))
    (l ∙ ap (λ bytes. length (take_while tokens.is_name_byte bytes)) f)

begins_digits : (text rest : List ℕ) (b len : ℕ) → text ≡ b ∷ rest → tokens.begins_name b ≡ false → tokens.is_digit b ≡ true → len ≡ length (take_while tokens.is_digit text)
    → Begins text mark.Digits len
begins_digits text rest b len f n e l =
    begins_by text rest b mark.Digits len _ f (digits_read b rest n e)
    (ap tokens.Digits (taken tokens.is_digit text rest b len f l))
    (l ∙ ap (λ bytes. length (take_while tokens.is_digit bytes)) f)

begins_bad : (text rest : List ℕ) (b : ℕ) → text ≡ b ∷ rest → tokens.begins_name b ≡ false → tokens.is_digit b ≡ false → b ≡ 39
    → tokens.quoted_from false [] 1 rest ≡ tokens.read tokens.NoToken 1 → Begins text mark.Bad 1
begins_bad text rest b f n d e q =
    begins_by text rest b mark.Bad 1 _ f
    (no_digits_read b rest n d ∙ ap (λ t. cond t (tokens.quoted_from false [] 1 rest) (behind_less b rest)) (eq-eqb b 39 e) ∙ q) refl refl

no_quote_read : (b : ℕ) (bs : List ℕ) → tokens.begins_name b ≡ false → tokens.is_digit b ≡ false → b ≢ 39 → tokens.token_at b bs ≡ behind_less b bs
no_quote_read b bs n d e = no_digits_read b bs n d ∙ ap (λ t. cond t (tokens.quoted_from false [] 1 bs) (behind_less b bs)) (ne_eqb b 39 e)

begins_sign : (text rest : List ℕ) (b : ℕ) (found : Mark) → text ≡ b ∷ rest → tokens.begins_name b ≡ false → tokens.is_digit b ≡ false → b ≢ 39 → b ≢ 60 → b ≢ 62
    → ((bytes : List ℕ) → symbol_of found bytes ≡ tokens.sign_of b) → Begins text found 1
begins_sign text rest b found f n d q l m s =
    begins_by text rest b found 1 _ f
    (no_quote_read b rest n d q
    ∙ ap (λ t. cond t (tokens.less_and rest) (behind_more b rest)) (ne_eqb b 60 l)
    ∙ ap (λ t. cond t (tokens.more_and rest) (tokens.read (tokens.sign_of b) 1)) (ne_eqb b 62 m)) (s (take 1 text)) refl

-- what follows a `<` and a `>`
abbrev by_next_of_less : ℕ → tokens.Read
by_next_of_less n = if n == 61 then tokens.read tokens.AtMostSign 2 else if n == 62 then tokens.read tokens.UnequalSign 2 else tokens.read tokens.LessSign 1

less_with : (rest : List ℕ) (n : ℕ) → Some n ≡ slice_get rest 0 → tokens.less_and rest ≡ by_next_of_less n
less_with [] n e = absurd (cc)
less_with (b ∷ bs) n e = let same : b ≡ n = cc in ap by_next_of_less same

abbrev by_next_of_more : ℕ → tokens.Read
by_next_of_more n = if n == 61 then tokens.read tokens.AtLeastSign 2 else tokens.read tokens.MoreSign 1

more_with : (rest : List ℕ) (n : ℕ) → Some n ≡ slice_get rest 0 → tokens.more_and rest ≡ by_next_of_more n
more_with [] n e = absurd (cc)
more_with (b ∷ bs) n e = let same : b ≡ n = cc in ap by_next_of_more same

more_last : (rest : List ℕ) → None ≡ slice_get rest 0 → tokens.more_and rest ≡ tokens.read tokens.MoreSign 1
more_last [] e = refl
more_last (b ∷ bs) e = absurd (cc)

begins_less : (text rest : List ℕ) (b : ℕ) (found : Mark) (len : ℕ) (r : tokens.Read) → text ≡ b ∷ rest → tokens.begins_name b ≡ false → tokens.is_digit b ≡ false → b ≢ 39 → b ≡ 60
    → tokens.less_and rest ≡ r → symbol_of found (take len text) ≡ r.symbol → len ≡ r.bytes → Begins text found len
begins_less text rest b found len r f n d q e a s l =
    begins_by text rest b found len r f
    (no_quote_read b rest n d q ∙ ap (λ t. cond t (tokens.less_and rest) (behind_more b rest)) (eq-eqb b 60 e) ∙ a) s l

begins_more : (text rest : List ℕ) (b : ℕ) (found : Mark) (len : ℕ) (r : tokens.Read) → text ≡ b ∷ rest → tokens.begins_name b ≡ false → tokens.is_digit b ≡ false → b ≢ 39 → b ≢ 60 → b ≡ 62
    → tokens.more_and rest ≡ r → symbol_of found (take len text) ≡ r.symbol → len ≡ r.bytes → Begins text found len
begins_more text rest b found len r f n d q h e a s l =
    begins_by text rest b found len r f
    (no_quote_read b rest n d q
    ∙ ap (λ t. cond t (tokens.less_and rest) (behind_more b rest)) (ne_eqb b 60 h)
    ∙ ap (λ t. cond t (tokens.more_and rest) (tokens.read (tokens.sign_of b) 1)) (eq-eqb b 62 e) ∙ a) s l

pub returns-then-begins_name-clause-begins : goal.returns-then-begins_name-clause-begins
returns-then-begins_name-clause-begins c =
    begins_word _ _ _ _ _ c.in-Some.ensures.cases.0 (sym c.begins_name.ensures ∙ c.if-begins_name.true) c.name_len-len.ensures c.mark_of_word.ensures.symbol

pub returns-then-begins_name-clause-within : goal.returns-then-begins_name-clause-within
returns-then-begins_name-clause-within c = taken_within tokens.is_name_byte _ _ c.name_len-len.ensures

pub returns-then-begins_name-clause-some : goal.returns-then-begins_name-clause-some
returns-then-begins_name-clause-some c = λ _.
    some_taken tokens.is_name_byte _ _ c.in-Some.first.now _ c.in-Some.ensures.cases.0 (ap (λ t. t || tokens.is_digit c.in-Some.first.now) (sym c.begins_name.ensures ∙ c.if-begins_name.true)) c.name_len-len.ensures

pub returns-then-is_digit-clause-begins : goal.returns-then-is_digit-clause-begins
returns-then-is_digit-clause-begins c =
    begins_digits _ _ _ _ c.in-Some.ensures.cases.0 (sym c.begins_name.ensures ∙ c.if-begins_name.false) (sym c.is_digit.ensures ∙ c.if-is_digit.true) c.digits_len.ensures

pub returns-then-is_digit-clause-within : goal.returns-then-is_digit-clause-within
returns-then-is_digit-clause-within c = taken_within tokens.is_digit _ _ c.digits_len.ensures

pub returns-then-is_digit-clause-some : goal.returns-then-is_digit-clause-some
returns-then-is_digit-clause-some c = λ _.
    some_taken tokens.is_digit _ _ _ _ c.in-Some.ensures.cases.0 (sym c.is_digit.ensures ∙ c.if-is_digit.true) c.digits_len.ensures

pub returns-in-None-clause-begins : goal.returns-in-None-clause-begins
returns-in-None-clause-begins c =
    begins_bad _ _ _ c.in-Some.ensures.cases.0 (sym c.begins_name.ensures ∙ c.if-begins_name.false) (sym c.is_digit.ensures ∙ c.if-is_digit.false) c.if-first-eq39.true c.in-None.ensures.read

pub returns-in-Some-literal_len-clause-begins : goal.returns-in-Some-literal_len-clause-begins
returns-in-Some-literal_len-clause-begins c =
    begins_literal _ _ _ _ _ c.in-Some.ensures.cases.0 c.if-first-eq39.true c.in-Some-literal_len.ensures.read.1

pub returns-in-Some-literal_len-clause-some : goal.returns-in-Some-literal_len-clause-some
returns-in-Some-literal_len-clause-some c = λ _. some_literal _ _ _ c.in-Some-literal_len.ensures.read.1

pub returns-else-first-eq62-clause-begins : goal.returns-else-first-eq62-clause-begins
returns-else-first-eq62-clause-begins c =
    begins_sign _ _ _ _ c.in-Some.ensures.cases.0 (sym c.begins_name.ensures ∙ c.if-begins_name.false) (sym c.is_digit.ensures ∙ c.if-is_digit.false)
    c.if-first-eq39.false c.if-first-eq60.false c.if-first-eq62.false c.sign.ensures.symbol

pub returns-in-Some-eq61-clause-begins : goal.returns-in-Some-eq61-clause-begins
returns-in-Some-eq61-clause-begins c =
    begins_less _ _ _ mark.AtMost 2 _ c.in-Some.ensures.cases.0 (sym c.begins_name.ensures ∙ c.if-begins_name.false) (sym c.is_digit.ensures ∙ c.if-is_digit.false) c.if-first-eq39.false c.if-first-eq60.true
    (less_with c.in-Some.after.now _ c.in-Some-eq61.ensures.value ∙ ap by_next_of_less c.in-Some-eq61.field-0-test) refl refl

pub returns-in-Some-eq62-clause-begins : goal.returns-in-Some-eq62-clause-begins
returns-in-Some-eq62-clause-begins c =
    begins_less _ _ _ mark.Unequal 2 _ c.in-Some.ensures.cases.0 (sym c.begins_name.ensures ∙ c.if-begins_name.false) (sym c.is_digit.ensures ∙ c.if-is_digit.false) c.if-first-eq39.false c.if-first-eq60.true
    (less_with c.in-Some.after.now _ c.in-Some-eq62.ensures.value ∙ ap by_next_of_less c.in-Some-eq62.field-0-test) refl refl

pub returns-in-Some-eq61-first-clause-begins : goal.returns-in-Some-eq61-first-clause-begins
returns-in-Some-eq61-first-clause-begins c =
    begins_more _ _ _ mark.AtLeast 2 _ c.in-Some.ensures.cases.0 (sym c.begins_name.ensures ∙ c.if-begins_name.false) (sym c.is_digit.ensures ∙ c.if-is_digit.false) c.if-first-eq39.false c.if-first-eq60.false c.if-first-eq62.true
    (more_with c.in-Some.after.now _ c.in-Some-eq61-first.ensures.value ∙ ap by_next_of_more c.in-Some-eq61-first.field-0-test) refl refl

pub returns-in_default-first-2-2-clause-begins : goal.returns-in_default-first-2-2-clause-begins
returns-in_default-first-2-2-clause-begins c =
    begins_more _ _ _ mark.More 1 _ c.in-Some.ensures.cases.0 (sym c.begins_name.ensures ∙ c.if-begins_name.false) (sym c.is_digit.ensures ∙ c.if-is_digit.false) c.if-first-eq39.false c.if-first-eq60.false c.if-first-eq62.true
    (more_last c.in-Some.after.now (ap option_copied (sym c.in_default-first-2.is) ∙ c.first-then-first-eq62.ensures.value)) refl refl
