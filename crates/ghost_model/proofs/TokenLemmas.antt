-- Symbols and the texts that spell them.
use Rattle.std.proofs.Common.{◌≡◌, ℕ, zero, suc, ◌+◌, ◌-◌, Bool, true, false, not, ◌||◌, ◌==◌, cond, if◌then◌else◌, List, [], ◌∷◌, ◌++◌, length, map, refl, sym, ◌∙◌, ap, append_assoc, append-nil, length-append, arith, codes, bytes_eq, Option, None, Some}
use Rattle.std.specs.Prelude.{take_while, flat_map, is_none}
use Rattle.std.specs.List.{list_any, list_all}
use Rattle.std.proofs.lemmas.List.Sums.{take_while-cons}
use Rattle.std.proofs.lemmas.Bool.{and_parts, and_from, eqb-true, not-true}
use Rattle.std.proofs.lemmas.Str.Ascii.{lowercase-lowercase}
use Rattle.std.proofs.lemmas.List.Folds.{list_all-append}
use Rattle.std.proofs.lemmas.Slice.Eq.{bytes_eq-Decides}
use Rattle.std.specs.Option.{option_map_or}
use Rattle.std.specs.Char.{to_ascii_lowercase}
use Rattle.std.proofs.lemmas.Bool.Decides.{nat_tests}
use Rattle.ghost_model.specs.refusals.Tokens.{Keyword, AndWord, BetweenWord, CharWord, CreateWord, FromWord, HiddenWord, InWord, IntegerWord, IsWord, NotWord, NullWord, OrWord, PrimaryKeyWord, PrimaryWord, ReferencesWord, SelectWord, TableWord, WhereWord, Symbol, Word, Reserved, Name, Digits, Quoted, Open, Closing, Comma, Point, Semicolon, Star, PlusSign, MinusSign, EqualSign, UnequalSign, LessSign, AtMostSign, MoreSign, AtLeastSign, NoToken, EndOfText, keyword_of, other_reserved, symbol_of, symbols, tokens_from, quoted_from, token_at, word_at, digits_at, in_lower_case, symbol_of_word, is_space, is_digit, begins_name, is_name_byte, is_printable, sign_of, less_and, more_and, read, Read}
use Rattle.ghost_model.specs.laws.Spelled.{is_reserved, begins_as_name, is_name, is_spelled, symbol_text, keyword_text, inside_literal, text_of, IsBeforeEnd}

-- the symbols of a text whose first `left` bytes belong to a token before; the offset of the text does not matter
abbrev kinds : (left at : ℕ) → List ℕ → List Symbol
kinds left at text = map symbol_of (tokens_from left at text)

pub kinds_anywhere : (left a b : ℕ) (text : List ℕ) → map symbol_of (tokens_from left a text) ≡ map symbol_of (tokens_from left b text)
unfolding tokens_from
kinds_anywhere left a b [] = refl
kinds_anywhere (suc left) a b (c ∷ text) = kinds_anywhere left (a + 1) (b + 1) text
kinds_anywhere zero a b (c ∷ text) =
    let inside = ap (λ (xs : List Symbol). (token_at c text).symbol ∷ xs) (kinds_anywhere ((token_at c text).bytes - 1) (a + 1) (b + 1) text) in
    let spaced = kinds_anywhere zero (a + 1) (b + 1) text in
    elim (is_space c) as (λ v.
    map symbol_of (if v then tokens_from zero (a + 1) text else record { symbol = (token_at c text).symbol; at = a } ∷ tokens_from ((token_at c text).bytes - 1) (a + 1) text)
    ≡ map symbol_of (if v then tokens_from zero (b + 1) text else record { symbol = (token_at c text).symbol; at = b } ∷ tokens_from ((token_at c text).bytes - 1) (b + 1) text))
    [ true ↦ spaced | false ↦ inside ]

-- the bytes that a token takes are passed over
pub kinds_after : (xs : List ℕ) (a b : ℕ) (text : List ℕ) → map symbol_of (tokens_from (length xs) a (xs ++ text)) ≡ map symbol_of (tokens_from 0 b text)
unfolding tokens_from
kinds_after [] a b text = kinds_anywhere 0 a b text
kinds_after (x ∷ xs) a b text = kinds_after xs (a + 1) b text

pub after_space : (at : ℕ) (text : List ℕ) → map symbol_of (tokens_from 0 at (32 ∷ text)) ≡ map symbol_of (tokens_from 0 0 text)
unfolding tokens_from
after_space at text = kinds_anywhere 0 (at + 1) 0 text

pub take_while_all : (p : ℕ → Bool) (xs : List ℕ) (y : ℕ) (ys : List ℕ) → list_all p xs ≡ true → p y ≡ false → take_while p (xs ++ y ∷ ys) ≡ xs
take_while_all p [] y ys all stops = take_while-cons p y ys ∙ ap (λ v. cond v (y ∷ take_while p ys) []) stops
take_while_all p (x ∷ xs) y ys all stops =
    let both = and_parts (p x) (list_all p xs) all in
    take_while-cons p x (xs ++ y ∷ ys)
    ∙ (ap (λ v. cond v (x ∷ take_while p (xs ++ y ∷ ys)) []) both.0 ∙ ap (λ (zs : List ℕ). x ∷ zs) (take_while_all p xs y ys both.1 stops))

passes_with : (p : ℕ → Bool) (x : ℕ) (xs : List ℕ) → list_all p xs ≡ true → (v : Bool) → p x ≡ v → list_all p (cond v (x ∷ xs) []) ≡ true
passes_with p x xs rest true e = and_from _ _ e rest
passes_with p x xs rest false e = refl

pub take_while_passes : (p : ℕ → Bool) (xs : List ℕ) → list_all p (take_while p xs) ≡ true
take_while_passes p [] = refl
take_while_passes p (x ∷ xs) = rw (take_while-cons p x xs) (passes_with p x (take_while p xs) (take_while_passes p xs) (p x) refl)

-- tests of one byte
name_is_no_space : (b : ℕ) → begins_name b ≡ true → is_space b ≡ false
name_is_no_space b h = grind (arith, nat_tests)

digit_is_no_space : (b : ℕ) → is_digit b ≡ true → is_space b ≡ false
digit_is_no_space b h = grind (arith, nat_tests)

digit_begins_no_name : (b : ℕ) → is_digit b ≡ true → begins_name b ≡ false
digit_begins_no_name b h = grind (arith, nat_tests)

lower_begins : (b : ℕ) → begins_name b ≡ true → begins_name (to_ascii_lowercase b) ≡ true
lower_begins b h = grind (arith, nat_tests)

lower_goes_on : (b : ℕ) → is_name_byte b ≡ true → is_name_byte (to_ascii_lowercase b) ≡ true
lower_goes_on b h = grind (arith, nat_tests)

-- a token begins at each byte that is no white space
pub one_token : (at b : ℕ) (bs : List ℕ) → is_space b ≡ false
    → map symbol_of (tokens_from 0 at (b ∷ bs)) ≡ (token_at b bs).symbol ∷ map symbol_of (tokens_from ((token_at b bs).bytes - 1) (at + 1) bs)
unfolding tokens_from
one_token at b bs e = ap (λ v. map symbol_of (if v then tokens_from zero (at + 1) bs else record { symbol = (token_at b bs).symbol; at = at } ∷ tokens_from ((token_at b bs).bytes - 1) (at + 1) bs)) e

-- a token that takes the bytes before a space
token_before_space : (b : ℕ) (w rest : List ℕ) (symbol : Symbol) → is_space b ≡ false → token_at b (w ++ 32 ∷ rest) ≡ read symbol (suc (length w))
    → map symbol_of (tokens_from 0 0 (b ∷ (w ++ 32 ∷ rest))) ≡ symbol ∷ symbols rest
token_before_space b w rest symbol no_space token =
    let less : suc (length w) - 1 ≡ length w = omega arith in
    let bytes : (token_at b (w ++ 32 ∷ rest)).bytes - 1 ≡ length w = ap (λ (r : Read). r.bytes - 1) token ∙ less in
    one_token 0 b (w ++ 32 ∷ rest) no_space
    ∙ (ap (λ (r : Read). r.symbol ∷ map symbol_of (tokens_from ((token_at b (w ++ 32 ∷ rest)).bytes - 1) (0 + 1) (w ++ 32 ∷ rest))) token
    ∙ (ap (λ left. symbol ∷ map symbol_of (tokens_from left (0 + 1) (w ++ 32 ∷ rest))) bytes
    ∙ ap (λ (xs : List Symbol). symbol ∷ xs) (kinds_after w (0 + 1) 0 (32 ∷ rest) ∙ after_space 0 rest)))

taken : {A : Type 0} (test : Bool) (x y z : A) → test ≡ true → x ≡ z → (if test then x else y) ≡ z
taken test x y z e same = ap (λ v. if v then x else y) e ∙ same

passed : {A : Type 0} (test : Bool) (x y z : A) → test ≡ false → y ≡ z → (if test then x else y) ≡ z
passed test x y z e same = ap (λ v. if v then x else y) e ∙ same

word_token : (b : ℕ) (w rest : List ℕ) → begins_name b ≡ true → list_all is_name_byte (b ∷ w) ≡ true
    → token_at b (w ++ 32 ∷ rest) ≡ read (symbol_of_word (in_lower_case (b ∷ w))) (suc (length w))
word_token b w rest begins goes = taken _ _ _ _ begins (ap word_at (take_while_all is_name_byte (b ∷ w) 32 rest goes refl))

digits_token : (b : ℕ) (w rest : List ℕ) → list_all is_digit (b ∷ w) ≡ true → token_at b (w ++ 32 ∷ rest) ≡ read (Digits (b ∷ w)) (suc (length w))
digits_token b w rest goes =
    let both = and_parts (is_digit b) (list_all is_digit w) goes in
    passed _ _ _ _ (digit_begins_no_name b both.0) (taken _ _ _ _ both.0 (ap digits_at (take_while_all is_digit (b ∷ w) 32 rest goes refl)))

-- a literal's value and its bytes, from the places after its opening quote
literal_step : (v : ℕ) (quote : Bool) → (v == 39) ≡ quote → is_printable v ≡ true → (value : List ℕ) (count : ℕ) (text : List ℕ)
    → quoted_from false value count ((if quote then 39 ∷ 39 ∷ [] else v ∷ []) ++ text)
    ≡ quoted_from false (value ++ v ∷ []) (count + length (if quote then 39 ∷ 39 ∷ [] else v ∷ [])) text
unfolding quoted_from
literal_step v true e p value count text =
    let more : count + 1 + 1 ≡ count + 2 = omega arith in
    let same : 39 ≡ v = sym (eqb-true v 39 e) in
    ap (λ n. quoted_from false (value ++ 39 ∷ []) n text) more ∙ ap (λ c. quoted_from false (value ++ c ∷ []) (count + 2) text) same
literal_step v false e p value count text = passed _ _ _ _ e (taken _ _ _ _ p refl)

literal_reads : (vs value : List ℕ) (count : ℕ) (rest : List ℕ) → list_all is_printable vs ≡ true
    → quoted_from false value count (flat_map inside_literal vs ++ (39 ∷ (32 ∷ rest))) ≡ read (Quoted (value ++ vs)) (count + length (flat_map inside_literal vs ++ 39 ∷ []))
unfolding quoted_from
literal_reads [] value count rest all = ap (λ (xs : List ℕ). read (Quoted xs) (count + 1)) (sym (append-nil value))
literal_reads (v ∷ vs) value count rest all =
    let both = and_parts (is_printable v) (list_all is_printable vs) all in
    let grouped : (inside_literal v ++ flat_map inside_literal vs) ++ 39 ∷ (32 ∷ rest) ≡ inside_literal v ++ (flat_map inside_literal vs ++ 39 ∷ (32 ∷ rest)) = append_assoc (inside_literal v) (flat_map inside_literal vs) (39 ∷ (32 ∷ rest)) in
    let counted : count + length (inside_literal v) + length (flat_map inside_literal vs ++ 39 ∷ []) ≡ count + length ((inside_literal v ++ flat_map inside_literal vs) ++ 39 ∷ [])
    = simp length-append (omega arith) in
    ap (quoted_from false value count) grouped
    ∙ (literal_step v (v == 39) refl both.0 value count (flat_map inside_literal vs ++ 39 ∷ (32 ∷ rest))
    ∙ (literal_reads vs (value ++ v ∷ []) (count + length (inside_literal v)) rest both.1
    ∙ (ap (λ (xs : List ℕ). read (Quoted xs) (count + length (inside_literal v) + length (flat_map inside_literal vs ++ 39 ∷ []))) (append_assoc value (v ∷ []) vs)
    ∙ ap (λ n. read (Quoted (value ++ v ∷ vs)) n) counted)))

literal_token : (value rest : List ℕ) → list_all is_printable value ≡ true
    → token_at 39 ((flat_map inside_literal value ++ 39 ∷ []) ++ 32 ∷ rest) ≡ read (Quoted value) (suc (length (flat_map inside_literal value ++ 39 ∷ [])))
literal_token value rest all =
    let one_more : 1 + length (flat_map inside_literal value ++ 39 ∷ []) ≡ suc (length (flat_map inside_literal value ++ 39 ∷ [])) = omega arith in
    ap (quoted_from false [] 1) (append_assoc (flat_map inside_literal value) (39 ∷ []) (32 ∷ rest)) ∙ (literal_reads value [] 1 rest all ∙ ap (λ n. read (Quoted value) n) one_more)

-- a word that is not reserved is a name
symbol_if_free : (word : List ℕ) (keyword : Option Keyword) (among : Bool) → (not (is_none keyword) || among) ≡ false
    → option_map_or Word keyword (if among then Reserved else Name word) ≡ Name word
symbol_if_free word None false e = refl
symbol_if_free word None true e = cc
symbol_if_free word (Some keyword) among e = cc

name_reads : (b : ℕ) (w rest : List ℕ) → is_name (b ∷ w) ≡ true → symbols ((b ∷ w) ++ 32 ∷ rest) ≡ Name (b ∷ w) ∷ symbols rest
unfolding is_name
name_reads b w rest e =
    let free = and_parts _ (not (is_reserved (b ∷ w))) e in
    let lower = and_parts _ (bytes_eq (in_lower_case (b ∷ w)) (b ∷ w)) free.0 in
    let begins = and_parts (begins_name b) (list_all is_name_byte (b ∷ w)) lower.0 in
    let same : in_lower_case (b ∷ w) ≡ b ∷ w = (bytes_eq-Decides (in_lower_case (b ∷ w)) (b ∷ w)).0 lower.1 in
    let named : symbol_of_word (in_lower_case (b ∷ w)) ≡ Name (b ∷ w) =
    ap symbol_of_word same ∙ symbol_if_free (b ∷ w) (keyword_of (b ∷ w)) (list_any (bytes_eq (b ∷ w)) other_reserved) (not-true _ free.1) in
    token_before_space b w rest (Name (b ∷ w)) (name_is_no_space b begins.0)
    (word_token b w rest begins.0 begins.1 ∙ ap (λ (s : Symbol). read s (suc (length w))) named)

number_reads : (b : ℕ) (w rest : List ℕ) → list_all is_digit (b ∷ w) ≡ true → symbols ((b ∷ w) ++ 32 ∷ rest) ≡ Digits (b ∷ w) ∷ symbols rest
number_reads b w rest e =
    token_before_space b w rest (Digits (b ∷ w)) (digit_is_no_space b ((and_parts (is_digit b) (list_all is_digit w) e).0)) (digits_token b w rest e)

keyword_reads : (keyword : Keyword) (rest : List ℕ) → symbols (keyword_text keyword ++ 32 ∷ rest) ≡ Word keyword ∷ symbols rest
keyword_reads AndWord rest = token_before_space 97 (codes "nd") rest (Word AndWord) refl refl
keyword_reads BetweenWord rest = token_before_space 98 (codes "etween") rest (Word BetweenWord) refl refl
keyword_reads CharWord rest = token_before_space 99 (codes "har") rest (Word CharWord) refl refl
keyword_reads CreateWord rest = token_before_space 99 (codes "reate") rest (Word CreateWord) refl refl
keyword_reads FromWord rest = token_before_space 102 (codes "rom") rest (Word FromWord) refl refl
keyword_reads HiddenWord rest = token_before_space 104 (codes "idden") rest (Word HiddenWord) refl refl
keyword_reads InWord rest = token_before_space 105 (codes "n") rest (Word InWord) refl refl
keyword_reads IntegerWord rest = token_before_space 105 (codes "nteger") rest (Word IntegerWord) refl refl
keyword_reads IsWord rest = token_before_space 105 (codes "s") rest (Word IsWord) refl refl
keyword_reads NotWord rest = token_before_space 110 (codes "ot") rest (Word NotWord) refl refl
keyword_reads NullWord rest = token_before_space 110 (codes "ull") rest (Word NullWord) refl refl
keyword_reads OrWord rest = token_before_space 111 (codes "r") rest (Word OrWord) refl refl
keyword_reads PrimaryKeyWord rest = token_before_space 107 (codes "ey") rest (Word PrimaryKeyWord) refl refl
keyword_reads PrimaryWord rest = token_before_space 112 (codes "rimary") rest (Word PrimaryWord) refl refl
keyword_reads ReferencesWord rest = token_before_space 114 (codes "eferences") rest (Word ReferencesWord) refl refl
keyword_reads SelectWord rest = token_before_space 115 (codes "elect") rest (Word SelectWord) refl refl
keyword_reads TableWord rest = token_before_space 116 (codes "able") rest (Word TableWord) refl refl
keyword_reads WhereWord rest = token_before_space 119 (codes "here") rest (Word WhereWord) refl refl

-- each spelled symbol is read as itself
symbol_reads : (symbol : Symbol) (rest : List ℕ) → is_spelled symbol ≡ true → symbols (symbol_text symbol ++ 32 ∷ rest) ≡ symbol ∷ symbols rest
unfolding is_name
symbol_reads (Word keyword) rest e = keyword_reads keyword rest
symbol_reads Reserved rest e = token_before_space 77 (codes "AX") rest Reserved refl refl
symbol_reads (Name []) rest e = cc
symbol_reads (Name (b ∷ w)) rest e = name_reads b w rest e
symbol_reads (Digits []) rest e = cc
symbol_reads (Digits (b ∷ w)) rest e = number_reads b w rest e
symbol_reads (Quoted value) rest e = token_before_space 39 (flat_map inside_literal value ++ 39 ∷ []) rest (Quoted value) refl (literal_token value rest e)
symbol_reads Open rest e = token_before_space 40 [] rest Open refl refl
symbol_reads Closing rest e = token_before_space 41 [] rest Closing refl refl
symbol_reads Comma rest e = token_before_space 44 [] rest Comma refl refl
symbol_reads Point rest e = token_before_space 46 [] rest Point refl refl
symbol_reads Semicolon rest e = token_before_space 59 [] rest Semicolon refl refl
symbol_reads Star rest e = token_before_space 42 [] rest Star refl refl
symbol_reads PlusSign rest e = token_before_space 43 [] rest PlusSign refl refl
symbol_reads MinusSign rest e = token_before_space 45 [] rest MinusSign refl refl
symbol_reads EqualSign rest e = token_before_space 61 [] rest EqualSign refl refl
symbol_reads UnequalSign rest e = token_before_space 60 (codes ">") rest UnequalSign refl refl
symbol_reads LessSign rest e = token_before_space 60 [] rest LessSign refl refl
symbol_reads AtMostSign rest e = token_before_space 60 (codes "=") rest AtMostSign refl refl
symbol_reads MoreSign rest e = token_before_space 62 [] rest MoreSign refl refl
symbol_reads AtLeastSign rest e = token_before_space 62 (codes "=") rest AtLeastSign refl refl
symbol_reads NoToken rest e = token_before_space 63 [] rest NoToken refl refl
symbol_reads EndOfText rest e = cc

pub spelled_text : (xs : List Symbol) → list_all is_spelled xs ≡ true → symbols (text_of xs) ≡ xs ++ EndOfText ∷ []
unfolding tokens_from
spelled_text [] e = refl
spelled_text (x ∷ xs) e =
    let both = and_parts (is_spelled x) (list_all is_spelled xs) e in
    let grouped : (symbol_text x ++ 32 ∷ []) ++ text_of xs ≡ symbol_text x ++ 32 ∷ text_of xs = append_assoc (symbol_text x) (32 ∷ []) (text_of xs) in
    ap symbols grouped ∙ (symbol_reads x (text_of xs) both.0 ∙ ap (λ (ys : List Symbol). x ∷ ys) (spelled_text xs both.1))

-- every token that is read is spelled
sign_spelled : (b : ℕ) → is_spelled (sign_of b) ≡ true
sign_spelled b = grind (arith, nat_tests)

word_spelled : (word : List ℕ) (keyword : Option Keyword) (among : Bool) → keyword_of word ≡ keyword → list_any (bytes_eq word) other_reserved ≡ among
    → begins_as_name word ≡ true → list_all is_name_byte word ≡ true → bytes_eq (in_lower_case word) word ≡ true
    → is_spelled (option_map_or Word keyword (if among then Reserved else Name word)) ≡ true
unfolding is_name
word_spelled word (Some keyword) among k a p q r = refl
word_spelled word None true k a p q r = refl
word_spelled word None false k a p q r =
    let free : not (is_reserved word) ≡ true = ap (λ o. not (not (is_none o) || list_any (bytes_eq word) other_reserved)) k ∙ ap not a in
    and_from _ _ (and_from _ _ (and_from _ _ p q) r) free

lower_all : (bytes : List ℕ) → list_all is_name_byte bytes ≡ true → list_all is_name_byte (in_lower_case bytes) ≡ true
lower_all [] e = refl
lower_all (b ∷ bs) e =
    let both = and_parts (is_name_byte b) (list_all is_name_byte bs) e in
    and_from _ _ (lower_goes_on b both.0) (lower_all bs both.1)

lower_twice : (bytes : List ℕ) → in_lower_case (in_lower_case bytes) ≡ in_lower_case bytes
lower_twice [] = refl
lower_twice (b ∷ bs) = ap (λ (x : ℕ). x ∷ in_lower_case (in_lower_case bs)) (lowercase-lowercase b) ∙ ap (λ (xs : List ℕ). to_ascii_lowercase b ∷ xs) (lower_twice bs)

word_at_spelled : (b : ℕ) (w : List ℕ) → begins_name b ≡ true → list_all is_name_byte (b ∷ w) ≡ true → is_spelled (symbol_of_word (in_lower_case (b ∷ w))) ≡ true
word_at_spelled b w begins all =
    let word = in_lower_case (b ∷ w) in
    word_spelled word (keyword_of word) (list_any (bytes_eq word) other_reserved) refl refl (lower_begins b begins) (lower_all (b ∷ w) all)
    ((bytes_eq-Decides (in_lower_case word) word).1 (lower_twice (b ∷ w)))

read_either : (test : Bool) (x y : Read) → (test ≡ true → is_spelled x.symbol ≡ true) → (test ≡ false → is_spelled y.symbol ≡ true)
    → is_spelled (if test then x else y).symbol ≡ true
read_either true x y p q = p refl
read_either false x y p q = q refl

one_printable : (b : ℕ) → (b == 39) ≡ true → is_printable b ≡ true
one_printable b e = grind (arith, nat_tests)

printable_more : (value : List ℕ) (b : ℕ) → list_all is_printable value ≡ true → is_printable b ≡ true → list_all is_printable (value ++ b ∷ []) ≡ true
printable_more value b all one = list_all-append is_printable value (b ∷ []) ∙ and_from _ _ all (and_from _ _ one refl)

quoted_spelled : (bs : List ℕ) (ended : Bool) (value : List ℕ) (count : ℕ) → list_all is_printable value ≡ true
    → is_spelled (quoted_from ended value count bs).symbol ≡ true
unfolding quoted_from
quoted_spelled [] true value count all = all
quoted_spelled [] false value count all = refl
quoted_spelled (b ∷ bs) true value count all =
    read_either (b == 39) _ _ (λ e. quoted_spelled bs false (value ++ b ∷ []) (count + 1) (printable_more value b all (one_printable b e))) (λ _. all)
quoted_spelled (b ∷ bs) false value count all =
    read_either (b == 39) _ _ (λ e. quoted_spelled bs true value (count + 1) all)
    (λ _. read_either (is_printable b) _ _ (λ e. quoted_spelled bs false (value ++ b ∷ []) (count + 1) (printable_more value b all e)) (λ _. refl))

less_spelled : (bs : List ℕ) → is_spelled (less_and bs).symbol ≡ true
less_spelled [] = refl
less_spelled (b ∷ bs) = read_either (b == 61) _ _ (λ _. refl) (λ _. read_either (b == 62) _ _ (λ _. refl) (λ _. refl))

more_spelled : (bs : List ℕ) → is_spelled (more_and bs).symbol ≡ true
more_spelled [] = refl
more_spelled (b ∷ bs) = read_either (b == 61) _ _ (λ _. refl) (λ _. refl)

taken_first : (p : ℕ → Bool) (b : ℕ) (bs : List ℕ) → p b ≡ true → take_while p (b ∷ bs) ≡ b ∷ take_while p bs
taken_first p b bs e = take_while-cons p b bs ∙ ap (λ v. cond v (b ∷ take_while p bs) []) e

token_spelled : (b : ℕ) (bs : List ℕ) → is_spelled (token_at b bs).symbol ≡ true
token_spelled b bs =
    read_either (begins_name b) _ _
    (λ e. let named : is_name_byte b ≡ true = ap (λ v. v || is_digit b) e in
    ap (λ (w : List ℕ). is_spelled (word_at w).symbol) (taken_first is_name_byte b bs named)
    ∙ word_at_spelled b (take_while is_name_byte bs) e (and_from _ _ named (take_while_passes is_name_byte bs)))
    (λ _. read_either (is_digit b) _ _
    (λ e. ap (λ (w : List ℕ). is_spelled (digits_at w).symbol) (taken_first is_digit b bs e) ∙ and_from _ _ e (take_while_passes is_digit bs))
    (λ _. read_either (b == 39) _ _ (λ _. quoted_spelled bs false [] 1 refl)
    (λ _. read_either (b == 60) _ _ (λ _. less_spelled bs)
    (λ _. read_either (b == 62) _ _ (λ _. more_spelled bs) (λ _. sign_spelled b)))))

-- spelled symbols and then the end
record IsEnded (xs before : List Symbol) : Type 0 where
  whole : xs ≡ before ++ EndOfText ∷ []
  spelled : list_all is_spelled before ≡ true

ended_from : (left at : ℕ) (text : List ℕ) → (before : List Symbol) × IsEnded (map symbol_of (tokens_from left at text)) before
unfolding tokens_from
ended_from left at [] = ([], record { whole = refl; spelled = refl })
ended_from (suc left) at (c ∷ text) = ended_from left (at + 1) text
ended_from zero at (c ∷ text) =
    let later = ended_from ((token_at c text).bytes - 1) (at + 1) text in
    let spaced = ended_from zero (at + 1) text in
    elim (is_space c) as (λ v. (before : List Symbol) × IsEnded (map symbol_of (if v then tokens_from zero (at + 1) text else record { symbol = (token_at c text).symbol; at = at } ∷ tokens_from ((token_at c text).bytes - 1) (at + 1) text)) before) [
      | true ↦ spaced
      | false ↦ (
        (token_at c text).symbol ∷ later.0,
        record {
          whole = ap (λ (xs : List Symbol). (token_at c text).symbol ∷ xs) later.1.whole;
          spelled = and_from _ _ (token_spelled c text) later.1.spelled;
        },
      )
    ]

pub before_end : (text : List ℕ) → (before : List Symbol) × IsBeforeEnd text before
before_end text = let found = ended_from 0 0 text in (found.0, record { whole = found.1.whole; spelled = found.1.spelled })
