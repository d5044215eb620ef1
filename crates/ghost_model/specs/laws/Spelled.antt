-- The lists of symbols that bytes can spell, and a text for each. Every symbol but EndOfText stands in some text, with these
-- limits: a name is a word in lower case that is not reserved, a number has a digit, a text literal has characters of a
-- text. Written out one after another with a space after each, such symbols are a text with exactly these tokens; and
-- the tokens of every text are such symbols and then its end.
use Rattle.std.specs.Prelude.{◌≡◌, ℕ, Bool, true, false, not, ◌&&◌, ◌||◌, ◌==◌, List, [], ◌∷◌, ◌++◌, flat_map, if◌then◌else◌, codes, bytes_eq, is_none}
use Rattle.std.specs.List.{list_any, list_all}
use Rattle.ghost_model.specs.refusals.Tokens.{Symbol, Word, Reserved, Name, Digits, Quoted, Open, Closing, Comma, Point, Semicolon, Star, PlusSign, MinusSign, EqualSign, UnequalSign, LessSign, AtMostSign, MoreSign, AtLeastSign, NoToken, EndOfText, begins_name, is_name_byte, is_numeral, is_printable, in_lower_case, Keyword, AndWord, BetweenWord, CharWord, CreateWord, FromWord, HiddenWord, InWord, IntegerWord, IsWord, NotWord, NullWord, OrWord, PrimaryKeyWord, PrimaryWord, ReferencesWord, SelectWord, TableWord, WhereWord, keyword_of, other_reserved, symbols}

abbrev pub begins_as_name : List ℕ → Bool
begins_as_name [] = false
begins_as_name (b ∷ _) = begins_name b

abbrev pub is_reserved : List ℕ → Bool
is_reserved word = not (is_none (keyword_of word)) || list_any (bytes_eq word) other_reserved

-- a name in lower case
unfoldable pub is_name : List ℕ → Bool
is_name word =
    begins_as_name word && list_all is_name_byte word && bytes_eq (in_lower_case word) word && not (is_reserved word)

-- the symbols that bytes can spell
abbrev pub is_spelled : Symbol → Bool
is_spelled (Name word) = is_name word
is_spelled (Digits digits) = is_numeral digits
is_spelled (Quoted value) = list_all is_printable value
is_spelled EndOfText = false
is_spelled _ = true

-- a character inside a literal: `'` stands twice
abbrev pub inside_literal : ℕ → List ℕ
inside_literal byte = if byte == 39 then 39 ∷ 39 ∷ [] else byte ∷ []

-- the word of each keyword, in lower case
abbrev pub keyword_text : Keyword → List ℕ
keyword_text AndWord = codes "and"
keyword_text BetweenWord = codes "between"
keyword_text CharWord = codes "char"
keyword_text CreateWord = codes "create"
keyword_text FromWord = codes "from"
keyword_text HiddenWord = codes "hidden"
keyword_text InWord = codes "in"
keyword_text IntegerWord = codes "integer"
keyword_text IsWord = codes "is"
keyword_text NotWord = codes "not"
keyword_text NullWord = codes "null"
keyword_text OrWord = codes "or"
keyword_text PrimaryKeyWord = codes "key"
keyword_text PrimaryWord = codes "primary"
keyword_text ReferencesWord = codes "references"
keyword_text SelectWord = codes "select"
keyword_text TableWord = codes "table"
keyword_text WhereWord = codes "where"

-- a symbol as it is written; one of several writings, where there are several
abbrev pub symbol_text : Symbol → List ℕ
symbol_text (Word keyword) = keyword_text keyword
symbol_text Reserved = codes "MAX"
symbol_text (Name word) = word
symbol_text (Digits digits) = digits
symbol_text (Quoted value) = 39 ∷ (flat_map inside_literal value ++ 39 ∷ [])
symbol_text Open = codes "("
symbol_text Closing = codes ")"
symbol_text Comma = codes ","
symbol_text Point = codes "."
symbol_text Semicolon = codes ";"
symbol_text Star = codes "*"
symbol_text PlusSign = codes "+"
symbol_text MinusSign = codes "-"
symbol_text EqualSign = codes "="
symbol_text UnequalSign = codes "<>"
symbol_text LessSign = codes "<"
symbol_text AtMostSign = codes "<="
symbol_text MoreSign = codes ">"
symbol_text AtLeastSign = codes ">="
symbol_text NoToken = codes "?"
symbol_text EndOfText = []

-- a text of these symbols
abbrev pub text_of : List Symbol → List ℕ
text_of xs = flat_map (λ symbol. symbol_text symbol ++ 32 ∷ []) xs

-- the symbols of a text before its end
pub record IsBeforeEnd (text : List ℕ) (before : List Symbol) : Type 0 where
  pub whole : symbols text ≡ before ++ EndOfText ∷ []
  pub spelled : list_all is_spelled before ≡ true

-- the tokens of texts are the spelled symbols, any of them in any order, and then the end
pub record TokensAreSpelled : Type 0 where
  pub each_list_has_a_text : (xs : List Symbol) → list_all is_spelled xs ≡ true → symbols (text_of xs) ≡ xs ++ EndOfText ∷ []
  pub each_text_has_a_list : (text : List ℕ) → (before : List Symbol) × IsBeforeEnd text before
