-- The tokens of a text, of schemas and of queries alike. White space (0x20, 0x09, 0x0A, 0x0D) may stand between
-- tokens. The longest token is read: a name is a letter or `_` and then letters, digits and `_` as far as they go, a
-- number digits as far as they go, `<=`, `>=` and `<>` come before `<` and `>`. Words are compared without case, and
-- the reserved ones are no names. A text literal is one token: `'`, characters 0x20 to 0x7E with `''` for one `'`, and
-- a last `'`. A byte that begins no token, and a `'` whose literal has another byte in it or no end, are a bad token,
-- which no text of a grammar has. The list ends with the end of the text, so that each fault has its place.
use Rattle.std.specs.Prelude.{ℕ, zero, suc, ◌+◌, ◌-◌, Bool, true, false, ◌&&◌, ◌||◌, ◌==◌, nat_le, List, [], ◌∷◌, ◌++◌, length, map, take_while, if◌then◌else◌, codes, bytes_eq, Option, Some, find, slice_get, option_map, ◌*◌, fold}
use Rattle.std.specs.List.{list_any, list_all}
use Rattle.std.specs.Option.{option_map_or}
use Rattle.std.specs.Char.{to_ascii_lowercase}

-- the reserved words that the grammars use; INT is another spelling of INTEGER
pub data Keyword : Type 0 where
  AndWord BetweenWord CharWord CreateWord FromWord HiddenWord InWord IntegerWord IsWord NotWord NullWord OrWord : Keyword
  PrimaryKeyWord PrimaryWord ReferencesWord SelectWord TableWord WhereWord : Keyword

-- a token without its place: a name in lower case, a number by its digits, a literal by its value, `''` being one `'`
pub data Symbol : Type 0 where
  Word : Keyword → Symbol
  Reserved : Symbol
  Name Digits Quoted : List ℕ → Symbol
  Open Closing Comma Point Semicolon Star PlusSign MinusSign : Symbol
  EqualSign UnequalSign LessSign AtMostSign MoreSign AtLeastSign : Symbol
  NoToken EndOfText : Symbol

pub record Token : Type 0 where
  pub symbol : Symbol
  pub at : ℕ

abbrev pub is_between : ℕ → ℕ → ℕ → Bool
is_between low high byte = nat_le low byte && nat_le byte high

abbrev pub is_space : ℕ → Bool
is_space byte = byte == 32 || byte == 9 || byte == 10 || byte == 13

abbrev pub is_digit : ℕ → Bool
is_digit byte = is_between 48 57 byte

abbrev pub is_numeral : List ℕ → Bool
is_numeral [] = false
is_numeral (digit ∷ digits) = list_all is_digit (digit ∷ digits)

-- the number that decimal digits write, of any length
abbrev pub number_of : List ℕ → ℕ
number_of digits = fold (λ number digit. number * 10 + (digit - 48)) 0 digits

-- a letter or `_`
abbrev pub begins_name : ℕ → Bool
begins_name byte = is_between 97 122 byte || is_between 65 90 byte || byte == 95

abbrev pub is_name_byte : ℕ → Bool
is_name_byte byte = begins_name byte || is_digit byte

-- a character of a text: 0x20 to 0x7E
abbrev pub is_printable : ℕ → Bool
is_printable byte = is_between 32 126 byte

abbrev pub in_lower_case : List ℕ → List ℕ
in_lower_case bytes = map to_ascii_lowercase bytes

abbrev pub keywords : List (Keyword × List ℕ)
keywords =
    (AndWord, codes "and") ∷ (BetweenWord, codes "between") ∷ (CharWord, codes "char") ∷ (CreateWord, codes "create")
    ∷ (FromWord, codes "from") ∷ (HiddenWord, codes "hidden") ∷ (InWord, codes "in") ∷ (IntegerWord, codes "integer") ∷ (IsWord, codes "is")
    ∷ (PrimaryKeyWord, codes "key") ∷ (NotWord, codes "not") ∷ (NullWord, codes "null") ∷ (OrWord, codes "or") ∷ (PrimaryWord, codes "primary") ∷ (ReferencesWord, codes "references") ∷ (SelectWord, codes "select")
    ∷ (TableWord, codes "table") ∷ (WhereWord, codes "where") ∷ []

-- the keyword that a word in lower case is; INT is INTEGER too
abbrev pub keyword_of : List ℕ → Option Keyword
keyword_of word =
    if bytes_eq word (codes "int") then Some IntegerWord
    else option_map (λ keyword. keyword.0) (find (λ keyword. bytes_eq word keyword.1) keywords)

-- the reserved words that the grammars do not use yet
abbrev pub other_reserved : List (List ℕ)
other_reserved =
    codes "by" ∷ codes "count" ∷ codes "group" ∷ codes "max" ∷ codes "min" ∷ codes "sum" ∷ []

-- what a word in lower case is: a keyword, another reserved word, or a name
abbrev pub symbol_of_word : List ℕ → Symbol
symbol_of_word word =
    option_map_or Word (keyword_of word) (if list_any (bytes_eq word) other_reserved then Reserved else Name word)

pub record Read : Type 0 where
  pub symbol : Symbol
  pub bytes : ℕ

abbrev pub read : Symbol → ℕ → Read
read symbol bytes = record { symbol = symbol; bytes = bytes }

-- a literal whose opening `'` was read. `ended`: the byte before was a `'`, which ends it where no second one follows
unfoldable pub quoted_from : (ended : Bool) (value : List ℕ) (count : ℕ) → List ℕ → Read
quoted_from true value count [] = read (Quoted value) count
quoted_from true value count (b ∷ bs) =
    if b == 39 then quoted_from false (value ++ b ∷ []) (count + 1) bs else read (Quoted value) count
quoted_from false value count [] = read NoToken 1
quoted_from false value count (b ∷ bs) =
    if b == 39 then quoted_from true value (count + 1) bs
    else if is_printable b then quoted_from false (value ++ b ∷ []) (count + 1) bs
    else read NoToken 1

-- `<` and what may follow it
abbrev pub less_and : List ℕ → Read
less_and [] = read LessSign 1
less_and (b ∷ _) = if b == 61 then read AtMostSign 2 else if b == 62 then read UnequalSign 2 else read LessSign 1

-- `>` and what may follow it
abbrev pub more_and : List ℕ → Read
more_and [] = read MoreSign 1
more_and (b ∷ _) = if b == 61 then read AtLeastSign 2 else read MoreSign 1

-- the symbol of a byte that is a token whatever follows it, or the bad one
abbrev pub sign_of : ℕ → Symbol
sign_of byte =
    if byte == 40 then Open
    else if byte == 41 then Closing
    else if byte == 44 then Comma
    else if byte == 46 then Point
    else if byte == 59 then Semicolon
    else if byte == 42 then Star
    else if byte == 43 then PlusSign
    else if byte == 45 then MinusSign
    else if byte == 61 then EqualSign
    else NoToken

abbrev pub word_at : List ℕ → Read
word_at word = read (symbol_of_word (in_lower_case word)) (length word)

abbrev pub digits_at : List ℕ → Read
digits_at digits = read (Digits digits) (length digits)

-- the token that begins with this byte, which is no white space, before these bytes
abbrev pub token_at : ℕ → List ℕ → Read
token_at b bs =
    if begins_name b then word_at (take_while is_name_byte (b ∷ bs))
    else if is_digit b then digits_at (take_while is_digit (b ∷ bs))
    else if b == 39 then quoted_from false [] 1 bs
    else if b == 60 then less_and bs
    else if b == 62 then more_and bs
    else read (sign_of b) 1

-- the tokens of a text from offset `at` on, of which the first `left` bytes belong to a token that stands before
unfoldable pub tokens_from : (left at : ℕ) → List ℕ → List Token
tokens_from left at [] = record { symbol = EndOfText; at = at } ∷ []
tokens_from (suc left) at (b ∷ bs) = tokens_from left (at + 1) bs
tokens_from zero at (b ∷ bs) =
    if is_space b then tokens_from zero (at + 1) bs
    else record { symbol = (token_at b bs).symbol; at = at } ∷ tokens_from ((token_at b bs).bytes - 1) (at + 1) bs

abbrev pub tokens : List ℕ → List Token
tokens text = tokens_from 0 0 text

abbrev pub symbol_of : Token → Symbol
symbol_of token = token.symbol

abbrev pub symbols : List ℕ → List Symbol
symbols text = map symbol_of (tokens text)

abbrev pub offset_of : List ℕ → ℕ → Option ℕ
offset_of text place = option_map (λ token. token.at) (slice_get (tokens text) place)
