-- The printed lines of texts over a database. A line of a row begins with `> ` and has its fields with one tab between
-- each two, an integer in decimal and NULL as an empty field; after the rows of text k comes `= k n`, n being their number. A
-- refused text has the one line `! k word`. Each line ends with a line feed, and the texts are numbered from 1.
use Rattle.std.specs.Prelude.{ℕ, ◌+◌, List, [], ◌∷◌, ◌++◌, length, map, codes, decimal, Result, Ok, Err}
use Rattle.std.specs.List.{concat, join_with_byte}
use Rattle.std.specs.Fmt.{signed_decimal}
use Rattle.ghost_model.specs.core.Schema.{Schema}
use Rattle.ghost_model.specs.core.Values.{Value, Null, Number, Text, Row, Database}
use Rattle.ghost_model.specs.core.Query.{Query}
use Rattle.ghost_model.specs.refusals.QueryMeaning.{Refusal, Syntax, Limit, UnknownTable, UnknownColumn, Ambiguous, KindMismatch, BadLiteral, NotLinked, MixedTables}
use Rattle.ghost_model.specs.readings.QueryReading.{reading}
use Rattle.ghost_model.specs.core.Meaning.{answer}

abbrev pub field_text : Value → List ℕ
field_text Null = []
field_text (Number number) = signed_decimal number
field_text (Text text) = text

abbrev pub row_line : Row → List ℕ
row_line row = codes "> " ++ (join_with_byte 9 (map field_text row) ++ 10 ∷ [])

-- the line after the rows of a text
abbrev pub count_line : (number rows : ℕ) → List ℕ
count_line number rows = codes "= " ++ (decimal number ++ 32 ∷ (decimal rows ++ 10 ∷ []))

-- the line of a text that was refused or met a fault
abbrev pub word_line : (number : ℕ) (word : List ℕ) → List ℕ
word_line number word = codes "! " ++ (decimal number ++ 32 ∷ (word ++ 10 ∷ []))

abbrev pub refusal_word : Refusal → List ℕ
refusal_word (Syntax at) = codes "syntax " ++ decimal at
refusal_word Limit = codes "limit"
refusal_word UnknownTable = codes "table"
refusal_word UnknownColumn = codes "column"
refusal_word Ambiguous = codes "ambiguous"
refusal_word KindMismatch = codes "kind"
refusal_word BadLiteral = codes "literal"
refusal_word NotLinked = codes "unlinked"
refusal_word MixedTables = codes "mixed"

abbrev pub refusal_line : (number : ℕ) → Refusal → List ℕ
refusal_line number refusal = word_line number (refusal_word refusal)

abbrev pub answer_lines : (number : ℕ) → List Row → List (List ℕ)
answer_lines number rows = map row_line rows ++ count_line number (length rows) ∷ []

-- the lines of a text, by what it means or why it is refused
abbrev pub lines_of_reading : Schema → Database → (number : ℕ) → Result Query Refusal → List (List ℕ)
lines_of_reading schema database number (Ok query) = answer_lines number (answer schema database query)
lines_of_reading schema database number (Err refusal) = refusal_line number refusal ∷ []

abbrev pub lines_of_text : Schema → Database → (number : ℕ) (text : List ℕ) → List (List ℕ)
lines_of_text schema database number text = lines_of_reading schema database number (reading schema text)

-- the lines of the texts, of which the first has this number
abbrev pub lines_from : Schema → Database → (number : ℕ) (texts : List (List ℕ)) → List (List ℕ)
lines_from schema database number [] = []
lines_from schema database number (text ∷ texts) =
    lines_of_text schema database number text ++ lines_from schema database (number + 1) texts

abbrev pub printed_lines : Schema → (texts : List (List ℕ)) → Database → List (List ℕ)
printed_lines schema texts database = lines_from schema database 1 texts

abbrev pub printed : Schema → (texts : List (List ℕ)) → Database → List ℕ
printed schema texts database = concat (printed_lines schema texts database)
