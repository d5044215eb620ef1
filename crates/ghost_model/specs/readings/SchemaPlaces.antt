-- The places between the tokens of a text that declares tables. At each place stands what was read so far; `schema_before`
-- are the symbols that were read, and `schema_step` says where a symbol leads, or that no text has it there. So the grammar
-- can be read from left to right: `schema_syntax_of` answers the tree of a text, or the offset of the first token that leads
-- nowhere. Nothing in this module need be believed: the law SchemaPlacesAreExact (function `schema_places_are_exact`)
-- makes `schema_syntax_of` the tree which the text spells and the fault that the grammar gives it.
use Rattle.std.specs.Prelude.{ℕ, Bool, true, false, List, [], ◌∷◌, ◌++◌, flat_map, codes, bytes_eq, Option, Some, None, option_map, Result, Ok, Err, if◌then◌else◌}
use Rattle.ghost_model.specs.refusals.Tokens.{Symbol, Token, Word, Name, Digits, Open, Closing, Comma, Semicolon, EndOfText, CharWord, CreateWord, HiddenWord, IntegerWord, NullWord, PrimaryKeyWord, PrimaryWord, ReferencesWord, TableWord, tokens}
use Rattle.ghost_model.specs.readings.Begun.{begun}
use Rattle.ghost_model.specs.refusals.SchemaGrammar.{Reference, To, ColumnDeclaration, CharColumn, IntegerColumn, NullableColumn, TableText, SchemaText, spell_if, spell_declaration, spell_heading, spell_declared_table, schema_spelling}

-- within a column. A column that may stand as it is is `WholeColumn`, also where more may follow
pub data InColumn : Type 0 where
  Named AfterChar AfterOpen : (name : List ℕ) → InColumn
  AfterLength : (name digits : List ℕ) → InColumn
  AfterPrimary : (name : List ℕ) → InColumn
  AfterReferences : (name : List ℕ) (primary : Bool) → InColumn
  OpensId AfterId : (name : List ℕ) (primary : Bool) (table : List ℕ) → InColumn
  WholeColumn : ColumnDeclaration → InColumn

-- within a text: the tables before, then within one table its name and the columns that have a comma after them
pub data SchemaPlace : Type 0 where
  Between AfterCreate AfterTable : SchemaText → SchemaPlace
  AfterName : SchemaText → (name : List ℕ) → SchemaPlace
  WantsDeclaration : SchemaText → (name : List ℕ) (columns : List ColumnDeclaration) → SchemaPlace
  Within : SchemaText → (name : List ℕ) (columns : List ColumnDeclaration) (last : InColumn) → SchemaPlace
  AfterColumns : SchemaText → (name : List ℕ) (columns : List ColumnDeclaration) (last : ColumnDeclaration) → SchemaPlace
  Ended : SchemaText → SchemaPlace

-- the symbols of a column that were read
abbrev pub before_in : InColumn → List Symbol
before_in (Named name) = Name name ∷ []
before_in (AfterChar name) = Name name ∷ Word CharWord ∷ []
before_in (AfterOpen name) = Name name ∷ Word CharWord ∷ Open ∷ []
before_in (AfterLength name digits) = Name name ∷ Word CharWord ∷ Open ∷ Digits digits ∷ []
before_in (AfterPrimary name) = Name name ∷ Word IntegerWord ∷ Word PrimaryWord ∷ []
before_in (AfterReferences name primary) = Name name ∷ Word IntegerWord ∷ (spell_if primary (Word PrimaryWord ∷ Word PrimaryKeyWord ∷ []) ++ Word ReferencesWord ∷ [])
before_in (OpensId name primary table) =
    Name name ∷ Word IntegerWord ∷ (spell_if primary (Word PrimaryWord ∷ Word PrimaryKeyWord ∷ []) ++ Word ReferencesWord ∷ Name table ∷ Open ∷ [])
before_in (AfterId name primary table) =
    Name name ∷ Word IntegerWord ∷ (spell_if primary (Word PrimaryWord ∷ Word PrimaryKeyWord ∷ []) ++ Word ReferencesWord ∷ Name table ∷ Open ∷ Name (codes "id") ∷ [])
before_in (WholeColumn column) = spell_declaration column

-- the symbols that were read
abbrev pub schema_before : SchemaPlace → List Symbol
schema_before (Between tables) = flat_map spell_declared_table tables
schema_before (AfterCreate tables) = flat_map spell_declared_table tables ++ Word CreateWord ∷ []
schema_before (AfterTable tables) = flat_map spell_declared_table tables ++ Word CreateWord ∷ Word TableWord ∷ []
schema_before (AfterName tables name) = flat_map spell_declared_table tables ++ Word CreateWord ∷ Word TableWord ∷ Name name ∷ []
schema_before (WantsDeclaration tables name columns) =
    flat_map spell_declared_table tables ++ (spell_heading name ++ begun Comma spell_declaration columns)
schema_before (Within tables name columns last) =
    flat_map spell_declared_table tables ++ (spell_heading name ++ (begun Comma spell_declaration columns ++ before_in last))
schema_before (AfterColumns tables name columns last) =
    flat_map spell_declared_table tables
    ++ (spell_heading name ++ (begun Comma spell_declaration columns ++ (spell_declaration last ++ Closing ∷ [])))
schema_before (Ended tables) = schema_spelling tables

-- a table from the columns that have a comma after them and the last one
abbrev pub table_from : (name : List ℕ) (columns : List ColumnDeclaration) (last : ColumnDeclaration) → TableText
table_from name [] last = record { name = name; first = last; others = [] }
table_from name (first ∷ columns) last = record { name = name; first = first; others = columns ++ last ∷ [] }

-- where a symbol leads after INTEGER and what was written after it
abbrev pub after_integer : (name : List ℕ) (primary : Bool) → Option Reference → Symbol → Option InColumn
after_integer name primary reference (Word HiddenWord) = Some (WholeColumn (IntegerColumn name primary reference true))
after_integer name primary None (Word ReferencesWord) = Some (AfterReferences name primary)
after_integer name false None (Word PrimaryWord) = Some (AfterPrimary name)
after_integer name false None (Word NullWord) = Some (WholeColumn (NullableColumn name false))
after_integer name primary (Some (To table false)) Open = Some (OpensId name primary table)
after_integer _ _ _ _ = None

-- where a symbol leads after what may stand as a column
abbrev pub after_column : ColumnDeclaration → Symbol → Option InColumn
after_column (CharColumn name digits nullable false) (Word HiddenWord) = Some (WholeColumn (CharColumn name digits nullable true))
after_column (CharColumn name digits false false) (Word NullWord) = Some (WholeColumn (CharColumn name digits true false))
after_column (NullableColumn name false) (Word HiddenWord) = Some (WholeColumn (NullableColumn name true))
after_column (IntegerColumn name primary reference false) symbol = after_integer name primary reference symbol
after_column _ _ = None

-- the name in the parenthesis after REFERENCES is `id`
abbrev pub after_parenthesis : (name : List ℕ) (primary : Bool) (table inside : List ℕ) → Option InColumn
after_parenthesis name primary table inside =
    if bytes_eq inside (codes "id") then Some (AfterId name primary table) else None

abbrev pub step_in : InColumn → Symbol → Option InColumn
step_in (Named name) (Word CharWord) = Some (AfterChar name)
step_in (Named name) (Word IntegerWord) = Some (WholeColumn (IntegerColumn name false None false))
step_in (AfterChar name) Open = Some (AfterOpen name)
step_in (AfterOpen name) (Digits digits) = Some (AfterLength name digits)
step_in (AfterLength name digits) Closing = Some (WholeColumn (CharColumn name digits false false))
step_in (AfterPrimary name) (Word PrimaryKeyWord) = Some (WholeColumn (IntegerColumn name true None false))
step_in (AfterReferences name primary) (Name table) =
    Some (WholeColumn (IntegerColumn name primary (Some (To table false)) false))
step_in (OpensId name primary table) (Name inside) = after_parenthesis name primary table inside
step_in (AfterId name primary table) Closing = Some (WholeColumn (IntegerColumn name primary (Some (To table true)) false))
step_in (WholeColumn column) symbol = after_column column symbol
step_in _ _ = None

-- where a symbol leads within the columns of a table: another column, the end of the columns, or on in the column
abbrev pub step_within :
    SchemaText → (name : List ℕ) (columns : List ColumnDeclaration) (last : InColumn) → Symbol → Option SchemaPlace
step_within tables name columns (WholeColumn last) Comma = Some (WantsDeclaration tables name (columns ++ last ∷ []))
step_within tables name columns (WholeColumn last) Closing = Some (AfterColumns tables name columns last)
step_within tables name columns last symbol = option_map (Within tables name columns) (step_in last symbol)

abbrev pub schema_step : SchemaPlace → Symbol → Option SchemaPlace
schema_step (Between tables) (Word CreateWord) = Some (AfterCreate tables)
schema_step (Between tables) EndOfText = Some (Ended tables)
schema_step (AfterCreate tables) (Word TableWord) = Some (AfterTable tables)
schema_step (AfterTable tables) (Name name) = Some (AfterName tables name)
schema_step (AfterName tables name) Open = Some (WantsDeclaration tables name [])
schema_step (WantsDeclaration tables name columns) (Name column) = Some (Within tables name columns (Named column))
schema_step (Within tables name columns last) symbol = step_within tables name columns last symbol
schema_step (AfterColumns tables name columns last) Semicolon = Some (Between (tables ++ table_from name columns last ∷ []))
schema_step _ _ = None

-- the tree of a text that was read to its end; the end is the last token of each text
abbrev pub tree_at : SchemaPlace → (at : ℕ) → Result SchemaText ℕ
tree_at (Ended tables) at = Ok tables
tree_at _ at = Err at

-- from a place on, or from the token at offset `at`, which led nowhere
unfoldable pub syntax_from : Option SchemaPlace → (at : ℕ) → List Token → Result SchemaText ℕ
syntax_from None at later = Err at
syntax_from (Some place) at [] = tree_at place at
syntax_from (Some place) at (token ∷ later) = syntax_from (schema_step place token.symbol) token.at later

-- the tree of a text, or the offset of its fault
abbrev pub schema_syntax_of : List ℕ → Result SchemaText ℕ
schema_syntax_of text = syntax_from (Some (Between [])) 0 (tokens text)
