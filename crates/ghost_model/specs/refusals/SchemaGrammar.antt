-- The texts that declare tables. A text is any number of tables, each `CREATE TABLE name ( columns ) ;` with commas
-- between its columns, of which there is at least one. A column is a name with INTEGER or INT, or with CHAR and a
-- length in parentheses. After INTEGER may follow, in this order, either NULL, or PRIMARY KEY and then REFERENCES with a
-- table's name and perhaps `( id )`, and then HIDDEN; after CHAR and its length may follow NULL and then HIDDEN. What a text
-- declares is a tree, with whatever may be left out among it, and each tree is spelled in one way.
use Rattle.std.specs.Prelude.{ℕ, Bool, true, false, List, [], ◌∷◌, ◌++◌, flat_map, codes, Option, Some, None}
use Rattle.ghost_model.specs.refusals.Tokens.{Symbol, Word, Name, Digits, Open, Closing, Comma, Semicolon, EndOfText, CharWord, CreateWord, HiddenWord, IntegerWord, NullWord, PrimaryKeyWord, PrimaryWord, ReferencesWord, TableWord}
use Rattle.ghost_model.specs.refusals.Grammar.{separated}

-- REFERENCES: the name of a table, and whether `( id )` follows it
pub data Reference : Type 0 where
  To : (table : List ℕ) (says_id : Bool) → Reference

-- a column: the length of a CHAR stands by its digits; `nullable`, `primary` and `hidden` say whether the words are written. An
-- INTEGER with NULL is a `NullableColumn`
pub data ColumnDeclaration : Type 0 where
  CharColumn : (name digits : List ℕ) (nullable hidden : Bool) → ColumnDeclaration
  IntegerColumn : (name : List ℕ) (primary : Bool) (reference : Option Reference) (hidden : Bool) → ColumnDeclaration
  NullableColumn : (name : List ℕ) (hidden : Bool) → ColumnDeclaration

pub record TableText : Type 0 where
  pub name : List ℕ
  pub first : ColumnDeclaration
  pub others : List ColumnDeclaration

abbrev pub SchemaText : Type 0
SchemaText = List TableText

-- symbols that may be left out
abbrev pub spell_if : Bool → List Symbol → List Symbol
spell_if false symbols = []
spell_if true symbols = symbols

abbrev pub spell_reference : Option Reference → List Symbol
spell_reference None = []
spell_reference (Some (To table says_id)) = Word ReferencesWord ∷ Name table ∷ spell_if says_id (Open ∷ Name (codes "id") ∷ Closing ∷ [])

abbrev pub spell_declaration : ColumnDeclaration → List Symbol
spell_declaration (CharColumn name digits nullable hidden) =
    Name name ∷ Word CharWord ∷ Open ∷ Digits digits ∷ Closing ∷ (spell_if nullable (Word NullWord ∷ []) ++ spell_if hidden (Word HiddenWord ∷ []))
spell_declaration (IntegerColumn name primary reference hidden) =
    Name name ∷ Word IntegerWord ∷ (spell_if primary (Word PrimaryWord ∷ Word PrimaryKeyWord ∷ []) ++ (spell_reference reference ++ spell_if hidden (Word HiddenWord ∷ [])))
spell_declaration (NullableColumn name hidden) =
    Name name ∷ Word IntegerWord ∷ Word NullWord ∷ spell_if hidden (Word HiddenWord ∷ [])

abbrev pub spell_heading : List ℕ → List Symbol
spell_heading name = Word CreateWord ∷ Word TableWord ∷ Name name ∷ Open ∷ []

abbrev pub spell_declared_table : TableText → List Symbol
spell_declared_table table =
    spell_heading table.name ++ (separated Comma spell_declaration table.first table.others ++ Closing ∷ Semicolon ∷ [])

-- the symbols of a schema's text; a text of no table is one
abbrev pub schema_spelling : SchemaText → List Symbol
schema_spelling tables = flat_map spell_declared_table tables ++ EndOfText ∷ []
