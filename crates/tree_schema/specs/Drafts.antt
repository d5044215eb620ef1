-- The tables of a text as the code keeps them: names and digits by their bytes in the text, and of tables and columns
-- only as many as a schema may have. A table that has more, and a text that has more tables, is only known to break the
-- limits.
use Rattle.std.specs.Prelude.{◌≡◌, ℕ, ◌<◌, length, Bool, true, false, List, [], ◌∷◌, ◌++◌, map, Option, Some, None, Result, Ok, Err, option_map}
use Rattle.arrayvec.specs.ArrayVec.{ArrayVec}
use Rattle.ghost_model.specs.refusals.Tokens.{in_lower_case}
use Rattle.ghost_model.specs.refusals.SchemaGrammar as grammar
use Rattle.ghost_model.specs.readings.SchemaPlaces as places
use Rattle.ghost_model.specs.refusals.SchemaFaults.{is_table_over, is_over}
use Rattle.tree_schema.specs.declared.syntax.ReferenceDraft.{ReferenceDraft}
use Rattle.tree_schema.specs.declared.syntax.ColumnDraft.{ColumnDraft}
use Rattle.tree_schema.specs.declared.syntax.ColumnDraft.TheVariants as column
use Rattle.tree_schema.specs.declared.syntax.TableDraft.{TableDraft}
use Rattle.tree_schema.specs.declared.syntax.InColumn.{InColumn}
use Rattle.tree_schema.specs.declared.syntax.InColumn.TheVariants as within
use Rattle.tree_schema.specs.declared.syntax.Move.{Move}
use Rattle.tree_schema.specs.declared.syntax.Move.TheVariants as move
use Rattle.tree_schema.specs.declared.syntax.Reader.{Reader}
use Rattle.tree_schema.specs.declared.tokens.Token.{Token}
use Rattle.tree_schema.specs.Marks.{token_of}

abbrev pub reference_of : ReferenceDraft → grammar.Reference
reference_of reference = grammar.To (in_lower_case reference.table.now) reference.says_id

abbrev pub column_of : ColumnDraft → grammar.ColumnDeclaration
column_of (column.Chars name digits nullable hidden) = grammar.CharColumn (in_lower_case name.now) digits.now nullable hidden
column_of (column.Integer name primary reference hidden) =
    grammar.IntegerColumn (in_lower_case name.now) primary (option_map reference_of reference) hidden
column_of (column.IntegerOrNull name hidden) = grammar.NullableColumn (in_lower_case name.now) hidden

abbrev pub table_of : TableDraft → grammar.TableText
table_of table =
    record { name = in_lower_case table.name.now; first = column_of table.first; others = map column_of table.others.items }

abbrev pub in_column_of : InColumn → places.InColumn
in_column_of (within.Named name) = places.Named (in_lower_case name.now)
in_column_of (within.AfterChar name) = places.AfterChar (in_lower_case name.now)
in_column_of (within.AfterOpen name) = places.AfterOpen (in_lower_case name.now)
in_column_of (within.AfterLength name digits) = places.AfterLength (in_lower_case name.now) digits.now
in_column_of (within.AfterPrimary name) = places.AfterPrimary (in_lower_case name.now)
in_column_of (within.AfterReferences name primary) = places.AfterReferences (in_lower_case name.now) primary
in_column_of (within.OpensId name primary table) =
    places.OpensId (in_lower_case name.now) primary (in_lower_case table.now)
in_column_of (within.AfterId name primary table) =
    places.AfterId (in_lower_case name.now) primary (in_lower_case table.now)
in_column_of (within.Whole column) = places.WholeColumn (column_of column)

-- where a column has ended: at a comma another one follows, else the columns are over
abbrev pub after_column : grammar.SchemaText → List ℕ → List grammar.ColumnDeclaration → grammar.ColumnDeclaration → Bool → places.SchemaPlace
after_column tables name columns last true = places.WantsDeclaration tables name (columns ++ last ∷ [])
after_column tables name columns last false = places.AfterColumns tables name columns last

-- the tree that is read from a place on, or the fault
abbrev pub read_from : places.SchemaPlace → Reader → Result grammar.SchemaText ℕ
read_from place reader = places.syntax_from (Some place) reader.at reader.cursor

-- a token was taken, or there was none
pub record Takes (before : Reader) (token : Token) (after : Reader) : Type 0 where
  pub tokens : before.cursor ≡ token_of token ∷ after.cursor
  pub place : after.at ≡ token.at

pub record IsOut (before after : Reader) : Type 0 where
  pub none : before.cursor ≡ []
  pub place : after.at ≡ before.at

-- where a token leads within the columns of a table
abbrev pub place_of : grammar.SchemaText → List ℕ → List grammar.ColumnDeclaration → Move → Option places.SchemaPlace
place_of tables name columns (move.Goes last) = Some (places.Within tables name columns (in_column_of last))
place_of tables name columns (move.Ends column more) = Some (after_column tables name columns (column_of column) more)
place_of tables name columns move.Stops = None

abbrev pub ReadsColumn : Reader → List ℕ → Reader → ColumnDraft → Bool → Type 0
ReadsColumn before named after column more =
    (tables : grammar.SchemaText) (name : List ℕ) (columns : List grammar.ColumnDeclaration)
    → read_from (places.Within tables name columns (places.Named named)) before ≡ read_from (after_column tables name columns (column_of column) more) after

abbrev pub StopsColumn : Reader → List ℕ → ℕ → Type 0
StopsColumn before named at =
    (tables : grammar.SchemaText) (name : List ℕ) (columns : List grammar.ColumnDeclaration)
    → read_from (places.Within tables name columns (places.Named named)) before ≡ Err at

-- one place leads to another, and the text breaks the grammar behind a place
abbrev pub Leads : (from to : grammar.SchemaText → places.SchemaPlace) → Reader → Reader → Type 0
Leads from to before after = (tables : grammar.SchemaText) → read_from (from tables) before ≡ read_from (to tables) after

abbrev pub Stops : (from : grammar.SchemaText → places.SchemaPlace) → Reader → ℕ → Type 0
Stops from before at = (tables : grammar.SchemaText) → read_from (from tables) before ≡ Err at

abbrev pub named : List ℕ → grammar.SchemaText → places.SchemaPlace
named name tables = places.AfterName tables name

abbrev pub opened : List ℕ → grammar.SchemaText → places.SchemaPlace
opened name tables = places.WantsDeclaration tables name []

abbrev pub ReadsName : Reader → Reader → List ℕ → Type 0
ReadsName before after named =
    (tables : grammar.SchemaText) (name : List ℕ) (columns : List grammar.ColumnDeclaration)
    → read_from (places.WantsDeclaration tables name columns) before ≡ read_from (places.Within tables name columns (places.Named named)) after

abbrev pub StopsName : Reader → ℕ → Type 0
StopsName before at =
    (tables : grammar.SchemaText) (name : List ℕ) (columns : List grammar.ColumnDeclaration) → read_from (places.WantsDeclaration tables name columns) before ≡ Err at

abbrev pub ReadsNext : Reader → Reader → ColumnDraft → Bool → Type 0
ReadsNext before after column more =
    (tables : grammar.SchemaText) (name : List ℕ) (columns : List grammar.ColumnDeclaration)
    → read_from (places.WantsDeclaration tables name columns) before ≡ read_from (after_column tables name columns (column_of column) more) after

abbrev pub ReadsEnd : Reader → Reader → Type 0
ReadsEnd before after =
    (tables : grammar.SchemaText) (name : List ℕ) (columns : List grammar.ColumnDeclaration) (last : grammar.ColumnDeclaration)
    → read_from (places.AfterColumns tables name columns last) before
    ≡ read_from (places.Between (tables ++ places.table_from name columns last ∷ [])) after

abbrev pub StopsEnd : Reader → ℕ → Type 0
StopsEnd before at =
    (tables : grammar.SchemaText) (name : List ℕ) (columns : List grammar.ColumnDeclaration) (last : grammar.ColumnDeclaration)
    → read_from (places.AfterColumns tables name columns last) before ≡ Err at

-- the columns of a table but the last, and the last
abbrev pub before_last : grammar.ColumnDeclaration → List grammar.ColumnDeclaration → List grammar.ColumnDeclaration
before_last first [] = []
before_last first (second ∷ others) = first ∷ before_last second others

abbrev pub last_of : grammar.ColumnDeclaration → List grammar.ColumnDeclaration → grammar.ColumnDeclaration
last_of first [] = first
last_of first (second ∷ others) = last_of second others

-- the place behind a table's columns, of which more follow or not
abbrev pub behind : grammar.SchemaText → List ℕ → grammar.ColumnDeclaration → List grammar.ColumnDeclaration → Bool → places.SchemaPlace
behind tables name first others true = places.WantsDeclaration tables name (first ∷ others)
behind tables name first others false = places.AfterColumns tables name (before_last first others) (last_of first others)

abbrev pub KeepsOthers : Option (ArrayVec ColumnDraft) → List grammar.ColumnDeclaration → Type 0
KeepsOthers None others = 23 < length others
KeepsOthers (Some kept) others = map column_of kept.items ≡ others

-- the other columns of a table, and what is kept of them
pub record ReadsOthers (before : Reader) (more : Bool) (after : Reader) (kept : Option (ArrayVec ColumnDraft)) : Type 0 where
  pub others : List grammar.ColumnDeclaration
  pub leads :
      (tables : grammar.SchemaText) (name : List ℕ) (first : grammar.ColumnDeclaration)
      → read_from (behind tables name first [] more) before ≡ read_from (behind tables name first others false) after
  pub keeps : KeepsOthers kept others

abbrev pub StopsOthers : Reader → Bool → ℕ → Type 0
StopsOthers before more at =
    (tables : grammar.SchemaText) (name : List ℕ) (first : grammar.ColumnDeclaration) → read_from (behind tables name first [] more) before ≡ Err at

-- a table of the text, and what is kept of it
abbrev pub KeepsTable : Option TableDraft → grammar.TableText → Type 0
KeepsTable None table = is_table_over table ≡ true
KeepsTable (Some draft) table = table_of draft ≡ table

pub record ReadsTable (before after : Reader) (kept : Option TableDraft) : Type 0 where
  pub table : grammar.TableText
  pub leads :
      (tables : grammar.SchemaText)
      → read_from (places.AfterCreate tables) before ≡ read_from (places.Between (tables ++ table ∷ [])) after
  pub keeps : KeepsTable kept table

-- the tables of a text, and what is kept of them
abbrev pub KeepsTables : Option (ArrayVec TableDraft) → grammar.SchemaText → Type 0
KeepsTables None tables = is_over tables ≡ true
KeepsTables (Some kept) tables = map table_of kept.items ≡ tables

pub record ReadsText (text : List ℕ) (kept : Option (ArrayVec TableDraft)) : Type 0 where
  pub tables : grammar.SchemaText
  pub reads : places.schema_syntax_of text ≡ Ok tables
  pub keeps : KeepsTables kept tables
