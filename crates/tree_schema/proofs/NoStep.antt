-- The tokens that lead nowhere within a column, and those that do not end one.
use Rattle.std.proofs.Common.{◌≡◌, ◌≢◌, ℕ, Bool, true, false, List, Option, Some, None, option_map, refl, ap, sym, ◌∙◌}
use Rattle.ghost_model.specs.refusals.SchemaGrammar as grammar
use Rattle.ghost_model.specs.readings.SchemaPlaces as places
use Rattle.tree_schema.specs.declared.tokens.Mark.{Mark}
use Rattle.tree_schema.specs.declared.tokens.Mark.TheVariants as mark
use Rattle.tree_schema.specs.declared.syntax.ColumnDraft.{ColumnDraft}
use Rattle.tree_schema.specs.declared.syntax.InColumn.{InColumn}
use Rattle.tree_schema.specs.declared.syntax.InColumn.TheVariants as within
use Rattle.tree_schema.specs.Marks.{symbol_of}
use Rattle.tree_schema.specs.Drafts.{in_column_of}

pub at_place : (last here : InColumn) (m : Mark) (bytes : List ℕ) → last ≡ here → None ≡ places.step_in (in_column_of here) (symbol_of m bytes) → None ≡ places.step_in (in_column_of last) (symbol_of m bytes)
at_place last here m bytes e h = h ∙ ap (λ l. places.step_in (in_column_of l) (symbol_of m bytes)) (sym e)

pub named : (name bytes : List ℕ) (m : Mark) → m ≢ mark.Char → m ≢ mark.Integer → None ≡ places.step_in (places.Named name) (symbol_of m bytes)
named name bytes mark.Char h g = absurd (h refl)
named name bytes mark.Integer h g = absurd (g refl)
named name bytes _ h g = refl

pub after_char : (name bytes : List ℕ) (m : Mark) → m ≢ mark.Open → None ≡ places.step_in (places.AfterChar name) (symbol_of m bytes)
after_char name bytes mark.Open h = absurd (h refl)
after_char name bytes _ h = refl

pub after_open : (name bytes : List ℕ) (m : Mark) → m ≢ mark.Digits → None ≡ places.step_in (places.AfterOpen name) (symbol_of m bytes)
after_open name bytes mark.Digits h = absurd (h refl)
after_open name bytes _ h = refl

pub after_length : (name digits bytes : List ℕ) (m : Mark) → m ≢ mark.Closing → None ≡ places.step_in (places.AfterLength name digits) (symbol_of m bytes)
after_length name digits bytes mark.Closing h = absurd (h refl)
after_length name digits bytes _ h = refl

pub after_primary : (name bytes : List ℕ) (m : Mark) → m ≢ mark.Key → None ≡ places.step_in (places.AfterPrimary name) (symbol_of m bytes)
after_primary name bytes mark.Key h = absurd (h refl)
after_primary name bytes _ h = refl

pub after_references : (name bytes : List ℕ) (primary : Bool) (m : Mark) → m ≢ mark.Name → None ≡ places.step_in (places.AfterReferences name primary) (symbol_of m bytes)
after_references name bytes primary mark.Name h = absurd (h refl)
after_references name bytes primary _ h = refl

pub opens_id : (name table bytes : List ℕ) (primary : Bool) (m : Mark) → m ≢ mark.Name → None ≡ places.step_in (places.OpensId name primary table) (symbol_of m bytes)
opens_id name table bytes primary mark.Name h = absurd (h refl)
opens_id name table bytes primary _ h = refl

pub after_id : (name table bytes : List ℕ) (primary : Bool) (m : Mark) → m ≢ mark.Closing → None ≡ places.step_in (places.AfterId name primary table) (symbol_of m bytes)
after_id name table bytes primary mark.Closing h = absurd (h refl)
after_id name table bytes primary _ h = refl

pub after_chars : (name digits bytes : List ℕ) (nullable : Bool) (m : Mark) → m ≢ mark.Hidden → m ≢ mark.Null → None ≡ places.after_column (grammar.CharColumn name digits nullable false) (symbol_of m bytes)
after_chars name digits bytes nullable mark.Hidden h g = absurd (h refl)
after_chars name digits bytes nullable mark.Null h g = absurd (g refl)
after_chars name digits bytes true _ h g = refl
after_chars name digits bytes false _ h g = refl

pub after_nullable : (name bytes : List ℕ) (m : Mark) → m ≢ mark.Hidden → None ≡ places.after_column (grammar.NullableColumn name false) (symbol_of m bytes)
after_nullable name bytes mark.Hidden h = absurd (h refl)
after_nullable name bytes _ h = refl

pub after_integer : (name bytes : List ℕ) (primary : Bool) (reference : Option grammar.Reference) (m : Mark) → m ≢ mark.Hidden → m ≢ mark.References → m ≢ mark.Primary → m ≢ mark.Null → m ≢ mark.Open
    → None ≡ places.after_integer name primary reference (symbol_of m bytes)
after_integer name bytes primary reference mark.Hidden h g f n e = absurd (h refl)
after_integer name bytes primary reference mark.References h g f n e = absurd (g refl)
after_integer name bytes primary reference mark.Primary h g f n e = absurd (f refl)
after_integer name bytes primary reference mark.Null h g f n e = absurd (n refl)
after_integer name bytes primary reference mark.Open h g f n e = absurd (e refl)
after_integer name bytes true None _ h g f n e = refl
after_integer name bytes false None _ h g f n e = refl
after_integer name bytes true (Some (grammar.To table true)) _ h g f n e = refl
after_integer name bytes true (Some (grammar.To table false)) _ h g f n e = refl
after_integer name bytes false (Some (grammar.To table true)) _ h g f n e = refl
after_integer name bytes false (Some (grammar.To table false)) _ h g f n e = refl

-- a token that is neither comma nor parenthesis goes on in the column
pub goes_on : (tables : grammar.SchemaText) (name : List ℕ) (columns : List grammar.ColumnDeclaration) (last : grammar.ColumnDeclaration) (bytes : List ℕ) (m : Mark) → m ≢ mark.Comma → m ≢ mark.Closing
    → option_map (places.Within tables name columns) (places.after_column last (symbol_of m bytes)) ≡ places.step_within tables name columns (places.WholeColumn last) (symbol_of m bytes)
goes_on tables name columns last bytes mark.Comma h g = absurd (h refl)
goes_on tables name columns last bytes mark.Closing h g = absurd (g refl)
goes_on tables name columns last bytes _ h g = refl

pub goes_within : (tables : grammar.SchemaText) (name : List ℕ) (columns : List grammar.ColumnDeclaration) (last : InColumn) (bytes : List ℕ) (m : Mark) → ((column : ColumnDraft) → last ≡ within.Whole column → ⊥)
    → option_map (places.Within tables name columns) (places.step_in (in_column_of last) (symbol_of m bytes)) ≡ places.step_within tables name columns (in_column_of last) (symbol_of m bytes)
goes_within tables name columns (within.Whole column) bytes m h = absurd (h column refl)
goes_within tables name columns (within.Named _) bytes m h = refl
goes_within tables name columns (within.AfterChar _) bytes m h = refl
goes_within tables name columns (within.AfterOpen _) bytes m h = refl
goes_within tables name columns (within.AfterLength _ _) bytes m h = refl
goes_within tables name columns (within.AfterPrimary _) bytes m h = refl
goes_within tables name columns (within.AfterReferences _ _) bytes m h = refl
goes_within tables name columns (within.OpensId _ _ _) bytes m h = refl
goes_within tables name columns (within.AfterId _ _ _) bytes m h = refl
