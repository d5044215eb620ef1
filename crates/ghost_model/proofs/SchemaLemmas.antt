-- The places of a schema's text say what its grammar says: each schema_step reads one symbol, the symbols of each tree lead
-- from the start to the end, and from each place schema_before the end some symbols complete a tree.
use Rattle.std.proofs.Common.{◌≡◌, ℕ, Bool, true, false, List, [], ◌∷◌, ◌++◌, map, length, Option, Some, None, option_map, option_and_then, Result, Ok, Err, flat_map, ◌⊎◌, inl, inr, slice_get, codes, bytes_eq, if◌then◌else◌, refl, sym, ap, ◌∙◌, append_assoc, append-nil}
use Rattle.std.proofs.lemmas.Grind.{flat_map-append}
use Rattle.std.proofs.lemmas.Slice.Eq.{bytes_eq-Decides}
use Rattle.std.specs.List.{list_all}
use Rattle.std.proofs.lemmas.List.{map-append, length-map}
use Rattle.std.proofs.lemmas.Bool.{and_from}
use Rattle.ghost_model.proofs.TokenLemmas.{before_end}
use Rattle.ghost_model.proofs.GrammarLemmas.{more_begun, spelled_both, spelled_front, no_end_inside, viable_of, run, run-append, dead_after, fault_after, no_fault, one_fault}
use Rattle.ghost_model.specs.laws.Spelled.{is_spelled, is_name}
use Rattle.ghost_model.specs.refusals.Tokens.{symbol_of, symbols, tokens, offset_of, Symbol, Token, Word, Name, Digits, Open, Closing, Comma, Semicolon, EndOfText, CharWord, CreateWord, HiddenWord, IntegerWord, NullWord, PrimaryKeyWord, PrimaryWord, ReferencesWord, TableWord}
use Rattle.ghost_model.specs.refusals.Grammar.{Spells, IsViable, IsSyntaxFault, separated}
use Rattle.ghost_model.specs.readings.Begun.{begun}
use Rattle.ghost_model.specs.refusals.SchemaGrammar.{Reference, To, ColumnDeclaration, CharColumn, IntegerColumn, NullableColumn, TableText, SchemaText, spell_declaration, spell_heading, spell_declared_table, schema_spelling}
use Rattle.ghost_model.specs.readings.SchemaPlaces.{InColumn, Named, AfterChar, AfterOpen, AfterLength, AfterPrimary, AfterReferences, OpensId, AfterId, WholeColumn, SchemaPlace, Between, AfterCreate, AfterTable, AfterName, WantsDeclaration, Within, AfterColumns, Ended, before_in, schema_before, table_from, after_integer, after_column, after_parenthesis, step_in, step_within, schema_step, tree_at, syntax_from, schema_syntax_of}
use Rattle.ghost_model.specs.laws.SchemaLaws.{SchemaPlacesAreExact}

unSome : {X : Type 0} {a b : X} → Some a ≡ Some b → a ≡ b
unSome e = cc

-- each schema_step of a column reads one symbol

integer_read : (name : List ℕ) (primary : Bool) (reference : Option Reference) (s : Symbol) (q : InColumn)
    → after_integer name primary reference s ≡ Some q → before_in q ≡ spell_declaration (IntegerColumn name primary reference false) ++ s ∷ []
integer_read name true None (Word HiddenWord) q e = ap before_in (unSome (sym e))
integer_read name false None (Word HiddenWord) q e = ap before_in (unSome (sym e))
integer_read name true (Some (To table true)) (Word HiddenWord) q e = ap before_in (unSome (sym e))
integer_read name true (Some (To table false)) (Word HiddenWord) q e = ap before_in (unSome (sym e))
integer_read name false (Some (To table true)) (Word HiddenWord) q e = ap before_in (unSome (sym e))
integer_read name false (Some (To table false)) (Word HiddenWord) q e = ap before_in (unSome (sym e))
integer_read name true None (Word ReferencesWord) q e = ap before_in (unSome (sym e))
integer_read name false None (Word ReferencesWord) q e = ap before_in (unSome (sym e))
integer_read name false None (Word PrimaryWord) q e = ap before_in (unSome (sym e))
integer_read name false None (Word NullWord) q e = ap before_in (unSome (sym e))
integer_read name true (Some (To table false)) Open q e = ap before_in (unSome (sym e))
integer_read name false (Some (To table false)) Open q e = ap before_in (unSome (sym e))
integer_read _ _ _ _ q e = absurd (cc)

column_read : (column : ColumnDeclaration) (s : Symbol) (q : InColumn)
    → after_column column s ≡ Some q → before_in q ≡ spell_declaration column ++ s ∷ []
column_read (CharColumn name digits false false) (Word HiddenWord) q e = ap before_in (unSome (sym e))
column_read (CharColumn name digits true false) (Word HiddenWord) q e = ap before_in (unSome (sym e))
column_read (CharColumn name digits false false) (Word NullWord) q e = ap before_in (unSome (sym e))
column_read (NullableColumn name false) (Word HiddenWord) q e = ap before_in (unSome (sym e))
column_read (IntegerColumn name primary reference false) s q e = integer_read name primary reference s q e
column_read (IntegerColumn name primary reference true) s q e = absurd (cc)
column_read (CharColumn name digits true true) s q e = absurd (cc)
column_read (CharColumn name digits false true) s q e = absurd (cc)
column_read (CharColumn name digits true false) _ q e = absurd (cc)
column_read (CharColumn name digits false false) _ q e = absurd (cc)
column_read (NullableColumn name true) s q e = absurd (cc)
column_read (NullableColumn name false) _ q e = absurd (cc)

same_bytes : (a b : List ℕ) → bytes_eq a b ≡ true → a ≡ b
same_bytes a b e = (bytes_eq-Decides a b).0 e

-- the test of `if`, where the other branch is none
some_if : {X : Type 0} (test : Bool) (x q : X) → (if test then Some x else None) ≡ Some q → (test ≡ true) × (x ≡ q)
some_if true x q e = (refl, unSome e)
some_if false x q e = absurd (cc)

parenthesis_read : (name : List ℕ) (primary : Bool) (table inside : List ℕ) (q : InColumn)
    → after_parenthesis name primary table inside ≡ Some q → before_in q ≡ before_in (OpensId name primary table) ++ Name inside ∷ []
parenthesis_read name true table inside q e =
    let h = some_if (bytes_eq inside (codes "id")) (AfterId name true table) q e in
    ap before_in (sym h.1) ∙ ap (λ id. before_in (OpensId name true table) ++ Name id ∷ []) (sym (same_bytes _ _ h.0))
parenthesis_read name false table inside q e =
    let h = some_if (bytes_eq inside (codes "id")) (AfterId name false table) q e in
    ap before_in (sym h.1) ∙ ap (λ id. before_in (OpensId name false table) ++ Name id ∷ []) (sym (same_bytes _ _ h.0))

in_read : (p : InColumn) (s : Symbol) (q : InColumn) → step_in p s ≡ Some q → before_in q ≡ before_in p ++ s ∷ []
in_read (Named name) (Word CharWord) q e = ap before_in (unSome (sym e))
in_read (Named name) (Word IntegerWord) q e = ap before_in (unSome (sym e))
in_read (AfterChar name) Open q e = ap before_in (unSome (sym e))
in_read (AfterOpen name) (Digits digits) q e = ap before_in (unSome (sym e))
in_read (AfterLength name digits) Closing q e = ap before_in (unSome (sym e))
in_read (AfterPrimary name) (Word PrimaryKeyWord) q e = ap before_in (unSome (sym e))
in_read (AfterReferences name true) (Name table) q e = ap before_in (unSome (sym e))
in_read (AfterReferences name false) (Name table) q e = ap before_in (unSome (sym e))
in_read (OpensId name primary table) (Name inside) q e = parenthesis_read name primary table inside q e
in_read (AfterId name true table) Closing q e = ap before_in (unSome (sym e))
in_read (AfterId name false table) Closing q e = ap before_in (unSome (sym e))
in_read (WholeColumn column) s q e = column_read column s q e
in_read _ _ q e = absurd (cc)

-- each schema_step of a text reads one symbol

option_mapped : {X Y : Type 0} (f : X → Y) (o : Option X) (y : Y) → option_map f o ≡ Some y → (x : X) × (o ≡ Some x) × (f x ≡ y)
option_mapped f None y e = absurd (cc)
option_mapped f (Some x) y e = (x, refl, unSome e)

regroup3 : (a b c d : List Symbol) → (a ++ (b ++ c)) ++ d ≡ a ++ (b ++ (c ++ d))
regroup3 a b c d = simp append_assoc

regroup4 : (a b c d e : List Symbol) → (a ++ (b ++ (c ++ d))) ++ e ≡ a ++ (b ++ (c ++ (d ++ e)))
regroup4 a b c d e = simp append_assoc

regroup5 : (a b c d e f : List Symbol) → (a ++ (b ++ (c ++ (d ++ e)))) ++ f ≡ a ++ (b ++ (c ++ (d ++ (e ++ f))))
regroup5 a b c d e f = simp append_assoc

within_goes_on : (tables : SchemaText) (name : List ℕ) (columns : List ColumnDeclaration) (last : InColumn) (s : Symbol) (q : SchemaPlace)
    → option_map (Within tables name columns) (step_in last s) ≡ Some q → schema_before q ≡ schema_before (Within tables name columns last) ++ s ∷ []
within_goes_on tables name columns last s q e =
    let h = option_mapped (Within tables name columns) (step_in last s) q e in
    ap schema_before (sym h.2)
    ∙ (ap (λ tail. flat_map spell_declared_table tables ++ (spell_heading name ++ (begun Comma spell_declaration columns ++ tail))) (in_read last s h.0 h.1)
    ∙ sym (regroup4 (flat_map spell_declared_table tables) (spell_heading name) (begun Comma spell_declaration columns) (before_in last) (s ∷ [])))

within_read : (tables : SchemaText) (name : List ℕ) (columns : List ColumnDeclaration) (last : InColumn) (s : Symbol) (q : SchemaPlace)
    → step_within tables name columns last s ≡ Some q → schema_before q ≡ schema_before (Within tables name columns last) ++ s ∷ []
within_read tables name columns (WholeColumn last) Comma q e =
    ap schema_before (unSome (sym e))
    ∙ (ap (λ tail. flat_map spell_declared_table tables ++ (spell_heading name ++ tail)) (sym (more_begun Comma spell_declaration columns last))
    ∙ sym (regroup4 (flat_map spell_declared_table tables) (spell_heading name) (begun Comma spell_declaration columns) (spell_declaration last) (Comma ∷ [])))
within_read tables name columns (WholeColumn last) Closing q e =
    ap schema_before (unSome (sym e))
    ∙ sym (regroup4 (flat_map spell_declared_table tables) (spell_heading name) (begun Comma spell_declaration columns) (spell_declaration last) (Closing ∷ []))
within_read tables name columns last s q e = within_goes_on tables name columns last s q e

-- the columns of a table with the last one are its columns in the grammar
columns_end : (x : ColumnDeclaration) (xs : List ColumnDeclaration) (last : ColumnDeclaration)
    → separated Comma spell_declaration x (xs ++ last ∷ []) ≡ begun Comma spell_declaration (x ∷ xs) ++ spell_declaration last
columns_end x [] last =
    ap (λ tail. spell_declaration x ++ Comma ∷ tail) (append-nil (spell_declaration last))
    ∙ sym (ap (λ head. head ++ spell_declaration last) (append-nil (spell_declaration x ++ Comma ∷ [])) ∙ append_assoc (spell_declaration x) (Comma ∷ []) (spell_declaration last))
columns_end x (y ∷ ys) last =
    ap (λ tail. spell_declaration x ++ Comma ∷ tail) (columns_end y ys last)
    ∙ sym (append_assoc (spell_declaration x ++ Comma ∷ []) (begun Comma spell_declaration (y ∷ ys)) (spell_declaration last)
    ∙ append_assoc (spell_declaration x) (Comma ∷ []) (begun Comma spell_declaration (y ∷ ys) ++ spell_declaration last))

table_ends : (name : List ℕ) (columns : List ColumnDeclaration) (last : ColumnDeclaration)
    → spell_declared_table (table_from name columns last)
    ≡ spell_heading name ++ (begun Comma spell_declaration columns ++ (spell_declaration last ++ Closing ∷ Semicolon ∷ []))
table_ends name [] last = ap (λ tail. spell_heading name ++ (tail ++ Closing ∷ Semicolon ∷ [])) (append-nil (spell_declaration last))
table_ends name (x ∷ xs) last =
    ap (λ tail. spell_heading name ++ (tail ++ Closing ∷ Semicolon ∷ [])) (columns_end x xs last)
    ∙ ap (λ tail. spell_heading name ++ tail) (append_assoc (begun Comma spell_declaration (x ∷ xs)) (spell_declaration last) (Closing ∷ Semicolon ∷ []))

tables_end : (tables : SchemaText) (name : List ℕ) (columns : List ColumnDeclaration) (last : ColumnDeclaration)
    → flat_map spell_declared_table (tables ++ table_from name columns last ∷ [])
    ≡ schema_before (AfterColumns tables name columns last) ++ Semicolon ∷ []
tables_end tables name columns last =
    flat_map-append spell_declared_table tables (table_from name columns last ∷ [])
    ∙ (ap (λ tail. flat_map spell_declared_table tables ++ tail)
    (append-nil (spell_declared_table (table_from name columns last)) ∙ table_ends name columns last)
    ∙ sym (regroup5 (flat_map spell_declared_table tables) (spell_heading name) (begun Comma spell_declaration columns) (spell_declaration last) (Closing ∷ []) (Semicolon ∷ [])))

regroup_table : (a b c xs : List Symbol) → ((a ++ b) ++ c) ++ xs ≡ a ++ (b ++ (c ++ xs))
regroup_table a b c xs = simp append_assoc

pub step_read : (p : SchemaPlace) (s : Symbol) (q : SchemaPlace) → schema_step p s ≡ Some q → schema_before q ≡ schema_before p ++ s ∷ []
step_read (Between tables) (Word CreateWord) q e = ap schema_before (unSome (sym e))
step_read (Between tables) EndOfText q e = ap schema_before (unSome (sym e))
step_read (AfterCreate tables) (Word TableWord) q e = ap schema_before (unSome (sym e)) ∙ sym (append_assoc (flat_map spell_declared_table tables) _ _)
step_read (AfterTable tables) (Name name) q e = ap schema_before (unSome (sym e)) ∙ sym (append_assoc (flat_map spell_declared_table tables) _ _)
step_read (AfterName tables name) Open q e = ap schema_before (unSome (sym e)) ∙ sym (append_assoc (flat_map spell_declared_table tables) _ _)
step_read (WantsDeclaration tables name columns) (Name column) q e =
    ap schema_before (unSome (sym e)) ∙ sym (regroup3 (flat_map spell_declared_table tables) (spell_heading name) (begun Comma spell_declaration columns) _)
step_read (Within tables name columns last) s q e = within_read tables name columns last s q e
step_read (AfterColumns tables name columns last) Semicolon q e =
    ap schema_before (unSome (sym e)) ∙ tables_end tables name columns last
step_read _ _ q e = absurd (cc)

-- the symbols of a tree lead from the start to its end

column_leads : (tables : SchemaText) (name : List ℕ) (columns : List ColumnDeclaration) (column : ColumnDeclaration) (xs : List Symbol)
    → run schema_step (WantsDeclaration tables name columns) (spell_declaration column ++ xs)
    ≡ run schema_step (Within tables name columns (WholeColumn column)) xs
column_leads tables name columns (CharColumn n digits true true) xs = refl
column_leads tables name columns (CharColumn n digits true false) xs = refl
column_leads tables name columns (CharColumn n digits false true) xs = refl
column_leads tables name columns (CharColumn n digits false false) xs = refl
column_leads tables name columns (NullableColumn n true) xs = refl
column_leads tables name columns (NullableColumn n false) xs = refl
column_leads tables name columns (IntegerColumn n true None true) xs = refl
column_leads tables name columns (IntegerColumn n true None false) xs = refl
column_leads tables name columns (IntegerColumn n false None true) xs = refl
column_leads tables name columns (IntegerColumn n false None false) xs = refl
column_leads tables name columns (IntegerColumn n true (Some (To table true)) true) xs = refl
column_leads tables name columns (IntegerColumn n true (Some (To table true)) false) xs = refl
column_leads tables name columns (IntegerColumn n true (Some (To table false)) true) xs = refl
column_leads tables name columns (IntegerColumn n true (Some (To table false)) false) xs = refl
column_leads tables name columns (IntegerColumn n false (Some (To table true)) true) xs = refl
column_leads tables name columns (IntegerColumn n false (Some (To table true)) false) xs = refl
column_leads tables name columns (IntegerColumn n false (Some (To table false)) true) xs = refl
column_leads tables name columns (IntegerColumn n false (Some (To table false)) false) xs = refl

-- a table from the columns that have a comma after them, the one that is read, and those that follow
extended : List ℕ → List ColumnDeclaration → ColumnDeclaration → List ColumnDeclaration → TableText
extended name columns last [] = table_from name columns last
extended name columns last (x ∷ xs) = extended name (columns ++ last ∷ []) x xs

columns_lead : (tables : SchemaText) (name : List ℕ) (columns : List ColumnDeclaration) (last : ColumnDeclaration) (later : List ColumnDeclaration) (xs : List Symbol)
    → run schema_step (Within tables name columns (WholeColumn last)) (flat_map (λ other. Comma ∷ spell_declaration other) later ++ Closing ∷ Semicolon ∷ xs)
    ≡ run schema_step (Between (tables ++ extended name columns last later ∷ [])) xs
unfolding extended
columns_lead tables name columns last [] xs = refl
columns_lead tables name columns last (x ∷ later) xs =
    ap (run schema_step (WantsDeclaration tables name (columns ++ last ∷ [])))
    (append_assoc (spell_declaration x) (flat_map (λ other. Comma ∷ spell_declaration other) later) (Closing ∷ Semicolon ∷ xs))
    ∙ (column_leads tables name (columns ++ last ∷ []) x (flat_map (λ other. Comma ∷ spell_declaration other) later ++ Closing ∷ Semicolon ∷ xs)
    ∙ columns_lead tables name (columns ++ last ∷ []) x later xs)

extended_later : (name : List ℕ) (first : ColumnDeclaration) (columns : List ColumnDeclaration) (last : ColumnDeclaration) (later : List ColumnDeclaration)
    → extended name (first ∷ columns) last later ≡ record { name = name; first = first; others = columns ++ last ∷ later }
unfolding extended
extended_later name first columns last [] = refl
extended_later name first columns last (x ∷ later) =
    extended_later name first (columns ++ last ∷ []) x later
    ∙ ap (λ others. record { name = name; first = first; others = others }) (append_assoc columns (last ∷ []) (x ∷ later))

extended_first : (name : List ℕ) (first : ColumnDeclaration) (later : List ColumnDeclaration)
    → extended name [] first later ≡ record { name = name; first = first; others = later }
unfolding extended
extended_first name first [] = refl
extended_first name first (x ∷ later) = extended_later name first [] x later

table_leads : (tables : SchemaText) (table : TableText) (xs : List Symbol)
    → run schema_step (Between tables) (spell_declared_table table ++ xs) ≡ run schema_step (Between (tables ++ table ∷ [])) xs
table_leads tables table xs =
    ap (run schema_step (WantsDeclaration tables table.name []))
    (regroup_table (spell_declaration table.first) (flat_map (λ other. Comma ∷ spell_declaration other) table.others) (Closing ∷ Semicolon ∷ []) xs)
    ∙ (column_leads tables table.name [] table.first (flat_map (λ other. Comma ∷ spell_declaration other) table.others ++ Closing ∷ Semicolon ∷ xs)
    ∙ (columns_lead tables table.name [] table.first table.others xs
    ∙ ap (λ last. run schema_step (Between (tables ++ last ∷ [])) xs) (extended_first table.name table.first table.others)))

tables_lead : (tables later : SchemaText) (xs : List Symbol)
    → run schema_step (Between tables) (flat_map spell_declared_table later ++ xs) ≡ run schema_step (Between (tables ++ later)) xs
tables_lead tables [] xs = ap (λ all. run schema_step (Between all) xs) (sym (append-nil tables))
tables_lead tables (table ∷ later) xs =
    ap (run schema_step (Between tables)) (append_assoc (spell_declared_table table) (flat_map spell_declared_table later) xs)
    ∙ (table_leads tables table (flat_map spell_declared_table later ++ xs)
    ∙ (tables_lead (tables ++ table ∷ []) later xs
    ∙ ap (λ all. run schema_step (Between all) xs) (append_assoc tables (table ∷ []) later)))

pub leads : (tables : SchemaText) → run schema_step (Between []) (schema_spelling tables) ≡ Some (Ended tables)
leads tables = tables_lead [] tables (EndOfText ∷ [])

-- from each place schema_before the end some symbols complete a tree

pub record Completes (p : SchemaPlace) : Type 0 where
  pub rest : List Symbol
  pub tables : SchemaText
  pub spelled : list_all is_spelled rest ≡ true
  pub whole : (schema_before p ++ rest) ++ EndOfText ∷ [] ≡ schema_spelling tables

-- by one schema_step to a place from which some do
on_by : (p : SchemaPlace) (s : Symbol) (q : SchemaPlace) → schema_step p s ≡ Some q → is_spelled s ≡ true → Completes q → Completes p
on_by p s q e spelled on = record {
  rest = s ∷ on.rest;
  tables = on.tables;
  spelled = and_from _ _ spelled on.spelled;
  whole =
      ap (λ front. front ++ EndOfText ∷ []) (sym (append_assoc (schema_before p) (s ∷ []) on.rest) ∙ ap (λ front. front ++ on.rest) (sym (step_read p s q e)))
      ∙ on.whole;
}

from_between : (tables : SchemaText) → Completes (Between tables)
from_between tables = record { rest = []; tables = tables; spelled = refl; whole = ap (λ front. front ++ EndOfText ∷ []) (append-nil (flat_map spell_declared_table tables)) }

from_columns : (tables : SchemaText) (name : List ℕ) (columns : List ColumnDeclaration) (last : ColumnDeclaration) → Completes (AfterColumns tables name columns last)
from_columns tables name columns last =
    on_by (AfterColumns tables name columns last) Semicolon (Between (tables ++ table_from name columns last ∷ [])) refl refl
    (from_between (tables ++ table_from name columns last ∷ []))

module _ (tables : SchemaText) (name : List ℕ) (columns : List ColumnDeclaration) where
  from_whole : (last : ColumnDeclaration) → Completes (Within tables name columns (WholeColumn last))
  from_whole last =
      on_by (Within tables name columns (WholeColumn last)) Closing (AfterColumns tables name columns last) refl refl
      (from_columns tables name columns last)

  on_within : (last : InColumn) (s : Symbol) (q : InColumn) → step_within tables name columns last s ≡ Some (Within tables name columns q)
      → is_spelled s ≡ true → Completes (Within tables name columns q) → Completes (Within tables name columns last)
  on_within last s q e spelled on = on_by (Within tables name columns last) s (Within tables name columns q) e spelled on

  from_length : (column digits : List ℕ) → Completes (Within tables name columns (AfterLength column digits))
  from_length column digits =
      on_within (AfterLength column digits) Closing (WholeColumn (CharColumn column digits false false)) refl refl (from_whole (CharColumn column digits false false))

  from_open : (column : List ℕ) → Completes (Within tables name columns (AfterOpen column))
  from_open column = on_within (AfterOpen column) (Digits (49 ∷ [])) (AfterLength column (49 ∷ [])) refl refl (from_length column (49 ∷ []))

  from_id : (column : List ℕ) (primary : Bool) (table : List ℕ) → Completes (Within tables name columns (AfterId column primary table))
  from_id column primary table =
      on_within (AfterId column primary table) Closing (WholeColumn (IntegerColumn column primary (Some (To table true)) false)) refl refl
      (from_whole (IntegerColumn column primary (Some (To table true)) false))

  from_column : (last : InColumn) → Completes (Within tables name columns last)
  unfolding is_name
  from_column (Named column) =
      on_within (Named column) (Word IntegerWord) (WholeColumn (IntegerColumn column false None false)) refl refl (from_whole (IntegerColumn column false None false))
  from_column (AfterChar column) = on_within (AfterChar column) Open (AfterOpen column) refl refl (from_open column)
  from_column (AfterOpen column) = from_open column
  from_column (AfterLength column digits) = from_length column digits
  from_column (AfterPrimary column) =
      on_within (AfterPrimary column) (Word PrimaryKeyWord) (WholeColumn (IntegerColumn column true None false)) refl refl (from_whole (IntegerColumn column true None false))
  from_column (AfterReferences column primary) =
      on_within (AfterReferences column primary) (Name (97 ∷ [])) (WholeColumn (IntegerColumn column primary (Some (To (97 ∷ []) false)) false)) refl refl
      (from_whole (IntegerColumn column primary (Some (To (97 ∷ []) false)) false))
  from_column (OpensId column primary table) =
      on_within (OpensId column primary table) (Name (codes "id")) (AfterId column primary table) refl refl (from_id column primary table)
  from_column (AfterId column primary table) = from_id column primary table
  from_column (WholeColumn column) = from_whole column

from_wants : (tables : SchemaText) (name : List ℕ) (columns : List ColumnDeclaration) → Completes (WantsDeclaration tables name columns)
unfolding is_name
from_wants tables name columns =
    on_by (WantsDeclaration tables name columns) (Name (97 ∷ [])) (Within tables name columns (Named (97 ∷ []))) refl refl
    (from_column tables name columns (Named (97 ∷ [])))

from_name : (tables : SchemaText) (name : List ℕ) → Completes (AfterName tables name)
from_name tables name = on_by (AfterName tables name) Open (WantsDeclaration tables name []) refl refl (from_wants tables name [])

from_table : (tables : SchemaText) → Completes (AfterTable tables)
unfolding is_name
from_table tables = on_by (AfterTable tables) (Name (97 ∷ [])) (AfterName tables (97 ∷ [])) refl refl (from_name tables (97 ∷ []))

-- the end itself is no symbol that bytes spell
pub goes_on : (p : SchemaPlace) → list_all is_spelled (schema_before p) ≡ true → Completes p
goes_on (Between tables) e = from_between tables
goes_on (AfterCreate tables) e = on_by (AfterCreate tables) (Word TableWord) (AfterTable tables) refl refl (from_table tables)
goes_on (AfterTable tables) e = from_table tables
goes_on (AfterName tables name) e = from_name tables name
goes_on (WantsDeclaration tables name columns) e = from_wants tables name columns
goes_on (Within tables name columns last) e = from_column tables name columns last
goes_on (AfterColumns tables name columns last) e = from_columns tables name columns last
goes_on (Ended tables) e =
    absurd (no_end_inside (flat_map spell_declared_table tables) [] e)

-- what was read is what led to a place

module _ (p : SchemaPlace) (x : Symbol) (xs : List Symbol) (q : SchemaPlace) (later : (o : SchemaPlace) → run schema_step o xs ≡ Some q → schema_before q ≡ schema_before o ++ xs) where
  read_by : (o : Option SchemaPlace) → schema_step p x ≡ o → option_and_then (λ next. run schema_step next xs) o ≡ Some q → schema_before q ≡ schema_before p ++ x ∷ xs
  read_by None e h = absurd (cc)
  read_by (Some o) e h = later o h ∙ (ap (λ front. front ++ xs) (step_read p x o e) ∙ append_assoc (schema_before p) (x ∷ []) xs)

run_read : (p : SchemaPlace) (xs : List Symbol) (q : SchemaPlace) → run schema_step p xs ≡ Some q → schema_before q ≡ schema_before p ++ xs
run_read p [] q e = ap schema_before (unSome (sym e)) ∙ sym (append-nil (schema_before p))
run_read p (x ∷ xs) q e = read_by p x xs q (λ o h. run_read o xs q h) (schema_step p x) refl e

-- what the reading answers, in terms of where the symbols lead

tree_at_ended : (p : SchemaPlace) (at : ℕ) (tables : SchemaText) → tree_at p at ≡ Ok tables → p ≡ Ended tables
tree_at_ended (Ended tables) at other e = let h : tables ≡ other = cc in ap Ended h
tree_at_ended _ at other e = absurd (cc)

tree_read : (o : Option SchemaPlace) (at : ℕ) (later : List Token) (tables : SchemaText)
    → syntax_from o at later ≡ Ok tables → option_and_then (λ p. run schema_step p (map symbol_of later)) o ≡ Some (Ended tables)
unfolding syntax_from
tree_read None at later tables e = absurd (cc)
tree_read (Some p) at [] tables e = ap Some (tree_at_ended p at tables e)
tree_read (Some p) at (token ∷ later) tables e = tree_read (schema_step p token.symbol) token.at later tables e

-- the token at offset `at` led nowhere
record Stops (p : SchemaPlace) (given : List Token) (at : ℕ) : Type 0 where
  front : List Token
  token : Token
  later : List Token
  whole : given ≡ front ++ token ∷ later
  place : SchemaPlace
  led : run schema_step p (map symbol_of front) ≡ Some place
  refused : schema_step place token.symbol ≡ None
  offset : token.at ≡ at

-- the tokens ended elsewhere than at the end
record Exhausts (p : SchemaPlace) (given : List Token) : Type 0 where
  place : SchemaPlace
  led : run schema_step p (map symbol_of given) ≡ Some place
  open_end : (tables : SchemaText) → place ≡ Ended tables → ⊥

abbrev Stopped : Option SchemaPlace → (now : ℕ) → List Token → (at : ℕ) → Type 0
Stopped None now given at = now ≡ at
Stopped (Some p) now given at = Stops p given at ⊎ Exhausts p given

tree_at_open : (p : SchemaPlace) (now at : ℕ) (tables : SchemaText) → tree_at p now ≡ Err at → p ≡ Ended tables → ⊥
tree_at_open (Ended tables) now at other e h = absurd (cc)
tree_at_open _ now at other e h = absurd (cc)

stopped_after : (p : SchemaPlace) (token : Token) (later : List Token) (now at : ℕ) (o : Option SchemaPlace)
    → schema_step p token.symbol ≡ o → Stopped o token.at later at → Stopped (Some p) now (token ∷ later) at
stopped_after p token later now at None e h =
    inl (record { front = []; token = token; later = later; whole = refl; place = p; led = refl; refused = e; offset = h })
stopped_after p token later now at (Some q) e (inl h) =
    inl (record {
      front = token ∷ h.front;
      token = h.token;
      later = h.later;
      whole = ap (λ tail. token ∷ tail) h.whole;
      place = h.place;
      led = ap (option_and_then (λ next. run schema_step next (map symbol_of h.front))) e ∙ h.led;
      refused = h.refused;
      offset = h.offset;
    })
stopped_after p token later now at (Some q) e (inr h) =
    inr (record { place = h.place; led = ap (option_and_then (λ next. run schema_step next (map symbol_of later))) e ∙ h.led; open_end = h.open_end })

fault_read : (o : Option SchemaPlace) (now : ℕ) (later : List Token) (at : ℕ) → syntax_from o now later ≡ Err at → Stopped o now later at
unfolding syntax_from
fault_read None now later at e = let h : now ≡ at = cc in h
fault_read (Some p) now [] at e = inr (record { place = p; led = refl; open_end = λ tables h. tree_at_open p now at tables e h })
fault_read (Some p) now (token ∷ later) at e =
    stopped_after p token later now at (schema_step p token.symbol) refl (fault_read (schema_step p token.symbol) token.at later at e)

-- the end of a text leads to the end or nowhere

end_ends : (p q : SchemaPlace) → schema_step p EndOfText ≡ Some q → (tables : SchemaText) × (q ≡ Ended tables)
end_ends (Between tables) q e = (tables, unSome (sym e))
end_ends (Within tables name columns (WholeColumn (CharColumn _ _ true true))) q e = absurd (cc)
end_ends (Within tables name columns (WholeColumn (CharColumn _ _ true false))) q e = absurd (cc)
end_ends (Within tables name columns (WholeColumn (CharColumn _ _ false true))) q e = absurd (cc)
end_ends (Within tables name columns (WholeColumn (CharColumn _ _ false false))) q e = absurd (cc)
end_ends (Within tables name columns (WholeColumn (NullableColumn _ true))) q e = absurd (cc)
end_ends (Within tables name columns (WholeColumn (NullableColumn _ false))) q e = absurd (cc)
end_ends (Within tables name columns (WholeColumn (IntegerColumn _ _ _ true))) q e = absurd (cc)
end_ends (Within tables name columns (WholeColumn (IntegerColumn _ true None false))) q e = absurd (cc)
end_ends (Within tables name columns (WholeColumn (IntegerColumn _ false None false))) q e = absurd (cc)
end_ends (Within tables name columns (WholeColumn (IntegerColumn _ true (Some (To _ true)) false))) q e = absurd (cc)
end_ends (Within tables name columns (WholeColumn (IntegerColumn _ true (Some (To _ false)) false))) q e = absurd (cc)
end_ends (Within tables name columns (WholeColumn (IntegerColumn _ false (Some (To _ true)) false))) q e = absurd (cc)
end_ends (Within tables name columns (WholeColumn (IntegerColumn _ false (Some (To _ false)) false))) q e = absurd (cc)
end_ends _ q e = absurd (cc)

last_by : (p q : SchemaPlace) (o : Option SchemaPlace) → schema_step p EndOfText ≡ o → option_and_then (λ next. Some next) o ≡ Some q → (tables : SchemaText) × (q ≡ Ended tables)
last_by p q None e h = absurd (cc)
last_by p q (Some r) e h = end_ends p q (e ∙ h)

last_leads : (o : Option SchemaPlace) (q : SchemaPlace) → option_and_then (λ p. run schema_step p (EndOfText ∷ [])) o ≡ Some q → (tables : SchemaText) × (q ≡ Ended tables)
last_leads None q e = absurd (cc)
last_leads (Some p) q e = last_by p q (schema_step p EndOfText) refl e

never_exhausts : (text : List ℕ) → Exhausts (Between []) (tokens text) → ⊥
never_exhausts text h =
    let b = before_end text in
    let led : run schema_step (Between []) (b.0 ++ EndOfText ∷ []) ≡ Some h.place = ap (run schema_step (Between [])) (sym b.1.whole) ∙ h.led in
    let last = last_leads (run schema_step (Between []) b.0) h.place (sym (run-append schema_step (Between []) b.0 (EndOfText ∷ [])) ∙ led) in
    h.open_end last.0 last.1

-- the law

at_seam : {X : Type 0} (xs : List X) (y : X) (ys : List X) → slice_get (xs ++ y ∷ ys) (length xs) ≡ Some y
at_seam [] y ys = refl
at_seam (x ∷ xs) y ys = at_seam xs y ys

module _ (text : List ℕ) (at : ℕ) (stops : Stops (Between []) (tokens text) at) where
  given : symbols text ≡ map symbol_of stops.front ++ stops.token.symbol ∷ map symbol_of stops.later
  given = ap (map symbol_of) stops.whole ∙ map-append symbol_of stops.front (stops.token ∷ stops.later)

  front_viable : IsViable schema_spelling (map symbol_of stops.front)
  front_viable =
      let read = run_read (Between []) (map symbol_of stops.front) stops.place stops.led in
      let spelled = spelled_front text (map symbol_of stops.front) stops.token.symbol (map symbol_of stops.later) given in
      let on = goes_on stops.place (ap (list_all is_spelled) read ∙ spelled) in
      viable_of schema_spelling on.tables (map symbol_of stops.front) on.rest (spelled_both (map symbol_of stops.front) on.rest spelled on.spelled)
      (ap (λ front. (front ++ on.rest) ++ EndOfText ∷ []) (sym read) ∙ on.whole)

  is_syntax_fault : IsSyntaxFault schema_spelling text at
  is_syntax_fault = record {
    place = length (map symbol_of stops.front);
    fault = fault_after schema_spelling text (map symbol_of stops.front) stops.token.symbol (map symbol_of stops.later) given front_viable
        (dead_after schema_spelling schema_step (Between []) stops.place (map symbol_of stops.front) stops.token.symbol (λ tree. (Ended tree, leads tree)) stops.led stops.refused);
    offset =
        ap (option_map (λ (token : Token). token.at))
        (ap (slice_get (tokens text)) (length-map stops.front symbol_of)
        ∙ (ap (λ all. slice_get all (length stops.front)) stops.whole ∙ at_seam stops.front stops.token stops.later))
        ∙ ap Some stops.offset;
  }

fault_found : (text : List ℕ) (at : ℕ) → schema_syntax_of text ≡ Err at → IsSyntaxFault schema_spelling text at
fault_found text at e =
    elim (fault_read (Some (Between [])) 0 (tokens text) at e) [
      | inl h ↦ is_syntax_fault text at h
      | inr h ↦ absurd (never_exhausts text h)
    ]

tree_found : (text : List ℕ) (tables : SchemaText) → schema_syntax_of text ≡ Ok tables → Spells schema_spelling text tables
tree_found text tables e = sym (run_read (Between []) (symbols text) (Ended tables) (tree_read (Some (Between [])) 0 (tokens text) tables e))

tree_given : (text : List ℕ) (tables : SchemaText) (answer : Result SchemaText ℕ) → schema_syntax_of text ≡ answer → Spells schema_spelling text tables → answer ≡ Ok tables
tree_given text tables (Ok other) e h =
    let a = tree_read (Some (Between [])) 0 (tokens text) other e in
    let b : run schema_step (Between []) (symbols text) ≡ Some (Ended tables) = ap (run schema_step (Between [])) h ∙ leads tables in
    let c : Ended other ≡ Ended tables = unSome (sym a ∙ b) in
    let d : other ≡ tables = cc in
    ap Ok d
tree_given text tables (Err at) e h = let f = fault_found text at e in absurd (no_fault schema_spelling text tables f.place h f.fault)

fault_given : (text : List ℕ) (at : ℕ) (answer : Result SchemaText ℕ) → schema_syntax_of text ≡ answer → IsSyntaxFault schema_spelling text at → answer ≡ Err at
fault_given text at (Ok tables) e h = absurd (no_fault schema_spelling text tables h.place (tree_found text tables e) h.fault)
fault_given text at (Err other) e h =
    let f = fault_found text other e in
    let same = one_fault schema_spelling (symbols text) f.place h.place f.fault h.fault in
    ap Err (unSome (sym f.offset ∙ (ap (offset_of text) same ∙ h.offset)))

pub schema_places : SchemaPlacesAreExact
schema_places = record {
  tree = λ text tables. (tree_found text tables, tree_given text tables (schema_syntax_of text) refl);
  fault = λ text at. (fault_found text at, fault_given text at (schema_syntax_of text) refl);
}
