-- The names of a schema are in lower case, and what the columns of a text may mean.
use Rattle.std.proofs.Common.{◌≡◌, ℕ, ◌+◌, ◌<◌, ◌≤◌, Bool, true, false, cond, not, ◌&&◌, List, [], ◌∷◌, ◌++◌, length, take, filter, flat_map, Option, Some, None, slice_get, bytes_eq, get_or, option_map, refl, ap, ap₂, sym, ◌∙◌, take_all, take-append-drop, drop, drop-cons, suc, is_some, arith}
use Rattle.std.proofs.lemmas.Grind.{flat_map-append}
use Rattle.std.proofs.lemmas.List.Elements.{filter-append}
use Rattle.std.proofs.lemmas.List.Folds.{length-flat_map-take}
use Rattle.spj_parse.specs.declared.query.Field.{Field as FieldValue}
use Rattle.spj_parse.specs.Views.{field_of}
use Rattle.std.specs.Prelude.{option_to_list}
use Rattle.std.proofs.lemmas.Bool.{and_parts}
use Rattle.std.proofs.lemmas.Slice.Eq.{bytes_eq-Decides}
use Rattle.ghost_model.specs.core.Schema.{Schema, Table, Column, column_at, is_table, first_of}
use Rattle.ghost_model.specs.laws.SchemaTrees.{IsTree}
use Rattle.ghost_model.specs.laws.Spelled.{is_name, begins_as_name, is_reserved}
use Rattle.ghost_model.specs.refusals.Tokens.{in_lower_case, is_name_byte}
use Rattle.std.specs.List.{list_all}
use Rattle.ghost_model.specs.core.Query.{Field, only}
use Rattle.ghost_model.specs.refusals.QueryGrammar.{ColumnText, Bare, Qualified}
use Rattle.ghost_model.specs.refusals.QueryMeaning.{fields_named, meanings, table_named}
use Rattle.spj_parse.specs.Names.{fields_in}

lower : (name : List ℕ) → is_name name ≡ true → in_lower_case name ≡ name
unfolding is_name
lower name h =
    (bytes_eq-Decides (in_lower_case name) name).0
    (and_parts (begins_as_name name && list_all is_name_byte name) (bytes_eq (in_lower_case name) name) (and_parts _ (not (is_reserved name)) h).0).1

pub lower_table : (schema : Schema) → IsTree schema → (table : ℕ) (held : Table) → Some held ≡ slice_get schema table → in_lower_case held.name ≡ held.name
lower_table schema tree table held h = lower held.name (tree.table_names_are_names table held (sym h))

pub lower_column : (schema : Schema) → IsTree schema → (table column : ℕ) (held : Column) → Some held ≡ column_at schema table column → in_lower_case held.name ≡ held.name
lower_column schema tree table column held h = lower held.name (tree.names_are_names table column held (sym h))

one_of_those : (schema : Schema) (name : List ℕ) (table : ℕ) (kept : List ℕ) (rest : List Field) (t : Bool) → flat_map (fields_named schema name) kept ≡ rest
    → flat_map (fields_named schema name) (cond t (table ∷ kept) kept) ≡ cond t (fields_named schema name table) [] ++ rest
one_of_those schema name table kept rest true h = ap (λ others. fields_named schema name table ++ others) h
one_of_those schema name table kept rest false h = h

of_those : (schema : Schema) (name : List ℕ) (test : ℕ → Bool) (from : List ℕ)
    → flat_map (fields_named schema name) (filter test from) ≡ flat_map (λ table. cond (test table) (fields_named schema name table) []) from
of_those schema name test [] = refl
of_those schema name test (table ∷ from) = one_of_those schema name table (filter test from) _ (test table) (of_those schema name test from)

pub meant : (schema : Schema) (from : List ℕ) (column : ColumnText) → flat_map (fields_in schema column) from ≡ meanings schema from column
meant schema from (Bare name) = refl
meant schema from (Qualified qualifier name) = sym (of_those schema name (λ other. is_table other (table_named schema qualifier)) from)

pub all_taken : (f : ℕ → List Field) (from : List ℕ) (i : ℕ) → length from ≤ i → flat_map f (take i from) ≡ flat_map f from
all_taken f from i h = ap (flat_map f) (take_all i from h)

-- one column before, and one more here
pub several : (f : ℕ → List Field) (from : List ℕ) (i : ℕ) (before here : Field) → before ∷ [] ≡ flat_map f (take i from) → here ∷ [] ≡ f (get_or from i 0) → i < length from → 1 < length (flat_map f from)
several f from i before here b h within =
    let front : length (before ∷ []) ≡ length (flat_map f (take i from)) = ap length b in
    let next : length (here ∷ []) ≡ length (f (get_or from i 0)) = ap length h in
    let whole : length (flat_map f (take i from)) + length (f (get_or from i 0)) ≤ length (flat_map f from) = length-flat_map-take f from i 0 within in
    omega (arith, front, next, whole)

abbrev one_or_none : Option FieldValue → List Field
one_or_none found = option_to_list (option_map field_of found)

pub several_of : (f : ℕ → List Field) (from : List ℕ) (i : ℕ) (before : Option FieldValue) (here : FieldValue) → true ≡ is_some before → one_or_none before ≡ flat_map f (take i from)
    → field_of here ∷ [] ≡ f (get_or from i 0) → i < length from → 1 < length (flat_map f from)
several_of f from i None here s b h within = absurd (let no : true ≡ false = s in cc)
several_of f from i (Some before) here s b h within = several f from i (field_of before) (field_of here) b h within

pub first_found : (f : ℕ → List Field) (from : List ℕ) (i : ℕ) (here : Field) → flat_map f (take i from) ≡ [] → here ∷ [] ≡ f (get_or from i 0) → i < length from → first_of (flat_map f from) ≡ Some here
first_found f from i here e h within =
    ap (λ xs. first_of (flat_map f xs)) (sym (take-append-drop i from))
    ∙ ap first_of (flat_map-append f (take i from) (drop i from) ∙ ap (λ xs. xs ++ flat_map f (drop i from)) e
    ∙ ap (flat_map f) (drop-cons from i 0 within) ∙ ap (λ xs. xs ++ flat_map f (drop (suc i) from)) (sym h))

two_first : (t : Bool) (x y : ℕ) (rest : List ℕ) → t ≡ true → None ≡ only (x ∷ [] ++ cond t (y ∷ rest) rest)
two_first true x y rest h = refl
two_first false x y rest h = absurd (let no : false ≡ true = h in cc)

pub two_pass : (test : ℕ → Bool) (from : List ℕ) (i : ℕ) (before : Option ℕ) → true ≡ is_some before → option_to_list before ≡ filter test (take i from) → test (get_or from i 0) ≡ true → i < length from → None ≡ only (filter test from)
two_pass test from i None s b h within = absurd (let no : true ≡ false = s in cc)
two_pass test from i (Some x) s b h within =
    two_first (test (get_or from i 0)) x (get_or from i 0) (filter test (drop (suc i) from)) h
    ∙ sym (ap (λ xs. only (filter test xs)) (sym (take-append-drop i from))
    ∙ ap only (filter-append test (take i from) (drop i from) ∙ ap₂ (λ xs ys. xs ++ ys) (sym b) (ap (filter test) (drop-cons from i 0 within))))
