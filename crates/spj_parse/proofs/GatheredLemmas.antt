-- What is gathered of a text that breaks no rule is its query, with each of its joins once.
use Rattle.std.proofs.Common.{◌≡◌, ℕ, zero, suc, ◌+◌, ◌<◌, ◌≤◌, Bool, true, false, cond, List, [], ◌∷◌, ◌++◌, length, map, take, filter, flat_map, Option, Some, None, option_map, slice_get, Ok, length-append, take_all, append-nil, refl, ap, ap₂, sym, subst, ◌∙◌, arith}
use Rattle.std.specs.Prelude.{option_to_list}
use Rattle.std.specs.List.{list_any}
use Rattle.std.proofs.lemmas.List.Folds.{list_any-append}
use Rattle.std.proofs.lemmas.Grind.{flat_map-append}
use Rattle.ghost_model.specs.core.Schema.{Schema, Column, column_at, columns_of, first_of, is_table, parent, column_named}
use Rattle.ghost_model.specs.core.Query.{Query, Field, Condition, Join, is_among}
use Rattle.ghost_model.specs.refusals.QueryGrammar.{ColumnText, Bare, Qualified, Selection, All, Columns, QueryText}
use Rattle.ghost_model.specs.readings.QueryPlaces.{syntax_of}
use Rattle.ghost_model.specs.refusals.QueryMeaning.{field, table_named, fields_named, fields_of, meanings, from_names, from_tables, selected_fields, selected_count, selection_columns, condition_columns, resolved, is_over_limit}
use Rattle.spj_parse.specs.Conditions.{IsClear, first_alone}
use Rattle.spj_parse.specs.Items.{Item, Selected, From, selection_items, condition_items, items_of, items_in}
use Rattle.spj_parse.specs.Names.{first_meaning, fields_in}
use Rattle.spj_parse.specs.Resolved.{item_fields, is_group, joins_of, join_to, join_with, join_by, linked}
use Rattle.spj_parse.proofs.TreeLemmas.{items_are}
use Rattle.spj_parse.proofs.WalkLemmas.{none_where}
use Rattle.spj_parse.proofs.ConditionLemmas.{all_clear}
use Rattle.spj_parse.proofs.TestLemmas.{is_unclear, clear, left_of, right_of}
use Rattle.spj_parse.proofs.ReadingLemmas.{few_tables, few_selected, fewer}
use Rattle.spj_parse.proofs.Places.{place_below}
use Rattle.spj_parse.proofs.NameLemmas.{meant}

-- the selected columns

pub none_from : {Y : Type 0} (give : Item → List Y) → ((name : List ℕ) → give (From name) ≡ []) → (names : List (List ℕ)) → flat_map give (map From names) ≡ []
none_from give none [] = refl
none_from give none (name ∷ names) = ap₂ (λ xs ys. xs ++ ys) (none name) (none_from give none names)

meanings_alone : (schema : Schema) (from : List ℕ) (columns : List ColumnText) → list_any (is_unclear schema from) columns ≡ false → flat_map (item_fields schema from) (map Selected columns) ≡ flat_map (meanings schema from) columns
meanings_alone schema from [] h = refl
meanings_alone schema from (column ∷ columns) h =
    ap₂ (λ xs ys. xs ++ ys) (clear schema from column (left_of (is_unclear schema from column) (list_any (is_unclear schema from) columns) h))
    (meanings_alone schema from columns (right_of (is_unclear schema from column) (list_any (is_unclear schema from) columns) h))

selection_fields : (schema : Schema) (from : List ℕ) (selection : Selection) → list_any (is_unclear schema from) (selection_columns selection) ≡ false → flat_map (item_fields schema from) (selection_items selection) ≡ selected_fields schema from selection
selection_fields schema from All h = append-nil (flat_map (fields_of schema) from)
selection_fields schema from (Columns column more) h = meanings_alone schema from (column ∷ more) h

fields_of_items : (schema : Schema) (from : List ℕ) (tree : QueryText) → list_any (is_unclear schema from) (selection_columns tree.selection) ≡ false → flat_map (item_fields schema from) (items_of tree) ≡ selected_fields schema from tree.selection
fields_of_items schema from tree h =
    flat_map-append (item_fields schema from) (selection_items tree.selection) (map From (from_names tree) ++ flat_map condition_items tree.conditions)
    ∙ ap₂ (λ xs ys. xs ++ ys) (selection_fields schema from tree.selection h)
    (flat_map-append (item_fields schema from) (map From (from_names tree)) (flat_map condition_items tree.conditions)
    ∙ ap₂ (λ xs ys. xs ++ ys) (none_from (item_fields schema from) (λ name. refl) (from_names tree)) (none_where (item_fields schema from) (λ piece. refl) tree.conditions))
    ∙ append-nil (selected_fields schema from tree.selection)

one_or_less : {X : Type 0} (found : Option X) → length (option_to_list found) ≤ 1
one_or_less None = omega arith
one_or_less (Some x) = omega arith

few_meanings : (schema : Schema) (from : List ℕ) (columns : List ColumnText) → length (flat_map (item_fields schema from) (map Selected columns)) ≤ length columns
few_meanings schema from [] = omega arith
few_meanings schema from (column ∷ columns) =
    let here : length (first_alone schema from column) ≤ 1 = one_or_less (first_meaning schema from column) in
    let rest : length (flat_map (item_fields schema from) (map Selected columns)) ≤ length columns = few_meanings schema from columns in
    let whole : length (first_alone schema from column ++ flat_map (item_fields schema from) (map Selected columns)) ≡ length (first_alone schema from column) + length (flat_map (item_fields schema from) (map Selected columns)) =
    length-append (first_alone schema from column) (flat_map (item_fields schema from) (map Selected columns)) in
    omega (arith, here, rest, whole)

selected_fits : (schema : Schema) (tree : QueryText) (selection : Selection) → list_any (is_unclear schema (from_tables schema tree)) (selection_columns selection) ≡ false
    → selected_count schema tree selection ≤ 32 → length (selected_fields schema (from_tables schema tree) selection) ≤ 32
selected_fits schema tree All h few = few
selected_fits schema tree (Columns column more) h few =
    let count : length (flat_map (item_fields schema (from_tables schema tree)) (map Selected (column ∷ more))) ≤ length (column ∷ more) = few_meanings schema (from_tables schema tree) (column ∷ more) in
    let same : length (flat_map (item_fields schema (from_tables schema tree)) (map Selected (column ∷ more))) ≡ length (selected_fields schema (from_tables schema tree) (Columns column more)) =
    ap length (meanings_alone schema (from_tables schema tree) (column ∷ more) h) in
    omega (arith, count, same, few)

pub selected_are : (schema : Schema) (text : List ℕ) (tree : QueryText) (from : List ℕ) (fields : List Field) → syntax_of text ≡ Ok tree → is_over_limit schema text tree ≡ false → from ≡ from_tables schema tree → IsClear schema tree
    → fields ≡ take 32 (flat_map (item_fields schema from) (items_in text)) → fields ≡ selected_fields schema (from_tables schema tree) tree.selection
selected_are schema text tree from fields h k f c e =
    let plain : list_any (is_unclear schema (from_tables schema tree)) (selection_columns tree.selection) ≡ false =
    left_of (list_any (is_unclear schema (from_tables schema tree)) (selection_columns tree.selection)) (list_any (is_unclear schema (from_tables schema tree)) (flat_map condition_columns tree.conditions))
    (sym (list_any-append (is_unclear schema (from_tables schema tree)) (selection_columns tree.selection) (flat_map condition_columns tree.conditions)) ∙ all_clear schema tree c) in
    e ∙ ap (take 32) (ap₂ (λ (tables : List ℕ) (items : List Item). flat_map (item_fields schema tables) items) f (items_are text tree h) ∙ fields_of_items schema (from_tables schema tree) tree plain)
    ∙ take_all 32 (selected_fields schema (from_tables schema tree) tree.selection) (selected_fits schema tree tree.selection plain (few_selected schema text tree k))

-- the joins

few_by : (table holder : ℕ) (key : Option ℕ) → length (join_by table holder key) ≤ 1
few_by table holder key = one_or_less (option_map (λ column. Join (field holder column) (field table 0)) key)

few_with : (b : Bool) (joins : List Condition) → length joins ≤ 1 → length (cond b joins []) ≤ 1
few_with true joins h = h
few_with false joins h = omega arith

few_to : (schema : Schema) (from : List ℕ) (table : ℕ) (holder : Option ℕ) → length (join_with schema from table holder) ≤ 1
few_to schema from table None = omega arith
few_to schema from table (Some holder) = few_with (is_among from holder) _ (few_by table holder _)

few_joins : (schema : Schema) (from tables : List ℕ) → length (flat_map (join_to schema from) tables) ≤ length tables
few_joins schema from [] = omega arith
few_joins schema from (table ∷ tables) =
    let here : length (join_to schema from table) ≤ 1 = few_to schema from table (parent schema table) in
    let rest : length (flat_map (join_to schema from) tables) ≤ length tables = few_joins schema from tables in
    let whole : length (join_to schema from table ++ flat_map (join_to schema from) tables) ≡ length (join_to schema from table) + length (flat_map (join_to schema from) tables) = length-append (join_to schema from table) (flat_map (join_to schema from) tables) in
    omega (arith, here, rest, whole)

pub joins_are : (schema : Schema) (text : List ℕ) (tree : QueryText) (from : List ℕ) (joins : List Condition) → is_over_limit schema text tree ≡ false → from ≡ from_tables schema tree
    → joins ≡ take 12 (joins_of schema from) → joins ≡ joins_of schema (from_tables schema tree)
joins_are schema text tree from joins k f e =
    let few : length (from_tables schema tree) ≤ length (from_names tree) = fewer (table_named schema) (from_names tree) in
    let count : length (joins_of schema (from_tables schema tree)) ≤ length (from_tables schema tree) = few_joins schema (from_tables schema tree) (from_tables schema tree) in
    e ∙ ap (λ (tables : List ℕ). take 12 (joins_of schema tables)) f
    ∙ take_all 12 (joins_of schema (from_tables schema tree)) (omega (arith, few, count, few_tables schema text tree k))

-- a column that a name means is one of its table's

pub record IsHeld (schema : Schema) (place : Field) : Type 0 where
  pub column : Column
  pub held : column_at schema place.table place.column ≡ Some column

held_at : {X : Type 0} (xs : List X) (p : ℕ) → p < length xs → (x : X) × (slice_get xs p ≡ Some x)
held_at [] p h = absurd (omega (arith, h))
held_at (x ∷ xs) zero h = (x, refl)
held_at (x ∷ xs) (suc p) h = held_at xs p (omega (arith, h))

named_held : (schema : Schema) (table : ℕ) (name : List ℕ) (p : ℕ) → column_named schema table name ≡ Some p → IsHeld schema (field table p)
named_held schema table name p e =
    let below : p < 0 + length (columns_of schema table) = place_below _ 0 p (columns_of schema table) e in
    let found = held_at (columns_of schema table) p (omega (arith, below)) in
    record { column = found.0; held = found.1 }

named_by : (schema : Schema) (table : ℕ) (name : List ℕ) (found : Option ℕ) → column_named schema table name ≡ found → (place : Field) → first_of (option_to_list (option_map (field table) found)) ≡ Some place → IsHeld schema place
named_by schema table name None e place f = absurd (let no : None ≡ Some place = f in cc)
named_by schema table name (Some p) e place f = subst (IsHeld schema) (let same : field table p ≡ place = (let g : Some (field table p) ≡ Some place = f in cc) in same) (named_held schema table name p e)

first_by : (b : Bool) (schema : Schema) (table : ℕ) (name : List ℕ) (place : Field) → first_of (cond b (fields_named schema name table) []) ≡ Some place → IsHeld schema place
first_by true schema table name place f = named_by schema table name (column_named schema table name) refl place f
first_by false schema table name place f = absurd (let no : None ≡ Some place = f in cc)

field_held : (schema : Schema) (column : ColumnText) (table : ℕ) (place : Field) → first_of (fields_in schema column table) ≡ Some place → IsHeld schema place
field_held schema (Bare name) table place f = named_by schema table name (column_named schema table name) refl place f
field_held schema (Qualified qualifier name) table place f = first_by (is_table table (table_named schema qualifier)) schema table name place f

first_held : (schema : Schema) (here rest : List Field) → ((place : Field) → first_of here ≡ Some place → IsHeld schema place) → ((place : Field) → first_of rest ≡ Some place → IsHeld schema place)
    → (place : Field) → first_of (here ++ rest) ≡ Some place → IsHeld schema place
first_held schema [] rest h g place f = g place f
first_held schema (x ∷ xs) rest h g place f = h place f

fields_held : (schema : Schema) (column : ColumnText) (from : List ℕ) (place : Field) → first_of (flat_map (fields_in schema column) from) ≡ Some place → IsHeld schema place
fields_held schema column [] place f = absurd (let no : None ≡ Some place = f in cc)
fields_held schema column (table ∷ from) place f =
    first_held schema (fields_in schema column table) (flat_map (fields_in schema column) from) (field_held schema column table) (fields_held schema column from) place f

pub meaning_held : (schema : Schema) (from : List ℕ) (column : ColumnText) (place : Field) → first_meaning schema from column ≡ Some place → IsHeld schema place
meaning_held schema from column place f = fields_held schema column from place (ap first_of (meant schema from column) ∙ f)

-- a query of its parts
abbrev pub built : List ℕ → List Field → List Condition → List Condition → Query
built tables fields joins members = record { from = tables; select = fields; conditions = joins ++ members }

pub gathered : (schema : Schema) (tree : QueryText) (tables : List ℕ) (fields : List Field) (joins members : List Condition) → tables ≡ from_tables schema tree → fields ≡ selected_fields schema (from_tables schema tree) tree.selection
    → joins ≡ joins_of schema (from_tables schema tree) → members ≡ filter is_group (resolved schema tree).conditions → built tables fields joins members ≡ linked schema (resolved schema tree)
gathered schema tree tables fields joins members t s j k =
    ap (λ x. built x fields joins members) t
    ∙ ap (λ x. built (from_tables schema tree) x joins members) s
    ∙ ap (λ x. built (from_tables schema tree) (selected_fields schema (from_tables schema tree) tree.selection) x members) j
    ∙ ap (λ x. built (from_tables schema tree) (selected_fields schema (from_tables schema tree) tree.selection) (joins_of schema (from_tables schema tree)) x) k
