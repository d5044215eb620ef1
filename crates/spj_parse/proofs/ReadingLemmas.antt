-- The rules in their order, and the query that is gathered where none is broken.
use Rattle.std.proofs.Common.{◌≡◌, ℕ, ◌+◌, ◌≤◌, Bool, true, false, not, ◌||◌, nat_lt, List, [], ◌∷◌, ◌++◌, length, map, take, filter_map, flat_map, sum_by, Option, Some, None, Ok, Err, take_all, append-nil, refl, ap, ap₂, sym, ◌∙◌, arith}
use Rattle.std.specs.Prelude.{option_to_list}
use Rattle.std.specs.List.{list_any, list_all, cons_option}
use Rattle.std.proofs.lemmas.Bool.{ltb-false}
use Rattle.std.proofs.lemmas.Grind.{flat_map-append}
use Rattle.ghost_model.specs.core.Schema.{Schema}
use Rattle.ghost_model.specs.refusals.QueryGrammar.{ColumnText, Selection, All, Columns, QueryText}
use Rattle.ghost_model.specs.readings.QueryPlaces.{syntax_of}
use Rattle.ghost_model.specs.refusals.Rules.{broken_if, first_broken}
use Rattle.ghost_model.specs.refusals.QueryMeaning as meaning
use Rattle.ghost_model.specs.refusals.QueryMeaning.{Refusal, literal_conditions, selected_count, table_named, from_names, from_tables, resolved, is_over_limit, has_unknown_table, has_unknown_column, is_ambiguous, is_unlinked, is_of_one_table}
use Rattle.ghost_model.specs.laws.ShortWords.{has_kind_mismatch, has_bad_literal}
use Rattle.ghost_model.specs.readings.QueryReading.{reading, judged, query_unless}
use Rattle.spj_parse.specs.declared.conditions.ConditionTest.TheVariants as test
use Rattle.spj_parse.specs.Conditions.{IsClear, item_passes}
use Rattle.spj_parse.proofs.ConditionLemmas.{test_of_tree}
use Rattle.spj_parse.specs.Items.{Selected, From, selection_items, condition_items, items_of, items_in}
use Rattle.spj_parse.specs.Resolved.{item_tables}
use Rattle.spj_parse.proofs.TreeLemmas.{items_are}
use Rattle.spj_parse.proofs.WalkLemmas.{none_where}

-- the first rule that is broken
abbrev pub verdict : (over table column ambiguous kind literal link mixed : Bool) → Option Refusal
verdict over table column ambiguous kind literal link mixed =
    first_broken
    (broken_if over meaning.Limit
    ∷ broken_if table meaning.UnknownTable
    ∷ broken_if column meaning.UnknownColumn
    ∷ broken_if ambiguous meaning.Ambiguous
    ∷ broken_if kind meaning.KindMismatch
    ∷ broken_if literal meaning.BadLiteral
    ∷ broken_if link meaning.NotLinked
    ∷ broken_if mixed meaning.MixedTables
    ∷ [])

pub judged_by : (schema : Schema) (text : List ℕ) (tree : QueryText) → syntax_of text ≡ Ok tree → (over table column ambiguous kind literal link mixed : Bool)
    → over ≡ is_over_limit schema text tree → table ≡ has_unknown_table schema tree → column ≡ has_unknown_column schema tree → ambiguous ≡ is_ambiguous schema tree
    → kind ≡ has_kind_mismatch schema tree → literal ≡ has_bad_literal schema tree → link ≡ is_unlinked schema (resolved schema tree) → mixed ≡ not (list_all is_of_one_table (resolved schema tree).conditions)
    → reading schema text ≡ query_unless (resolved schema tree) (verdict over table column ambiguous kind literal link mixed)
judged_by schema text tree h over table column ambiguous kind literal link mixed a b c d e f g m =
    ap (judged schema text) h
    ∙ sym (ap (query_unless (resolved schema tree))
    (ap (λ t. verdict t table column ambiguous kind literal link mixed) a
    ∙ ap (λ t. verdict (is_over_limit schema text tree) t column ambiguous kind literal link mixed) b
    ∙ ap (λ t. verdict (is_over_limit schema text tree) (has_unknown_table schema tree) t ambiguous kind literal link mixed) c
    ∙ ap (λ t. verdict (is_over_limit schema text tree) (has_unknown_table schema tree) (has_unknown_column schema tree) t kind literal link mixed) d
    ∙ ap (λ t. verdict (is_over_limit schema text tree) (has_unknown_table schema tree) (has_unknown_column schema tree) (is_ambiguous schema tree) t literal link mixed) e
    ∙ ap (λ t. verdict (is_over_limit schema text tree) (has_unknown_table schema tree) (has_unknown_column schema tree) (is_ambiguous schema tree) (has_kind_mismatch schema tree) t link mixed) f
    ∙ ap (λ t. verdict (is_over_limit schema text tree) (has_unknown_table schema tree) (has_unknown_column schema tree) (is_ambiguous schema tree) (has_kind_mismatch schema tree) (has_bad_literal schema tree) t mixed) g
    ∙ ap (λ t. verdict (is_over_limit schema text tree) (has_unknown_table schema tree) (has_unknown_column schema tree) (is_ambiguous schema tree) (has_kind_mismatch schema tree) (has_bad_literal schema tree) (is_unlinked schema (resolved schema tree)) t) m))

pub syntax_refused : (schema : Schema) (text : List ℕ) (at : ℕ) → syntax_of text ≡ Err at → reading schema text ≡ Err (meaning.Syntax at)
syntax_refused schema text at h = ap (judged schema text) h

-- the limits are kept

left_of : (a b : Bool) → (a || b) ≡ false → a ≡ false
left_of true b h = h
left_of false b h = refl

right_of : (a b : Bool) → (a || b) ≡ false → b ≡ false
right_of true b h = absurd (let no : true ≡ false = h in cc)
right_of false b h = h

pub few_tables : (schema : Schema) (text : List ℕ) (tree : QueryText) → is_over_limit schema text tree ≡ false → length (from_names tree) ≤ 12
few_tables schema text tree h = ltb-false 12 (length (from_names tree)) (right_of _ (nat_lt 12 (length (from_names tree))) (left_of _ (nat_lt 16 (sum_by literal_conditions tree.conditions)) (left_of _ (nat_lt 32 (selected_count schema tree tree.selection)) h)))

pub few_tests : (schema : Schema) (text : List ℕ) (tree : QueryText) → is_over_limit schema text tree ≡ false → sum_by literal_conditions tree.conditions ≤ 16
few_tests schema text tree h = ltb-false 16 (sum_by literal_conditions tree.conditions) (right_of _ (nat_lt 16 (sum_by literal_conditions tree.conditions)) (left_of _ (nat_lt 32 (selected_count schema tree tree.selection)) h))

pub few_selected : (schema : Schema) (text : List ℕ) (tree : QueryText) → is_over_limit schema text tree ≡ false → selected_count schema tree tree.selection ≤ 32
few_selected schema text tree h = ltb-false 32 (selected_count schema tree tree.selection) (right_of _ (nat_lt 32 (selected_count schema tree tree.selection)) h)

-- the FROM tables

no_tables_selected : (schema : Schema) (more : List ColumnText) → flat_map (item_tables schema) (map Selected more) ≡ []
no_tables_selected schema [] = refl
no_tables_selected schema (x ∷ xs) = no_tables_selected schema xs

no_tables : (schema : Schema) (selection : Selection) → flat_map (item_tables schema) (selection_items selection) ≡ []
no_tables schema All = refl
no_tables schema (Columns column more) = no_tables_selected schema more

named_by : (found : Option ℕ) (rest : List ℕ) → option_to_list found ++ rest ≡ cons_option found rest
named_by None rest = refl
named_by (Some table) rest = refl

named : (schema : Schema) (names : List (List ℕ)) → flat_map (item_tables schema) (map From names) ≡ filter_map (table_named schema) names
named schema [] = refl
named schema (name ∷ names) = ap (λ rest. option_to_list (table_named schema name) ++ rest) (named schema names) ∙ named_by (table_named schema name) (filter_map (table_named schema) names)

pub tables_of_items : (schema : Schema) (tree : QueryText) → flat_map (item_tables schema) (items_of tree) ≡ from_tables schema tree
tables_of_items schema tree =
    flat_map-append (item_tables schema) (selection_items tree.selection) (map From (from_names tree) ++ flat_map condition_items tree.conditions)
    ∙ ap₂ (λ xs ys. xs ++ ys) (no_tables schema tree.selection)
    (flat_map-append (item_tables schema) (map From (from_names tree)) (flat_map condition_items tree.conditions)
    ∙ ap₂ (λ xs ys. xs ++ ys) (named schema (from_names tree)) (none_where (item_tables schema) (λ piece. refl) tree.conditions)
    ∙ append-nil (from_tables schema tree))

fewer_by : {X Y : Type 0} (found : Option Y) (rest : List Y) (names : List X) → length rest ≤ length names → length (cons_option found rest) ≤ length names + 1
fewer_by None rest names h = omega (arith, h)
fewer_by (Some y) rest names h = omega (arith, h)

pub fewer : {X Y : Type 0} (f : X → Option Y) (xs : List X) → length (filter_map f xs) ≤ length xs
fewer f [] = omega arith
fewer f (x ∷ xs) = let rest : length (cons_option (f x) (filter_map f xs)) ≤ length xs + 1 = fewer_by (f x) (filter_map f xs) xs (fewer f xs) in omega (arith, rest)

pub from_are : (schema : Schema) (text : List ℕ) (tree : QueryText) (from : List ℕ) → syntax_of text ≡ Ok tree → is_over_limit schema text tree ≡ false
    → from ≡ take 12 (flat_map (item_tables schema) (items_in text)) → from ≡ from_tables schema tree
from_are schema text tree from h k e =
    let few : length (from_tables schema tree) ≤ length (from_names tree) = fewer (table_named schema) (from_names tree) in
    let room : length (from_tables schema tree) ≤ 12 = omega (arith, few, few_tables schema text tree k) in
    e ∙ ap (take 12) (ap (flat_map (item_tables schema)) (items_are text tree h) ∙ tables_of_items schema tree) ∙ take_all 12 (from_tables schema tree) room

pub kind_in : (schema : Schema) (text : List ℕ) (tree : QueryText) (from : List ℕ) (b : Bool) → syntax_of text ≡ Ok tree → from ≡ from_tables schema tree → IsClear schema tree
    → b ≡ list_any (item_passes test.OtherKind schema from) (items_in text) → b ≡ has_kind_mismatch schema tree
kind_in schema text tree from b h f k e = e ∙ test_of_tree test.OtherKind schema text tree from h f k

pub literal_in : (schema : Schema) (text : List ℕ) (tree : QueryText) (from : List ℕ) (b : Bool) → syntax_of text ≡ Ok tree → from ≡ from_tables schema tree → IsClear schema tree
    → b ≡ list_any (item_passes test.TooLarge schema from) (items_in text) → b ≡ has_bad_literal schema tree
literal_in schema text tree from b h f k e = e ∙ test_of_tree test.TooLarge schema text tree from h f k
