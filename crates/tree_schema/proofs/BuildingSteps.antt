-- What is within the limits as a whole is so in each part, and the rules by what is written and by what is built.
use Rattle.std.proofs.Common.{◌≡◌, ℕ, zero, suc, ◌+◌, ◌<◌, Bool, true, false, ◌||◌, List, [], ◌∷◌, length, map, get_or, find, Option, Some, None, option_map, refl, ap, sym, ◌∙◌, arith}
use Rattle.std.specs.List.{list_any}
use Rattle.std.specs.Option.{option_or}
use Rattle.ghost_model.specs.core.Schema.{places_from, places_of}
use Rattle.ghost_model.specs.refusals.Rules.{broken_if, first_broken}
use Rattle.ghost_model.specs.refusals.SchemaGrammar.{SchemaText}
use Rattle.ghost_model.specs.laws.ShortWords as short
use Rattle.ghost_model.specs.refusals.SchemaMeaning as meaning
use Rattle.ghost_model.specs.refusals.SchemaFaults as faults
use Rattle.tree_schema.specs.declared.syntax.ColumnDraft.{ColumnDraft}
use Rattle.tree_schema.specs.declared.syntax.TableDraft.{TableDraft}
use Rattle.tree_schema.specs.Drafts as drafts
use Rattle.tree_schema.specs.Faults.{is_shared, fault_of_texts, fault_of_tree}

neither : (a b : Bool) → (a || b) ≡ false → (a ≡ false) × (b ≡ false)
neither true b e = absurd (cc)
neither false b e = (refl, e)

none_of : {X Y : Type 0} (view : X → Y) (test : Y → Bool) (xs : List X) (at : ℕ) (other : X) → list_any test (map view xs) ≡ false → at < length xs → test (view (get_or xs at other)) ≡ false
none_of view test [] at other e h = absurd (let no : at < 0 = h in omega (arith, no))
none_of view test (x ∷ xs) zero other e h = (neither (test (view x)) _ e).0
none_of view test (x ∷ xs) (suc at) other e h = none_of view test xs at other (neither (test (view x)) _ e).1 (omega (arith, h))

-- the columns of a table, and the tables of a text
pub column_kept : (table : TableDraft) (at : ℕ) (other : ColumnDraft) → faults.is_table_over (drafts.table_of table) ≡ false → at < length table.others.items
    → faults.is_column_over (drafts.column_of (get_or table.others.items at other)) ≡ false
column_kept table at other e h =
    none_of drafts.column_of faults.is_column_over table.others.items at other (neither (faults.is_column_over (drafts.column_of table.first)) _ (neither _ _ e).1).1 h

pub table_kept : (tables : List TableDraft) (at : ℕ) (other : TableDraft) → faults.is_over (map drafts.table_of tables) ≡ false → at < length tables
    → faults.is_table_over (drafts.table_of (get_or tables at other)) ≡ false
table_kept tables at other e h = none_of drafts.table_of faults.is_table_over tables at other (neither _ _ e).1 h

-- the rules of the tree follow those of what is written

same_places : {X Y : Type 0} (view : X → Y) (xs : List X) (at : ℕ) → places_from (λ (_ : Y). true) at (map view xs) ≡ places_from (λ (_ : X). true) at xs
unfolding places_from
same_places view [] at = refl
same_places view (x ∷ xs) at = ap (λ places. at ∷ places) (same_places view xs (at + 1))

last_rule : {X : Type 0} (o : Option X) → option_or o None ≡ o
last_rule None = refl
last_rule (Some x) = refl

then_rest : {X : Type 0} (a b c d rest : Option X) → option_or a (option_or b (option_or c d)) ≡ None
    → option_or a (option_or b (option_or c (option_or d rest))) ≡ rest
then_rest None None None None rest e = refl
then_rest None None None (Some x) rest e = absurd (cc)
then_rest None None (Some x) d rest e = absurd (cc)
then_rest None (Some x) c d rest e = absurd (cc)
then_rest (Some x) b c d rest e = absurd (cc)

abbrev rest_by : SchemaText → List ℕ → Option faults.SchemaFault → Option faults.SchemaFault
rest_by tables places roots =
    option_or (option_map faults.TwoParents (find (is_shared (meaning.schema_of tables)) places))
    (option_or (option_map faults.Cycle (find (faults.returns (meaning.schema_of tables)) places)) roots)

abbrev by_roots : SchemaText → Option faults.SchemaFault
by_roots tables = short.wrong_roots (faults.roots_of (meaning.schema_of tables))

pub tree_decides : (tables : SchemaText) → fault_of_texts tables ≡ None → first_broken (faults.rules_of_schemas tables) ≡ fault_of_tree (meaning.schema_of tables)
tree_decides tables e =
    then_rest (broken_if (faults.is_over tables) faults.OverLimit) (option_map short.duplicate_at (find (faults.is_duplicate tables) (faults.fields tables)))
    (option_map faults.NoId (find (short.lacks_id tables) (places_of tables)))
    (option_map short.unknown_at (find (short.is_unknown tables) (faults.fields tables))) (rest_by tables (places_of tables) (option_or (by_roots tables) None)) e
    ∙ (ap (rest_by tables (places_of tables)) (last_rule (by_roots tables))
    ∙ ap (λ places. rest_by tables places (by_roots tables)) (sym (same_places (meaning.table_of tables) tables 0)))
