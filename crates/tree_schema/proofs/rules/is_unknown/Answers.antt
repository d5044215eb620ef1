use Rattle.std.proofs.Common.{◌≡◌, ℕ, false, [], Option, Some, None, map, slice_get, ◌∙◌, sym, ap, arith}
use Rattle.std.proofs.lemmas.Option.{slice_get_past}
use Rattle.ghost_model.specs.refusals.SchemaGrammar.{ColumnDeclaration, TableText, SchemaText}
use Rattle.ghost_model.specs.refusals.SchemaMeaning.{columns_written}
use Rattle.ghost_model.specs.laws.ShortWords as short
use Rattle.ghost_model.specs.refusals.SchemaFaults as faults
use Rattle.tree_schema.specs.Drafts.{column_of, table_of}
use Rattle.tree_schema.specs.Faults.{field_at}
use Rattle.tree_schema.proofs.RuleSteps.{item_at, no_item, mapped_item}
use Rattle.tree_schema.proofs.rules.is_unknown.Goals as goal

known_nowhere : (tables : SchemaText) (table column : ℕ) → slice_get tables table ≡ None → short.is_unknown tables (field_at table column) ≡ false
known_nowhere tables table column e =
    ap (λ o. faults.refers_nowhere tables (slice_get (faults.columns_at o) column)) e
    ∙ ap (faults.refers_nowhere tables) (slice_get_past {X = ColumnDeclaration} [] column (omega arith))

unknown_at : (tables : SchemaText) (table column : ℕ) (t : TableText) (found : Option ColumnDeclaration) → slice_get tables table ≡ Some t → slice_get (columns_written t) column ≡ found
    → short.is_unknown tables (field_at table column) ≡ faults.refers_nowhere tables found
unknown_at tables table column t found e f =
    ap (λ o. faults.refers_nowhere tables (slice_get (faults.columns_at o) column)) e ∙ ap (faults.refers_nowhere tables) f

pub returns-in-None : goal.returns-in-None
returns-in-None c =
    record { unknown = sym (known_nowhere _ c.args.table c.args.column (mapped_item table_of c.args.tables.now c.args.table _ (no_item _ _ c.in-None.ensures.lookup))) }

pub returns-in-None-column_at : goal.returns-in-None-column_at
returns-in-None-column_at c =
    let there : slice_get (map table_of c.args.tables.now) c.args.table ≡ Some (table_of c.in-Some.found.now) = mapped_item table_of c.args.tables.now c.args.table _ (item_at _ _ c.in-Some.found c.in-Some.ensures.lookup) in
    record { unknown = sym (unknown_at _ c.args.table c.args.column (table_of c.in-Some.found.now) None there (sym c.in-None-column_at.ensures.column)) }

pub returns-in-Some-column_at : goal.returns-in-Some-column_at
returns-in-Some-column_at c =
    let there : slice_get (map table_of c.args.tables.now) c.args.table ≡ Some (table_of c.in-Some.found.now) = mapped_item table_of c.args.tables.now c.args.table _ (item_at _ _ c.in-Some.found c.in-Some.ensures.lookup) in
    record {
      unknown = c.refers_nowhere.ensures.nowhere
          ∙ sym (unknown_at _ c.args.table c.args.column (table_of c.in-Some.found.now) (Some (column_of c.in-Some-column_at.draft)) there (sym c.in-Some-column_at.ensures.column));
    }
