use Rattle.std.proofs.Common.{◌≡◌, ◌∷◌, [], List, length, map, drop, sym, ap, ◌∙◌, flat_map, refl, arith}
use Rattle.ghost_model.specs.core.Schema.{Schema}
use Rattle.ghost_model.specs.forms.Catalog.{column_text}
use Rattle.tree_schema.specs.Views.{column_of}
use Rattle.tree_schema.specs.Windows.{pane, with_text}
use Rattle.tree_schema.specs.declared.schema.Column.{Column}
use Rattle.tree_schema.proofs.WindowLemmas.{with_no_text}
use Rattle.tree_schema.proofs.canonical.put_other_columns.Goals as goal

no_others : (schema : Schema) (columns : List Column) → length columns ≡ 0 → flat_map (column_text schema) (drop 1 (map column_of columns)) ≡ []
no_others schema [] e = refl
no_others schema (column ∷ columns) e = absurd (omega arith)

pub returns-in-None : goal.returns-in-None
returns-in-None c = record {
  text = sym (with_no_text (pane c.args.window.now c.args.out.now))
      ∙ ap (with_text (pane c.args.window.now c.args.out.now))
      (sym (no_others c.args.schema.now c.args.table.now.columns.items (ap length (sym c.deref.ensures.0) ∙ c.in-None.ensures.cases)));
}
