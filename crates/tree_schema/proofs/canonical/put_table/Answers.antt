use Rattle.std.proofs.Common.{codes, [], ◌∷◌, ap, ◌∙◌, flat_map, map, drop}
use Rattle.ghost_model.specs.forms.Catalog.{column_text}
use Rattle.tree_schema.specs.Views.{column_of}
use Rattle.tree_schema.specs.Windows.{pane, with_text}
use Rattle.tree_schema.proofs.WindowLemmas.{then_text}
use Rattle.tree_schema.proofs.canonical.put_table.Goals as goal

pub returns : goal.returns
returns c =
    let table = c.args.table.now in
    record {
      text = then_text (pane c.args.window.now c.args.out.now) (codes "CREATE TABLE ") _ c.put.ensures.text
          (then_text _ table.name.items _ (c.put-2.ensures.text ∙ ap (with_text _) c.deref.ensures.0)
          (then_text _ (codes " (id INTEGER PRIMARY KEY") _ c.put-3.ensures.text
          (then_text _ (flat_map (column_text c.args.schema.now) (drop 1 (map column_of table.columns.items))) _ c.put_other_columns.ensures.text
          (then_text _ (codes ");") (10 ∷ []) c.put-4.ensures.text c.put-5.ensures.text))));
    }
