use Rattle.std.proofs.Common.{codes}
use Rattle.ghost_model.specs.forms.Catalog.{table_name}
use Rattle.tree_schema.specs.Windows.{pane}
use Rattle.tree_schema.proofs.WindowLemmas.{then_text}
use Rattle.tree_schema.proofs.canonical.put_reference.Goals as goal

pub returns-in-Some : goal.returns-in-Some
returns-in-Some c = rw c.in-Some.is (record {
  text = then_text (pane c.args.window.now c.args.out.now) (codes " REFERENCES ") _ c.put.ensures.text
      (then_text _ (table_name c.args.schema.now c.in-Some.table) (codes "(id)") c.put_name.ensures.text c.put-in-Some.ensures.text);
})
