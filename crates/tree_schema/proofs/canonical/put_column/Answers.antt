use Rattle.std.proofs.Common.{codes, ap, ◌∙◌}
use Rattle.ghost_model.specs.forms.Catalog.{kind_text, reference_text, hidden_text}
use Rattle.ghost_base.specs.Views.{kind_of}
use Rattle.tree_schema.specs.Windows.{pane, with_text}
use Rattle.tree_schema.proofs.WindowLemmas.{then_text}
use Rattle.tree_schema.proofs.canonical.put_column.Goals as goal

pub returns : goal.returns
returns c =
    let column = c.args.column.now in
    record {
      text = then_text (pane c.args.window.now c.args.out.now) (codes ", ") _ c.put.ensures.text
          (then_text _ column.name.items _ (c.put-2.ensures.text ∙ ap (with_text _) c.deref.ensures.0)
          (then_text _ (codes " ") _ c.put-3.ensures.text
          (then_text _ (kind_text (kind_of column.kind)) _ c.put_kind.ensures.text
          (then_text _ (reference_text c.args.schema.now column.child) (hidden_text column.hidden) c.put_reference.ensures.text c.put_hidden.ensures.text))));
    }
