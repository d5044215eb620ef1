use Rattle.std.proofs.Common.{codes, decimal}
use Rattle.tree_schema.specs.Windows.{pane}
use Rattle.tree_schema.proofs.WindowLemmas.{then_text}
use Rattle.tree_schema.proofs.canonical.put_chars.Goals as goal

pub returns : goal.returns
returns c = record {
  text = then_text (pane c.args.window.now c.args.out.now) (codes "CHAR(") _ c.put.ensures.text
      (then_text _ (decimal c.args.most) c.args.end.now c.put_number.ensures.text c.put-2.ensures.text);
}
