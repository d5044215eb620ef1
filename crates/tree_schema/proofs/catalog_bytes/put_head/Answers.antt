use Rattle.std.proofs.Common.{codes, [], ◌∷◌, ap, ◌∙◌}
use Rattle.std.specs.Int.{to_be_bytes, w32}
use Rattle.tree_schema.specs.Views.{version_of}
use Rattle.tree_schema.specs.Windows.{pane, with_text}
use Rattle.tree_schema.proofs.WindowLemmas.{then_text}
use Rattle.tree_schema.proofs.catalog_bytes.put_head.Goals as goal

pub returns : goal.returns
returns c = record {
  text = then_text (pane c.args.window.now c.args.out.now) (codes "GHOSTDB") _ c.put.ensures.text
      (then_text _ (version_of c.args.version ∷ []) _ (c.put-2.ensures.text ∙ ap (λ n. with_text (pane c.put.new.self c.put.new.out) (n ∷ [])) c.number.ensures.value)
      (then_text _ (to_be_bytes w32 c.args.generation) (to_be_bytes w32 c.args.text_len)
      (c.put-3.ensures.text ∙ ap (with_text _) c.to_be_bytes.ensures)
      (c.put-4.ensures.text ∙ ap (with_text _) c.to_be_bytes-2.ensures)));
}
