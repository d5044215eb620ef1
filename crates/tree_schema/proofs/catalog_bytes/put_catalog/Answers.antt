use Rattle.std.proofs.Common.{length, ap, ◌∙◌}
use Rattle.ghost_model.specs.forms.Catalog.{catalog_head, canonical_text, counts_bytes}
use Rattle.tree_schema.specs.Views.{version_of}
use Rattle.tree_schema.specs.Windows.{pane, with_text}
use Rattle.tree_schema.proofs.WindowLemmas.{then_text}
use Rattle.tree_schema.proofs.catalog_bytes.put_catalog.Goals as goal

pub returns : goal.returns
returns c =
    let cat = c.args.cat.now in
    let text = canonical_text cat.schema in
    let before = pane c.args.window.now c.args.out.now in
    let headed = pane c.put_head.new.window c.put_head.new.out in
    record {
      text = then_text before (catalog_head cat.version cat.generation (length text)) _
          (c.put_head.ensures.text ∙ (ap (λ g. with_text before (catalog_head (version_of c.version.result) g c.text_len.result)) c.generation.ensures.value
          ∙ (ap (λ n. with_text before (catalog_head (version_of c.version.result) cat.generation n)) c.text_len.ensures.value
          ∙ ap (λ v. with_text before (catalog_head v cat.generation (length text))) c.version.ensures)))
          (then_text headed text (counts_bytes cat.counts)
          (c.put_schema.ensures.text ∙ ap (λ schema. with_text headed (canonical_text schema)) c.schema.ensures.value) c.put_counts.ensures.text);
    }
