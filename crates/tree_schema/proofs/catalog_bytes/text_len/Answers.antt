use Rattle.std.proofs.Common.{◌≡◌, [], length, ap, arith}
use Rattle.ghost_model.specs.core.Schema.{Schema}
use Rattle.ghost_model.specs.forms.Catalog.{canonical_text}
use Rattle.tree_schema.specs.Windows.{pane}
use Rattle.tree_schema.proofs.WindowFills.{IsPart, is_part}
use Rattle.tree_schema.proofs.CatalogLengths.{text_is_short}
use Rattle.tree_schema.proofs.catalog_bytes.text_len.Goals as goal

pub overflow_sub-result : goal.overflow_sub-result
overflow_sub-result c =
    let part : IsPart (canonical_text c.schema.result.now) 16640 [] (pane c.put_schema.new.window c.put_schema.new.out) =
    is_part (canonical_text c.schema.result.now) 16640 [] (pane c.put_schema.new.window c.put_schema.new.out) c.put_schema.ensures.text in
    omega (arith, part.skip)

pub returns-clause-value : goal.returns-clause-value
returns-clause-value c =
    let cat = c.args.cat.now in
    let part : IsPart (canonical_text c.schema.result.now) 16640 [] (pane c.put_schema.new.window c.put_schema.new.out) =
    is_part (canonical_text c.schema.result.now) 16640 [] (pane c.put_schema.new.window c.put_schema.new.out) c.put_schema.ensures.text in
    let same : length (canonical_text c.schema.result.now) ≡ length (canonical_text cat.schema) =
    ap (λ (schema : Schema). length (canonical_text schema)) c.schema.ensures.value in
    let proper = c.schema.ensures.catalog in
    let short = text_is_short cat proper.one_each c.a_catalog_is_short.ensures.most in
    omega (arith, part.skip, same, short)
