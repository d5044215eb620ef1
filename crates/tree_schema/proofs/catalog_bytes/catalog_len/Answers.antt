use Rattle.std.proofs.Common.{◌≡◌, length, ap, ◌∙◌, sym, arith}
use Rattle.ghost_model.specs.core.Schema.{Schema}
use Rattle.tree_schema.proofs.CatalogLengths.{catalog_length}
use Rattle.tree_schema.proofs.catalog_bytes.catalog_len.Goals as goal

pub returns-clause-value : goal.returns-clause-value
returns-clause-value c =
    let cat = c.args.cat.now in
    let tables : c.tables-tables.result ≡ length cat.schema = c.tables-tables.ensures.count ∙ ap (λ (schema : Schema). length schema) c.schema.ensures.value in
    let whole = catalog_length cat c.schema.ensures.catalog.one_each in
    omega (arith, c.text_len.ensures.value, tables) ∙ sym whole

pub returns-clause-most : goal.returns-clause-most
returns-clause-most c =
    let cat = c.args.cat.now in
    let tables : c.tables-tables.result ≡ length cat.schema = c.tables-tables.ensures.count ∙ ap (λ (schema : Schema). length schema) c.schema.ensures.value in
    omega (arith, c.text_len.ensures.value, tables, catalog_length cat c.schema.ensures.catalog.one_each, c.a_catalog_is_short.ensures.most)
