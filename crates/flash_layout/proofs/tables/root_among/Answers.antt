use Rattle.std.proofs.Common.{◌≡◌, ◌<◌, ◌∙◌, ap, sym, length, arith}
use Rattle.std.specs.Prelude.{is_none}
use Rattle.ghost_model.specs.core.Schema as schema
use Rattle.flash_layout.proofs.PlaceLemmas.{first_found, none_more, some_table}
use Rattle.flash_layout.proofs.tables.root_among.Goals as goal

pub returns-then-is_root-clause-root : goal.returns-then-is_root-clause-root
returns-then-is_root-clause-root c =
    let cat = c.args.cat.now in
    let table = c.loop-table.table in
    let there : table < length cat.schema = omega (arith, c.loop-table-test.true, c.tables-table-end.ensures.count, ap length c.schema.ensures.value) in
    sym (first_found (λ table. is_none (schema.parent cat.schema table)) table (length cat.schema) c.loop-table.invariant.none (sym c.is_root.ensures.root ∙ c.if-is_root.true) there)

pub loop-table-preserved : goal.loop-table-preserved
loop-table-preserved c =
    record { none = none_more (λ table. is_none (schema.parent c.args.cat.now.schema table)) c.loop-table.table c.loop-table.invariant.none (sym c.is_root.ensures.root ∙ c.if-is_root.false) }

pub returns-clause-there : goal.returns-clause-there
returns-clause-there c = some_table c.args.cat.now.schema c.a_catalog_has_a_layout.ensures.layout.tree.one_root
