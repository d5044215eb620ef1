use Rattle.std.proofs.Common.{◌≡◌, ◌∙◌, ◌+◌, sym, map, take, Some, None}
use Rattle.spj_parse.specs.Views.{field_of}
use Rattle.key_migrate.specs.Fields.{catalog_with}
use Rattle.key_migrate.proofs.ItemLemmas.{mapped_there, one_allowed}
use Rattle.key_migrate.proofs.items.with_columns.Goals as goal

pub unreachable-requires : goal.unreachable-requires
unreachable-requires c =
    let fields = map field_of c.args.fields.now in
    let gives = c.with_null.ensures
    ∙ one_allowed c.args.cat c.loop-field.cat fields c.loop-field.field-index _ c.loop-field.invariant c.requires.free
    (mapped_there field_of c.args.fields.now c.loop-field.field-index _ c.loop-field-test.true) in
    let never : None ≡ Some (catalog_with c.args.cat (take (c.loop-field.field-index + 1) fields)) = sym c.in-None.is ∙ gives in
    cc

pub loop-field-preserved : goal.loop-field-preserved
loop-field-preserved c =
    let fields = map field_of c.args.fields.now in
    let gives = c.with_null.ensures
    ∙ one_allowed c.args.cat c.loop-field.cat fields c.loop-field.field-index _ c.loop-field.invariant c.requires.free
    (mapped_there field_of c.args.fields.now c.loop-field.field-index _ c.loop-field-test.true) in
    let is : Some c.in-Some.wider ≡ Some (catalog_with c.args.cat (take (c.loop-field.field-index + 1) fields)) = sym c.in-Some.is ∙ gives in
    cc
