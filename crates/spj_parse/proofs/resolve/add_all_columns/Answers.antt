use Rattle.std.proofs.Common.{subst}
use Rattle.ghost_model.specs.refusals.QueryMeaning.{fields_of}
use Rattle.spj_parse.specs.Adding.{Adds}
use Rattle.spj_parse.specs.Views.{field_of}
use Rattle.spj_parse.proofs.ResolveLemmas.{adds_more, flat_more}
use Rattle.spj_parse.proofs.resolve.add_all_columns.Goals as goal

pub loop-table-preserved : goal.loop-table-preserved
loop-table-preserved c =
    subst (Adds field_of 32 c.args.select.now.items c.add_columns.new.select.items)
    (flat_more (fields_of c.args.schema.now) c.args.from.now c.loop-table.table-index c.loop-table-test.true)
    (adds_more field_of 32 c.args.select.now.items c.loop-table.select.items c.add_columns.new.select.items _ _ c.loop-table.invariant c.add_columns.ensures.added)
