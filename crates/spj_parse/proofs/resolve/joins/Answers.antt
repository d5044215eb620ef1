use Rattle.std.proofs.Common.{ap, take, ◌∙◌}
use Rattle.spj_parse.specs.Resolved.{join_to}
use Rattle.spj_parse.proofs.ResolveLemmas.{flat_more, flat_all}
use Rattle.spj_parse.proofs.resolve.joins.Goals as goal

pub loop-table-preserved : goal.loop-table-preserved
loop-table-preserved c =
    c.add_join.ensures.added _ c.loop-table.invariant
    ∙ ap (take 12) (flat_more (join_to c.args.schema.now c.args.from.now) c.args.from.now c.loop-table.table-index c.loop-table-test.true)

pub returns : goal.returns
returns c = record {
  joins = c.loop-table.invariant ∙ ap (take 12) (flat_all (join_to c.args.schema.now c.args.from.now) c.args.from.now c.loop-table.table-index c.loop-table-test.false);
}
