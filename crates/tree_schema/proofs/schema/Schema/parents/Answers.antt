use Rattle.std.proofs.Common.{◌≤◌, ◌<◌, length, arith}
use Rattle.tree_schema.proofs.Parents.{one_holder_more, all_holders}
use Rattle.tree_schema.proofs.schema.Schema.parents.Goals as goal

pub loop-holder-preserved : goal.loop-holder-preserved
loop-holder-preserved c =
    let within : c.loop-holder.holder < length c.args.self.now = omega (arith, c.loop-holder-test.true, c.tables-holder-end.ensures.count) in
    λ child h. one_holder_more c.args.self.now child c.loop-holder.holder _ _ within (c.note_table.ensures.noted child h) (c.loop-holder.invariant child h)

pub returns : goal.returns
returns c =
    let past : length c.args.self.now ≤ c.loop-holder.holder = omega (arith, c.loop-holder-test.false, c.tables-holder-end.ensures.count) in
    let few : length c.args.self.now ≤ 12 = omega (arith, c.tables-holder-end.ensures.few, c.tables-holder-end.ensures.count) in
    record { parents = λ table there. all_holders c.args.self.now table c.loop-holder.holder _ past (c.loop-holder.invariant table (omega (arith, there, few))) }
