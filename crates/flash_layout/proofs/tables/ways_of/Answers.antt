use Rattle.std.proofs.Common.{subst, arith}
use Rattle.tree_schema.specs.Schemas.{AreParents}
use Rattle.flash_layout.proofs.PlaceLemmas.{one_way_more}
use Rattle.flash_layout.proofs.tables.ways_of.Goals as goal

pub way_of-requires-clause-parents : goal.way_of-requires-clause-parents
way_of-requires-clause-parents c = subst (λ schema. AreParents schema c.parents-parents.result) c.schema.ensures.value c.parents-parents.ensures.parents

pub loop-table-preserved : goal.loop-table-preserved
loop-table-preserved c =
    record {
      so_far = one_way_more c.args.cat.now.schema c.loop-table.table c.loop-table.ways.items c.push.new.self.items _ c.push.ensures.items c.loop-table.invariant.so_far c.way_of.ensures.tables;
      room = omega (arith, c.push.ensures.len, c.loop-table.invariant.room);
    }
