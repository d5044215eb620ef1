use Rattle.std.proofs.Common.{◌∙◌, arith}
use Rattle.ghost_model.specs.laws.ShortWords as short
use Rattle.climbing_index.proofs.LevelFiles.{one_more}
use Rattle.climbing_index.proofs.index.id_levels.Goals as goal

pub loop-level-preserved : goal.loop-level-preserved
loop-level-preserved c = record {
  so_far = one_more (short.id_level c.args.laid.now c.args.table) c.loop-level.level c.loop-level.levels.items c.push.new.self.items c.level_file.result
      c.push.ensures.items c.loop-level.invariant.so_far (c.level_file.ensures.file ∙ c.id_level.ensures.run);
  room = omega (arith, c.push.ensures.len, c.loop-level.invariant.room);
}
