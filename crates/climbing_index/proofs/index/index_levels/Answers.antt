use Rattle.std.proofs.Common.{ap, ◌∙◌, arith}
use Rattle.ghost_model.specs.laws.ShortWords as short
use Rattle.climbing_index.proofs.LevelFiles.{one_more}
use Rattle.climbing_index.proofs.index.index_levels.Goals as goal

pub level_file-requires : goal.level_file-requires
level_file-requires c = record { width = ap (λ r. r.width) c.index_level.ensures.run }

pub loop-level-preserved : goal.loop-level-preserved
loop-level-preserved c = record {
  so_far = one_more (short.index_level c.args.laid.now c.args.table c.args.column) c.loop-level.level c.loop-level.levels.items c.push.new.self.items c.level_file.result
      c.push.ensures.items c.loop-level.invariant.so_far (c.level_file.ensures.file ∙ c.index_level.ensures.run);
  room = omega (arith, c.push.ensures.len, c.loop-level.invariant.room);
}
