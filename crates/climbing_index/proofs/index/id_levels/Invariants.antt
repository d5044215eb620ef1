use Rattle.std.proofs.Common.{◌≡◌, map}
use Rattle.arrayvec.specs.ArrayVec.{array_vec_len}
use Rattle.ghost_model.specs.laws.ShortWords as short
use Rattle.ghost_model.specs.forms.Layout as layout
use Rattle.climbing_index.specs.Directories.{file_of}
use Rattle.climbing_index.proofs.index.id_levels.Given as goal

abbrev pub invariant-loop-level : goal.invariant-loop-level
invariant-loop-level l =
    record {
      so_far : map file_of l.levels.items ≡ map (short.id_level l.laid l.table) (layout.below l.level);
      room : array_vec_len l.levels ≡ l.level;
    }
