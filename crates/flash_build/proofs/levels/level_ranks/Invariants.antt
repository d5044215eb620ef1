use Rattle.std.proofs.Common.{◌≡◌, ◌≤◌, ◌<◌, ℕ, [], length, map, get_or}
use Rattle.ghost_model.specs.forms.Layout.{levels_of}
use Rattle.flash_build.specs.Levels.{RankedAbove, items_of}
use Rattle.flash_build.proofs.levels.level_ranks.Given as goal

abbrev pub invariant-loop-level : goal.invariant-loop-level
invariant-loop-level l = record {
  some : 1 ≤ l.level;
  count : length l.all.items ≡ l.level;
  each : (k : ℕ) → k < l.level → RankedAbove l.laid l.hidden l.table l.fn.own.items (get_or (levels_of l.laid.schema l.table) k 0) (get_or (map items_of l.all.items) k []);
}
