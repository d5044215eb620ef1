use Rattle.std.proofs.Common.{◌≡◌, ◌+◌, ◌*◌, length, drop}
use Rattle.climbing_index.specs.Directories.{are_places}
use Rattle.climbing_index.proofs.directory.are_within.Given as goal

abbrev pub invariant-loop-level : goal.invariant-loop-level
invariant-loop-level l =
    record {
      width : length l.rest + 8 * l.level-index ≡ 8 * length l.levels;
      tested : are_places l.levels l.bytes ≡ are_places (drop l.level-index l.levels) l.rest;
    }
