use Rattle.std.proofs.Common.{◌≡◌, ◌+◌, ◌*◌, ◌++◌, take}
use Rattle.index_files.specs.Files.{ranks_of}
use Rattle.index_files.specs.Directory.{entry_places}
use Rattle.index_files.proofs.directory.put_places.Given as goal

abbrev pub invariant-loop-level : goal.invariant-loop-level
invariant-loop-level l = record {
  put : take (l.at + 8 * l.level) l.out ≡ take l.at l.fn.out ++ entry_places (ranks_of l.starts) (ranks_of l.begins) l.entry l.level;
}
