use Rattle.index_files.specs.Files.{ranks_of}
use Rattle.index_files.proofs.Starts.{StartsBefore}
use Rattle.index_files.proofs.directory.level_starts.Given as goal

abbrev pub invariant-loop-ranks : goal.invariant-loop-ranks
invariant-loop-ranks l = StartsBefore (ranks_of l.levels) l.entries l.ranks-index (ranks_of l.all.items)
