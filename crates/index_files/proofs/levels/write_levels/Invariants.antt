use Rattle.std.proofs.Common.{◌≡◌, length, vec_len, vec_capacity}
use Rattle.std.specs.Prelude.{IfSome}
use Rattle.index_files.specs.Files.{ranks_of}
use Rattle.index_files.proofs.LevelFiles.{LevelsWritten}
use Rattle.index_files.proofs.Starts.{BeginsBefore}
use Rattle.index_files.proofs.levels.write_levels.Given as goal

abbrev pub invariant-loop-ranks : goal.invariant-loop-ranks
invariant-loop-ranks g l =
    record {
      levels : LevelsWritten g.F.Flash.told (ranks_of l.levels) l.entries l.begin l.first (g.F.Flash.state l.fn.flash) (g.F.Flash.state l.flash) l.ranks-index;
      begins : BeginsBefore (ranks_of l.levels) l.entries l.ranks-index (ranks_of l.begins.items);
      taken : vec_len l.begins ≡ l.ranks-index;
      room : vec_capacity l.begins ≡ length l.levels;
      order : IfSome l.order (λ rows. (l.ranks-index ≡ 0) × (rows.now ≡ l.rows));
    }
