use Rattle.std.proofs.Common.{map}
use Rattle.csv_split.proofs.LoadedFiles.{AreReadSoFar}
use Rattle.csv_split.proofs.loading.read_files.Given as goal

abbrev pub invariant-loop-i : goal.invariant-loop-i
invariant-loop-i l = AreReadSoFar l.schema (map (λ file. file.items) l.files) l.i l.tables
