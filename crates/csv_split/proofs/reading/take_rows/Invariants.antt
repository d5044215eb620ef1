use Rattle.std.proofs.Common.{length}
use Rattle.csv_split.specs.Reading.{columns_of}
use Rattle.csv_split.proofs.ReadRows.{IsReadSoFar}
use Rattle.csv_split.proofs.reading.take_rows.Given as goal

abbrev pub invariant-loop-found : goal.invariant-loop-found
invariant-loop-found l = IsReadSoFar l.table (columns_of l.declared) l.fn.records l.count l.columns l.records

abbrev pub decreases-loop-found : goal.decreases-loop-found
decreases-loop-found l = length l.records
