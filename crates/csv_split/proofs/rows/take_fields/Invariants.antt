use Rattle.csv.specs.Records.{fields_of}
use Rattle.csv_split.specs.Reading.{columns_of}
use Rattle.csv_split.proofs.TakenFields.{IsTakenSoFar}
use Rattle.csv_split.proofs.rows.take_fields.Given as goal

abbrev pub invariant-loop-i : goal.invariant-loop-i
invariant-loop-i l = IsTakenSoFar l.at.table l.at.rec (columns_of l.declared) (fields_of l.row) l.fn.columns l.columns l.i
