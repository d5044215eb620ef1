use Rattle.csv_split.specs.Reading.{columns_of}
use Rattle.csv_split.proofs.ReadRows.{AreMade}
use Rattle.csv_split.proofs.reading.empty_columns.Given as goal

abbrev pub invariant-loop-column : goal.invariant-loop-column
invariant-loop-column l = AreMade (columns_of l.declared) l.columns.items l.column-index
