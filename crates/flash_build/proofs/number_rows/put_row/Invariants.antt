use Rattle.std.proofs.Common.{◌≡◌, ◌*◌, take, map}
use Rattle.flash_build.specs.Levels.{items_of, numbers_record}
use Rattle.flash_build.proofs.number_rows.put_row.Given as goal

abbrev pub invariant-loop-column : goal.invariant-loop-column
invariant-loop-column l = record { put : take (4 * l.column) l.out ≡ numbers_record (take l.column (map items_of l.columns)) l.row }
