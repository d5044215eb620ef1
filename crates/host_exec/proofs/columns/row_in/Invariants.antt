use Rattle.std.proofs.Common.{◌≡◌, ◌≤◌, ◌+◌, true, length, map}
use Rattle.std.specs.List.{list_all}
use Rattle.arrayvec.specs.ArrayVec.{array_vec_len}
use Rattle.ghost_base.specs.Views.{kind_of, value_of}
use Rattle.host_exec.specs.Checked.{is_narrow}
use Rattle.host_exec.proofs.GrownColumns.{TakenTo}
use Rattle.host_exec.proofs.RowSpelling.{ReadTo}
use Rattle.host_exec.proofs.columns.row_in.Given as goal

abbrev pub invariant-kinds : goal.invariant-kinds
invariant-kinds l = record {
  narrow : list_all is_narrow (map kind_of l.rest) ≡ true;
  room : array_vec_len l.row + length l.rest ≤ 24;
  read : ReadTo (map kind_of l.kinds) l.bytes (map kind_of l.rest) l.cells;
  taken : TakenTo (map kind_of l.kinds) l.bytes (map value_of l.row.items) (map kind_of l.rest) l.cells;
}

abbrev pub decreases-kinds : goal.decreases-kinds
decreases-kinds l = length l.rest
