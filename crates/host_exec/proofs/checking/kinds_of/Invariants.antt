use Rattle.std.proofs.Common.{◌≡◌, ◌≤◌, ◌+◌, ◌-◌, true, map}
use Rattle.std.specs.List.{list_all}
use Rattle.arrayvec.specs.ArrayVec.{array_vec_len}
use Rattle.ghost_base.specs.Views.{kind_of}
use Rattle.host_exec.specs.Checked.{is_narrow}
use Rattle.host_exec.proofs.RowSpelling.{KindsTo}
use Rattle.host_exec.proofs.checking.kinds_of.Given as goal

abbrev pub invariant-columns : goal.invariant-columns
invariant-columns l = record {
  some : 1 ≤ l.at;
  told : KindsTo l.schema l.table l.at l.kinds.items;
  narrow : list_all is_narrow (map kind_of l.kinds.items) ≡ true;
  room : array_vec_len l.kinds + 1 ≤ l.at;
}

abbrev pub decreases-columns : goal.decreases-columns
decreases-columns l = l.columns - l.at
