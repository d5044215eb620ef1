use Rattle.std.proofs.Common.{◌≡◌, true, length, map}
use Rattle.std.specs.List.{list_all}
use Rattle.ghost_base.specs.Views.{kind_of}
use Rattle.host_exec.specs.Checked.{is_narrow}
use Rattle.host_exec.proofs.RowSpelling.{ReadTo}
use Rattle.host_exec.proofs.checking.is_row.Given as goal

abbrev pub invariant-kinds : goal.invariant-kinds
invariant-kinds l = record {
  narrow : list_all is_narrow (map kind_of l.rest) ≡ true;
  read : ReadTo (map kind_of l.kinds) l.row (map kind_of l.rest) l.bytes;
}

abbrev pub decreases-kinds : goal.decreases-kinds
decreases-kinds l = length l.rest
