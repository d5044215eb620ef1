use Rattle.std.proofs.Common.{◌≡◌, ◌≤◌, length, map, IsTrue, ◌+◌, ◌*◌, sum}
use Rattle.std.specs.List.{list_all}
use Rattle.ghost_model.specs.forms.Cells.{cell_width}
use Rattle.ghost_base.specs.Views.{kind_of}
use Rattle.channel_pump.specs.Narrow.{is_narrow}
use Rattle.channel_pump.specs.Asked.{width_of}
use Rattle.channel_pump.proofs.rows.row_width.Given as goal

abbrev pub invariant-kinds : goal.invariant-kinds
invariant-kinds l = record {
  narrow : IsTrue (list_all is_narrow (map kind_of l.rest));
  counted : l.width + sum (map cell_width (map kind_of l.rest)) ≡ width_of (map kind_of l.kinds);
  some : 4 ≤ l.width;
  most : l.width + 65 * length l.rest ≤ 1564;
}

abbrev pub decreases-kinds : goal.decreases-kinds
decreases-kinds l = length l.rest
