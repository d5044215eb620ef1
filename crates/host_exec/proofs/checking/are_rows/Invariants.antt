use Rattle.std.proofs.Common.{◌≡◌, ◌≤◌, ◌<◌, ◌-◌, ◌*◌, ℕ, map, take, drop}
use Rattle.ghost_base.specs.Views.{kind_of}
use Rattle.host_exec.specs.Checked.{SpellsRow}
use Rattle.host_exec.proofs.checking.are_rows.Given as goal

abbrev pub invariant-rows : goal.invariant-rows
invariant-rows l = record {
  within : l.passed ≤ l.count;
  ahead : l.rest ≡ drop (l.passed * l.width) l.piece;
  good : (row : ℕ) → row < l.passed → SpellsRow (map kind_of l.kinds) (take l.width (drop (row * l.width) l.piece));
}

abbrev pub decreases-rows : goal.decreases-rows
decreases-rows l = l.count - l.passed
