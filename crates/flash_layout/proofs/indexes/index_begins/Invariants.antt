use Rattle.std.proofs.Common.{◌≡◌, ◌≤◌, ◌+◌, ◌*◌, map}
use Rattle.arrayvec.specs.ArrayVec.{array_vec_len}
use Rattle.ghost_model.specs.forms.Layout as layout
use Rattle.ghost_model.specs.laws.LayoutSums as sums
use Rattle.flash_layout.proofs.indexes.index_begins.Given as goal

abbrev pub invariant-loop-column : goal.invariant-loop-column
invariant-loop-column l =
    record {
      each : l.each.items ≡ map (sums.index_begin l.cat l.table) (layout.below l.column);
      room : array_vec_len l.each ≤ l.column;
      next : l.after ≡ sums.index_begin l.cat l.table l.column;
      most : l.after ≤ 632034944 + 1023449 * l.column;
    }
