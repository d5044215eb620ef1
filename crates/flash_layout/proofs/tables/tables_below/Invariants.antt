use Rattle.std.proofs.Common.{◌≡◌, ◌≤◌, filter}
use Rattle.arrayvec.specs.ArrayVec.{array_vec_len}
use Rattle.ghost_model.specs.forms.Layout as layout
use Rattle.flash_layout.proofs.tables.tables_below.Given as goal

abbrev pub invariant-loop-other : goal.invariant-loop-other
invariant-loop-other l =
    record {
      so_far : l.found.items ≡ filter (layout.is_below l.cat.schema l.table) (layout.below l.other);
      room : array_vec_len l.found ≤ l.other;
    }
