use Rattle.std.proofs.Common.{◌≡◌, ◌≤◌, map}
use Rattle.arrayvec.specs.ArrayVec.{ArrayVec, array_vec_len}
use Rattle.ghost_model.specs.forms.Layout as layout
use Rattle.flash_layout.proofs.tables.ways_of.Given as goal

abbrev pub invariant-loop-table : goal.invariant-loop-table
invariant-loop-table l =
    record {
      so_far : map (λ (way : ArrayVec _). way.items) l.ways.items ≡ map (layout.levels_of l.cat.schema) (layout.below l.table);
      room : array_vec_len l.ways ≤ l.table;
    }
