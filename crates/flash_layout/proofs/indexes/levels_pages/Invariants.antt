use Rattle.std.proofs.Common.{◌≡◌, ◌≤◌, ◌*◌, take}
use Rattle.ghost_model.specs.laws.LayoutSums as sums
use Rattle.flash_layout.proofs.indexes.levels_pages.Given as goal

abbrev pub invariant-loop-table : goal.invariant-loop-table
invariant-loop-table l =
    record {
      pages : l.total ≡ sums.levels_pages l.cat (take l.table-index l.tables);
      most : l.total ≤ 1954 * l.table-index;
    }
