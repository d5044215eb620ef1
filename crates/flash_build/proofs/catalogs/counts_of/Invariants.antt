use Rattle.std.proofs.Common.{◌≡◌, IsTrue, take}
use Rattle.arrayvec.specs.ArrayVec.{array_vec_len}
use Rattle.ghost_model.specs.core.Database.{row_counts}
use Rattle.tree_schema.specs.Catalogs.{are_counts}
use Rattle.flash_build.proofs.catalogs.counts_of.Given as goal

abbrev pub invariant-loop-table : goal.invariant-loop-table
invariant-loop-table l =
    record {
      size : array_vec_len l.counts ≡ l.table;
      counts : l.counts.items ≡ take l.table (row_counts l.tables);
      within : IsTrue (are_counts l.counts.items);
    }
