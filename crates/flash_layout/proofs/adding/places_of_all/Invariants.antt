use Rattle.std.proofs.Common.{◌≡◌, ◌≤◌, ◌*◌}
use Rattle.arrayvec.specs.ArrayVec.{array_vec_len}
use Rattle.ghost_model.specs.laws.LayoutSums as sums
use Rattle.flash_layout.specs.Places.{ArePlacesBefore}
use Rattle.flash_layout.proofs.adding.places_of_all.Given as goal

abbrev pub invariant-loop-table : goal.invariant-loop-table
invariant-loop-table l =
    record {
      tables : ArePlacesBefore l.cat l.table l.tables.items;
      room : array_vec_len l.tables ≤ l.table;
      begin : l.after ≡ sums.table_begin l.cat l.table;
      spool : l.half ≡ sums.spool_pages_before l.cat l.table;
      most : l.after ≤ 607034944;
      few : l.half ≤ 1004160 * l.table;
    }
