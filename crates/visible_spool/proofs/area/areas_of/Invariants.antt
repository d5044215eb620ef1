use Rattle.std.proofs.Common.{◌≤◌}
use Rattle.arrayvec.specs.ArrayVec.{array_vec_len}
use Rattle.visible_spool.proofs.AreaLemmas.{AreAreasBefore}
use Rattle.visible_spool.proofs.area.areas_of.Given as goal

abbrev pub invariant-loop-table : goal.invariant-loop-table
invariant-loop-table l =
    record {
      areas : AreAreasBefore l.laid l.table l.areas.items;
      room : array_vec_len l.areas ≤ l.table;
    }
