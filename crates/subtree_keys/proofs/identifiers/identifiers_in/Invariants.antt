use Rattle.std.proofs.Common.{◌≡◌, ◌+◌, ◌*◌, ◌++◌, length, drop}
use Rattle.arrayvec.specs.ArrayVec.{array_vec_len}
use Rattle.subtree_keys.specs.Tables.{identifiers, are_rows_of}
use Rattle.subtree_keys.proofs.identifiers.identifiers_in.Given as goal

abbrev pub invariant-loop-count : goal.invariant-loop-count
invariant-loop-count l =
    record {
      width : length l.rest + 4 * l.count-index ≡ 4 * length l.rows;
      room : array_vec_len l.ids ≡ l.count-index;
      read : identifiers l.rows l.cell ≡ l.ids.items ++ identifiers (drop l.count-index l.rows) l.rest;
      tested : are_rows_of l.rows l.cell ≡ are_rows_of (drop l.count-index l.rows) l.rest;
    }
