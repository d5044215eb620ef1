use Rattle.std.proofs.Common.{◌≡◌, ◌≤◌, max, fold, take}
use Rattle.flash_layout.proofs.areas.largest_count.Given as goal

abbrev pub invariant-loop-table : goal.invariant-loop-table
invariant-loop-table l =
    record {
      most : l.most ≡ fold max 0 (take l.table l.cat.counts);
      few : l.most ≤ 1000000;
    }
