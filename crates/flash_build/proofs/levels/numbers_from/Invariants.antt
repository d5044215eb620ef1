use Rattle.std.proofs.Common.{◌≡◌, vec_len, vec_capacity}
use Rattle.std.specs.List.{range_with_len}
use Rattle.flash_build.proofs.levels.numbers_from.Given as goal

abbrev pub invariant-loop-at : goal.invariant-loop-at
invariant-loop-at l = record {
  numbers : l.numbers.items ≡ range_with_len l.first l.at;
  count : vec_len l.numbers ≡ l.at;
  room : vec_capacity l.numbers ≡ l.count;
}
