use Rattle.std.proofs.Common.{◌≡◌, map, take, length, vec_len, vec_capacity}
use Rattle.index_lists.specs.Ranks.{identifier_of, of_referred}
use Rattle.index_lists.proofs.levels.ranks_above.Given as goal

abbrev pub invariant-loop-key : goal.invariant-loop-key
invariant-loop-key l = record {
  ranks : l.above.items ≡ of_referred l.ranks (map identifier_of (take l.key-index l.keys));
  count : vec_len l.above ≡ l.key-index;
  room : vec_capacity l.above ≡ length l.keys;
}
