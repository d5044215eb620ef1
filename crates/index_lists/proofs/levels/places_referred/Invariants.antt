use Rattle.std.proofs.Common.{◌≡◌, ◌-◌, map, take, length, vec_len, vec_capacity}
use Rattle.index_lists.specs.Ranks.{identifier_of}
use Rattle.index_lists.proofs.levels.places_referred.Given as goal

abbrev pub invariant-loop-key : goal.invariant-loop-key
invariant-loop-key l = record {
  places : l.places.items ≡ map (λ identifier. identifier - 1) (map identifier_of (take l.key-index l.keys));
  count : vec_len l.places ≡ l.key-index;
  room : vec_capacity l.places ≡ length l.keys;
}
