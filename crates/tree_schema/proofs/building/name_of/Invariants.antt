use Rattle.std.proofs.Common.{◌≡◌, length, take}
use Rattle.ghost_model.specs.refusals.Tokens as tokens
use Rattle.tree_schema.proofs.building.name_of.Given as goal

abbrev pub invariant-loop-byte : goal.invariant-loop-byte
invariant-loop-byte l =
    record {
      lowered : l.name.items ≡ tokens.in_lower_case (take l.byte-index l.bytes);
      many : length l.name.items ≡ l.byte-index;
    }
