use Rattle.std.proofs.Common.{◌≡◌, ◌≤◌, min, length}
use Rattle.ghost_model.specs.core.Recorded.{number, number_behind}
use Rattle.channel_audit.proofs.digits.number_up_to_many.Given as goal

abbrev pub invariant-loop-digit : goal.invariant-loop-digit
invariant-loop-digit l = record {
  value : min (number_behind l.value l.rest) 100000 ≡ min (number l.digits) 100000;
  small : l.value ≤ 100000;
}

abbrev pub decreases-loop-digit : goal.decreases-loop-digit
decreases-loop-digit l = length l.rest
