use Rattle.std.proofs.Common.{◌≡◌, ◌≤◌}
use Rattle.ghost_model.specs.laws.FlashLaws as laws
use Rattle.flash_build.proofs.keys.hidden_before.Given as goal

abbrev pub invariant-loop-at : goal.invariant-loop-at
invariant-loop-at l = record { count : l.count ≡ laws.hidden_before l.laid.schema l.table l.at; most : l.count ≤ l.at }
