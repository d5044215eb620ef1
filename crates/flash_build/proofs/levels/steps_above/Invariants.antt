use Rattle.std.proofs.Common.{◌≡◌, ◌≤◌, ◌<◌, ℕ, false, get_or}
use Rattle.std.specs.Prelude.{◌==◌}
use Rattle.ghost_model.specs.forms.Layout.{levels_of}
use Rattle.flash_build.proofs.levels.steps_above.Given as goal

abbrev pub invariant-loop-steps : goal.invariant-loop-steps
invariant-loop-steps l = record { none : (k : ℕ) → 1 ≤ k → k < l.steps → (get_or (levels_of l.laid.schema l.other) k 0 == l.table) ≡ false; some : 1 ≤ l.steps }
