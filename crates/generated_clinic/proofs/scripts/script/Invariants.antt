use Rattle.std.proofs.Common.{◌≡◌}
use Rattle.ghost_model.specs.core.Generated.{script}
use Rattle.generated_clinic.proofs.scripts.script.Given as goal

abbrev pub invariant-loop-before : goal.invariant-loop-before
invariant-loop-before l = l.script.items ≡ script l.before
