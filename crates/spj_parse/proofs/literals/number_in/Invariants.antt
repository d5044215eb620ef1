use Rattle.std.proofs.Common.{◌≡◌, take}
use Rattle.ghost_model.specs.refusals.Tokens.{number_of}
use Rattle.spj_parse.proofs.literals.number_in.Given as goal

abbrev pub invariant-loop-digit : goal.invariant-loop-digit
invariant-loop-digit l = l.number ≡ number_of (take l.digit-index l.digits)
