use Rattle.std.proofs.Common.{◌≡◌, ◌≤◌, drop}
use Rattle.std.specs.List.{fold}
use Rattle.ghost_model.specs.refusals.Tokens.{number_of}
use Rattle.tree_schema.proofs.RuleSteps.{with_digit}
use Rattle.tree_schema.proofs.rules.length_of.Given as goal

abbrev pub invariant-loop-digit : goal.invariant-loop-digit
invariant-loop-digit l =
    record {
      small : l.number ≤ 64;
      same : number_of l.digits ≡ fold with_digit l.number (drop l.digit-index l.digits);
    }
