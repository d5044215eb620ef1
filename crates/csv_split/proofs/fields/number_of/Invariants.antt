use Rattle.std.proofs.Common.{◌≡◌, drop, fold}
use Rattle.ghost_model.specs.core.Database as database
use Rattle.csv_split.proofs.Numerals.{with_digit}
use Rattle.csv_split.proofs.fields.number_of.Given as goal

abbrev pub invariant-loop-digit : goal.invariant-loop-digit
invariant-loop-digit l = database.number_of l.digits ≡ fold with_digit l.number (drop l.digit-index l.digits)
