use Rattle.climbing_index.proofs.BrokenCodes.{broken_codes}
use Rattle.climbing_index.proofs.laws.broken_codes_are_damaged.Goals as goal

pub returns : goal.returns
returns c = record { damaged = broken_codes c.files_lie_as_summed.ensures }
