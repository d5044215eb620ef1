use Rattle.key_inputs.proofs.OpeningLaws.{opened}
use Rattle.key_inputs.proofs.laws.openings_tell_load_faults.Goals as goal

pub returns : goal.returns
returns c = opened
