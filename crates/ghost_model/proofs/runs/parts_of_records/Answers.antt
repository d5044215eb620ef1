use Rattle.ghost_model.proofs.RunLemmas.{parts}
use Rattle.ghost_model.proofs.runs.parts_of_records.Goals as goal

pub returns : goal.returns
returns c = parts
