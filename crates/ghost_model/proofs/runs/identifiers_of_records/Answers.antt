use Rattle.ghost_model.proofs.RunLemmas.{identifiers}
use Rattle.ghost_model.proofs.runs.identifiers_of_records.Goals as goal

pub returns : goal.returns
returns c = identifiers
