use Rattle.ghost_laws.proofs.ScanLemmas.KnownValues.{known_answers_have_selected}
use Rattle.ghost_laws.proofs.selected.known_answers_have_selected.Goals as goal

pub returns : goal.returns
returns c = known_answers_have_selected
