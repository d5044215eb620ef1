use Rattle.ghost_laws.proofs.ScanLemmas.Values.{answers_have_selected}
use Rattle.ghost_laws.proofs.selected.answers_have_selected.Goals as goal

pub returns : goal.returns
returns c = answers_have_selected
