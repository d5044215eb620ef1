use Rattle.ghost_model.proofs.RecordedLemmas.Findings.{one_finding}
use Rattle.ghost_model.proofs.recorded.files_have_one_finding.Goals as goal

pub returns : goal.returns
returns c = record { one = one_finding }
