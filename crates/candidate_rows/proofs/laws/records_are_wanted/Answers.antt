use Rattle.candidate_rows.proofs.HonestLemmas.{records_wanted}
use Rattle.candidate_rows.proofs.laws.records_are_wanted.Goals as goal

pub returns : goal.returns
returns c = record { wanted = records_wanted }
