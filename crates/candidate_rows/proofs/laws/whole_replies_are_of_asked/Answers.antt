use Rattle.candidate_rows.proofs.AskLemmas.{replies_are}
use Rattle.candidate_rows.proofs.laws.whole_replies_are_of_asked.Goals as goal

pub returns : goal.returns
returns c = record { asked = replies_are }
