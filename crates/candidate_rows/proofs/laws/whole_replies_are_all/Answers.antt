use Rattle.candidate_rows.proofs.AskLemmas.{replies_are_all, replies_are_to_asks}
use Rattle.candidate_rows.proofs.laws.whole_replies_are_all.Goals as goal

pub returns : goal.returns
returns c = record { all = replies_are_all; asks = replies_are_to_asks }
