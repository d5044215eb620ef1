use Rattle.ghost_model.proofs.SessionLemmas.Combined.{whole_replies_answer}
use Rattle.ghost_model.proofs.session_laws.whole_replies_answer.Goals as goal

pub returns : goal.returns
returns c = whole_replies_answer
