use Rattle.ghost_model.proofs.SessionLemmas.Replies.{honest_replies_answer}
use Rattle.ghost_model.proofs.session_laws.honest_replies_answer.Goals as goal

pub returns : goal.returns
returns c = honest_replies_answer
