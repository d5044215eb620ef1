use Rattle.ghost_model.proofs.SessionLemmas.ThisHost.{this_host_is_honest}
use Rattle.ghost_model.proofs.session_laws.this_host_is_honest.Goals as goal

pub returns : goal.returns
returns c = this_host_is_honest
