use Rattle.session_laws.proofs.Ending.{finds}
use Rattle.session_laws.proofs.local.next_moves_find_the_desk.Goals as goal

pub returns : goal.returns
returns c = finds
