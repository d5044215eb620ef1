use Rattle.local_links.proofs.Short.{proper_short}
use Rattle.local_links.proofs.laws.proper_moves_are_short.Goals as goal

pub returns : goal.returns
returns c = record { short = proper_short }
