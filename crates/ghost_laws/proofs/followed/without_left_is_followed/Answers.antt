use Rattle.ghost_laws.proofs.ScanLemmas.AlongKeys.{without_left_is_followed}
use Rattle.ghost_laws.proofs.followed.without_left_is_followed.Goals as goal

pub returns : goal.returns
returns c = without_left_is_followed
