use Rattle.session_laws.proofs.Bounded.{all_bounded}
use Rattle.session_laws.proofs.bounds.channels_are_bounded.Goals as goal

pub returns : goal.returns
returns c = all_bounded
