use Rattle.key_session.proofs.KeptLaws.{halves_are}
use Rattle.key_session.proofs.laws.kept_halves_are_halves.Goals as goal

pub returns : goal.returns
returns c = record { half = halves_are }
