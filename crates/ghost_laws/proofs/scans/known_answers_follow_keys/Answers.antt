use Rattle.ghost_laws.proofs.ScanLemmas.AlongKeys.{known_answers_follow_keys}
use Rattle.ghost_laws.proofs.scans.known_answers_follow_keys.Goals as goal

pub returns : goal.returns
returns c = known_answers_follow_keys
