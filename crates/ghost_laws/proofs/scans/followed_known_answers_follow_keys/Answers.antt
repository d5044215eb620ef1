use Rattle.ghost_laws.proofs.ScanLemmas.AlongKeys.{followed_known_answers_follow_keys}
use Rattle.ghost_laws.proofs.scans.followed_known_answers_follow_keys.Goals as goal

pub returns : goal.returns
returns c = followed_known_answers_follow_keys
