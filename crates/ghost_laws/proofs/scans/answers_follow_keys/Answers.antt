use Rattle.ghost_laws.proofs.ScanLemmas.AlongKeys.{answers_follow_keys}
use Rattle.ghost_laws.proofs.scans.answers_follow_keys.Goals as goal

pub returns : goal.returns
returns c = answers_follow_keys
