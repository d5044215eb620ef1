use Rattle.ghost_laws.proofs.ScanLemmas.Hearing.{replies_are_whole}
use Rattle.ghost_laws.proofs.selected.replies_are_whole.Goals as goal

pub returns : goal.returns
returns c = replies_are_whole
