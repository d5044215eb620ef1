use Rattle.ghost_laws.proofs.ScanLemmas.Lines.{lines_are_short}
use Rattle.ghost_laws.proofs.selected.lines_are_short.Goals as goal

pub returns : goal.returns
returns c = lines_are_short
