use Rattle.visible_spool.proofs.Sparing.{spared_rows, spared_half}
use Rattle.visible_spool.proofs.laws.spared_halves_stay.Goals as goal

pub returns-clause-rows : goal.returns-clause-rows
returns-clause-rows c = spared_rows

pub returns-clause-half : goal.returns-clause-half
returns-clause-half c = spared_half
