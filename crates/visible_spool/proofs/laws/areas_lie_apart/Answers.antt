use Rattle.visible_spool.proofs.AreaLemmas.{lie_apart}
use Rattle.visible_spool.proofs.laws.areas_lie_apart.Goals as goal

pub returns : goal.returns
returns c = record { apart = lie_apart c.sums_by_place.ensures }
