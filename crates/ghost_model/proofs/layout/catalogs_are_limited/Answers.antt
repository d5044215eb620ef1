use Rattle.ghost_model.proofs.LayoutLemmas.Limited.{limited_by}
use Rattle.ghost_model.proofs.layout.catalogs_are_limited.Goals as goal

pub returns : goal.returns
returns c = limited_by
