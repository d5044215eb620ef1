use Rattle.ghost_model.proofs.GapLemmas.Lists.{begins}
use Rattle.ghost_model.proofs.gaps.lists_begin_at_codes.Goals as goal

pub returns : goal.returns
returns c = begins
