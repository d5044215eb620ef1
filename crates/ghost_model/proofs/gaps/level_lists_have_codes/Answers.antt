use Rattle.ghost_model.proofs.GapLemmas.Lists.{gaps_are}
use Rattle.ghost_model.proofs.gaps.level_lists_have_codes.Goals as goal

pub returns : goal.returns
returns c = gaps_are
