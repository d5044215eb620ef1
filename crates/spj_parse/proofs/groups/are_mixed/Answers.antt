use Rattle.spj_parse.proofs.SplitLemmas.{none_mixed}
use Rattle.spj_parse.proofs.groups.are_mixed.Goals as goal

pub returns : goal.returns
returns c = record { mixed = none_mixed c.args.members.now c.loop-split.left.now c.loop-split.invariant c.in_default.ensures.none }
