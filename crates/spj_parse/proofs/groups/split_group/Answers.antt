use Rattle.spj_parse.proofs.SplitLemmas.{rest_split}
use Rattle.spj_parse.proofs.groups.split_group.Goals as goal

pub returns-clause-some : goal.returns-clause-some
returns-clause-some c =
    rest_split _ _ _ _ _ _ c.in-Some.ensures.cases.0 c.others_after.ensures.count c.split_at.ensures.front c.split_at.ensures.back
