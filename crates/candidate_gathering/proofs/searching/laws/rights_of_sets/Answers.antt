use Rattle.std.proofs.Common.{◌∙◌, sym, arith}
use Rattle.candidate_gathering.proofs.searching_lemmas.SetRights.{has_over, over_from, over_twice, over_after}
use Rattle.candidate_gathering.proofs.searching.laws.rights_of_sets.Goals as goal

pub returns : goal.returns
returns c = record {
  has = has_over;
  uses = λ page right low lists number used from. sym (over_from right page low number from);
  below = λ page right low lists below number used from. absurd (omega (arith, from, below number used));
  agrees = λ first right page low agrees number. agrees number ∙ sym (over_twice right page low number);
  back = λ whole right page now low agrees number. agrees number ∙ over_after right page now low number;
}
