use Rattle.candidate_gathering.proofs.cross_form_lemmas.Areas.{stand_in_scratch}
use Rattle.candidate_gathering.proofs.cross_forms.laws.standing_lists_lie_in_scratch.Goals as goal

pub returns : goal.returns
returns c = record { lies = stand_in_scratch }
