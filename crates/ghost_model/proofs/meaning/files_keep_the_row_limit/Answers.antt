use Rattle.ghost_model.proofs.MeaningLemmas.Loading.{files_within}
use Rattle.ghost_model.proofs.meaning.files_keep_the_row_limit.Goals as goal

pub returns : goal.returns
returns c = files_within
