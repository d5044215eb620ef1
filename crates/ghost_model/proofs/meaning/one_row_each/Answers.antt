use Rattle.ghost_model.proofs.MeaningLemmas.OneRow.{one_row_of}
use Rattle.ghost_model.proofs.meaning.one_row_each.Goals as goal

pub returns : goal.returns
returns c = one_row_of
