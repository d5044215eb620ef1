use Rattle.ghost_model.proofs.MeaningLemmas.Loading.{long_file}
use Rattle.ghost_model.proofs.meaning.long_files_are_told_first.Goals as goal

pub returns : goal.returns
returns c = long_file
