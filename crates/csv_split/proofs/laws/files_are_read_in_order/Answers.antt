use Rattle.csv_split.proofs.AddedFiles.{added}
use Rattle.csv_split.proofs.laws.files_are_read_in_order.Goals as goal

pub returns : goal.returns
returns c = added
