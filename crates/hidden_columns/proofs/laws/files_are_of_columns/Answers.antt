use Rattle.hidden_columns.proofs.GivenValues.{files_are}
use Rattle.hidden_columns.proofs.laws.files_are_of_columns.Goals as goal

pub returns : goal.returns
returns c = record { same = files_are }
