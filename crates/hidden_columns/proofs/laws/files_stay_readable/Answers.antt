use Rattle.hidden_columns.proofs.GivenValues.{stay_readable}
use Rattle.hidden_columns.proofs.laws.files_stay_readable.Goals as goal

pub returns : goal.returns
returns c = record { readable = stay_readable }
