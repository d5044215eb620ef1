use Rattle.hidden_columns.proofs.GivenValues.{held_right}
use Rattle.hidden_columns.proofs.laws.held_columns_are_right.Goals as goal

pub returns : goal.returns
returns c = record { right = held_right c.column_files_give_values.ensures }
