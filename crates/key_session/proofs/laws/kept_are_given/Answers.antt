use Rattle.key_session.proofs.KeptLaws.{are_given, are_of_rows}
use Rattle.key_session.proofs.laws.kept_are_given.Goals as goal

pub returns : goal.returns
returns c = record { given = are_given; rows = are_of_rows }
