use Rattle.std.proofs.lemmas.Nat.{from_be_bytes-to_be_bytes_4}
use Rattle.ghost_model.specs.forms.Runs.{number_in}
use Rattle.ghost_model.proofs.runs.numbers_are_read.Goals as goal

pub returns : goal.returns
unfolding number_in
returns c = λ number small. from_be_bytes-to_be_bytes_4 number small
