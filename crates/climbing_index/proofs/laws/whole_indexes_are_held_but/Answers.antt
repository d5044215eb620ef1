use Rattle.climbing_index.proofs.WholeIndexes.{held_but}
use Rattle.climbing_index.proofs.laws.whole_indexes_are_held_but.Goals as goal

pub returns : goal.returns
returns c = record { but = held_but }
