use Rattle.climbing_index.proofs.HeldIndexes.{by_values}
use Rattle.climbing_index.proofs.laws.searches_find_by_values.Goals as goal

pub returns : goal.returns
returns c = record { values = by_values c.hidden_cells_fit.ensures c.layout_is_small.ensures c.files_lie_as_summed.ensures c.numbers_are_read.ensures }
