use Rattle.climbing_index.proofs.StayingIndexes.{indexes_stay, readings_stay}
use Rattle.climbing_index.proofs.laws.held_indexes_stay.Goals as goal

pub returns-clause-stay : goal.returns-clause-stay
returns-clause-stay c = indexes_stay c.layout_is_small.ensures c.lists_ascend.ensures c.level_files_fit.ensures

pub returns-clause-readings : goal.returns-clause-readings
returns-clause-readings c = readings_stay
