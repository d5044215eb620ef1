use Rattle.spill_pass.proofs.PlaceCells.{first_of_place, second_of_place}
use Rattle.spill_pass.proofs.places.place_cell.Goals as goal

pub returns-clause-first : goal.returns-clause-first
returns-clause-first c = first_of_place c.args.first _ _ _ _ c.to_be_bytes.result c.to_be_bytes.ensures c.ranges.first.fits

pub returns-clause-count : goal.returns-clause-count
returns-clause-count c = second_of_place c.args.count _ _ _ _ c.to_be_bytes-2.result c.to_be_bytes-2.ensures c.ranges.count.fits
