use Rattle.candidate_lists.proofs.Regions.{beside_keeps, joining_keeps, opening_keeps, region_is_kept, region_keeps_closed, region_stays_kept, writing_keeps}
use Rattle.candidate_lists.proofs.spared.regions_are_kept.Goals as goal

pub returns-clause-same : goal.returns-clause-same
returns-clause-same c = region_is_kept

pub returns-clause-stays : goal.returns-clause-stays
returns-clause-stays c = region_stays_kept

pub returns-clause-writing : goal.returns-clause-writing
returns-clause-writing c = writing_keeps

pub returns-clause-opening : goal.returns-clause-opening
returns-clause-opening c = opening_keeps

pub returns-clause-beside : goal.returns-clause-beside
returns-clause-beside c = beside_keeps

pub returns-clause-joining : goal.returns-clause-joining
returns-clause-joining c = joining_keeps

pub returns-clause-closed : goal.returns-clause-closed
returns-clause-closed c = region_keeps_closed
