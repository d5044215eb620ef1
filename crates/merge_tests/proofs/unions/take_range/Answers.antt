use Rattle.std.proofs.Common.{true}
use Rattle.merge_tests.proofs.unions.take_range.Goals as goal

pub returns-then-has_room-clause-held : goal.returns-then-has_room-clause-held
returns-then-has_room-clause-held c = λ device pool held. c.take_ranges.ensures.held true device pool held
