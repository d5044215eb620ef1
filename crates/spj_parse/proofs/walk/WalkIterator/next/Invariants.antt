use Rattle.std.proofs.Common.{◌≡◌, length}
use Rattle.spj_parse.specs.Walks.{items_left}
use Rattle.spj_parse.proofs.walk.WalkIterator.next.Given as goal

abbrev pub invariant-loop-token : goal.invariant-loop-token
invariant-loop-token l = items_left l.fn.self ≡ items_left l.self

abbrev pub decreases-loop-token : goal.decreases-loop-token
decreases-loop-token l = length l.self.cursor
