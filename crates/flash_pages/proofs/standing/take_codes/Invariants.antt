use Rattle.std.proofs.Common.{◌-◌}
use Rattle.flash_pages.specs.Codes.{TakesCodes}
use Rattle.flash_pages.proofs.standing.take_codes.Given as goal

abbrev pub invariant-loop-stand : goal.invariant-loop-stand
invariant-loop-stand l = TakesCodes l.bytes l.count l.room l.limit l.fn.from l.stand

abbrev pub decreases-loop-stand : goal.decreases-loop-stand
decreases-loop-stand l = l.count - l.stand.at
