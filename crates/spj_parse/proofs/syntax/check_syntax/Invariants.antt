use Rattle.std.proofs.Common.{length}
use Rattle.spj_parse.specs.Drafts.{spot_of}
use Rattle.spj_parse.proofs.Turns.{IsAt}
use Rattle.spj_parse.proofs.syntax.check_syntax.Given as goal

abbrev pub invariant-loop-token : goal.invariant-loop-token
invariant-loop-token l = IsAt l.text (spot_of l.spot) l.cursor

abbrev pub decreases-loop-token : goal.decreases-loop-token
decreases-loop-token l = length l.cursor
