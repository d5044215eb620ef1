use Rattle.std.proofs.Common.{length}
use Rattle.ghost_model.specs.refusals.Tokens as tokens
use Rattle.tree_schema.proofs.ReaderSteps.{IsWithin}
use Rattle.tree_schema.proofs.syntax.Reader.column.Given as goal

abbrev pub invariant-loop-token : goal.invariant-loop-token
invariant-loop-token l = IsWithin l.fn.self (tokens.in_lower_case l.fn.name) l.self l.last

abbrev pub decreases-loop-token : goal.decreases-loop-token
decreases-loop-token l = length l.self.cursor
