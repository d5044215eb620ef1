use Rattle.tree_schema.proofs.Literals.{Stands}
use Rattle.tree_schema.proofs.tokens.literal_len.Given as goal

abbrev pub invariant-loop-i : goal.invariant-loop-i
invariant-loop-i l = Stands l.rest l.ended l.i
