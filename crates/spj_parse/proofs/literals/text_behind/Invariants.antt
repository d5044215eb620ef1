use Rattle.spj_parse.proofs.LiteralLemmas.{Stands}
use Rattle.spj_parse.proofs.literals.text_behind.Given as goal

abbrev pub invariant-loop-byte : goal.invariant-loop-byte
invariant-loop-byte l = Stands l.inside l.ended l.text l.byte-index
