use Rattle.spj_parse.proofs.PartLemmas.{Reads}
use Rattle.spj_parse.proofs.texts.part_len.Given as goal

abbrev pub invariant-loop-i : goal.invariant-loop-i
invariant-loop-i l = Reads l.script l.even l.i
