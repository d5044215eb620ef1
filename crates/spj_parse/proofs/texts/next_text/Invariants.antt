use Rattle.std.proofs.Common.{◌≡◌, length}
use Rattle.spj_parse.specs.Parts.{parts_left, texts_left}
use Rattle.spj_parse.proofs.texts.next_text.Given as goal

abbrev pub invariant-loop-part : goal.invariant-loop-part
invariant-loop-part l = texts_left l.fn.parts ≡ texts_left l.parts

abbrev pub decreases-loop-part : goal.decreases-loop-part
decreases-loop-part l = length (parts_left l.parts)
