use Rattle.std.proofs.Common.{◌≡◌, ◌+◌, length}
use Rattle.ghost_model.specs.core.Texts.{texts_of}
use Rattle.spj_parse.proofs.texts.text_count.Given as goal

abbrev pub invariant-loop-count : goal.invariant-loop-count
invariant-loop-count l = l.count + length l.texts ≡ length (texts_of l.script)
