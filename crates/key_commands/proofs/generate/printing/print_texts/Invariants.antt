use Rattle.key_lines.specs.Handing.{handed}
use Rattle.key_plain.proofs.HandingOn.{HandedSoFar}
use Rattle.key_commands.specs.generate.Counting.{rows_given, text_lines}
use Rattle.key_commands.proofs.generate_lemmas.Lines.{left_from}
use Rattle.key_commands.proofs.generate.printing.print_texts.Given as goal

abbrev pub invariant-loop-place : goal.invariant-loop-place
invariant-loop-place g l =
    HandedSoFar (text_lines 1 (rows_given l.told) l.meant) (left_from l.place l.told l.meant)
    (handed l.initial.printer.failed (g.O.Sink.faults l.initial.out) (g.O.Sink.written l.initial.out))
    (handed l.printer.failed (g.O.Sink.faults l.out) (g.O.Sink.written l.out))
