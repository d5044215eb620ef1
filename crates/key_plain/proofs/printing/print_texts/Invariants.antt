use Rattle.std.proofs.Common.{◌≤◌, ◌+◌, length}
use Rattle.std.specs.List.{concat}
use Rattle.ghost_model.specs.core.Printed.{lines_from, printed}
use Rattle.ghost_model.specs.core.Texts.{texts_of}
use Rattle.key_lines.specs.Handing.{handed}
use Rattle.key_lines.specs.Told.{told_in}
use Rattle.key_plain.proofs.HandingOn.{HandedSoFar}
use Rattle.key_plain.proofs.ToldTexts.{ToldSoFar}
use Rattle.key_plain.proofs.printing.print_texts.Given as goal

abbrev pub invariant-loop-earlier : goal.invariant-loop-earlier
invariant-loop-earlier g l =
    HandedSoFar (printed l.schema (texts_of l.script) l.tables) (concat (lines_from l.schema l.tables (l.earlier + 1) l.texts))
    (handed l.initial.printer.failed (g.O.Sink.faults l.initial.out) (g.O.Sink.written l.initial.out))
    (handed l.printer.failed (g.O.Sink.faults l.out) (g.O.Sink.written l.out))
    × (l.earlier + length l.texts ≤ 64)
    × ToldSoFar l.schema l.tables (texts_of l.script) l.texts (told_in l.told) l.printer.failed l.earlier
