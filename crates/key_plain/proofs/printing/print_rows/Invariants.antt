use Rattle.std.proofs.Common.{◌≡◌, ◌+◌, length, map}
use Rattle.std.specs.List.{concat}
use Rattle.ghost_model.specs.core.Printed.{row_line}
use Rattle.key_lines.specs.Handing.{handed}
use Rattle.key_plain.proofs.HandingOn.{HandedSoFar}
use Rattle.key_plain.proofs.printing.print_rows.Given as goal

abbrev pub invariant-loop-printer : goal.invariant-loop-printer
invariant-loop-printer g l =
    HandedSoFar (concat (map row_line l.initial.answer)) (concat (map row_line l.answer))
    (handed l.initial.printer.failed (g.O.Sink.faults l.initial.out) (g.O.Sink.written l.initial.out))
    (handed l.printer.failed (g.O.Sink.faults l.out) (g.O.Sink.written l.out))
    × (l.count + length l.answer ≡ length l.initial.answer)

abbrev pub decreases-loop-printer : goal.decreases-loop-printer
decreases-loop-printer g l = length l.answer
