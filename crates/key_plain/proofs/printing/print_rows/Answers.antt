use Rattle.std.proofs.Common.{refl, subst, ap, length, map, arith}
use Rattle.std.specs.List.{concat}
use Rattle.ghost_base.specs.Views.{value_of}
use Rattle.ghost_model.specs.core.Printed.{row_line}
use Rattle.key_lines.specs.Handing.{Hands, Handed, handed}
use Rattle.key_plain.proofs.HandingOn.{HandedSoFar, nothing_yet, one_more}
use Rattle.key_plain.proofs.printing.print_rows.Goals as goal

pub loop-printer-init : goal.loop-printer-init
loop-printer-init g c =
    (nothing_yet c.pieces_join.ensures (concat (map row_line c.args.answer.now)) (handed c.args.printer.now.failed (g.O.Sink.faults c.args.out.now) (g.O.Sink.written c.args.out.now)), omega arith)

pub loop-printer-preserved : goal.loop-printer-preserved
loop-printer-preserved g c =
    let whole = concat (map row_line c.args.answer.now) in
    let before : Handed = handed c.args.printer.now.failed (g.O.Sink.faults c.args.out.now) (g.O.Sink.written c.args.out.now) in
    let between : Handed = handed c.loop-printer.printer.failed (g.O.Sink.faults c.loop-printer.out) (g.O.Sink.written c.loop-printer.out) in
    let now : Handed = handed c.row.new.self.failed (g.O.Sink.faults c.row.new.out) (g.O.Sink.written c.row.new.out) in
    let given = c.if-not-next.ensures.given refl in
    let so_far = subst (λ left. HandedSoFar whole (concat (map row_line left)) before between) given c.loop-printer.invariant.0 in
    let hands = subst (λ values. Hands (row_line (map value_of values)) between now) c.as_slice.ensures.value c.row.ensures.handed in
    let count = c.loop-printer.invariant.1 in
    let many = ap length given in (
      one_more c.pieces_join.ensures whole (row_line (map value_of c.next.new.row.items)) (concat (map row_line c.next.new.self)) before between now so_far hands,
      omega (arith, count, many),
    )
