use Rattle.std.proofs.Common.{◌∙◌, ℕ, List, subst, arith}
use Rattle.key_lines.specs.Handing.{Handed, Hands, handed}
use Rattle.key_plain.proofs.HandingOn.{nothing_yet}
use Rattle.key_commands.specs.generate.Counting.{rows_given, text_lines}
use Rattle.key_commands.proofs.generate_lemmas.Lines.{next_line, all_lines}
use Rattle.key_commands.proofs.generate.printing.print_texts.Goals as goal

pub loop-place-init : goal.loop-place-init
loop-place-init g c =
    nothing_yet c.pieces_join.ensures (text_lines 1 (rows_given c.args.told.now) c.args.meant.now) (handed c.args.printer.now.failed (g.O.Sink.faults c.args.out.now) (g.O.Sink.written c.args.out.now))

pub loop-place-preserved : goal.loop-place-preserved
loop-place-preserved g c =
    let before : Handed = handed c.args.printer.now.failed (g.O.Sink.faults c.args.out.now) (g.O.Sink.written c.args.out.now) in
    let between : Handed = handed c.loop-place.printer.failed (g.O.Sink.faults c.loop-place.out) (g.O.Sink.written c.loop-place.out) in
    let now : Handed = handed c.ready_line.new.self.failed (g.O.Sink.faults c.ready_line.new.out) (g.O.Sink.written c.ready_line.new.out) in
    next_line c.pieces_join.ensures (text_lines 1 (rows_given c.args.told.now) c.args.meant.now) c.loop-place.place c.args.told.now c.args.meant.now _ _ before between now
    (omega (arith, c.loop-place-test.true, c.requires.as_many)) c.loop-place-test.true c.loop-place.invariant
    (subst (λ (piece : List ℕ). Hands piece between now) (c.as_slice.ensures.value ∙ c.text_line-line.ensures.line) c.ready_line.ensures.handed)

pub returns : goal.returns
returns g c = record {
  handed = all_lines (text_lines 1 (rows_given c.args.told.now) c.args.meant.now) c.loop-place.place c.args.told.now c.args.meant.now
      (handed c.args.printer.now.failed (g.O.Sink.faults c.args.out.now) (g.O.Sink.written c.args.out.now))
      (handed c.loop-place.printer.failed (g.O.Sink.faults c.loop-place.out) (g.O.Sink.written c.loop-place.out))
      (omega (arith, c.loop-place-test.false)) c.loop-place.invariant;
}
