use Rattle.std.proofs.Common.{◌∙◌, Bool, List, ℕ, false, subst}
use Rattle.key_lines.specs.Handing.{Handed, Hands, handed}
use Rattle.key_commands.specs.generate.Counting.{moves_line, rows_given, text_lines}
use Rattle.key_commands.proofs.generate.printing.print_counts.Goals as goal

pub returns : goal.returns
returns g c =
    let between : Handed = handed c.print_texts.new.printer.failed (g.O.Sink.faults c.print_texts.new.out) (g.O.Sink.written c.print_texts.new.out) in
    let now : Handed = handed c.ready_line.new.self.failed (g.O.Sink.faults c.ready_line.new.out) (g.O.Sink.written c.ready_line.new.out) in
    let texts = text_lines 1 (rows_given c.args.told.now) c.args.meant.now in
    let moves = moves_line c.args.moves c.args.sent c.args.taken in
    let first : Hands texts (handed false (g.O.Sink.faults c.args.out.now) (g.O.Sink.written c.args.out.now)) between =
    subst (λ (failed : Bool). Hands texts (handed failed (g.O.Sink.faults c.args.out.now) (g.O.Sink.written c.args.out.now)) between) c.new-printer.ensures.fresh c.print_texts.ensures.handed in
    let second : Hands moves between now = subst (λ (piece : List ℕ). Hands piece between now) (c.as_slice.ensures.value ∙ c.moves_line-line.ensures.line) c.ready_line.ensures.handed in
    record { handed = c.pieces_join.ensures.two texts moves (handed false (g.O.Sink.faults c.args.out.now) (g.O.Sink.written c.args.out.now)) between now first second }
