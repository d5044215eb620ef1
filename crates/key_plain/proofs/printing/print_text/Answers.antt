use Rattle.std.proofs.Common.{ap, sym, refl}
use Rattle.key_lines.specs.Handing.{Handed, handed}
use Rattle.key_lines.specs.Told.{refusal_in}
use Rattle.key_plain.proofs.ToldTexts.{answered, unfailed}
use Rattle.plain_eval.specs.Answers.{IsMeantBySome}
use Rattle.key_plain.proofs.HandingOn.{text_answered}
use Rattle.key_plain.proofs.printing.print_text.Goals as goal

pub returns-in-Ok : goal.returns-in-Ok
returns-in-Ok g c =
    let meant = c.in-Ok.ensures.meaning in
    let some : IsMeantBySome c.args.schema.now c.in-Ok.query = record { text = c.args.text.now; meant = meant } in
    let before : Handed = handed c.args.printer.now.failed (g.O.Sink.faults c.args.out.now) (g.O.Sink.written c.args.out.now) in
    let between : Handed = handed c.print_rows-rows.new.printer.failed (g.O.Sink.faults c.print_rows-rows.new.out) (g.O.Sink.written c.print_rows-rows.new.out) in
    let now : Handed = handed c.count.new.self.failed (g.O.Sink.faults c.count.new.out) (g.O.Sink.written c.count.new.out) in
    record {
      handed = text_answered c.pieces_join.ensures c.args.schema.now c.args.tables.now c.args.number c.args.text.now meant.meant meant.reads
          c.begin-answer.result (c.begin-answer.ensures.answer some c.requires.database) c.print_rows-rows.result before between now
          c.print_rows-rows.ensures.count c.print_rows-rows.ensures.handed c.count.ensures.handed;
      rule = sym (ap refusal_in meant.reads);
      told = λ fine. answered c.args.schema.now c.args.tables.now c.args.number c.args.text.now meant.meant meant.reads
          c.begin-answer.result (c.begin-answer.ensures.answer some c.requires.database) c.print_rows-rows.result (c.print_rows-rows.ensures.count (unfailed between now c.count.ensures.handed fine)) _ refl refl;
    }
