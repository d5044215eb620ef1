use Rattle.std.proofs.Common.{◌≡◌, ◌+◌, [], ap, length, arith, rules}
use Rattle.ghost_model.specs.core.Printed.{printed}
use Rattle.ghost_model.specs.core.Texts.{texts_of}
use Rattle.key_lines.specs.Handing.{Handed, handed}
use Rattle.key_lines.specs.Told.{told_in}
use Rattle.key_plain.proofs.HandingOn.{no_text_yet, text_printed, none_left}
use Rattle.key_plain.proofs.ToldTexts.{none_told, told_next, are_ruled, are_all_told}
use Rattle.key_plain.proofs.printing.print_texts.Goals as goal

pub loop-earlier-init : goal.loop-earlier-init
loop-earlier-init g c =
    let state : Handed = handed c.args.printer.now.failed (g.O.Sink.faults c.args.out.now) (g.O.Sink.written c.args.out.now) in
    let all = ap length c.new-texts.ensures.all in
    let few = c.requires.few in (
      no_text_yet c.pieces_join.ensures c.args.schema.now c.args.tables.now (texts_of c.args.script.now) c.new-texts.result c.new-texts.ensures.all state,
      omega (arith, all, few),
      none_told c.args.schema.now c.args.tables.now (texts_of c.args.script.now) c.new-texts.result (told_in c.args.told.now) c.args.printer.now.failed c.new-texts.ensures.all c.requires.untold,
    )

pub loop-earlier-preserved : goal.loop-earlier-preserved
loop-earlier-preserved g c =
    let before : Handed = handed c.args.printer.now.failed (g.O.Sink.faults c.args.out.now) (g.O.Sink.written c.args.out.now) in
    let between : Handed = handed c.loop-earlier.printer.failed (g.O.Sink.faults c.loop-earlier.out) (g.O.Sink.written c.loop-earlier.out) in
    let now : Handed = handed c.print_text.new.printer.failed (g.O.Sink.faults c.print_text.new.out) (g.O.Sink.written c.print_text.new.out) in
    let next = c.in-Some.ensures.taken in
    let left = ap length next in
    let few = c.loop-earlier.invariant.1 in (
      text_printed c.pieces_join.ensures c.args.schema.now c.args.tables.now (printed c.args.schema.now (texts_of c.args.script.now) c.args.tables.now)
          (c.loop-earlier.earlier + 1) c.in-Some.text.now c.loop-earlier.texts c.next.new.self next before between now c.loop-earlier.invariant.0 c.print_text.ensures.handed,
      omega (arith, left, few),
      told_next c.args.schema.now c.args.tables.now (texts_of c.args.script.now) c.loop-earlier.texts c.next.new.self c.in-Some.text.now (told_in c.loop-earlier.told) (told_in c.push.new.self) c.print_text.result c.loop-earlier.printer.failed c.print_text.new.printer.failed c.loop-earlier.earlier
          c.if-printer.false next c.push.ensures.texts c.print_text.ensures.rule c.print_text.ensures.told c.loop-earlier.invariant.2,
    )

pub returns-in_default-clause-told : goal.returns-in_default-clause-told
returns-in_default-clause-told g c = λ fine.
    let none : c.loop-earlier.texts ≡ [] = search rules in
    are_all_told c.args.schema.now c.args.tables.now (texts_of c.args.script.now) c.loop-earlier.texts (told_in c.loop-earlier.told) c.loop-earlier.printer.failed c.loop-earlier.earlier
    c.loop-earlier.invariant.2 none fine

pub returns-clause-told : goal.returns-clause-told
returns-clause-told g c = λ fine.
    let few = c.loop-earlier.invariant.1 in
    let last = c.loop-earlier-test.false in
    are_all_told c.args.schema.now c.args.tables.now (texts_of c.args.script.now) c.loop-earlier.texts (told_in c.loop-earlier.told) c.loop-earlier.printer.failed c.loop-earlier.earlier
    c.loop-earlier.invariant.2 (none_left c.loop-earlier.texts (omega (arith, few, last))) fine
