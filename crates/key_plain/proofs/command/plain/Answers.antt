use Rattle.std.proofs.Common.{sym, ◌∙◌}
use Rattle.key_lines.specs.Told.{told_in}
use Rattle.key_words.specs.Views.{plain_view}
use Rattle.key_plain.specs.Openings.{plain_opening}
use Rattle.key_plain.proofs.Results.{prints_front, prints_read, prints_spelled, front_spelled, names_shown}
use Rattle.key_plain.proofs.command.plain.Goals as goal

pub returns-then-is_err-clause-prints : goal.returns-then-is_err-clause-prints
returns-then-is_err-clause-prints g c =
    prints_front c.in-Ok.opened c.in-Ok.ensures.database c.in-Ok.ensures.short c.in-Ok.ensures.few c.deref.result.now c.deref.ensures.value
    (g.O.Sink.written c.args.out.now) (g.O.Sink.written c.print_script.new.out) c.print_script.result (sym c.is_err.ensures.value ∙ c.if-is_err.true) c.print_script.ensures.failed
    (told_in c.print_script.new.told) c.print_script.ensures.ruled

pub returns-else-is_err-clause-prints : goal.returns-else-is_err-clause-prints
returns-else-is_err-clause-prints g c =
    prints_read c.in-Ok.opened c.in-Ok.ensures.database c.in-Ok.ensures.short c.in-Ok.ensures.few c.deref.result.now c.deref.ensures.value
    (g.O.Sink.written c.args.out.now) (g.O.Sink.written c.print_script.new.out) c.print_script.result (sym c.is_err.ensures.value ∙ c.if-is_err.false) c.print_script.ensures.printed
    (told_in c.print_script.new.told) c.print_script.ensures.told

pub returns-then-is_err-clause-ends : goal.returns-then-is_err-clause-ends
returns-then-is_err-clause-ends g c = λ files held.
    front_spelled (plain_opening files (plain_view c.args.words.now)) c.in-Ok.opened (c.in-Ok.ensures.spelled files held) c.deref.result.now c.deref.ensures.value
    (g.O.Sink.written c.args.out.now) (g.O.Sink.written c.print_script.new.out) c.print_script.result (sym c.is_err.ensures.value ∙ c.if-is_err.true) c.print_script.ensures.failed
    (told_in c.print_script.new.told) c.print_script.ensures.ruled

pub returns-else-is_err-clause-ends : goal.returns-else-is_err-clause-ends
returns-else-is_err-clause-ends g c = λ files held.
    prints_spelled (plain_opening files (plain_view c.args.words.now)) c.in-Ok.opened (c.in-Ok.ensures.spelled files held) c.deref.result.now c.deref.ensures.value
    (g.O.Sink.written c.args.out.now) (g.O.Sink.written c.print_script.new.out) c.print_script.result (sym c.is_err.ensures.value ∙ c.if-is_err.false) c.print_script.ensures.printed
    (told_in c.print_script.new.told) c.print_script.ensures.told
