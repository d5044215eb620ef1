use Rattle.std.proofs.Common.{sym}
use Rattle.channel_audit.proofs.Told.{send_parts}
use Rattle.channel_audit.proofs.line.read_send.Goals as goal

pub returns-in_default-done-clause-none : goal.returns-in_default-done-clause-none
returns-in_default-done-clause-none c = λ bytes answer tells.
    c.in_default-done.ensures.none answer (send_parts c.args.text.now c.in-Some.digits.now c.in-Some.word.now c.in-Some.ensures.cut bytes answer tells).1

pub returns-in-None-clause-none : goal.returns-in-None-clause-none
returns-in-None-clause-none c = λ bytes answer tells.
    c.in-None.ensures.none bytes tells.are_bytes (sym (send_parts c.args.text.now c.in-Some.digits.now c.in-Some.word.now c.in-Some.ensures.cut bytes answer tells).0)
