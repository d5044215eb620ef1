use Rattle.std.proofs.Common.{refl}
use Rattle.key_words.specs.Views.{audit_view}
use Rattle.key_inputs.specs.Outside.{outside}
use Rattle.key_audit.specs.Telling.{has_line}
use Rattle.key_audit.proofs.Outcomes.{printed_whole, printed_front, has_one}
use Rattle.key_audit.proofs.command.audit.Goals as goal

pub returns-in-Ok-clause-did : goal.returns-in-Ok-clause-did
returns-in-Ok-clause-did g c = λ device.
    let before = outside (g.D.Depot.contents c.args.depot.now) (g.D.Depot.faults c.args.depot.now) (g.D.Depot.append_faults c.args.depot.now) device (g.O.Sink.written c.args.out.now) (g.O.Sink.faults c.args.out.now) in
    let after = outside (g.D.Depot.contents c.judge-outcome.new.depot) (g.D.Depot.faults c.judge-outcome.new.depot) (g.D.Depot.append_faults c.judge-outcome.new.depot) device (g.O.Sink.written c.print_line.new.out) (g.O.Sink.faults c.print_line.new.out) in
    printed_whole c.catalogs_have_one_spelling.ensures c.files_have_one_finding.ensures.one before after (audit_view c.args.words.now)
    c.judge-outcome.ensures.same c.judge-outcome.ensures.appends refl c.judge-outcome.result c.judge-outcome.ensures.judges c.judge-outcome.ensures.cause
    c.in-Ok.ensures.cause.other c.in-Ok.ensures.printed c.in-Ok.ensures.nothing

pub returns-in-Err-clause-did : goal.returns-in-Err-clause-did
returns-in-Err-clause-did g c = λ device.
    let before = outside (g.D.Depot.contents c.args.depot.now) (g.D.Depot.faults c.args.depot.now) (g.D.Depot.append_faults c.args.depot.now) device (g.O.Sink.written c.args.out.now) (g.O.Sink.faults c.args.out.now) in
    let after = outside (g.D.Depot.contents c.judge-outcome.new.depot) (g.D.Depot.faults c.judge-outcome.new.depot) (g.D.Depot.append_faults c.judge-outcome.new.depot) device (g.O.Sink.written c.print_line.new.out) (g.O.Sink.faults c.print_line.new.out) in
    printed_front c.catalogs_have_one_spelling.ensures c.files_have_one_finding.ensures.one before after (audit_view c.args.words.now)
    c.judge-outcome.ensures.same c.judge-outcome.ensures.appends refl c.judge-outcome.result c.judge-outcome.ensures.judges c.judge-outcome.ensures.cause
    c.in-Err.ensures.cause.failed (has_one (has_line c.judge-outcome.result) c.in-Err.field-0 c.in-Err.ensures.other) c.in-Err.ensures.failed
