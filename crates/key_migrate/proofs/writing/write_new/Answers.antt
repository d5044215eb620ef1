use Rattle.std.proofs.Common.{ap, Err}
use Rattle.key_inputs.specs.Outside.{outside}
use Rattle.key_words.specs.Views.{migrate_view}
use Rattle.key_load.specs.Results.{leaves_file}
use Rattle.key_migrate.proofs.Makings.{made_ends, unmade_ends}
use Rattle.key_migrate.proofs.writing.write_new.Goals as goal

pub returns-in-Ok-print_line-clause-ends : goal.returns-in-Ok-print_line-clause-ends
returns-in-Ok-print_line-clause-ends g c = λ before files written rows.
    let after = outside (g.D.Depot.contents c.make_both.new.depot) (g.D.Depot.faults c.make_both.new.depot) (g.D.Depot.append_faults c.make_both.new.depot) (g.F.Flash.state c.make_both.new.flash) (g.O.Sink.written c.print_line.new.out) (g.O.Sink.faults c.print_line.new.out) in
    made_ends g.F.Flash.told (migrate_view c.args.words.now) before after c.args.prepared.now (g.D.Depot.contents c.args.depot.now) (g.O.Sink.written c.args.out.now) rows files written
    c.in-Ok.ensures.made c.in-Ok-print_line.ensures.printed

pub returns-in-Err-clause-ends : goal.returns-in-Err-clause-ends
returns-in-Err-clause-ends g c = λ before files written rows.
    let after = outside (g.D.Depot.contents c.make_both.new.depot) (g.D.Depot.faults c.make_both.new.depot) (g.D.Depot.append_faults c.make_both.new.depot) (g.F.Flash.state c.make_both.new.flash) (g.O.Sink.written c.args.out.now) (g.O.Sink.faults c.args.out.now) in
    unmade_ends g.F.Flash.told (migrate_view c.args.words.now) before after c.args.prepared.now (g.D.Depot.contents c.args.depot.now) c.in-Err.fault c.failure_of.result rows files
    c.failure_of.ensures.failure c.in-Err.ensures.in_order (λ is. c.in-Err.ensures.file_left (ap (λ fault. leaves_file {T = Unit {0}} (Err fault)) is))
