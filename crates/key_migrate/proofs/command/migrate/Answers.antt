use Rattle.std.proofs.Common.{◌∙◌, ap, sym, refl, Err}
use Rattle.key_inputs.proofs.Causes.{told_since}
use Rattle.key_inputs.specs.Outside.{outside}
use Rattle.key_words.specs.Views.{migrate_view}
use Rattle.key_migrate.proofs.Doings.{causes_of, did_make, did_nothing, quiet_sink}
use Rattle.key_migrate.proofs.command.migrate.Goals as goal

pub returns-in-Ok : goal.returns-in-Ok
returns-in-Ok g c =
    let words = migrate_view c.args.words.now in
    let before = outside (g.D.Depot.contents c.args.depot.now) (g.D.Depot.faults c.args.depot.now) (g.D.Depot.append_faults c.args.depot.now) (g.F.Flash.state c.args.flash.now) (g.O.Sink.written c.args.out.now) (g.O.Sink.faults c.args.out.now) in
    let after = outside (g.D.Depot.contents c.write_new.new.depot) (g.D.Depot.faults c.write_new.new.depot) (g.D.Depot.append_faults c.write_new.new.depot) (g.F.Flash.state c.write_new.new.flash) (g.O.Sink.written c.write_new.new.out) (g.O.Sink.faults c.write_new.new.out) in
    let read = c.in-Ok.ensures in
    let wrote = c.write_new.ensures in
    record {
      did = did_make c.catalogs_have_one_spelling.ensures c.public_parts_go_with_catalogs.ensures g.F.Flash.told words before after (g.F.Flash.state c.read_old.new.flash)
          (g.D.Depot.contents c.read_old.new.depot) c.write_new.result c.args.words.now.apart (wrote.ends before (sym read.same) refl read.rows) wrote.made wrote.name read.kept
          wrote.other_flashes wrote.page_0 wrote.unsealed read.same wrote.made_first wrote.others wrote.nothing_written
          (causes_of c.write_new.result before after wrote.sink (told_since (read.depot.same refl) wrote.depot) (wrote.appends ∙ read.appends)
          (told_since (read.flash.same refl) wrote.flash));
    }

pub returns-in-Err : goal.returns-in-Err
returns-in-Err g c =
    let words = migrate_view c.args.words.now in
    let before = outside (g.D.Depot.contents c.args.depot.now) (g.D.Depot.faults c.args.depot.now) (g.D.Depot.append_faults c.args.depot.now) (g.F.Flash.state c.args.flash.now) (g.O.Sink.written c.args.out.now) (g.O.Sink.faults c.args.out.now) in
    let after = outside (g.D.Depot.contents c.read_old.new.depot) (g.D.Depot.faults c.read_old.new.depot) (g.D.Depot.append_faults c.read_old.new.depot) (g.F.Flash.state c.read_old.new.flash) (g.O.Sink.written c.args.out.now) (g.O.Sink.faults c.args.out.now) in
    let read = c.in-Err.ensures in
    record {
      did = did_nothing c.catalogs_have_one_spelling.ensures c.public_parts_go_with_catalogs.ensures g.F.Flash.told words before after c.in-Err.failure
          (read.ends (g.O.Sink.written c.args.out.now) (g.O.Sink.faults c.args.out.now))
          (record { name = read.name; kept = read.kept; files = read.same; written = refl })
          (causes_of (Err c.in-Err.failure) before after (quiet_sink c.in-Err.failure before after (λ is. read.no_sink (ap Err is)) refl) read.depot read.appends read.flash);
    }
