use Rattle.std.proofs.Common.{◌≡◌, Err, Ok, inr, rules}
use Rattle.key_words.specs.Views.{load_view}
use Rattle.key_inputs.specs.Openings.{tables_opening}
use Rattle.key_inputs.specs.Outside.{outside}
use Rattle.key_load.specs.Preparing.{IsPrepared}
use Rattle.key_load.specs.Results.{EndsLoading, loading}
use Rattle.key_load.specs.declared.failures.LoadFailure.TheVariants as failure
use Rattle.key_load.proofs.Endings.{ends_spelled, ends_some, loaded, unprinted, unmade}
use Rattle.key_load.proofs.command.load.Goals as goal

pub returns-in_err-make_both-clause-ends : goal.returns-in_err-make_both-clause-ends
returns-in_err-make_both-clause-ends g c = λ files told.
    let words = load_view c.args.words.now in
    let input = c.in-Ok.input in
    let fault = c.in_err-make_both.field-0.0 in
    let before = outside (g.D.Depot.contents c.args.depot.now) (g.D.Depot.faults c.args.depot.now) (g.D.Depot.append_faults c.args.depot.now) (g.F.Flash.state c.args.flash.now) (g.O.Sink.written c.args.out.now) (g.O.Sink.faults c.args.out.now) in
    let after = outside (g.D.Depot.contents c.make_both.new.depot) (g.D.Depot.faults c.make_both.new.depot) (g.D.Depot.append_faults c.make_both.new.depot) (g.F.Flash.state c.make_both.new.flash) (g.O.Sink.written c.args.out.now) (g.O.Sink.faults c.args.out.now) in
    let made = c.in_ok-prepared.ensures in
    let are : IsPrepared input.schema input.tables words.blocks c.in_ok-prepared.prepared = record { cat = made.cat; hidden = made.hidden; image = made.image; blocks = made.blocks } in
    let same : c.from_residual-in_err-make_both.result ≡ Err fault = search rules in
    rw same
    (ends_spelled g.F.Flash.told (tables_opening files c.args.words.now.schema.now c.args.words.now.tables.now) input words (Err fault) before after (c.in-Ok.ensures.opened files told)
    (unmade input.schema input.tables words c.in_ok-prepared.prepared g.F.Flash.told are made.enough before after (g.D.Depot.contents c.open_tables.new.depot) c.in-Ok.ensures.same fault
    c.in_err-make_both.ensures.kinds c.in_err-make_both.ensures.in_order))

pub returns-in_err-make_both-clause-loads : goal.returns-in_err-make_both-clause-loads
returns-in_err-make_both-clause-loads g c =
    let words = load_view c.args.words.now in
    let input = c.in-Ok.input in
    let fault = c.in_err-make_both.field-0.0 in
    let before = outside (g.D.Depot.contents c.args.depot.now) (g.D.Depot.faults c.args.depot.now) (g.D.Depot.append_faults c.args.depot.now) (g.F.Flash.state c.args.flash.now) (g.O.Sink.written c.args.out.now) (g.O.Sink.faults c.args.out.now) in
    let after = outside (g.D.Depot.contents c.make_both.new.depot) (g.D.Depot.faults c.make_both.new.depot) (g.D.Depot.append_faults c.make_both.new.depot) (g.F.Flash.state c.make_both.new.flash) (g.O.Sink.written c.args.out.now) (g.O.Sink.faults c.args.out.now) in
    let made = c.in_ok-prepared.ensures in
    let are : IsPrepared input.schema input.tables words.blocks c.in_ok-prepared.prepared = record { cat = made.cat; hidden = made.hidden; image = made.image; blocks = made.blocks } in
    let same : c.from_residual-in_err-make_both.result ≡ Err fault = search rules in
    rw same
    (ends_some g.F.Flash.told input.schema input.tables words (Err fault) before after c.in-Ok.ensures.database
    (unmade input.schema input.tables words c.in_ok-prepared.prepared g.F.Flash.told are made.enough before after (g.D.Depot.contents c.open_tables.new.depot) c.in-Ok.ensures.same fault
    c.in_err-make_both.ensures.kinds c.in_err-make_both.ensures.in_order))

pub returns-in_err-make_both-clause-unsealed : goal.returns-in_err-make_both-clause-unsealed
returns-in_err-make_both-clause-unsealed g c = inr c.in_err-make_both.ensures.unsealed

pub returns-in-Ok-print_line-clause-loads : goal.returns-in-Ok-print_line-clause-loads
returns-in-Ok-print_line-clause-loads g c =
    let words = load_view c.args.words.now in
    let input = c.in-Ok.input in
    let before = outside (g.D.Depot.contents c.args.depot.now) (g.D.Depot.faults c.args.depot.now) (g.D.Depot.append_faults c.args.depot.now) (g.F.Flash.state c.args.flash.now) (g.O.Sink.written c.args.out.now) (g.O.Sink.faults c.args.out.now) in
    let after = outside (g.D.Depot.contents c.make_both.new.depot) (g.D.Depot.faults c.make_both.new.depot) (g.D.Depot.append_faults c.make_both.new.depot) (g.F.Flash.state c.make_both.new.flash) (g.O.Sink.written c.print_line.new.out) (g.O.Sink.faults c.print_line.new.out) in
    let made = c.in_ok-prepared.ensures in
    let are : IsPrepared input.schema input.tables words.blocks c.in_ok-prepared.prepared = record { cat = made.cat; hidden = made.hidden; image = made.image; blocks = made.blocks } in
    ends_some g.F.Flash.told input.schema input.tables words (Ok tt) before after c.in-Ok.ensures.database
    (loaded input.schema input.tables words c.in_ok-prepared.prepared g.F.Flash.told are made.enough before after (g.D.Depot.contents c.open_tables.new.depot) c.in-Ok.ensures.same
    c.in_ok-make_both.ensures.made c.in-Ok-print_line.ensures.printed)

pub returns-in-Ok-print_line-clause-ends : goal.returns-in-Ok-print_line-clause-ends
returns-in-Ok-print_line-clause-ends g c = λ files told.
    let words = load_view c.args.words.now in
    let input = c.in-Ok.input in
    let before = outside (g.D.Depot.contents c.args.depot.now) (g.D.Depot.faults c.args.depot.now) (g.D.Depot.append_faults c.args.depot.now) (g.F.Flash.state c.args.flash.now) (g.O.Sink.written c.args.out.now) (g.O.Sink.faults c.args.out.now) in
    let after = outside (g.D.Depot.contents c.make_both.new.depot) (g.D.Depot.faults c.make_both.new.depot) (g.D.Depot.append_faults c.make_both.new.depot) (g.F.Flash.state c.make_both.new.flash) (g.O.Sink.written c.print_line.new.out) (g.O.Sink.faults c.print_line.new.out) in
    let made = c.in_ok-prepared.ensures in
    let are : IsPrepared input.schema input.tables words.blocks c.in_ok-prepared.prepared = record { cat = made.cat; hidden = made.hidden; image = made.image; blocks = made.blocks } in
    ends_spelled g.F.Flash.told (tables_opening files c.args.words.now.schema.now c.args.words.now.tables.now) input words (Ok tt) before after (c.in-Ok.ensures.opened files told)
    (loaded input.schema input.tables words c.in_ok-prepared.prepared g.F.Flash.told are made.enough before after (g.D.Depot.contents c.open_tables.new.depot) c.in-Ok.ensures.same
    c.in_ok-make_both.ensures.made c.in-Ok-print_line.ensures.printed)

pub returns-in-Ok-print_line-clause-unsealed : goal.returns-in-Ok-print_line-clause-unsealed
returns-in-Ok-print_line-clause-unsealed g c = inr c.in_ok-make_both.ensures.unsealed

pub returns-clause-ends : goal.returns-clause-ends
returns-clause-ends g c = λ files told.
    let words = load_view c.args.words.now in
    let input = c.in-Ok.input in
    let before = outside (g.D.Depot.contents c.args.depot.now) (g.D.Depot.faults c.args.depot.now) (g.D.Depot.append_faults c.args.depot.now) (g.F.Flash.state c.args.flash.now) (g.O.Sink.written c.args.out.now) (g.O.Sink.faults c.args.out.now) in
    let after = outside (g.D.Depot.contents c.make_both.new.depot) (g.D.Depot.faults c.make_both.new.depot) (g.D.Depot.append_faults c.make_both.new.depot) (g.F.Flash.state c.make_both.new.flash) (g.O.Sink.written c.print_line.new.out) (g.O.Sink.faults c.print_line.new.out) in
    let made = c.in_ok-prepared.ensures in
    let are : IsPrepared input.schema input.tables words.blocks c.in_ok-prepared.prepared = record { cat = made.cat; hidden = made.hidden; image = made.image; blocks = made.blocks } in
    ends_spelled g.F.Flash.told (tables_opening files c.args.words.now.schema.now c.args.words.now.tables.now) input words (Err failure.Sink) before after (c.in-Ok.ensures.opened files told)
    (unprinted input.schema input.tables words c.in_ok-prepared.prepared g.F.Flash.told are made.enough before after (g.D.Depot.contents c.open_tables.new.depot) c.in-Ok.ensures.same
    c.in_ok-make_both.ensures.made c.in-Err-print_line.ensures.failed)

pub returns-clause-loads : goal.returns-clause-loads
returns-clause-loads g c =
    let words = load_view c.args.words.now in
    let input = c.in-Ok.input in
    let before = outside (g.D.Depot.contents c.args.depot.now) (g.D.Depot.faults c.args.depot.now) (g.D.Depot.append_faults c.args.depot.now) (g.F.Flash.state c.args.flash.now) (g.O.Sink.written c.args.out.now) (g.O.Sink.faults c.args.out.now) in
    let after = outside (g.D.Depot.contents c.make_both.new.depot) (g.D.Depot.faults c.make_both.new.depot) (g.D.Depot.append_faults c.make_both.new.depot) (g.F.Flash.state c.make_both.new.flash) (g.O.Sink.written c.print_line.new.out) (g.O.Sink.faults c.print_line.new.out) in
    let made = c.in_ok-prepared.ensures in
    let are : IsPrepared input.schema input.tables words.blocks c.in_ok-prepared.prepared = record { cat = made.cat; hidden = made.hidden; image = made.image; blocks = made.blocks } in
    ends_some g.F.Flash.told input.schema input.tables words (Err failure.Sink) before after c.in-Ok.ensures.database
    (unprinted input.schema input.tables words c.in_ok-prepared.prepared g.F.Flash.told are made.enough before after (g.D.Depot.contents c.open_tables.new.depot) c.in-Ok.ensures.same
    c.in_ok-make_both.ensures.made c.in-Err-print_line.ensures.failed)

pub returns-clause-unsealed : goal.returns-clause-unsealed
returns-clause-unsealed g c = inr c.in_ok-make_both.ensures.unsealed
