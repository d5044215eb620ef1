use Rattle.std.proofs.Common.{◌∙◌, arith}
use Rattle.flash_build.proofs.CellReads.{after, row_more, damaged_after, calls_more, calls_next, calls_later}
use Rattle.flash_build.proofs.reading.read_rows.Goals as goal

pub returns-in-Err-clause-damaged : goal.returns-in-Err-clause-damaged
returns-in-Err-clause-damaged g c = λ since from given.
    let was = c.loop-place.invariant in
    let rises = was.read.kept.never_falls in
    damaged_after since (g.F.Flash.state c.read_row.new.flash) c.in-Err.fault was.read.kept.page c.loop-place-test.true was.rows
    (c.in-Err.ensures.damaged since (omega (arith, from, rises)) (was.read.given since from given))

pub loop-place-preserved : goal.loop-place-preserved
loop-place-preserved g c =
    let was = c.loop-place.invariant in
    record {
      kind = c.in_default.ensures.kind ∙ was.kind;
      rows = row_more was.read.kept.page was.rows c.in_default.ensures.added;
      calls = calls_next c.loop-place.auto.place was.calls c.in_default.ensures.calls c.in_default.ensures.page;
      read = after was.read c.in_default.ensures.read;
    }

pub returns-in-Err-clause-none : goal.returns-in-Err-clause-none
returns-in-Err-clause-none g c = λ same. absurd (omega (arith, same, c.loop-place.auto.place, c.loop-place-test.true))

pub returns-in-Err-clause-at_most : goal.returns-in-Err-clause-at_most
returns-in-Err-clause-at_most g c = λ less.
    calls_later c.args.file.now c.args.from c.loop-place.place c.args.file.now.run.count (g.F.Flash.state c.args.flash.now).calls (g.F.Flash.state c.read_row.new.flash).calls (omega (arith, c.loop-place-test.true)) (calls_more c.loop-place.auto.place c.loop-place.invariant.calls c.in-Err.ensures.calls)
