use Rattle.std.proofs.Common.{[], ◌∷◌, ◌++◌, refl, ◌∙◌, arith}
use Rattle.ghost_model.specs.core.Asks.{asked_of}
use Rattle.ghost_model.specs.core.Texts.{texts_of}
use Rattle.key_audit.specs.declared.lines.Front.TheVariants as front
use Rattle.key_audit.proofs.FileEnds.{whole_file, no_line_there, ends_there, passed_with, still_read, blames_nobody, is_never_depot}
use Rattle.key_audit.proofs.journal.audit_journal.Goals as goal

pub returns-in-Ok-End-clause-ends : goal.returns-in-Ok-End-clause-ends
returns-in-Ok-End-clause-ends g c =
    let here = c.lines.invariant in
    let asks = asked_of c.args.cat.now.schema (texts_of c.args.script.now) in
    whole_file (g.D.Depot.contents c.args.depot.now) c.args.name.now c.args.cat.now asks here.passed c.lines_are_passed.ensures.passed c.lines.audit c.lines.moves _ here.has
    (c.closed.ensures.closed c.args.cat.now asks)
    (still_read (g.D.Depot.contents c.lines.depot) (g.D.Depot.contents c.args.depot.now) c.args.name.now here.passed c.read_line.new.line.items c.read_line.new.line.items
    c.lines.window c.read_line.new.window c.in-Ok-End.field-0 front.End here.same here.stands c.in-Ok-End.ensures.front refl c.in-Ok-End.field-0-is)

pub returns-in-Ok-NoLine-clause-ends : goal.returns-in-Ok-NoLine-clause-ends
returns-in-Ok-NoLine-clause-ends g c =
    let here = c.lines.invariant in
    let asks = asked_of c.args.cat.now.schema (texts_of c.args.script.now) in
    no_line_there (g.D.Depot.contents c.args.depot.now) c.args.name.now c.args.cat.now asks here.passed c.lines_are_passed.ensures.passed c.lines.audit c.lines.moves here.has
    (still_read (g.D.Depot.contents c.lines.depot) (g.D.Depot.contents c.args.depot.now) c.args.name.now here.passed c.read_line.new.line.items c.read_line.new.line.items
    c.lines.window c.read_line.new.window c.in-Ok-NoLine.field-0 front.NoLine here.same here.stands c.in-Ok-NoLine.ensures.front refl c.in-Ok-NoLine.field-0-is)

pub returns-in-Some-clause-ends : goal.returns-in-Some-clause-ends
returns-in-Some-clause-ends g c =
    let here = c.lines.invariant in
    let asks = asked_of c.args.cat.now.schema (texts_of c.args.script.now) in
    let line = c.as_slice.result.now in
    let reads = still_read (g.D.Depot.contents c.lines.depot) (g.D.Depot.contents c.args.depot.now) c.args.name.now here.passed c.read_line.new.line.items line
    c.lines.window c.read_line.new.window c.in-Ok-Line.field-0 front.Line here.same here.stands c.in-Ok-Line.ensures.front c.as_slice.ensures.value c.in-Ok-Line.field-0-is in
    let counted = passed_with (g.D.Depot.contents c.args.depot.now) c.args.name.now c.args.cat.now asks here.passed line c.read_line.new.window reads in
    ends_there (g.D.Depot.contents c.args.depot.now) c.args.name.now c.args.cat.now asks here.passed line c.read_line.new.window reads.stands c.in-Some.failure
    (c.in-Some.ensures.judged c.args.cat.now asks here.passed here.has counted)

pub returns-in-Some-clause-cause : goal.returns-in-Some-clause-cause
returns-in-Some-clause-cause g c =
    let here = c.lines.invariant in
    let asks = asked_of c.args.cat.now.schema (texts_of c.args.script.now) in
    let line = c.as_slice.result.now in
    let reads = still_read (g.D.Depot.contents c.lines.depot) (g.D.Depot.contents c.args.depot.now) c.args.name.now here.passed c.read_line.new.line.items line
    c.lines.window c.read_line.new.window c.in-Ok-Line.field-0 front.Line here.same here.stands c.in-Ok-Line.ensures.front c.as_slice.ensures.value c.in-Ok-Line.field-0-is in
    let counted = passed_with (g.D.Depot.contents c.args.depot.now) c.args.name.now c.args.cat.now asks here.passed line c.read_line.new.window reads in
    blames_nobody c.args.cat.now asks (here.passed ++ (line ++ 10 ∷ [])) c.in-Some.failure _ _ (c.in-Some.ensures.judged c.args.cat.now asks here.passed here.has counted [])
    (c.in-Ok-Line.ensures.cause.other ∙ here.faults)

pub returns-in-Some-clause-goes_well : goal.returns-in-Some-clause-goes_well
returns-in-Some-clause-goes_well g c = λ sure.
    let here = c.lines.invariant in
    let asks = asked_of c.args.cat.now.schema (texts_of c.args.script.now) in
    let line = c.as_slice.result.now in
    let reads = still_read (g.D.Depot.contents c.lines.depot) (g.D.Depot.contents c.args.depot.now) c.args.name.now here.passed c.read_line.new.line.items line
    c.lines.window c.read_line.new.window c.in-Ok-Line.field-0 front.Line here.same here.stands c.in-Ok-Line.ensures.front c.as_slice.ensures.value c.in-Ok-Line.field-0-is in
    let counted = passed_with (g.D.Depot.contents c.args.depot.now) c.args.name.now c.args.cat.now asks here.passed line c.read_line.new.window reads in
    is_never_depot c.args.cat.now asks (here.passed ++ (line ++ 10 ∷ [])) c.in-Some.failure (c.in-Some.ensures.judged c.args.cat.now asks here.passed here.has counted [])

pub lines-preserved : goal.lines-preserved
lines-preserved g c =
    let here = c.lines.invariant in
    let asks = asked_of c.args.cat.now.schema (texts_of c.args.script.now) in
    let line = c.as_slice.result.now in
    let reads = still_read (g.D.Depot.contents c.lines.depot) (g.D.Depot.contents c.args.depot.now) c.args.name.now here.passed c.read_line.new.line.items line
    c.lines.window c.read_line.new.window c.in-Ok-Line.field-0 front.Line here.same here.stands c.in-Ok-Line.ensures.front c.as_slice.ensures.value c.in-Ok-Line.field-0-is in
    let counted = passed_with (g.D.Depot.contents c.args.depot.now) c.args.name.now c.args.cat.now asks here.passed line c.read_line.new.window reads in
    record {
      same = c.in-Ok-Line.ensures.same ∙ here.same;
      faults = c.in-Ok-Line.ensures.cause.other ∙ here.faults;
      appends = c.in-Ok-Line.ensures.appends ∙ here.appends;
      stays_sure = λ other is. c.in-Ok-Line.ensures.stays_sure other (here.stays_sure other is);
      passed = here.passed ++ (line ++ 10 ∷ []);
      stands = reads.stands;
      has = c.in_default.ensures.judged c.args.cat.now asks here.passed here.has counted;
    }

pub lines-smaller : goal.lines-smaller
lines-smaller g c =
    let here = c.lines.invariant in
    let asks = asked_of c.args.cat.now.schema (texts_of c.args.script.now) in
    let line = c.as_slice.result.now in
    let reads = still_read (g.D.Depot.contents c.lines.depot) (g.D.Depot.contents c.args.depot.now) c.args.name.now here.passed c.read_line.new.line.items line
    c.lines.window c.read_line.new.window c.in-Ok-Line.field-0 front.Line here.same here.stands c.in-Ok-Line.ensures.front c.as_slice.ensures.value c.in-Ok-Line.field-0-is in
    let counted = passed_with (g.D.Depot.contents c.args.depot.now) c.args.name.now c.args.cat.now asks here.passed line c.read_line.new.window reads in
    let has = c.in_default.ensures.judged c.args.cat.now asks here.passed here.has counted in
    let within = has.within in
    let at = here.stands.passed_is in
    let after = reads.stands.passed_is in
    omega (arith, counted, within, at, after)
