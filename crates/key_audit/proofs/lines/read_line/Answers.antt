use Rattle.std.proofs.Common.{◌≡◌, true, false, List, ℕ, ◌++◌, length, ap, sym, subst, ◌∙◌, arith, length-append}
use Rattle.ghost_model.specs.core.Recorded.{lacks}
use Rattle.ghost_model.proofs.RecordedLemmas.Texts.{lacks_append}
use Rattle.key_audit.proofs.Ahead.{some_bytes, still_ahead}
use Rattle.key_audit.proofs.Ending.{unended, overlong}
use Rattle.key_audit.proofs.LineParts.{line_ended, line_goes_on}
use Rattle.key_audit.proofs.lines.read_line.Goals as goal

pub returns-else-is_empty-clause-front : goal.returns-else-is_empty-clause-front
returns-else-is_empty-clause-front g c = λ passed stands.
    let contents = g.D.Depot.contents c.args.depot.now in
    let line = c.parts.line.items in
    unended contents c.args.name.now passed line
    (still_ahead (g.D.Depot.contents c.parts.depot) contents c.args.name.now (passed ++ line) c.parts.window c.has_more.new.self c.in_ok-has_more.field-0 false
    c.parts.invariant.same (c.parts.invariant.stands passed stands) c.in_ok-has_more.ensures.more c.if-not-branch.true)
    (some_bytes line c.is_empty.result c.is_empty.ensures c.if-is_empty.false) c.parts.invariant.lacking

pub returns-in-Ended-clause-front : goal.returns-in-Ended-clause-front
returns-in-Ended-clause-front g c = λ passed stands.
    let contents = g.D.Depot.contents c.args.depot.now in
    let line = c.parts.line.items in
    let has = still_ahead (g.D.Depot.contents c.parts.depot) contents c.args.name.now (passed ++ line) c.parts.window c.has_more.new.self c.in_ok-has_more.field-0 true
    c.parts.invariant.same (c.parts.invariant.stands passed stands) c.in_ok-has_more.ensures.more c.if-not-branch.false in
    line_ended contents c.args.name.now passed line c.take_part.new.line.items c.has_more.new.self c.take_part.new.window has.stands c.parts.invariant.lacking
    c.in-Ended.ensures.passed c.in-Ended.ensures.part

pub returns-in-TooLong-clause-front : goal.returns-in-TooLong-clause-front
returns-in-TooLong-clause-front g c = λ passed stands.
    let contents = g.D.Depot.contents c.args.depot.now in
    let line = c.parts.line.items in
    let has = still_ahead (g.D.Depot.contents c.parts.depot) contents c.args.name.now (passed ++ line) c.parts.window c.has_more.new.self c.in_ok-has_more.field-0 true
    c.parts.invariant.same (c.parts.invariant.stands passed stands) c.in_ok-has_more.ensures.more c.if-not-branch.false in
    overlong contents c.args.name.now passed line c.has_more.new.self has.stands c.parts.invariant.lacking c.in-TooLong.ensures.part

pub parts-smaller : goal.parts-smaller
parts-smaller g c =
    let size = ap length c.in-More.ensures.part.line_is ∙ length-append c.parts.line.items _ in
    let some = c.in_ok-has_more.ensures.some c.if-not-branch.false in
    let within = c.in-More.ensures.part.within in
    omega (arith, size, some, within)

pub parts-preserved : goal.parts-preserved
parts-preserved g c =
    let contents = g.D.Depot.contents c.args.depot.now in
    let line = c.parts.line.items in
    let part = c.in-More.ensures.part in
    let size = ap length part.line_is ∙ length-append line _ in
    let none = ap length part.ahead_is in
    let kept = c.in-More.ensures.passed in
    let same = c.in_ok-has_more.ensures.passed in
    let counted = c.parts.invariant.counted in
    record {
      same = c.in_ok-has_more.ensures.same ∙ c.parts.invariant.same;
      faults = c.in_ok-has_more.ensures.cause.other ∙ c.parts.invariant.faults;
      appends = c.in_ok-has_more.ensures.appends ∙ c.parts.invariant.appends;
      stays_sure = λ other is. c.in_ok-has_more.ensures.stays_sure other (c.parts.invariant.stays_sure other is);
      lacking = subst (λ (xs : List ℕ). lacks 10 xs ≡ true) (sym part.line_is) (lacks_append 10 line _ c.parts.invariant.lacking part.lacking);
      within = part.within;
      counted = omega (arith, size, none, kept, same, counted);
      stands = λ passed stands.
          let has = still_ahead (g.D.Depot.contents c.parts.depot) contents c.args.name.now (passed ++ line) c.parts.window c.has_more.new.self c.in_ok-has_more.field-0 true
          c.parts.invariant.same (c.parts.invariant.stands passed stands) c.in_ok-has_more.ensures.more c.if-not-branch.false in
          line_goes_on contents c.args.name.now passed line c.take_part.new.line.items c.has_more.new.self c.take_part.new.window has.stands c.parts.invariant.lacking kept part;
    }
