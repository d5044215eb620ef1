use Rattle.std.proofs.Common.{true, false, ◌∙◌, arith}
use Rattle.key_audit.proofs.Ahead.{still_ahead}
use Rattle.key_audit.proofs.Heads.{head_ends, head_full, head_more}
use Rattle.key_audit.proofs.head.read_front.Goals as goal

pub returns-then-not-branch-clause-front : goal.returns-then-not-branch-clause-front
returns-then-not-branch-clause-front g c =
    let contents = g.D.Depot.contents c.args.depot.now in
    head_ends contents c.args.name.now c.pieces.head.items
    (still_ahead (g.D.Depot.contents c.pieces.depot) contents c.args.name.now c.pieces.head.items c.pieces.window c.has_more.new.self c.in_ok-has_more.field-0 false
    c.pieces.invariant.same c.pieces.invariant.stands c.in_ok-has_more.ensures.more c.if-not-branch.true)
    c.pieces.invariant.within

pub pieces-preserved : goal.pieces-preserved
pieces-preserved g c =
    let contents = g.D.Depot.contents c.args.depot.now in
    let has = still_ahead (g.D.Depot.contents c.pieces.depot) contents c.args.name.now c.pieces.head.items c.pieces.window c.has_more.new.self c.in_ok-has_more.field-0 true
    c.pieces.invariant.same c.pieces.invariant.stands c.in_ok-has_more.ensures.more c.if-not-branch.false in
    let passed = c.put_ahead.ensures.passed in
    let counted = c.pieces.invariant.counted in
    let kept = c.in_ok-has_more.ensures.passed in
    record {
      same = c.in_ok-has_more.ensures.same ∙ c.pieces.invariant.same;
      faults = c.in_ok-has_more.ensures.cause.other ∙ c.pieces.invariant.faults;
      appends = c.in_ok-has_more.ensures.appends ∙ c.pieces.invariant.appends;
      stays_sure = λ other is. c.in_ok-has_more.ensures.stays_sure other (c.pieces.invariant.stays_sure other is);
      within = c.put_ahead.ensures.within;
      counted = omega (arith, passed, counted, kept);
      stands = head_more contents c.args.name.now c.pieces.head.items c.put_ahead.new.head.items c.has_more.new.self c.put_ahead.new.window has.stands
          c.put_ahead.ensures.front passed;
    }

pub returns-clause-front : goal.returns-clause-front
returns-clause-front g c =
    let within = c.pieces.invariant.within in
    let full = c.pieces-test.false in
    let size = c.len.ensures.value in
    head_full (g.D.Depot.contents c.args.depot.now) c.args.name.now c.pieces.head.items c.pieces.window c.pieces.invariant.stands (omega (arith, within, full, size))
