use Rattle.std.proofs.Common.{Bool, true, false, ◌&&◌, map, ap, sym, ◌∙◌}
use Rattle.std.proofs.lemmas.List.{nil_from_length}
use Rattle.ghost_model.specs.readings.GroupReading.{passes_from}
use Rattle.host_exec.specs.RowBytes.{ByteTest, passes}
use Rattle.host_exec.specs.FormViews.{check_view}
use Rattle.host_exec.proofs.Checks.{walked_one, none_left}
use Rattle.host_exec.proofs.gathering.passes_all.Goals as goal

-- the group ended and the row met none of it
pub returns-then-not-met : goal.returns-then-not-met
returns-then-not-met c =
    let later : Bool = passes_from (λ (test : ByteTest). test.more) (passes c.args.row.now) false (map check_view c.in-Some.later.now) in
    sym (walked_one c.args.row.now (map check_view c.checks.rest.now) (check_view c.in-Some.check.now) (map check_view c.in-Some.later.now) c.checks.met c.meets_now-met.result false
    (ap (map check_view) c.in-Some.ensures.cases.0) c.meets_now-met.ensures c.if-not-check.true
    ∙ ap (λ (b : Bool). b && later) c.if-not-met.true) ∙ c.checks.invariant

-- the group ended and the row met one of it
pub checks-preserved-else-not-met : goal.checks-preserved-else-not-met
checks-preserved-else-not-met c =
    let later : Bool = passes_from (λ (test : ByteTest). test.more) (passes c.args.row.now) false (map check_view c.in-Some.later.now) in
    sym (walked_one c.args.row.now (map check_view c.checks.rest.now) (check_view c.in-Some.check.now) (map check_view c.in-Some.later.now) c.checks.met c.meets_now-met.result false
    (ap (map check_view) c.in-Some.ensures.cases.0) c.meets_now-met.ensures c.if-not-check.true
    ∙ ap (λ (b : Bool). b && later) c.if-not-met.false) ∙ c.checks.invariant

-- the group goes on
pub checks-preserved : goal.checks-preserved
checks-preserved c =
    sym (walked_one c.args.row.now (map check_view c.checks.rest.now) (check_view c.in-Some.check.now) (map check_view c.in-Some.later.now) c.checks.met c.meets_now-met.result true
    (ap (map check_view) c.in-Some.ensures.cases.0) c.meets_now-met.ensures c.if-not-check.false) ∙ c.checks.invariant

pub returns : goal.returns
returns c =
    sym (none_left c.args.row.now (map check_view c.checks.rest.now) c.checks.met (ap (map check_view) (nil_from_length c.checks.rest.now c.in_default.ensures.cases))) ∙ c.checks.invariant
