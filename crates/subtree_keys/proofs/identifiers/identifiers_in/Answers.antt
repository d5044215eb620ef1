use Rattle.std.proofs.Common.{◌≡◌, ◌<◌, ◌≤◌, length, false, ◌&&◌, nat_le, get_or, arith}
use Rattle.ghost_model.specs.forms.Runs.{number_in}
use Rattle.subtree_keys.proofs.Records.{all_read, one_wrong, too_low, too_high}
use Rattle.subtree_keys.proofs.identifiers.identifiers_in.Goals as goal
use Rattle.subtree_keys.proofs.identifiers.identifiers_in.Goals.{then-identifier-lt1-via-then-identifier-lt1, then-identifier-lt1-via-else-identifier-lt1+then-count-identifier}

pub returns-then-identifier-lt1-clause-spelled : goal.returns-then-identifier-lt1-clause-spelled
returns-then-identifier-lt1-clause-spelled c =
    let rest = c.loop-count.rest.now in
    let at = c.loop-count.count-index in
    let rows = c.args.rows.now in
    let is = c.number_at-identifier.ensures in
    let inside : at < length rows = c.loop-count-test.true in
    one_wrong rows c.args.cell.now rest at inside c.loop-count.invariant.tested
    (elim c.then-identifier-lt1.branch [
      | then-identifier-lt1-via-then-identifier-lt1 w ↦ too_low (number_in rest 0) (get_or rows at 0) (omega (arith, is))
      | then-identifier-lt1-via-else-identifier-lt1+then-count-identifier w ↦ too_high (number_in rest 0) (get_or rows at 0) (omega (arith, is))
    ])

pub returns-clause-rows : goal.returns-clause-rows
returns-clause-rows c =
    all_read c.args.rows.now c.args.cell.now c.loop-count.rest.now c.loop-count.ids.items c.loop-count.count-index c.loop-count-test.false
    c.loop-count.invariant.read c.loop-count.invariant.tested
