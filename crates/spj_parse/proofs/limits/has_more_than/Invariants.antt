use Rattle.std.proofs.Common.{◌≡◌, ◌+◌, ◌≤◌, length, sum_by}
use Rattle.spj_parse.specs.Items.{items_in}
use Rattle.spj_parse.specs.Rules.{weight_of}
use Rattle.spj_parse.specs.Walks.{items_left}
use Rattle.spj_parse.proofs.limits.has_more_than.Given as goal

abbrev pub invariant-loop-item : goal.invariant-loop-item
invariant-loop-item l =
    (l.left ≤ l.limit)
    × (sum_by (weight_of l.count l.schema) (items_in l.text) + l.left ≡ sum_by (weight_of l.count l.schema) (items_left l.walk) + l.limit)

abbrev pub decreases-loop-item : goal.decreases-loop-item
decreases-loop-item l = length (items_left l.walk)
