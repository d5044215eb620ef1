use Rattle.std.proofs.Common.{◌≡◌, length, map}
use Rattle.std.specs.List.{list_all}
use Rattle.ghost_model.specs.refusals.QueryMeaning.{is_of_one_table}
use Rattle.spj_parse.specs.Views.{grouped, member_of}
use Rattle.spj_parse.proofs.groups.are_mixed.Given as goal

abbrev pub invariant-loop-split : goal.invariant-loop-split
invariant-loop-split l =
    list_all is_of_one_table (grouped (map member_of l.members)) ≡ list_all is_of_one_table (grouped (map member_of l.left))

abbrev pub decreases-loop-split : goal.decreases-loop-split
decreases-loop-split l = length l.left
