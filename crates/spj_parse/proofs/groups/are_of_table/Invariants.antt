use Rattle.std.proofs.Common.{◌≡◌, drop}
use Rattle.std.specs.List.{list_all}
use Rattle.spj_parse.specs.Views.{is_of_table}
use Rattle.spj_parse.proofs.groups.are_of_table.Given as goal

abbrev pub invariant-loop-member : goal.invariant-loop-member
invariant-loop-member l = list_all (is_of_table l.table) l.members ≡ list_all (is_of_table l.table) (drop l.member-index l.members)
