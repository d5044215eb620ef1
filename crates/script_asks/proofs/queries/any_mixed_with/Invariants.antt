use Rattle.std.proofs.Common.{◌≡◌, map, length}
use Rattle.std.specs.List.{list_any}
use Rattle.spj_parse.specs.Views.{grouped, member_of}
use Rattle.script_asks.specs.Shown.{mixes_column}
use Rattle.script_asks.proofs.queries.any_mixed_with.Given as goal

abbrev pub invariant-groups : goal.invariant-groups
invariant-groups l =
    list_any (mixes_column l.schema l.table l.column) (grouped (map member_of l.left))
    ≡ list_any (mixes_column l.schema l.table l.column) (grouped (map member_of l.members))

abbrev pub decreases-groups : goal.decreases-groups
decreases-groups l = length l.left
