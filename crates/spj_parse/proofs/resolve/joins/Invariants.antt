use Rattle.std.proofs.Common.{◌≡◌, flat_map, map, take}
use Rattle.spj_parse.specs.Resolved.{join_to}
use Rattle.spj_parse.specs.Views.{join_of}
use Rattle.spj_parse.proofs.resolve.joins.Given as goal

abbrev pub invariant-loop-table : goal.invariant-loop-table
invariant-loop-table l = map join_of l.kept.items ≡ take 12 (flat_map (join_to l.schema l.from) (take l.table-index l.from))
