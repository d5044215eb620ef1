use Rattle.std.proofs.Common.{◌-◌, length}
use Rattle.tree_schema.proofs.Ancestors.{Walks}
use Rattle.tree_schema.proofs.schema.Schema.path_by.Given as goal

abbrev pub invariant-loop-next : goal.invariant-loop-next
invariant-loop-next l = Walks l.self l.table l.path.items l.next

abbrev pub decreases-loop-next : goal.decreases-loop-next
decreases-loop-next l = length l.self - length l.path.items
