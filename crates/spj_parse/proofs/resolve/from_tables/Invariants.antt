use Rattle.std.proofs.Common.{length}
use Rattle.spj_parse.specs.Items.{items_in}
use Rattle.spj_parse.specs.Resolved.{item_tables}
use Rattle.spj_parse.specs.Walks.{items_left}
use Rattle.spj_parse.proofs.ResolveLemmas.{Gathers}
use Rattle.spj_parse.proofs.resolve.from_tables.Given as goal

abbrev pub invariant-loop-item : goal.invariant-loop-item
invariant-loop-item l = Gathers (λ table. table) 12 (item_tables l.schema) (items_in l.text) (items_left l.walk) l.from.items

abbrev pub decreases-loop-item : goal.decreases-loop-item
decreases-loop-item l = length (items_left l.walk)
