use Rattle.std.proofs.Common.{length}
use Rattle.spj_parse.specs.Items.{items_in}
use Rattle.spj_parse.specs.Resolved.{item_fields}
use Rattle.spj_parse.specs.Views.{field_of}
use Rattle.spj_parse.specs.Walks.{items_left}
use Rattle.spj_parse.proofs.ResolveLemmas.{Gathers}
use Rattle.spj_parse.proofs.resolve.selected.Given as goal

abbrev pub invariant-loop-item : goal.invariant-loop-item
invariant-loop-item l = Gathers field_of 32 (item_fields l.schema l.from) (items_in l.text) (items_left l.walk) l.select.items

abbrev pub decreases-loop-item : goal.decreases-loop-item
decreases-loop-item l = length (items_left l.walk)
