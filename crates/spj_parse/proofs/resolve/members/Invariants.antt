use Rattle.std.proofs.Common.{length}
use Rattle.spj_parse.specs.Items.{items_in}
use Rattle.spj_parse.specs.Resolved.{item_members}
use Rattle.spj_parse.specs.Views.{member_of}
use Rattle.spj_parse.specs.Walks.{items_left}
use Rattle.spj_parse.proofs.ResolveLemmas.{Gathers}
use Rattle.spj_parse.proofs.resolve.members.Given as goal

abbrev pub invariant-loop-item : goal.invariant-loop-item
invariant-loop-item l = Gathers member_of 16 (item_members l.schema l.from) (items_in l.text) (items_left l.walk) l.kept.items

abbrev pub decreases-loop-item : goal.decreases-loop-item
decreases-loop-item l = length (items_left l.walk)
