use Rattle.std.proofs.Common.{◌+◌, ◌<◌, ◌≤◌, ℕ, List, length, Option, Some, None, arith}
use Rattle.ghost_base.specs.declared.kind.Kind.{Kind}
use Rattle.climbing_index.specs.declared.search.Group.{Group}
use Rattle.condition_lists.specs.declared.bounds.Between.{Between}
use Rattle.condition_lists.specs.Bounds.{second_of}
use Rattle.condition_lists.specs.Laws.{IsSecondGroup}
use Rattle.condition_lists.proofs.ListLemmas.{ascend}
use Rattle.condition_lists.proofs.laws.groups_ascend.Goals as goal

-- where it has an entry, it was found
second_within : (kind : Option Kind) (pair : Option Between) (values : List (List ℕ)) (second : Group) → IsSecondGroup kind pair values second → 0 < second.count
    → second.first + second.count ≤ length values
second_within kind None values second none more = absurd (omega (arith, none, more))
second_within kind (Some pair) values second is more = is.within

pub returns : goal.returns
returns c = λ cat database over top table column index level at test bounds are of_kind values values_are first second groups some more.
    ascend cat database over c.hidden_cells_of_databases.ensures table column at.hidden c.bounds_are_of_values.ensures c.cell_order_is_value_order.ensures
    index.directory.kind at.index_is.kind_is test bounds are of_kind values values_are first second groups
    (second_within index.directory.kind (second_of bounds) values second groups.second_is more) some more
