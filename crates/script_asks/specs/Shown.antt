-- What a group is in an ask: the conditions of a visible one, and whether a column is one of a mixed one.
use Rattle.std.specs.Prelude.{ℕ, Bool, ◌&&◌, List, map}
use Rattle.ghost_model.specs.core.Schema.{Schema}
use Rattle.ghost_model.specs.core.Query.{Member, Condition, members_of_group}
use Rattle.ghost_model.specs.core.Channel.{ColumnTest}
use Rattle.ghost_model.specs.core.Asks.{column_test, is_mixed, names_column}

-- whether a condition is a mixed group with this column
abbrev pub mixes_column : Schema → (table column : ℕ) → Condition → Bool
mixes_column schema table column condition = is_mixed schema table condition && names_column table column condition

-- the condition of an ask that a member is, with another of its group behind it or none
abbrev pub test_with : Member → (more : Bool) → ColumnTest
test_with one more = column_test (record { member = one; more = more })

-- the conditions of an ask that a visible group is
abbrev pub group_tests : (first : Member) → (others : List Member) → List ColumnTest
group_tests first others = map column_test (members_of_group first others)
