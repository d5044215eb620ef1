-- Which groups the key tests, and where: of some the indexes have the rows that meet them, the others are tested on each row that is
-- left, when the values of their columns are there.
use Rattle.std.specs.Prelude.{ℕ, Bool, false, not, ◌&&◌, ◌==◌, List, [], ◌∷◌, filter, map, if◌then◌else◌}
use Rattle.std.specs.List.{list_any}
use Rattle.ghost_model.specs.core.Schema.{Schema, is_visible}
use Rattle.ghost_model.specs.core.Groups.{some_of}
use Rattle.ghost_model.specs.core.Query.{Query, Field, Condition, OneOf, Join, GroupMember, members_in}

-- whether a condition is the key's to test: a group with an identifier or a hidden column
abbrev pub is_tested : Schema → Condition → Bool
is_tested schema (OneOf first others) = some_of (λ one. not (is_visible schema one.field.table one.field.column)) first others
is_tested schema (Join one other) = false

-- Whether the indexes have the rows that meet a condition: a group of identifiers and hidden columns alone. For now it is one of a
-- single member.
abbrev pub is_gathered : Schema → Condition → Bool
is_gathered schema (OneOf first []) = not (is_visible schema first.field.table first.field.column)
is_gathered schema (OneOf first (next ∷ others)) = false
is_gathered schema (Join one other) = false

-- whether a condition is tested on each row that is left: any other group with an identifier or a hidden column
abbrev pub is_left : Schema → Condition → Bool
is_left schema (OneOf first []) = false
is_left schema (OneOf first (next ∷ others)) = is_tested schema (OneOf first (next ∷ others))
is_left schema (Join one other) = false

-- the members of the groups that are left, in their order
abbrev pub members_left : Schema → Query → List GroupMember
members_left schema asked = members_in (filter (is_left schema) asked.conditions)

-- some columns without those that stand before, each once
abbrev pub is_same_field : Field → Field → Bool
is_same_field one other = one.table == other.table && one.column == other.column

unfoldable pub new_fields : (before : List Field) → List Field → List Field
new_fields before [] = []
new_fields before (one ∷ later) =
    if list_any (is_same_field one) before then new_fields before later else one ∷ new_fields (one ∷ before) later

-- the columns of the groups that are left, each once, but for selected ones
abbrev pub columns_left : Schema → Query → List Field
columns_left schema asked = new_fields asked.select (map (λ one. one.member.field) (members_left schema asked))

-- a query without its groups that are left
abbrev pub without_left : Schema → Query → Query
without_left schema asked = record asked { conditions = filter (λ condition. not (is_left schema condition)) asked.conditions }
