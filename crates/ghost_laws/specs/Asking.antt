-- Which tables of a query are asked for, and which conditions are the key's to test: by the indexes, or on each row.
use Rattle.std.specs.Prelude.{ℕ, ◌&&◌, ◌||◌, Bool, false, nat_eq}
use Rattle.std.specs.List.{list_any}
use Rattle.ghost_model.specs.core.Schema.{Schema, is_visible}
use Rattle.ghost_model.specs.core.Groups.{some_of}
use Rattle.ghost_model.specs.core.Query as query
pub use Rattle.ghost_model.specs.forms.Left.{is_tested, is_gathered, is_left, members_left, columns_left, without_left}

-- whether a table is asked for: a visible column of it is selected or stands in a group
abbrev pub is_shown_of : Schema → (table : ℕ) → query.Field → Bool
is_shown_of schema table field = nat_eq field.table table && is_visible schema field.table field.column

abbrev pub is_compared_of : Schema → (table : ℕ) → query.Condition → Bool
is_compared_of schema table (query.OneOf first others) = some_of (λ one. is_shown_of schema table one.field) first others
is_compared_of schema table (query.Join one other) = false

abbrev pub is_asked : Schema → query.Query → (table : ℕ) → Bool
is_asked schema asked table =
    list_any (is_shown_of schema table) asked.select || list_any (is_compared_of schema table) asked.conditions
