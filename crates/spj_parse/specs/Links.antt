-- The top one of some tables, and the joins between them, over the things that a text names.
use Rattle.std.specs.Prelude.{ℕ, Bool, not, ◌&&◌, List, Option, filter}
use Rattle.std.specs.List.{list_any}
use Rattle.ghost_model.specs.core.Schema.{Schema, parent}
use Rattle.ghost_model.specs.core.Query.{only, is_some_among}
use Rattle.spj_parse.specs.declared.conditions.ConditionTest.TheVariants as test
use Rattle.spj_parse.specs.Items.{Item}
use Rattle.spj_parse.specs.Conditions.{item_passes}

abbrev pub top_among : Schema → (from : List ℕ) → Option ℕ
top_among schema from = only (filter (λ table. not (is_some_among from (parent schema table))) from)

abbrev pub lacks_join_in : Schema → (from : List ℕ) → List Item → (table : ℕ) → Bool
lacks_join_in schema from items table =
    is_some_among from (parent schema table) && not (list_any (item_passes (test.JoinOf table) schema from) items)
