use Rattle.std.proofs.Common.{◌≡◌, filter}
use Rattle.ghost_model.specs.core.Schema as schema
use Rattle.ghost_model.specs.forms.Layout as layout
use Rattle.flash_layout.proofs.areas.has_none_visible.Given as goal

abbrev pub invariant-loop-column : goal.invariant-loop-column
invariant-loop-column l =
    record { none : l.none ≡ schema.is_empty (filter (schema.is_visible l.cat.schema l.table) (layout.below l.column)) }
