use Rattle.std.proofs.Common.{◌≡◌, [], filter}
use Rattle.std.specs.Prelude.{is_none}
use Rattle.ghost_model.specs.core.Schema as schema
use Rattle.ghost_model.specs.forms.Layout as layout
use Rattle.flash_layout.proofs.tables.root_among.Given as goal

abbrev pub invariant-loop-table : goal.invariant-loop-table
invariant-loop-table l =
    record { none : filter (λ table. is_none (schema.parent l.cat.schema table)) (layout.below l.table) ≡ [] }
