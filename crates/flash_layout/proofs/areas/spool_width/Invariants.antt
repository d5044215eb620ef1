use Rattle.std.proofs.Common.{◌≡◌, ◌≤◌, ◌+◌, ◌*◌, filter, sum_by}
use Rattle.ghost_model.specs.core.Schema as schema
use Rattle.ghost_model.specs.forms.Layout as layout
use Rattle.flash_layout.proofs.areas.spool_width.Given as goal

abbrev pub invariant-loop-column : goal.invariant-loop-column
invariant-loop-column l =
    record {
      bytes : l.width ≡ 4 + sum_by (layout.width_at l.cat.schema l.table) (filter (schema.is_visible l.cat.schema l.table) (layout.below l.column));
      most : l.width ≤ 4 + 65 * l.column;
    }
