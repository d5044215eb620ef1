use Rattle.std.proofs.Common.{◌≡◌, ◌≤◌, ◌*◌, filter, sum_by}
use Rattle.ghost_model.specs.forms.Layout as layout
use Rattle.flash_layout.proofs.areas.hidden_width.Given as goal

abbrev pub invariant-loop-column : goal.invariant-loop-column
invariant-loop-column l =
    record {
      bytes : l.width ≡ sum_by (layout.width_at l.cat.schema l.table) (filter (layout.is_hidden l.cat.schema l.table) (layout.below l.column));
      most : l.width ≤ 65 * l.column;
    }
