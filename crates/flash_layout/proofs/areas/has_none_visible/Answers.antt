use Rattle.std.proofs.Common.{sym, ap, ◌∙◌}
use Rattle.ghost_model.specs.core.Schema as schema
use Rattle.flash_layout.proofs.PlaceLemmas.{one_found, none_found}
use Rattle.flash_layout.proofs.areas.has_none_visible.Goals as goal
use Rattle.flash_layout.proofs.areas.has_none_visible.Goals.{then-is_visible, else-is_visible}

pub loop-column-preserved : goal.loop-column-preserved
loop-column-preserved c =
    let shown = schema.is_visible c.args.cat.now.schema c.args.table in
    let column = c.loop-column.column in
    let tested = ap (λ schemas. schema.is_visible schemas c.args.table column) (sym c.schema.ensures.value) ∙ sym c.is_visible.ensures in
    elim c.if-is_visible.branch [
      | then-is_visible w ↦ record { none = w.none-is ∙ one_found shown column (tested ∙ w.if-is_visible.true) }
      | else-is_visible w ↦ record { none = w.none-is ∙ (c.loop-column.invariant.none ∙ none_found shown column (tested ∙ w.if-is_visible.false)) }
    ]
