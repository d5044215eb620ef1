use Rattle.std.proofs.Common.{sym, ◌∙◌, arith}
use Rattle.ghost_model.specs.forms.Layout as layout
use Rattle.flash_layout.proofs.PlaceLemmas.{sum_found, sum_not_found}
use Rattle.flash_layout.proofs.areas.hidden_width.Goals as goal
use Rattle.flash_layout.proofs.areas.hidden_width.Goals.{then-is_hidden, else-is_hidden}

pub loop-column-preserved : goal.loop-column-preserved
loop-column-preserved c =
    let cat = c.args.cat.now in
    let table = c.args.table in
    let column = c.loop-column.column in
    let width = layout.width_at cat.schema table in
    let test = layout.is_hidden cat.schema table in
    let was = c.loop-column.invariant in
    elim c.if-is_hidden.branch [
      | then-is_hidden w ↦ (let more = sum_found width test column (sym c.is_hidden.ensures.value ∙ w.if-is_hidden.true) in
          record {
            bytes = omega (arith, w.width-is, was.bytes, w.width_of-width.ensures.value, more);
            most = omega (arith, w.width-is, was.most, w.width_of-width.ensures.most);
          })
      | else-is_hidden w ↦ (let same = sum_not_found width test column (sym c.is_hidden.ensures.value ∙ w.if-is_hidden.false) in
          record {
            bytes = omega (arith, w.width-is, was.bytes, same);
            most = omega (arith, w.width-is, was.most);
          })
    ]
