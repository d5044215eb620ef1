use Rattle.std.proofs.Common.{◌∙◌, ap, sym, true, false, ◌++◌, ◌∷◌, [], append-nil, arith}
use Rattle.arrayvec.specs.ArrayVec.{array_vec_len}
use Rattle.ghost_model.specs.forms.Layout as layout
use Rattle.flash_layout.proofs.PlaceLemmas.{found_more}
use Rattle.flash_layout.proofs.tables.tables_below.Goals as goal
use Rattle.flash_layout.proofs.tables.tables_below.Goals.{then-is_below, else-is_below}

pub loop-other-preserved : goal.loop-other-preserved
loop-other-preserved c =
    let test = layout.is_below c.args.cat.now.schema c.args.table in
    let other = c.loop-other.other in
    elim c.if-is_below.branch [
      | then-is_below w ↦ record {
        so_far = ap (λ found. found.items) w.found-is ∙ w.push.ensures.items ∙ ap (λ xs. xs ++ other ∷ []) c.loop-other.invariant.so_far
            ∙ sym (found_more test other true (sym c.is_below.ensures.below ∙ w.if-is_below.true));
        room = omega (arith, ap array_vec_len w.found-is, w.push.ensures.len, c.loop-other.invariant.room);
      }
      | else-is_below w ↦ record {
        so_far = ap (λ found. found.items) w.found-is ∙ c.loop-other.invariant.so_far
            ∙ sym (found_more test other false (sym c.is_below.ensures.below ∙ w.if-is_below.false) ∙ append-nil _);
        room = omega (arith, ap array_vec_len w.found-is, c.loop-other.invariant.room);
      }
    ]
