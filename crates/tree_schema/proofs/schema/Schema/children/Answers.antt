use Rattle.std.proofs.Common.{◌<◌, length, ◌∙◌, sym, ap, true, false, arith}
use Rattle.arrayvec.specs.ArrayVec.{array_vec_len}
use Rattle.ghost_model.specs.core.Schema as schema
use Rattle.tree_schema.proofs.FirstPlaces.{more_children, all_children}
use Rattle.tree_schema.proofs.schema.Schema.children.Goals as goal
use Rattle.tree_schema.proofs.schema.Schema.children.Goals.{then-is_table, else-is_table}

pub loop-at-preserved : goal.loop-at-preserved
loop-at-preserved c =
    let within : c.loop-at.at < length c.args.self.now = omega (arith, c.loop-at-test.true, c.tables-at-end.ensures.count) in
    let tested = ap (schema.is_table c.args.table) (sym c.parent.ensures) ∙ sym c.is_table.ensures in
    elim c.if-is_table.branch [
      | then-is_table w ↦ record {
        told = more_children c.args.self.now c.args.table c.loop-at.at c.loop-at.found.items _ _ true within (tested ∙ w.if-is_table.true) (ap (λ found. found.items) w.found-is ∙ w.push.ensures.items) c.loop-at.invariant.told;
        room = omega (arith, ap array_vec_len w.found-is, w.push.ensures.len, c.loop-at.invariant.room);
      }
      | else-is_table w ↦ record {
        told = more_children c.args.self.now c.args.table c.loop-at.at c.loop-at.found.items _ _ false within (tested ∙ w.if-is_table.false) (ap (λ found. found.items) w.found-is) c.loop-at.invariant.told;
        room = omega (arith, ap array_vec_len w.found-is, c.loop-at.invariant.room);
      }
    ]

pub returns : goal.returns
returns c = all_children c.args.self.now c.args.table c.loop-at.at c.loop-at.found.items _ (omega (arith, c.loop-at-test.false, c.tables-at-end.ensures.count)) c.loop-at.invariant.told
