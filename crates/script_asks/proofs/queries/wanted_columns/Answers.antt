use Rattle.std.proofs.Common.{◌<◌, ◌++◌, ℕ, [], ◌∷◌, length, true, false, sym, ap, ◌∙◌, arith, append-nil}
use Rattle.arrayvec.specs.ArrayVec.{array_vec_len}
use Rattle.ghost_model.specs.core.Schema.{columns_of}
use Rattle.ghost_model.specs.core.Asks.{is_wanted}
use Rattle.script_asks.proofs.QueryLemmas.{more_columns, all_columns}
use Rattle.script_asks.proofs.queries.wanted_columns.Goals as goal
use Rattle.script_asks.proofs.queries.wanted_columns.Goals.{then-is_wanted, else-is_wanted}

pub loop-at-preserved : goal.loop-at-preserved
loop-at-preserved c =
    let within : c.loop-at.at < length (columns_of c.args.schema.now c.args.table) = omega (arith, c.loop-at-test.true, c.column_count-at-end.ensures.count) in
    elim c.if-is_wanted.branch [
      | then-is_wanted w ↦ record {
        told = more_columns (is_wanted c.args.schema.now c.args.query.now c.args.table) (columns_of c.args.schema.now c.args.table) c.loop-at.at c.loop-at.found.items _ true within
            (sym c.is_wanted.ensures.wanted ∙ w.if-is_wanted.true) (ap (λ found. found.items) w.found-is ∙ (w.push.ensures.items ∙ ap (λ (n : ℕ). c.loop-at.found.items ++ n ∷ []) w.byte_of.ensures)) c.loop-at.invariant.told;
        room = omega (arith, ap array_vec_len w.found-is, w.push.ensures.len, c.loop-at.invariant.room);
      }
      | else-is_wanted w ↦ record {
        told = more_columns (is_wanted c.args.schema.now c.args.query.now c.args.table) (columns_of c.args.schema.now c.args.table) c.loop-at.at c.loop-at.found.items _ false within
            (sym c.is_wanted.ensures.wanted ∙ w.if-is_wanted.false) (ap (λ found. found.items) w.found-is ∙ sym (append-nil _)) c.loop-at.invariant.told;
        room = omega (arith, ap array_vec_len w.found-is, c.loop-at.invariant.room);
      }
    ]

pub returns : goal.returns
returns c = record {
  columns = all_columns (is_wanted c.args.schema.now c.args.query.now c.args.table) (columns_of c.args.schema.now c.args.table) c.loop-at.at c.loop-at.found.items
      (omega (arith, c.loop-at-test.false, c.column_count-at-end.ensures.count)) c.loop-at.invariant.told;
}
