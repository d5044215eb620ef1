use Rattle.std.proofs.Common.{◌≡◌, ℕ, ◌<◌, List, None, length, slice_get, sym, ap, ◌∙◌, arith}
use Rattle.std.specs.Int.{to_be_bytes, w32}
use Rattle.std.proofs.lemmas.Option.{get_or_from_slice_get, slice_get-get_or}
use Rattle.tree_schema.specs.Windows.{pane, with_text}
use Rattle.tree_schema.proofs.WindowLemmas.{with_piece, with_no_text}
use Rattle.tree_schema.proofs.catalog_bytes.put_counts.Goals as goal
use Rattle.tree_schema.proofs.catalog_bytes.put_counts.Goals.{in-Some, in_default}

none_there : (counts : List ℕ) (at : ℕ) → at < length counts → None ≡ slice_get counts at → ⊥
none_there counts at h e = let there = slice_get-get_or counts at 0 h in cc

pub loop-table-init : goal.loop-table-init
loop-table-init c = sym (with_no_text _)

pub loop-table-preserved : goal.loop-table-preserved
loop-table-preserved c =
    let counts = c.args.cat.now.counts in
    let at = c.loop-table.table in
    let within : at < length counts = omega (arith, c.schema.ensures.catalog.one_each, c.tables-table-end.ensures.count, ap length c.schema.ensures.value, c.loop-table-test.true) in
    elim c.match-rows.branch [
      | in-Some w ↦
          with_piece (to_be_bytes w32) (pane c.args.window.now c.args.out.now) counts at w.in-Some.rows within
          (get_or_from_slice_get counts at _ _ (sym w.in-Some.ensures)) c.loop-table.invariant
          (ap (λ v. pane v c.match-rows.out) w.window-is ∙ (ap (pane w.put.new.self) w.out-is ∙ (w.put.ensures.text ∙ ap (with_text _) w.to_be_bytes.ensures)))
      | in_default w ↦ absurd (none_there counts at within (sym w.in_default.is ∙ c.rows.ensures))
    ]
