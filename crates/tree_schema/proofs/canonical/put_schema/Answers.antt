use Rattle.std.proofs.Common.{◌≡◌, ℕ, ◌<◌, [], None, length, slice_get, option_map, sym, ap, ◌∙◌, arith}
use Rattle.std.proofs.lemmas.Option.{get_or_from_slice_get, slice_get-get_or}
use Rattle.ghost_model.specs.core.Schema.{Schema}
use Rattle.ghost_model.specs.forms.Catalog.{table_text}
use Rattle.tree_schema.specs.Views.{table_of}
use Rattle.tree_schema.specs.Windows.{pane}
use Rattle.tree_schema.proofs.WindowLemmas.{with_piece}
use Rattle.tree_schema.proofs.canonical.put_schema.Goals as goal
use Rattle.tree_schema.proofs.canonical.put_schema.Goals.{in-Some, in_default}

none_there : (schema : Schema) (at : ℕ) → at < length schema → None ≡ slice_get schema at → ⊥
none_there schema at h e =
    let there = slice_get-get_or schema at (record { name = []; columns = [] }) h in
    cc

pub loop-at-preserved : goal.loop-at-preserved
loop-at-preserved c =
    let schema = c.args.schema.now in
    let at = c.loop-at.at in
    let within : at < length schema = omega (arith, c.tables-at-end.ensures.count, c.loop-at-test.true) in
    elim c.match-table.branch [
      | in-Some w ↦
          let table = table_of w.in-Some.table.now in
          with_piece (table_text schema) (pane c.args.window.now c.args.out.now) schema at table within
          (get_or_from_slice_get schema at table table (sym w.in-Some.ensures)) c.loop-at.invariant
          (ap (λ v. pane v c.match-table.out) w.window-is ∙ (ap (pane w.put_table.new.window) w.out-is ∙ w.put_table.ensures.text))
      | in_default w ↦ absurd (none_there schema at within (ap (option_map (λ found. table_of found.now)) (sym w.in_default.is) ∙ c.table.ensures))
    ]
