use Rattle.std.proofs.Common.{◌≡◌, ◌+◌, ◌*◌, ℕ, Bool, MatchBool, map, drop, ap, subst, ◌∙◌, arith}
use Rattle.std.proofs.lemmas.List.{drop-drop}
use Rattle.ghost_base.specs.Views.{kind_of}
use Rattle.host_exec.specs.Checked.{SpellsRow}
use Rattle.host_exec.specs.Columns.{AddsRows}
use Rattle.host_exec.proofs.GrownColumns.{more_added}
use Rattle.host_exec.proofs.columns.take_rows.Goals as goal

pub rows-preserved : goal.rows-preserved
rows-preserved c =
    let one = subst (λ (b : Bool). MatchBool b (AddsRows (map kind_of c.args.kinds.now) 1 c.front.result.now c.rows.columns c.take_row.new.columns) (SpellsRow (map kind_of c.args.kinds.now) c.front.result.now → ⊥))
    c.if-not-branch.false c.in_ok-take_row.ensures.taken in
    let place : c.rows.passed * c.args.width + c.args.width ≡ (c.rows.passed + 1) * c.args.width = omega arith in
    record {
      within = omega arith;
      ahead = c.behind-rest.ensures ∙ (ap (drop c.args.width) c.rows.invariant.ahead
          ∙ (drop-drop c.args.width (c.rows.passed * c.args.width) c.args.piece.now ∙ ap (λ (n : ℕ). drop n c.args.piece.now) place));
      columns = c.in_ok-take_row.ensures.columns;
      added = more_added (map kind_of c.args.kinds.now) c.args.width c.rows.passed c.args.piece.now c.rows.rest.now c.args.columns.now c.rows.columns c.take_row.new.columns
          c.rows.invariant.ahead c.rows.invariant.added (subst (λ bytes. AddsRows (map kind_of c.args.kinds.now) 1 bytes c.rows.columns c.take_row.new.columns) c.front.ensures one);
    }
