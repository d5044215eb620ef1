use Rattle.std.proofs.Common.{map, ap, sym, ◌∙◌}
use Rattle.std.proofs.lemmas.Bool.{false≢true}
use Rattle.host_exec.specs.FormViews.{check_view, form_view}
use Rattle.host_exec.proofs.Checks.{walked}
use Rattle.host_exec.proofs.gathering.add_row.Goals as goal

pub returns-then-passes_all-clause-passed : goal.returns-then-passes_all-clause-passed
returns-then-passes_all-clause-passed c =
    let t = walked (form_view c.args.form.now) c.args.row.now _ c.passes_all.result c.requires.ended (ap (map check_view) c.deref.ensures.0) c.passes_all.ensures in
    λ e. absurd (false≢true (sym e ∙ (t ∙ c.if-passes_all.true)))

pub returns-else-passes_all-clause-found : goal.returns-else-passes_all-clause-found
returns-else-passes_all-clause-found c =
    let t = walked (form_view c.args.form.now) c.args.row.now _ c.passes_all.result c.requires.ended (ap (map check_view) c.deref.ensures.0) c.passes_all.ensures in
    λ e. absurd (false≢true (sym c.if-passes_all.false ∙ (sym t ∙ e)))
