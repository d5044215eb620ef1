use Rattle.std.proofs.Common.{◌∙◌, ap, sym, Some}
use Rattle.std.specs.Prelude.{option_map}
use Rattle.ghost_model.specs.forms.Layout as layout
use Rattle.hidden_columns.proofs.range.rows_of_child.Goals as goal

pub returns-in-Some : goal.returns-in-Some
returns-in-Some c = record { rows = ap Some c.rows.ensures.value ∙ ap (option_map (layout.count_of c.args.laid.now)) (sym c.in-Some.is) }
