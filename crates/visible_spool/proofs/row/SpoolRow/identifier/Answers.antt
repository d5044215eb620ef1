use Rattle.std.proofs.Common.{ap, sym, ◌∙◌}
use Rattle.visible_spool.proofs.RowBytes.{first_four}
use Rattle.visible_spool.proofs.row.SpoolRow.identifier.Goals as goal

pub returns : goal.returns
returns c = record { identifier = c.number_at.ensures ∙ (sym (first_four c.self.inside.bytes c.self.inside.size c.self.invariant.0) ∙ ap (λ row. row.identifier) c.self.view_is) }
