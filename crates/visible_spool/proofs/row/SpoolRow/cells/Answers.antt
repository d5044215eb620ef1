use Rattle.std.proofs.Common.{ap, sym, ◌∙◌}
use Rattle.visible_spool.proofs.RowBytes.{behind_four}
use Rattle.visible_spool.proofs.row.SpoolRow.cells.Goals as goal

pub returns : goal.returns
returns c = record { cells = sym (behind_four c.self.inside.bytes c.self.inside.size c.self.invariant.0) ∙ ap (λ row. row.cells) c.self.view_is }
