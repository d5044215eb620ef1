use Rattle.std.proofs.Common.{◌∙◌, ap}
use Rattle.std.specs.Int.{from_be_bytes, w32}
use Rattle.ghost_model.specs.forms.Runs.{number_in}
use Rattle.flash_pages.proofs.cells.number_at.Goals as goal

pub returns : goal.returns
unfolding number_in
returns c = c.from_be_bytes.ensures ∙ ap (λ bytes. from_be_bytes w32 bytes) (c.copy_from_slice.ensures.after)
