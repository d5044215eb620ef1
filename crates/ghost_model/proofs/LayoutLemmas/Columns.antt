-- What is found of a column, for proofs by cases.
use Rattle.std.proofs.Common.{ℕ, Bool, false, Option}
use Rattle.std.specs.Option.{option_map_or}
use Rattle.ghost_model.specs.core.Schema.{Column}
use Rattle.ghost_model.specs.forms.Cells.{cell_width}

abbrev pub hidden_or_none : Option Column → Bool
hidden_or_none found = option_map_or (λ (held : Column). held.hidden) found false

abbrev pub width_or_none : Option Column → ℕ
width_or_none found = option_map_or (λ (held : Column). cell_width held.kind) found 0
