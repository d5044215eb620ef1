-- The widest cells of declared columns are of 64 bytes, and of one more where NULL may stand.
use Rattle.std.specs.Prelude.{Bool, nat_le}
use Rattle.ghost_model.specs.core.Schema.{Kind, plain_of}
use Rattle.ghost_model.specs.forms.Cells.{cell_width}

-- whether the cells of a kind are as narrow as those of a declared column
abbrev pub is_narrow : Kind → Bool
is_narrow kind = nat_le (cell_width (plain_of kind)) 64
