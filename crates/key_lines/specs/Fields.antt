-- The fields of a printed row, with one tab between each two.
use Rattle.std.specs.Prelude.{ℕ, List, ◌∷◌, map}
use Rattle.std.specs.List.{join_with_byte}
use Rattle.ghost_model.specs.core.Values.{Value, Row}
use Rattle.ghost_model.specs.core.Printed.{field_text}

-- a field after the first one
abbrev pub later_field : Value → List ℕ
later_field value = 9 ∷ field_text value

abbrev pub fields_text : Row → List ℕ
fields_text row = join_with_byte 9 (map field_text row)
