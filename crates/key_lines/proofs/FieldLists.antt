-- The fields of a row while they are put into a line.
use Rattle.std.proofs.Common.{◌≡◌, ℕ, ◌≤◌, ◌+◌, ◌*◌, List, [], ◌∷◌, ◌++◌, map, flat_map, sym, ap, append-nil}
use Rattle.std.specs.List.{join_with_byte}
use Rattle.ghost_model.specs.core.Values.{Value}
use Rattle.ghost_model.specs.core.Printed.{field_text}
use Rattle.key_lines.specs.Fields.{later_field}

-- so many fields were put behind what the line held
pub record HasFields (before : List ℕ) (length_before : ℕ) (put : List Value) (count : ℕ) (now : List ℕ) (length_now : ℕ) : Type 0 where
  pub items : now ≡ before ++ flat_map later_field put
  pub short : length_now ≤ length_before + 65 * count

-- a row's fields are the first one and the later ones
pub first_and_later : (value : Value) (values : List Value)
    → join_with_byte 9 (field_text value ∷ map field_text values) ≡ field_text value ++ flat_map later_field values
first_and_later value [] = sym (append-nil (field_text value))
first_and_later value (next ∷ values) = ap (λ rest. field_text value ++ (9 ∷ rest)) (first_and_later next values)
