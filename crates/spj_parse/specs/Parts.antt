-- The parts of a script that are left, and those of them that are texts.
use Rattle.std.specs.Prelude.{◌≡◌, ℕ, ◌+◌, ◌<◌, ◌≤◌, Bool, true, false, not, ◌==◌, List, [], ◌∷◌, length, take, drop, filter, if◌then◌else◌}
use Rattle.ghost_model.specs.readings.TextReading.{parts_of}
use Rattle.ghost_model.specs.core.Texts.{is_blank}
use Rattle.spj_parse.specs.declared.texts.Parts.{Parts}

-- whether the number of `'` is even after a byte, where it was before or was not
abbrev pub even_after : Bool → (byte : ℕ) → Bool
even_after even byte = if byte == 39 then not even else even

-- the first part of a script ends here, before a `;` that cuts it or at its end
pub record CutsAt (script : List ℕ) (len : ℕ) : Type 0 where
  pub within : len ≤ length script
  pub cut : len < length script → parts_of script ≡ take len script ∷ parts_of (drop (len + 1) script)
  pub whole : length script ≤ len → parts_of script ≡ script ∷ []

abbrev pub parts_or_none : Bool → List ℕ → List (List ℕ)
parts_or_none true rest = []
parts_or_none false rest = parts_of rest

abbrev pub parts_left : Parts → List (List ℕ)
parts_left parts = parts_or_none parts.ended parts.rest.now

abbrev pub texts_left : Parts → List (List ℕ)
texts_left parts = filter (λ part. not (is_blank part)) (parts_left parts)
