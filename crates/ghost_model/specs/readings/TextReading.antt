-- The parts of a script, byte by byte. Nothing in this module need be believed: the law ScriptsAreCut (function
-- `scripts_are_cut`) makes `parts_of` the parts between the `;` that have an even number of `'` before them.
use Rattle.std.specs.Prelude.{ℕ, Bool, true, not, ◌&&◌, ◌==◌, List, [], ◌∷◌, if◌then◌else◌}

-- a byte before the first of some parts
abbrev pub before_parts : ℕ → List (List ℕ) → List (List ℕ)
before_parts byte [] = (byte ∷ []) ∷ []
before_parts byte (part ∷ parts) = (byte ∷ part) ∷ parts

-- the parts of the bytes that stand after an even number of `'`, or after an odd one
unfoldable pub parts_after : (even : Bool) → List ℕ → List (List ℕ)
parts_after even [] = [] ∷ []
parts_after even (b ∷ bs) =
    if even && b == 59 then [] ∷ parts_after even bs
    else if b == 39 then before_parts b (parts_after (not even) bs)
    else before_parts b (parts_after even bs)

abbrev pub parts_of : List ℕ → List (List ℕ)
parts_of script = parts_after true script
