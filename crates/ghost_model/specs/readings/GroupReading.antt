-- Whether each group of a list passes, told in one walk over it. Nothing here need be believed: where the last group ends, this
-- is what the groups of the list say.
use Rattle.std.specs.Prelude.{Bool, true, false, ◌&&◌, ◌||◌, List, [], ◌∷◌, if◌then◌else◌}

-- where an element of the group at hand passed already, or none did
unfoldable pub passes_from : {X : Type 0} → (more passes : X → Bool) → (met : Bool) → List X → Bool
passes_from more passes met [] = true
passes_from more passes met (x ∷ xs) =
    if more x then passes_from more passes (met || passes x) xs
    else (met || passes x) && passes_from more passes false xs
