-- The value at a place of a column's list.
use Rattle.std.proofs.Common.{◌≡◌, ◌≤◌, ◌<◌, ◌∙◌, ℕ, List, map, length, get_or, Some, None, sym, ap, arith}
use Rattle.std.specs.Prelude.{slice_get, option_map}
use Rattle.std.proofs.lemmas.List.{length-map}
use Rattle.std.proofs.lemmas.Option.{slice_get-map, slice_get-get_or, slice_get_past}
use Rattle.ghost_model.specs.core.Values.{Value, Text}

pub found : {X : Type 0} (make : X → Value) (xs : List X) (place : ℕ) (default : X) → place < length xs
    → Some (make (get_or xs place default)) ≡ slice_get (map make xs) place
found make xs place default within =
    sym (slice_get-map make xs place ∙ ap (option_map make) (slice_get-get_or xs place default within))

pub found_text : (texts : List (List ℕ)) (place : ℕ) (text : List ℕ) → slice_get texts place ≡ Some text
    → Some (Text text) ≡ slice_get (map Text texts) place
found_text texts place text is = sym (slice_get-map Text texts place ∙ ap (option_map Text) is)

pub past : {X : Type 0} (make : X → Value) (xs : List X) (place : ℕ) → length xs ≤ place → None ≡ slice_get (map make xs) place
past make xs place most = sym (slice_get_past (map make xs) place (let same = length-map xs make in omega arith))
