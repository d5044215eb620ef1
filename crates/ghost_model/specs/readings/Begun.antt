-- Items that stand whole before the one at hand. Nothing in this module need be believed.
use Rattle.std.specs.Prelude.{List, [], ◌∷◌, ◌++◌, flat_map}
use Rattle.ghost_model.specs.refusals.Tokens.{Symbol}

-- items that each have a symbol after them
abbrev pub begun : {X : Type 0} → Symbol → (X → List Symbol) → List X → List Symbol
begun by spell xs = flat_map (λ x. spell x ++ by ∷ []) xs
