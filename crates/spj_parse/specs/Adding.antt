-- Values that are added to a list of which so many are kept.
use Rattle.std.specs.Prelude.{◌≡◌, ℕ, List, ◌++◌, map, take}

abbrev pub Adds : {X Y : Type 0} → (view : X → Y) (most : ℕ) (old new : List X) → List Y → Type 0
Adds {X} {Y} view most old new values = (done : List Y) → map view old ≡ take most done → map view new ≡ take most (done ++ values)
