-- How an answer of a reader judges the faults of files: it is good exactly where there are none.
use Rattle.std.specs.Prelude.{◌≡◌, List, [], ◌∷◌, Option, Some, None, Result, Ok, Err}
use Rattle.ghost_model.specs.refusals.LoadFaults.{LoadFault}

-- a fault stands first among the faults
pub record IsFirst (fault : LoadFault) (faults : List LoadFault) : Type 0 where
  pub later : List LoadFault
  pub first : faults ≡ fault ∷ later

-- an answer that tells of a broken rule tells of the first; one that tells of none, as want of memory, may always come
abbrev pub TellsFirst : Option LoadFault → List LoadFault → Type 0
TellsFirst None faults = Unit {0}
TellsFirst (Some fault) faults = IsFirst fault faults

-- a result judges the faults: it is good exactly where there are none. `told` is the broken rule that an error tells of
abbrev pub Judges : {T E : Type 0} → (told : E → Option LoadFault) → Result T E → List LoadFault → Type 0
Judges told (Ok _) faults = faults ≡ []
Judges told (Err error) faults = TellsFirst (told error) faults
