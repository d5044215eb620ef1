-- Why the flash was not built: which fault comes of what.
use Rattle.std.specs.Prelude.{◌≡◌, ℕ, ◌≤◌, ⊤, Result, Ok, Err}
use Rattle.ghost_model.specs.core.Causes.{Rose}
use Rattle.flash_build.specs.declared.faults.BuildFault.{BuildFault}
use Rattle.flash_build.specs.declared.faults.BuildFault.TheVariants.{NoMemory, Flash, TooSmall}

-- the count of the flash's faults rose where the flash is blamed, and else it stands
abbrev pub BuildTells : {T : Type 0} → (before now : ℕ) → Result T BuildFault → Type 0
BuildTells before now (Ok value) = now ≡ before
BuildTells before now (Err NoMemory) = now ≡ before
BuildTells before now (Err Flash) = Rose before now
BuildTells before now (Err (TooSmall need have)) = now ≡ before

pub record BuildCause {T : Type 0} (before now : ℕ) (result : Result T BuildFault) : Type 0 where
  pub never_falls : before ≤ now
  pub tells : BuildTells before now result

-- where the flash is blamed, its last call is the one that failed
abbrev pub EndsAtFault : {T : Type 0} → (since_fault : ℕ) → Result T BuildFault → Type 0
EndsAtFault since_fault (Ok value) = ⊤
EndsAtFault since_fault (Err NoMemory) = ⊤
EndsAtFault since_fault (Err Flash) = since_fault ≡ 0
EndsAtFault since_fault (Err (TooSmall need have)) = ⊤

-- no fault of a device that is too small
abbrev pub IsLargeEnough : {T : Type 0} → Result T BuildFault → Type 0
IsLargeEnough (Ok value) = ⊤
IsLargeEnough (Err NoMemory) = ⊤
IsLargeEnough (Err Flash) = ⊤
IsLargeEnough (Err (TooSmall need have)) = ⊥
