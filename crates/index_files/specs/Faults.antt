-- Why the files of an index were not written: which fault comes of what.
use Rattle.std.specs.Prelude.{◌≡◌, ℕ, ◌≤◌, ⊤, Result, Ok, Err}
use Rattle.ghost_model.specs.core.Causes.{Rose}
use Rattle.index_files.specs.declared.faults.IndexFault.{IndexFault}
use Rattle.index_files.specs.declared.faults.IndexFault.TheVariants.{NoMemory, Flash}

-- the count of the flash's faults rose where the flash is blamed, and else it stands
abbrev pub IndexTells : {T : Type 0} → (before now : ℕ) → Result T IndexFault → Type 0
IndexTells before now (Ok value) = now ≡ before
IndexTells before now (Err NoMemory) = now ≡ before
IndexTells before now (Err Flash) = Rose before now

pub record IndexCause {T : Type 0} (before now : ℕ) (result : Result T IndexFault) : Type 0 where
  pub never_falls : before ≤ now
  pub tells : IndexTells before now result

-- where the flash is blamed, its last call is the one that failed
abbrev pub EndsAtFault : {T : Type 0} → (since_fault : ℕ) → Result T IndexFault → Type 0
EndsAtFault since_fault (Ok value) = ⊤
EndsAtFault since_fault (Err NoMemory) = ⊤
EndsAtFault since_fault (Err Flash) = since_fault ≡ 0
