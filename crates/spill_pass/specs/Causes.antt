-- What a fault of a call that reads and writes pages tells of the flash.
use Rattle.std.specs.Prelude.{◌≡◌, ℕ, ⊤, Result, Ok, Err}
use Rattle.ghost_model.specs.core.Causes.{Rose}
use Rattle.flash_pages.specs.declared.fault.PageFault.{PageFault}
use Rattle.flash_pages.specs.declared.fault.PageFault.TheVariants.{Flash, Damaged}

-- the count of the flash's faults rose exactly where the flash is blamed
abbrev pub TellsFault : {T : Type 0} → (before now : ℕ) → Result T PageFault → Type 0
TellsFault before now (Ok value) = now ≡ before
TellsFault before now (Err Flash) = Rose before now
TellsFault before now (Err (Damaged page slot found)) = now ≡ before

-- where the flash is blamed, it was called
abbrev pub CallsAtFault : {T : Type 0} → (before now : ℕ) → Result T PageFault → Type 0
CallsAtFault before now (Ok value) = ⊤
CallsAtFault before now (Err Flash) = Rose before now
CallsAtFault before now (Err (Damaged page slot found)) = ⊤

-- where a slot is blamed no call was made
abbrev pub QuietAtDamage : {T : Type 0} → (before now : ℕ) → Result T PageFault → Type 0
QuietAtDamage before now (Ok value) = ⊤
QuietAtDamage before now (Err Flash) = ⊤
QuietAtDamage before now (Err (Damaged page slot found)) = now ≡ before
