-- Faults on pages.
use Rattle.std.specs.Prelude.{◌≡◌, ℕ, ⊤, List, Result, Ok, Err, OnErr}
use Rattle.flash_pages.specs.declared.fault.PageFault.{PageFault}
use Rattle.flash_pages.specs.declared.fault.PageFault.TheVariants.{Flash, Damaged}

-- no slot is blamed
abbrev pub BlamesNoSlot : {T : Type 0} → Result T PageFault → Type 0
BlamesNoSlot (Ok value) = ⊤
BlamesNoSlot (Err Flash) = ⊤
BlamesNoSlot (Err (Damaged page slot found)) = ⊥

-- where a call fails no slot is blamed, and what it was to copy to is as it was
pub record FailsWhole {T : Type 0} (before now : List ℕ) (result : Result T PageFault) : Type 0 where
  pub no_slot : BlamesNoSlot result
  pub out : OnErr result (now ≡ before)
