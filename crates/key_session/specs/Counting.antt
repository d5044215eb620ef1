-- What is counted of the texts that were told, by the reasons for their lines.
use Rattle.std.specs.Prelude.{◌≡◌, ℕ, ◌+◌, Bool, true, false, ◌||◌, List, [], ◌∷◌, count_by, if◌then◌else◌, Option, None, Some, is_some}
use Rattle.std.specs.List.{list_any}
use Rattle.ghost_model.specs.core.Lines.{Reason, WasRefused, WasBroken, WasAnswered, MetFault, Fault, OnFlash, OnDamage}
use Rattle.key_lines.specs.Told.{told_in}
use Rattle.key_exec.specs.declared.text.Told.{Told}
use Rattle.key_exec.specs.declared.text.Told.TheVariants as told
use Rattle.key_session.specs.declared.counts.Counts.{Counts}
use Rattle.key_exec.specs.declared.damage.Damage.{Damage}

abbrev pub reason_of : Told → Reason
reason_of told.Refused = WasRefused
reason_of told.Answered = WasAnswered
reason_of told.Host = WasBroken
reason_of told.Link = WasBroken
reason_of told.Protocol = WasBroken
reason_of told.Marked = MetFault OnFlash
reason_of told.Flash = MetFault OnFlash
reason_of (told.Damaged damage) = MetFault OnDamage

abbrev pub is_refusal : Reason → Bool
is_refusal WasRefused = true
is_refusal _ = false

-- whether a fault ended the text: of the host, the link, the protocol or the flash
abbrev pub is_fault : Reason → Bool
is_fault WasBroken = true
is_fault (MetFault _) = true
is_fault _ = false

-- whether its asks did not all come to their end
abbrev pub is_broken : Reason → Bool
is_broken WasBroken = true
is_broken _ = false

abbrev pub is_on_flash : Fault → Bool
is_on_flash OnFlash = true
is_on_flash OnDamage = false

abbrev pub is_flash : Reason → Bool
is_flash (MetFault fault) = is_on_flash fault
is_flash _ = false

abbrev pub is_on_damage : Fault → Bool
is_on_damage OnFlash = false
is_on_damage OnDamage = true

abbrev pub is_damage : Reason → Bool
is_damage (MetFault fault) = is_on_damage fault
is_damage _ = false

abbrev pub one_if : Bool → ℕ
one_if test = if test then 1 else 0

-- the damage that is told of a text, and the first of two that may have been met
abbrev pub damage_in : Told → Option Damage
damage_in (told.Damaged damage) = Some damage
damage_in _ = None

abbrev pub first_damage : Option Damage → Option Damage → Option Damage
first_damage None later = later
first_damage (Some damage) later = Some damage

-- the first damage that one of some texts met
abbrev pub first_of : List (Option Damage) → Option Damage
first_of [] = None
first_of (met ∷ later) = first_damage met (first_of later)

-- no text was counted
pub record AreNone (counts : Counts) : Type 0 where
  pub refused : counts.refused ≡ 0
  pub faulted : counts.faulted ≡ 0
  pub by_flash : counts.by_flash ≡ false
  pub damage : counts.damage ≡ None
  pub told : told_in counts.told ≡ []

-- one more text was counted
pub record IsCounted (reason : Reason) (old new : Counts) : Type 0 where
  pub refused : new.refused ≡ old.refused + one_if (is_refusal reason)
  pub faulted : new.faulted ≡ old.faulted + one_if (is_fault reason)
  pub by_flash : new.by_flash ≡ (old.by_flash || is_flash reason)
  pub damage : is_damage reason ≡ false → new.damage ≡ old.damage
  pub found : is_some new.damage ≡ (is_some old.damage || is_damage reason)

-- the texts with these reasons were counted
pub record AreCounted (reasons : List Reason) (counts : Counts) : Type 0 where
  pub refused : counts.refused ≡ count_by is_refusal reasons
  pub faulted : counts.faulted ≡ count_by is_fault reasons
  pub by_flash : counts.by_flash ≡ list_any is_flash reasons
  pub found : is_some counts.damage ≡ list_any is_damage reasons
