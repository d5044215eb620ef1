-- How an opening ended.
use Rattle.std.proofs.Common.{◌≡◌, ℕ, Bool, true, false, List, Result, Ok, Err, refl}
use Rattle.std.specs.Prelude.{IfErr}
use Rattle.ghost_model.specs.core.Causes.{Rose}
use Rattle.ghost_model.specs.core.Channel.{Catalog}
use Rattle.edge_traits.specs.Devices.{Device}
use Rattle.key_inputs.specs.Openings.{Opening, Spelled, Broken, InputFault}
use Rattle.key_inputs.specs.Outside.{Outside, IsTold, HasCauses}
use Rattle.key_inputs.specs.Views.{Tells, rule_of}
use Rattle.key_inputs.specs.declared.faults.OpenFault.{OpenFault}
use Rattle.key_inputs.specs.declared.faults.OpenFault.TheVariants as open_fault
use Rattle.key_commands.specs.query.PublicPages.{HasCatalog}
use Rattle.key_commands.specs.query.Renaming.{as_failure}
use Rattle.key_commands.specs.query.Results.{IsOfFlash, TellsFlash, is_faultless, told_by_failure, told_by_status}
use Rattle.key_session.specs.Running.{is_sink, blames_flash, spares_flash}
use Rattle.key_session.specs.declared.tally.SessionStatus.{SessionStatus}
use Rattle.key_session.specs.declared.tally.SessionStatus.TheVariants as status
use Rattle.key_inputs.proofs.Causes.{stays, rises, untold, all_same}
use Rattle.key_commands.specs.declared.query.failures.QueryFailure.{QueryFailure}
use Rattle.key_commands.specs.declared.query.failures.QueryFailure.TheVariants as failure

module _ {T : Type 0} where
  pub faultless :
      (result : Result T QueryFailure) (told : Bool) (flash : List ℕ) (device : Device) (cat : Catalog) → told ≡ true → HasCatalog device cat
      → IfErr result (λ fault. IsOfFlash fault) → IfErr result (λ fault. TellsFlash told flash device fault)
      → (result ≡ Err failure.Flash → ⊥) → is_faultless result ≡ true
  faultless (Ok opened) told flash device cat is has of tells fine = refl
  faultless (Err failure.NoMemory) told flash device cat is has of tells fine = refl
  faultless (Err failure.Depot) told flash device cat is has of tells fine = absurd of
  faultless (Err (failure.Input broken)) told flash device cat is has of tells fine = absurd of
  faultless (Err failure.Flash) told flash device cat is has of tells fine = absurd (fine refl)
  faultless (Err failure.NotAKey) told flash device cat is has of tells fine = absurd (tells.none is cat has)
  faultless (Err (failure.TooSmall needed had)) told flash device cat is has of tells fine = refl

-- the script's file cannot both keep every rule and break one
spelled_unbroken : (rule : InputFault) (opening : Opening (List ℕ)) (script : List ℕ) → opening ≡ Broken rule → opening ≡ Spelled script → ⊥
spelled_unbroken rule opening script broken spelled = cc

pub faultless_unread :
    (T : Type 0) (fault : OpenFault) (opening : Opening (List ℕ)) (script : List ℕ) → Tells opening fault → opening ≡ Spelled script
    → (fault ≡ open_fault.Depot → ⊥) → is_faultless {T = T} (Err (as_failure fault)) ≡ true
faultless_unread T open_fault.NoMemory opening script tells spelled fine = refl
faultless_unread T open_fault.Depot opening script tells spelled fine = absurd (fine refl)
faultless_unread T (open_fault.Input broken) opening script tells spelled fine =
    absurd (spelled_unbroken (rule_of broken) opening script tells spelled)

-- the counts of faults of an opening that failed, which leaves the sink
pub unopened_causes : (fault : QueryFailure) (before after : Outside) → after.sink_faults ≡ before.sink_faults
    → IsTold (told_by_failure fault).depot before.depot_faults after.depot_faults → after.append_faults ≡ before.append_faults
    → IsTold (told_by_failure fault).flash before.device.faults after.device.faults → HasCauses (told_by_failure fault) before after
unopened_causes failure.NoMemory before after sink depot append flash = record { sink = stays sink; depot = depot; append = stays append; flash = flash }
unopened_causes failure.Depot before after sink depot append flash = record { sink = stays sink; depot = depot; append = stays append; flash = flash }
unopened_causes (failure.Input broken) before after sink depot append flash = record { sink = stays sink; depot = depot; append = stays append; flash = flash }
unopened_causes failure.Flash before after sink depot append flash = record { sink = stays sink; depot = depot; append = stays append; flash = flash }
unopened_causes failure.NotAKey before after sink depot append flash = record { sink = stays sink; depot = depot; append = stays append; flash = flash }
unopened_causes (failure.TooSmall needed had) before after sink depot append flash = record { sink = stays sink; depot = depot; append = stays append; flash = flash }

-- of a session, which leaves the depot
pub session_causes : (one : SessionStatus) (before after : Outside)
    → (is_sink one ≡ true → Rose before.sink_faults after.sink_faults) → (is_sink one ≡ false → after.sink_faults ≡ before.sink_faults)
    → after.depot_faults ≡ before.depot_faults → after.append_faults ≡ before.append_faults
    → (blames_flash one ≡ true → Rose before.device.faults after.device.faults) → (spares_flash one ≡ true → after.device.faults ≡ before.device.faults)
    → HasCauses (told_by_status one) before after
session_causes status.Ok before after up same depot append blamed spared = all_same before after (same refl) depot append (spared refl)
session_causes status.Sink before after up same depot append blamed spared =
    record { sink = rises (up refl); depot = stays depot; append = stays append; flash = untold }
session_causes status.Link before after up same depot append blamed spared =
    record { sink = stays (same refl); depot = stays depot; append = stays append; flash = untold }
session_causes (status.Protocol kind at) before after up same depot append blamed spared =
    record { sink = stays (same refl); depot = stays depot; append = stays append; flash = untold }
session_causes (status.Host code) before after up same depot append blamed spared =
    record { sink = stays (same refl); depot = stays depot; append = stays append; flash = untold }
session_causes status.Flash before after up same depot append blamed spared =
    record { sink = stays (same refl); depot = stays depot; append = stays append; flash = rises (blamed refl) }
session_causes (status.Damaged damage) before after up same depot append blamed spared = all_same before after (same refl) depot append (spared refl)
