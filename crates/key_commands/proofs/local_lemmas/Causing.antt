-- What a session and the making before it tell of the counts of faults.
use Rattle.std.proofs.Common.{◌≡◌, ℕ, Bool, true, false, List, Option, Result, Err, refl, sym, ◌∙◌, subst}
use Rattle.edge_traits.specs.Devices.{Device}
use Rattle.edge_traits.specs.Files.{Files}
use Rattle.ghost_model.specs.core.Causes.{Rose}
use Rattle.key_inputs.specs.Outside.{Outside, Verdicts, Risen, Same, HasCauses, outside}
use Rattle.key_inputs.proofs.Causes.{stays, rises, all_same}
use Rattle.key_commands.specs.local.Making.{IsOfMaking}
use Rattle.key_commands.specs.local.Results.{told_by}
use Rattle.key_commands.specs.local.Sessions.{is_sink, told_by_end}
use Rattle.key_commands.specs.declared.local.ends.LocalEnd.{LocalEnd}
use Rattle.key_commands.specs.declared.local.ends.LocalEnd.TheVariants as ends
use Rattle.key_commands.specs.declared.local.ends.LocalFailure.{LocalFailure}
use Rattle.key_commands.specs.declared.local.ends.LocalFailure.TheVariants as failure

sink_rose : (end : LocalEnd) → (told_by_end end).sink ≡ Risen → is_sink end ≡ true
sink_rose ends.Ok e = cc
sink_rose ends.Sink e = refl
sink_rose ends.Depot e = cc
sink_rose ends.Flash e = cc
sink_rose (ends.Damaged damage) e = cc

sink_same : (end : LocalEnd) → (told_by_end end).sink ≡ Same → is_sink end ≡ false
sink_same ends.Ok e = refl
sink_same ends.Sink e = cc
sink_same ends.Depot e = refl
sink_same ends.Flash e = refl
sink_same (ends.Damaged damage) e = refl

-- an append is a call on the depot
append_as_depot : (end : LocalEnd) → (told_by_end end).append ≡ (told_by_end end).depot
append_as_depot ends.Ok = refl
append_as_depot ends.Sink = refl
append_as_depot ends.Depot = refl
append_as_depot ends.Flash = refl
append_as_depot (ends.Damaged damage) = refl

-- of a session: whether it wrote no more, whether an append failed, and whether the flash is blamed or spared
pub causes_of : (end : LocalEnd) (wrote_none failed blamed spared : Bool) (before after : Outside)
    → is_sink end ≡ wrote_none → ((told_by_end end).depot ≡ Risen → failed ≡ true) → ((told_by_end end).depot ≡ Same → failed ≡ false)
    → ((told_by_end end).flash ≡ Risen → blamed ≡ true) → ((told_by_end end).flash ≡ Same → spared ≡ true)
    → (wrote_none ≡ true → Rose before.sink_faults after.sink_faults) → (wrote_none ≡ false → after.sink_faults ≡ before.sink_faults)
    → (failed ≡ true → Rose before.depot_faults after.depot_faults) → (failed ≡ false → after.depot_faults ≡ before.depot_faults)
    → (failed ≡ true → Rose before.append_faults after.append_faults) → (failed ≡ false → after.append_faults ≡ before.append_faults)
    → (blamed ≡ true → Rose before.device.faults after.device.faults) → (spared ≡ true → after.device.faults ≡ before.device.faults)
    → HasCauses (told_by_end end) before after
causes_of end wrote_none failed blamed spared before after is depot no_depot flash no_flash sink_up sink_as depot_up depot_as append_up append_as flash_up flash_as = record {
  sink = record { rose = λ e. sink_up (sym is ∙ sink_rose end e); same = λ e. sink_as (sym is ∙ sink_same end e) };
  depot = record { rose = λ e. depot_up (depot e); same = λ e. depot_as (no_depot e) };
  append = record {
    rose = λ e. append_up (depot (sym (append_as_depot end) ∙ e));
    same = λ e. append_as (no_depot (sym (append_as_depot end) ∙ e));
  };
  flash = record { rose = λ e. flash_up (flash e); same = λ e. flash_as (no_flash e) };
}

pub same_fault : (fault other : LocalFailure) (result : Result (Unit {0}) LocalFailure) → result ≡ Err fault → result ≡ Err other → fault ≡ other
same_fault fault other result one two = cc

-- of a making that failed
pub unmade_causes : (fault : LocalFailure) (before after : Outside) → IsOfMaking {T = Unit {0}} (Err fault)
    → after.sink_faults ≡ before.sink_faults → after.depot_faults ≡ before.depot_faults → after.append_faults ≡ before.append_faults
    → (fault ≡ failure.Flash → Rose before.device.faults after.device.faults) → ((fault ≡ failure.Flash → ⊥) → after.device.faults ≡ before.device.faults)
    → HasCauses (told_by (Err fault)) before after
unmade_causes failure.NoMemory before after of sink depot append flash no_flash = all_same before after sink depot append (no_flash (λ e. cc))
unmade_causes failure.Depot before after of sink depot append flash no_flash = absurd of
unmade_causes (failure.Input broken) before after of sink depot append flash no_flash = absurd of
unmade_causes failure.Flash before after of sink depot append flash no_flash =
    record { sink = stays sink; depot = stays depot; append = stays append; flash = rises (flash refl) }

-- and so over what the depot is known to be
pub causes_as : {D : Type 0} (contents : D → Option Files) (failed appends : D → ℕ) (told : Verdicts) (device device_now : Device) (before earlier after later : D) (written written_now : Option (List ℕ)) (faults faults_now : ℕ)
    → before ≡ earlier → after ≡ later
    → HasCauses told (outside (contents before) (failed before) (appends before) device written faults) (outside (contents after) (failed after) (appends after) device_now written_now faults_now)
    → HasCauses told (outside (contents earlier) (failed earlier) (appends earlier) device written faults) (outside (contents later) (failed later) (appends later) device_now written_now faults_now)
causes_as {D} contents failed appends told device device_now before earlier after later written written_now faults faults_now starts comes causes =
    subst (λ (d : D). HasCauses told (outside (contents d) (failed d) (appends d) device written faults) (outside (contents later) (failed later) (appends later) device_now written_now faults_now)) starts
    (subst (λ (d : D). HasCauses told (outside (contents before) (failed before) (appends before) device written faults) (outside (contents d) (failed d) (appends d) device_now written_now faults_now)) comes causes)
