-- How a call ended whose inputs were not read.
use Rattle.std.proofs.Common.{◌≡◌, inl, inr, Bool, List, Ok, Err, ℕ, refl}
use Rattle.std.specs.Prelude.{Result}
use Rattle.ghost_model.specs.core.Causes.{Rose}
use Rattle.key_inputs.specs.Openings.{Opening}
use Rattle.key_inputs.specs.Outside.{Outside, HasCauses}
use Rattle.key_inputs.specs.Views.{Tells}
use Rattle.key_inputs.specs.declared.faults.OpenFault.{OpenFault}
use Rattle.key_inputs.specs.declared.faults.OpenFault.TheVariants as open_fault
use Rattle.key_inputs.specs.Whole.{WholeInput}
use Rattle.key_words.specs.Words.{Local}
use Rattle.key_commands.specs.local.Renaming.{as_failure}
use Rattle.key_commands.specs.local.Results.{LeavesBoth, EndsLocalCall, EndsReadLocal, EndsSomeLocal, ShowsNames, told_by}
use Rattle.edge_traits.specs.Files.{Files}
use Rattle.key_inputs.specs.Naming.{IsNamedIn}
use Rattle.key_inputs.proofs.Causes.{stays, rises, all_same}
use Rattle.key_commands.specs.declared.local.ends.LocalRun.{LocalRun}
use Rattle.key_commands.specs.declared.local.ends.LocalFailure.{LocalFailure}
use Rattle.key_commands.specs.declared.local.ends.LocalFailure.TheVariants as failure

pub unread : (told : Bool) (opening : Opening WholeInput) (words : Local) (before after : Outside) (fault : OpenFault) → LeavesBoth before after
    → Tells opening fault
    → EndsLocalCall told opening words (Err (as_failure fault)) before after
unread told opening words before after open_fault.NoMemory leaves tells = inl leaves
unread told opening words before after open_fault.Depot leaves tells = inl leaves
unread told opening words before after (open_fault.Input broken) leaves tells = tells

pub unread_some : (told : Bool) (words : Local) (before after : Outside) (fault : OpenFault) → LeavesBoth before after
    → EndsSomeLocal told words (Err (as_failure fault)) before after
unread_some told words before after open_fault.NoMemory leaves = inl leaves
unread_some told words before after open_fault.Depot leaves = inl leaves
unread_some told words before after (open_fault.Input broken) leaves = tt

-- and whose inputs were read
pub read_some : (told : Bool) (words : Local) (result : Result LocalRun LocalFailure) (before after : Outside) → EndsReadLocal told words result before after
    → EndsSomeLocal told words result before after
read_some told words (Ok run) before after ends = ends
read_some told words (Err failure.NoMemory) before after ends = inr ends
read_some told words (Err failure.Depot) before after ends = inr ends
read_some told words (Err (failure.Input broken)) before after ends = tt
read_some told words (Err failure.Flash) before after ends = ends

-- the names and the value that are told are those that the inputs' error shows
pub names_shown : (files : Files) (schema folder : List ℕ) (fault : OpenFault) → IsNamedIn files schema folder fault → ShowsNames files schema folder (Err (as_failure fault))
names_shown files schema folder open_fault.NoMemory shows = tt
names_shown files schema folder open_fault.Depot shows = tt
names_shown files schema folder (open_fault.Input broken) shows = shows

-- the counts of faults, where the inputs were not read
pub unread_causes : (fault : OpenFault) (before after : Outside)
    → (fault ≡ open_fault.Depot → Rose before.depot_faults after.depot_faults) → ((fault ≡ open_fault.Depot → ⊥) → after.depot_faults ≡ before.depot_faults)
    → after.sink_faults ≡ before.sink_faults → after.append_faults ≡ before.append_faults → after.device.faults ≡ before.device.faults
    → HasCauses (told_by (Err (as_failure fault))) before after
unread_causes open_fault.NoMemory before after failed other sink append flash = all_same before after sink (other (λ e. cc)) append flash
unread_causes open_fault.Depot before after failed other sink append flash =
    record { sink = stays sink; depot = rises (failed refl); append = stays append; flash = stays flash }
unread_causes (open_fault.Input broken) before after failed other sink append flash = all_same before after sink (other (λ e. cc)) append flash
