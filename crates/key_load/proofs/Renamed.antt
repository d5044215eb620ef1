-- How a call ended whose inputs were not read.
use Rattle.std.proofs.Common.{inl, ℕ, List, Bool, Err}
use Rattle.edge_traits.specs.Files.{Files}
use Rattle.key_inputs.specs.Naming.{IsNamedIn}
use Rattle.key_inputs.specs.Openings.{Opening, TablesInput}
use Rattle.key_inputs.specs.Outside.{Outside}
use Rattle.key_inputs.specs.Views.{Tells}
use Rattle.key_inputs.specs.declared.faults.OpenFault.{OpenFault}
use Rattle.key_inputs.specs.declared.faults.OpenFault.TheVariants as open_fault
use Rattle.key_words.specs.Words.{Load}
use Rattle.key_load.specs.Renaming.{as_failure}
use Rattle.key_load.specs.Results.{LeavesBoth, EndsLoadCall, EndsSomeLoad, ShowsNames}

pub unread : (T : Type 0) (told : Bool) (opening : Opening TablesInput) (words : Load) (before after : Outside) (fault : OpenFault) → LeavesBoth before after
    → Tells opening fault
    → EndsLoadCall {T = T} told opening words (Err (as_failure fault)) before after
unread T told opening words before after open_fault.NoMemory leaves tells = inl leaves
unread T told opening words before after open_fault.Depot leaves tells = inl leaves
unread T told opening words before after (open_fault.Input broken) leaves tells = tells

-- the names and the value that are told are those that the inputs' error shows
pub names_shown : (T : Type 0) (files : Files) (schema folder : List ℕ) (fault : OpenFault) → IsNamedIn files schema folder fault → ShowsNames {T = T} files schema folder (Err (as_failure fault))
names_shown T files schema folder open_fault.NoMemory shows = tt
names_shown T files schema folder open_fault.Depot shows = tt
names_shown T files schema folder (open_fault.Input broken) shows = shows

pub unread_some : (T : Type 0) (told : Bool) (words : Load) (before after : Outside) (fault : OpenFault) → LeavesBoth before after
    → EndsSomeLoad {T = T} told words (Err (as_failure fault)) before after
unread_some T told words before after open_fault.NoMemory leaves = inl leaves
unread_some T told words before after open_fault.Depot leaves = inl leaves
unread_some T told words before after (open_fault.Input broken) leaves = tt
