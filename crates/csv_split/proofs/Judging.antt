-- How a result judges the faults of a whole by those of its parts.
use Rattle.std.proofs.Common.{◌≡◌, Bool, true, false, List, [], ◌++◌, Option, Some, None, Result, Ok, Err, sym, ap, subst}
use Rattle.ghost_model.specs.refusals.LoadFaults as faults
use Rattle.csv_split.specs.declared.faults.LoadFault.{LoadFault}
use Rattle.ghost_model.specs.refusals.LoadFaults.{unless}
use Rattle.ghost_model.specs.laws.LoadLaws.{IsFirst, Judges, TellsFirst}

-- the first fault of a part is that of the whole that begins with it
pub first_more : (told : Option faults.LoadFault) (part later : List faults.LoadFault) → TellsFirst told part → TellsFirst told (part ++ later)
first_more None part later h = tt
first_more (Some fault) part later h = record { later = h.later ++ later; first = ap (λ faults. faults ++ later) h.first }

-- a rule that is broken comes first
pub broken : (rule : Bool) (fault : faults.LoadFault) (later : List faults.LoadFault) → rule ≡ false → IsFirst fault (unless rule fault ++ later)
broken rule fault later is = record { later = later; first = ap (λ b. unless b fault ++ later) is }

-- and one that is kept leaves the rest
pub kept : (rule : Bool) (fault : faults.LoadFault) (later : List faults.LoadFault) → rule ≡ true → unless rule fault ++ later ≡ later
kept rule fault later is = ap (λ b. unless b fault ++ later) is

-- a result that judges a list judges an equal one
pub judges_same : {T E : Type 0} (told : E → Option faults.LoadFault) (result : Result T E) (part whole : List faults.LoadFault) → whole ≡ part
    → Judges told result part → Judges told result whole
judges_same told result part whole same h = let P : List faults.LoadFault → Type 0 = λ faults. Judges told result faults in subst P (sym same) h

-- a part without faults leaves the rest
pub none_first : (part later : List faults.LoadFault) → part ≡ [] → part ++ later ≡ later
none_first part later none = ap (λ faults. faults ++ later) none

-- an error that is another one is so in a result of any type
abbrev error_or : {X : Type 0} → LoadFault → Result X LoadFault → LoadFault
error_or other (Ok value) = other
error_or other (Err error) = error

pub same_error : {X Y : Type 0} (error other : LoadFault) → ◌≡◌ {A = Result X LoadFault} (Err error) (Err other) → ◌≡◌ {A = Result Y LoadFault} (Err error) (Err other)
same_error error other is = ap (λ one. Err one) (ap (error_or other) is)
