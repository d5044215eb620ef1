-- A step of passes, as that of a work.
use Rattle.std.proofs.Common.{◌≡◌, ℕ, ◌<◌, Bool, true, false, List, refl, sym, subst}
use Rattle.std.specs.Prelude.{Result, Ok, Err, IfOk}
use Rattle.edge_traits.specs.Devices.{Device}
use Rattle.page_pool.specs.Pools.{Pool}
use Rattle.flash_pages.specs.declared.fault.PageFault.{PageFault}
use Rattle.spill_pass.specs.declared.reduce.Areas.{Areas}
use Rattle.spill_pass.specs.declared.reduce.Reduce.{Reduce}
use Rattle.id_merge.specs.Since.{Blames, Since}
use Rattle.spill_pass.specs.Given.{KnowsRun, StepKnown}
use Rattle.spill_pass.specs.ListCalls.{ReduceCounts, StepCounts}
use Rattle.spill_pass.specs.Listings.{has_in, ready_in}
use Rattle.spill_pass.specs.Reducing.{ReduceWent, RunStands, reduce_left}
use Rattle.spill_pass.specs.ReduceWork.{left_in, pass_source, reduce_costs, reduce_given, reduce_ready}
use Rattle.spill_pass.specs.Sources.{Source}
use Rattle.spill_pass.specs.Works.{Goal, Spends}
use Rattle.spill_pass.proofs.ReduceSteps.{still_reducing}
use Rattle.spill_pass.proofs.WorkLemmas.{ok_then}

pub ready_again :
    {S : Type 0} (source : S → Source) (ready : Bool → Device → Pool → S → Type 0) (told : Bool) (before now : Device) (pool later : Pool)
    (old new : Reduce S) (result : Result Bool PageFault) → new.areas ≡ old.areas → new.pass.fan ≡ old.pass.fan
    → new.pass.groups.into.rows ≡ old.pass.groups.into.rows → IfOk result (λ done. done ≡ false → ready_in ready told now later new.pass.lists)
    → IfOk result (λ done. done ≡ false → ReduceWent told before now pool later (pass_source source old) (pass_source source new) old.areas old.pass.groups new.pass.groups old.pass.fan old.pass.merging new.pass.merging)
    → IfOk result (λ done. done ≡ true → RunStands old.areas old.pass.groups.into.rows new.run)
    → IfOk result (λ done. reduce_ready source ready told now later new done)
ready_again source ready told before now pool later old new (Ok true) areas fan rows lists went stands =
    let A : Areas → Type 0 = λ areas. RunStands areas new.pass.groups.into.rows new.run in
    let R : ℕ → Type 0 = λ rows. RunStands old.areas rows new.run in
    subst A (sym areas) (subst R (sym rows) (stands refl))
ready_again source ready told before now pool later old new (Ok false) areas fan rows lists went stands = record {
  lists = lists refl;
  reducing = still_reducing areas fan (went refl).reducing;
}
ready_again source ready told before now pool later old new (Err fault) areas fan rows lists went stands = tt

pub fewer_left :
    {S : Type 0} (source : S → Source) (told : Bool) (before now : Device) (pool later : Pool) (old new : Reduce S) (result : Result Bool PageFault)
    → new.areas ≡ old.areas
    → IfOk result (λ done. done ≡ false → ReduceWent told before now pool later (pass_source source old) (pass_source source new) old.areas old.pass.groups new.pass.groups old.pass.fan old.pass.merging new.pass.merging)
    → IfOk result (λ done. done ≡ false → left_in source later new < left_in source pool old)
fewer_left source told before now pool later old new result areas went =
    let L : Areas → Type 0 = λ areas. reduce_left later (pass_source source new) areas new.pass.groups new.pass.merging < left_in source pool old in
    ok_then result (λ done went is. subst L (sym areas) (went is).fewer) went

pub costs_again :
    {S : Type 0} (source : S → Source) (has : (ℕ → List ℕ) → (ℕ → List ℕ) → ℕ → S → List (List ℕ) → Type 0) (told : Bool) (page : ℕ → List ℕ)
    (before now : ℕ) (later : Pool) (old new : Reduce S) (goal : Goal) (left : ℕ) (result : Result Bool PageFault) → new.areas ≡ old.areas
    → new.pass.groups.into.rows ≡ old.pass.groups.into.rows
    → StepCounts (λ right. has_in has page right old.pass.groups.into.rows new.pass.lists) told page before now later (pass_source source new) old.areas new.pass.groups goal.lists left result
    → Spends (reduce_costs source has told page later new goal) before now left result
costs_again source has told page before now later old new goal left (Ok true) areas rows counts = counts
costs_again source has told page before now later old new goal left (Ok false) areas rows counts =
    let A : Areas → Type 0 = λ areas. ReduceCounts (λ right. has_in has page right new.pass.groups.into.rows new.pass.lists) told page later (pass_source source new) areas new.pass.groups goal.lists counts.still in
    let R : ℕ → Type 0 = λ rows. ReduceCounts (λ right. has_in has page right rows new.pass.lists) told page later (pass_source source new) old.areas new.pass.groups goal.lists counts.still in
    record { still = counts.still; costs_still = subst A (sym areas) (subst R (sym rows) counts.counts); spent = counts.spent }
costs_again source has told page before now later old new goal left (Err fault) areas rows counts = counts

pub given_again :
    {S : Type 0} (given : Since → Device → Pool → ℕ → S → Type 0) (since : Since) (size : ℕ) (device : Device) (pool : Pool) (rows : ℕ) (new : Reduce S)
    (result : Result Bool PageFault) → new.pass.groups.into.rows ≡ rows → StepKnown given since device pool rows new result
    → IfOk result (λ done. reduce_given given since size device pool new done)
given_again given since size device pool rows new (Ok true) same known =
    let R : ℕ → Type 0 = λ rows. KnowsRun since device.page rows new.run in subst R (sym same) known
given_again given since size device pool rows new (Ok false) same known = known
given_again given since size device pool rows new (Err fault) same known = tt

pub known_blames :
    {S : Type 0} (given : Since → Device → Pool → ℕ → S → Type 0) (since : Since) (device : Device) (pool : Pool) (rows : ℕ) (new : Reduce S)
    (result : Result Bool PageFault) → StepKnown given since device pool rows new result → Blames since device result
known_blames given since device pool rows new (Ok true) known = tt
known_blames given since device pool rows new (Ok false) known = tt
known_blames given since device pool rows new (Err fault) known = known
