-- What a step answers, by whether it is done.
use Rattle.std.proofs.Common.{◌≡◌, Bool, true, false, refl, subst}
use Rattle.std.specs.Prelude.{Result, Ok, Err, IfOk}
use Rattle.flash_pages.specs.declared.fault.PageFault.{PageFault}

-- what holds where there is more to do, and what holds at the end
pub by_done :
    (R : Bool → Type 0) (result : Result Bool PageFault) → IfOk result (λ done. done ≡ false → R false) → IfOk result (λ done. done ≡ true → R true)
    → IfOk result R
by_done R (Ok true) going ended = ended refl
by_done R (Ok false) going ended = going refl
by_done R (Err fault) going ended = tt

pub where_done :
    (R : Bool → Type 0) (result : Result Bool PageFault) (is : Bool) → IfOk result R → IfOk result (λ done. done ≡ is → R is)
where_done R (Ok done) is holds = λ same. subst R same holds
where_done R (Err fault) is holds = tt

pub ok_then : {P Q : Bool → Type 0} (result : Result Bool PageFault) → ((done : Bool) → P done → Q done) → IfOk result P → IfOk result Q
ok_then (Ok done) to is = to done is
ok_then (Err fault) to is = tt
