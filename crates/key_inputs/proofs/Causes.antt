-- What is told of the counts of faults.
use Rattle.std.proofs.Common.{◌≡◌, ℕ, subst}
use Rattle.ghost_model.specs.core.Causes.{Rose}
use Rattle.key_inputs.specs.Outside.{Outside, Risen, Same, Untold, Verdict, Verdicts, verdicts, IsTold, HasCauses}

same_is_not_risen : {P : Type 0} → Same ≡ Risen → P
same_is_not_risen e = cc

-- a count that is as before
pub stays : {before after : ℕ} → after ≡ before → IsTold Same before after
stays same = record { rose = λ e. same_is_not_risen e; same = λ e. same }

risen_is_not_same : {P : Type 0} → Risen ≡ Same → P
risen_is_not_same e = cc

-- one that rose
pub rises : {before after : ℕ} → Rose before after → IsTold Risen before after
rises rose = record { rose = λ e. rose; same = λ e. risen_is_not_same e }

untold_is_not_risen : {P : Type 0} → Untold ≡ Risen → P
untold_is_not_risen e = cc

untold_is_not_same : {P : Type 0} → Untold ≡ Same → P
untold_is_not_same e = cc

-- one of which nothing is told
pub untold : {before after : ℕ} → IsTold Untold before after
untold = record { rose = λ e. untold_is_not_risen e; same = λ e. untold_is_not_same e }

-- all are as before
pub all_same : (before after : Outside) → after.sink_faults ≡ before.sink_faults → after.depot_faults ≡ before.depot_faults
    → after.append_faults ≡ before.append_faults → after.device.faults ≡ before.device.faults → HasCauses (verdicts Same Same Same Same) before after
all_same before after sink depot append flash = record { sink = stays sink; depot = stays depot; append = stays append; flash = stays flash }

-- a count is what is told of it since before, where it stayed from then on to where it was told
pub told_since : {verdict : Verdict} {before middle after : ℕ} → middle ≡ before → IsTold verdict middle after → IsTold verdict before after
told_since {verdict} {before} {middle} {after} same told = subst (λ (count : ℕ). IsTold verdict count after) same told

-- and so are all
pub causes_since : (told : Verdicts) (before middle after : Outside) → middle.sink_faults ≡ before.sink_faults → middle.depot_faults ≡ before.depot_faults
    → middle.append_faults ≡ before.append_faults → middle.device.faults ≡ before.device.faults → HasCauses told middle after → HasCauses told before after
causes_since told before middle after sink depot append flash causes = record {
  sink = told_since sink causes.sink;
  depot = told_since depot causes.depot;
  append = told_since append causes.append;
  flash = told_since flash causes.flash;
}
