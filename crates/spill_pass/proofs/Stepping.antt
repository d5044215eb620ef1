-- A step after what was counted before it.
use Rattle.std.proofs.Common.{◌≡◌, ◌∙◌, ℕ, ◌+◌, ◌-◌, ◌≤◌, subst, arith}
use Rattle.std.specs.Prelude.{Result, Ok, Err}
use Rattle.edge_traits.specs.Devices.{Counts, Device}
use Rattle.flash_pages.specs.declared.fault.PageFault.{PageFault}
use Rattle.flash_pages.specs.declared.fault.PageFault.TheVariants.{Flash, Damaged}
use Rattle.spill_pass.specs.Causes.{CallsAtFault, TellsFault}
use Rattle.spill_pass.specs.Stepping.{Stepped}
use Rattle.spill_pass.proofs.Counted.{counts_again, rose_after}

-- where it succeeds
pub stepped_ok :
    {T S : Type 0} {value : T} {answer : S} {room more : ℕ} {a b c : Device} {old mid new : ℕ} → b.faults ≡ a.faults → old ≤ mid
    → Counts (mid - old) a.calls b.calls → mid + more ≤ old + room → Stepped more b c mid new (Ok answer) → Stepped room a c old new (Ok value)
stepped_ok {old = old} {mid = mid} {new = new} same rises counted within step = record {
  cause = step.cause ∙ same;
  failed = tt;
  at_most = omega (arith, counted.most, rises, within, step.counted.most, step.rises, step.most);
  counted = counts_again old mid new rises step.rises counted step.counted;
  rises = omega (arith, rises, step.rises);
  most = omega (arith, within, step.most);
}

-- where it fails
pub stepped_err :
    (T S : Type 0) (fault : PageFault) {room more : ℕ} {a b c : Device} {old mid new : ℕ} → b.faults ≡ a.faults → old ≤ mid
    → Counts (mid - old) a.calls b.calls → mid + more ≤ old + room → Stepped {T = S} more b c mid new (Err fault) → Stepped {T = T} room a c old new (Err fault)
stepped_err T S Flash {old = old} {mid = mid} {new = new} same rises counted within step =
    let rose = step.cause in
    record {
      cause = omega (arith, same, rose);
      failed = rose_after counted step.failed;
      at_most = omega (arith, counted.most, rises, within, step.counted.most, step.rises, step.most);
      counted = counts_again old mid new rises step.rises counted step.counted;
      rises = omega (arith, rises, step.rises);
      most = omega (arith, within, step.most);
    }
stepped_err T S (Damaged page slot found) {old = old} {mid = mid} {new = new} same rises counted within step = record {
  cause = step.cause ∙ same;
  failed = tt;
  at_most = omega (arith, counted.most, rises, within, step.counted.most, step.rises, step.most);
  counted = counts_again old mid new rises step.rises counted step.counted;
  rises = omega (arith, rises, step.rises);
  most = omega (arith, within, step.most);
}

-- where nothing was counted before it
pub stepped_still :
    {T : Type 0} {room : ℕ} {a b c : Device} {old mid new : ℕ} (result : Result T PageFault) → mid ≡ old → b.calls ≡ a.calls → b.faults ≡ a.faults
    → Stepped room b c mid new result → Stepped room a c old new result
stepped_still {T = T} {a = a} {c = c} {mid = mid} {new = new} result same calls faults step =
    let F : ℕ → Type 0 = λ n. TellsFault n c.faults result in
    let A : ℕ → Type 0 = λ n. CallsAtFault n c.calls result in
    let C : ℕ → Type 0 = λ n. Counts (new - mid) n c.calls in
    let S : ℕ → Type 0 = λ n. Counts (new - n) a.calls c.calls in
    record {
      cause = subst F faults step.cause;
      failed = subst A calls step.failed;
      at_most = omega (arith, calls, step.at_most);
      counted = subst S same (subst C calls step.counted);
      rises = omega (arith, same, step.rises);
      most = omega (arith, same, step.most);
    }
