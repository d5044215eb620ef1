-- What is counted of calls, one after the other.
use Rattle.std.proofs.Common.{◌≡◌, ◌∙◌, ℕ, ◌+◌, ◌≤◌, ◌&&◌, Bool, true, false, if◌then◌else◌, subst, ap, refl, arith}
use Rattle.edge_traits.specs.Devices.{Device, next, next_if}
use Rattle.flash_pages.specs.declared.fault.PageFault.{PageFault}
use Rattle.flash_pages.specs.declared.fault.PageFault.TheVariants.{Flash, Damaged}
use Rattle.id_merge.specs.Merges.{MadeOne, MadeNone, MadeSome, FailedOne, FailedLast, FailTells}
use Rattle.id_merge.specs.Moving.{CallIf}

pub none_made : {a b : Device} {u v : ℕ} {called : Bool} → called ≡ false → CallIf called a b u v → MadeNone a b u v
none_made {a = a} {b = b} {u = u} {v = v} is made = let P : Bool → Type 0 = λ called. CallIf called a b u v in subst P is made

pub one_made : {a b : Device} {u v : ℕ} {called : Bool} → called ≡ true → CallIf called a b u v → MadeOne a b u v
one_made {a = a} {b = b} {u = u} {v = v} is made = let P : Bool → Type 0 = λ called. CallIf called a b u v in subst P is made

pub made_none : (a : Device) (u : ℕ) → MadeNone a a u u
made_none a u = record { calls = refl; deep_reads = refl; faults = refl; as_many = omega arith }

pub none_trans : {a b c : Device} {u v w : ℕ} → MadeNone a b u v → MadeNone b c v w → MadeNone a c u w
none_trans first second = record {
  calls = second.calls ∙ first.calls;
  deep_reads = second.deep_reads ∙ first.deep_reads;
  faults = second.faults ∙ first.faults;
  as_many = omega (arith, first.as_many, second.as_many);
}

pub one_after : {a b c : Device} {u v w : ℕ} → MadeNone a b u v → MadeOne b c v w → MadeOne a c u w
one_after first second = record {
  calls = second.calls ∙ ap next first.calls;
  faults = second.faults ∙ first.faults;
  fewer = omega (arith, second.fewer, first.as_many);
}

pub failed_after : {a b c : Device} {u v w : ℕ} → MadeNone a b u v → FailedOne b c v w → FailedOne a c u w
failed_after first second = record {
  calls = second.calls ∙ ap next first.calls;
  cause = omega (arith, second.cause, first.faults);
  last = second.last;
  as_many = omega (arith, first.as_many, second.as_many);
}

pub fails_after : {a b : Device} {u v : ℕ} (c : Device) (w : ℕ) (fault : PageFault) → MadeNone a b u v → FailTells b c v w fault → FailTells a c u w fault
fails_after c w Flash first second = failed_after first second
fails_after c w (Damaged number slot found) first second = none_trans first second

-- a read of one page, by whether it was made
pub call_of :
    (before now : Device) (deep : Bool) {u : ℕ} (v : ℕ) (reads : Bool)
    → now.calls ≡ next_if reads before.calls → now.deep_reads ≡ next_if (reads && deep) before.deep_reads
    → now.faults ≡ before.faults → v + (if reads then 1 else 0) ≤ u
    → CallIf reads before now u v
call_of before now deep v true calls deep_reads faults fewer = record { calls = calls; faults = faults; fewer = omega (arith, fewer) }
call_of before now deep v false calls deep_reads faults fewer = record { calls = calls; deep_reads = deep_reads; faults = faults; as_many = omega (arith, fewer) }

-- several calls
pub some_none : {a b : Device} {u v : ℕ} → MadeNone a b u v → MadeSome a b u v
some_none made =
    record {
      calls = omega (arith, made.calls, made.as_many);
      deep_reads = omega (arith, made.deep_reads, made.as_many);
      faults = made.faults;
      fewer = made.as_many;
    }

pub some_one : {a b c : Device} {u v w : ℕ} → MadeSome a b u v → MadeOne b c v w → c.deep_reads ≤ b.deep_reads + 1 → MadeSome a c u w
some_one first second deep =
    record {
      calls = omega (arith, first.calls, second.calls, second.fewer);
      deep_reads = omega (arith, first.deep_reads, second.fewer, deep);
      faults = second.faults ∙ first.faults;
      fewer = omega (arith, first.fewer, second.fewer);
    }

pub some_after : {a b c : Device} {u v w : ℕ} → MadeSome a b u v → MadeNone b c v w → MadeSome a c u w
some_after first second =
    record {
      calls = omega (arith, first.calls, second.calls, second.as_many);
      deep_reads = omega (arith, first.deep_reads, second.deep_reads, second.as_many);
      faults = second.faults ∙ first.faults;
      fewer = omega (arith, first.fewer, second.as_many);
    }

pub failed_last : {a b c : Device} {u v w : ℕ} → MadeSome a b u v → FailedOne b c v w → c.deep_reads ≤ b.deep_reads + 1 → FailedLast a c u w
failed_last first second deep =
    record {
      calls = omega (arith, first.calls, second.calls, second.as_many);
      deep_reads = omega (arith, first.deep_reads, deep, second.as_many);
      cause = omega (arith, second.cause, first.faults);
      last = second.last;
      fewer = omega (arith, first.fewer, second.as_many);
    }
