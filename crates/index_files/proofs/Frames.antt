-- Writes one after another: what changed, and how many calls were made.
use Rattle.std.proofs.Common.{◌≡◌, ◌∙◌, subst, ℕ, ◌+◌, ◌≤◌, Result, Ok, Err, OnOk, List, arith}
use Rattle.ghost_model.specs.forms.Runs.{Run, Stores}
use Rattle.edge_traits.specs.Devices.{Device, Counts, ChangesOnly}
use Rattle.edge_traits.proofs.DeviceFrames.{changes_wider, changes_joined, counts_more}
use Rattle.edge_traits.specs.declared.Failed.{Failed}
use Rattle.flash_pages.specs.Filling.{CanFill}
use Rattle.flash_pages.specs.Writers as pages
use Rattle.index_files.specs.declared.faults.IndexFault.{IndexFault}
use Rattle.index_files.specs.declared.faults.IndexFault.TheVariants as fault
use Rattle.index_files.specs.Faults.{IndexCause}
use Rattle.index_files.specs.Writing.{Writes}

-- so many pages were written
pub record Written (low high pages : ℕ) (before now : Device) : Type 0 where
  pub others : ChangesOnly low high before now
  pub exact : Counts pages before.calls now.calls
  pub deep_reads : now.deep_reads ≡ before.deep_reads
  pub faults : now.faults ≡ before.faults

pub written : {T : Type 0} {low high pages : ℕ} {a b : Device} {x : T} → Writes {T = T} low high pages a b (Ok x) → Written low high pages a b
written writes = record { others = writes.others; exact = writes.exact; deep_reads = writes.deep_reads; faults = writes.cause.tells }

-- one write after others
pub written_more :
    {low middle high first second : ℕ} {a b c : Device} → low ≤ middle → middle ≤ high → Written low middle first a b
    → Written middle high second b c → Written low high (first + second) a c
written_more down up ab bc = record {
  others = changes_joined down up ab.others bc.others;
  exact = counts_more ab.exact bc.exact;
  deep_reads = bc.deep_reads ∙ ab.deep_reads;
  faults = bc.faults ∙ ab.faults;
}

cause_after : {T : Type 0} {a b c : ℕ} (result : Result T IndexFault) → b ≡ a → IndexCause b c result → IndexCause a c result
cause_after {c = c} result same cause = subst (λ n. IndexCause n c result) same cause

exact_after : {T : Type 0} {first a b : ℕ} (second c : ℕ) (result : Result T IndexFault) → Counts first a b → OnOk result (Counts second b c) → OnOk result (Counts (first + second) a c)
exact_after second c (Ok x) ab bc = counts_more ab bc
exact_after second c (Err e) ab bc = tt

pub writes_after :
    {T : Type 0} {low middle high first second : ℕ} {a b c : Device} (result : Result T IndexFault) → low ≤ middle → middle ≤ high
    → Written low middle first a b → Writes middle high second b c result → Writes low high (first + second) a c result
writes_after {second = second} {c = c} result down up ab bc = record {
  others = changes_joined down up ab.others bc.others;
  exact = exact_after second c.calls result ab.exact bc.exact;
  at_most = omega (arith, ab.exact.most, bc.at_most);
  deep_reads = bc.deep_reads ∙ ab.deep_reads;
  cause = cause_after result ab.faults bc.cause;
  last = bc.last;
}

-- a failure leaves what was written before, among more pages that were to be written
pub fails :
    {T U : Type 0} {low high pages : ℕ} {a b : Device} (e : IndexFault) → Writes {T = T} low high pages a b (Err e)
    → (lower higher more : ℕ) → lower ≤ low → high ≤ higher → pages ≤ more → Writes {T = U} lower higher more a b (Err e)
fails fault.NoMemory writes lower higher more down up few = record {
  others = changes_wider writes.others lower higher down up;
  exact = tt;
  at_most = omega (arith, writes.at_most);
  deep_reads = writes.deep_reads;
  cause = record { never_falls = writes.cause.never_falls; tells = writes.cause.tells };
  last = writes.last;
}
fails fault.Flash writes lower higher more down up few = record {
  others = changes_wider writes.others lower higher down up;
  exact = tt;
  at_most = omega (arith, writes.at_most);
  deep_reads = writes.deep_reads;
  cause = record { never_falls = writes.cause.never_falls; tells = writes.cause.tells };
  last = writes.last;
}

-- the same under equations
pub writes_as :
    {T : Type 0} {low high pages begin end count : ℕ} {a b : Device} (result : Result T IndexFault) → low ≡ begin → high ≡ end → pages ≡ count
    → Writes low high pages a b result → Writes begin end count a b result
writes_as {high = high} {pages = pages} {begin = begin} {end = end} {a = a} {b = b} result l h p writes =
    subst (λ n. Writes begin end n a b result) p (subst (λ n. Writes begin n pages a b result) h (subst (λ n. Writes n high pages a b result) l writes))

pub written_as :
    {low high pages begin end count : ℕ} {a b : Device} → low ≡ begin → high ≡ end → pages ≡ count
    → Written low high pages a b → Written begin end count a b
written_as {high = high} {pages = pages} {begin = begin} {end = end} {a = a} {b = b} l h p now =
    subst (λ n. Written begin end n a b) p (subst (λ n. Written begin n pages a b) h (subst (λ n. Written n high pages a b) l now))

-- the same run, and the same records
pub runs_same : {run file : Run} → run.first ≡ file.first → run.count ≡ file.count → run.width ≡ file.width → run ≡ file
runs_same first count width = λ i. record { first = first i; count = count i; width = width i }

pub stores_as :
    {page : ℕ → List ℕ} {run file : Run} {cells kept : List (List ℕ)} → run ≡ file → cells ≡ kept → Stores page run cells → Stores page file kept
stores_as {page = page} {run = run} {kept = kept} is same stores =
    subst (λ r. Stores page r kept) is (subst (λ cs. Stores page run cs) same stores)

pub can_as : {device : Device} {first pages begin size : ℕ} → first ≡ begin → pages ≡ size → CanFill device first pages → CanFill device begin size
can_as {device = device} {pages = pages} {begin = begin} is same can =
    subst (λ n. CanFill device begin n) same (subst (λ f. CanFill device f pages) is can)

-- what follows from what an answer is
pub on_ok : {T E P Q : Type 0} (result : Result T E) → (P → Q) → OnOk result P → OnOk result Q
on_ok (Ok x) more is = more is
on_ok (Err e) more is = tt

-- what a writer of pages wrote, by the answers here
pub written_ok :
    {T U : Type 0} {x : T} {a b : Device} {low high count : ℕ} (y : U) → pages.Writes a b low high count (Ok x) → (higher : ℕ) → high ≤ higher
    → Writes low higher count a b (Ok y)
written_ok {low = low} y writes higher up = record {
  others = changes_wider writes.others low higher (omega arith) up;
  exact = writes.exact;
  at_most = writes.at_most;
  deep_reads = writes.deep_reads;
  cause = record { never_falls = writes.cause.never_falls; tells = writes.cause.other };
  last = tt;
}

pub written_err :
    {T U : Type 0} {a b : Device} {low high count : ℕ} (e : Failed) → pages.Writes {T = T} a b low high count (Err e) → (higher more : ℕ)
    → high ≤ higher → count ≤ more → Writes {T = U} low higher more a b (Err fault.Flash)
written_err {low = low} e writes higher more up few = record {
  others = changes_wider writes.others low higher (omega arith) up;
  exact = tt;
  at_most = omega (arith, writes.at_most);
  deep_reads = writes.deep_reads;
  cause = record { never_falls = writes.cause.never_falls; tells = writes.cause.failed };
  last = writes.last;
}
