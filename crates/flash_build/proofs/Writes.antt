-- Writes one after another: what changed, how many calls were made, and what is left to fill.
use Rattle.std.proofs.Common.{◌≡◌, refl, sym, ◌∙◌, subst, ℕ, ◌+◌, ◌<◌, ◌≤◌, ap, false, bytes_eq, if◌then◌else◌, Result, Ok, Err, OnOk, IfOk, Option, Some, None, List, inl, inr, arith}
use Rattle.std.specs.Prelude.{IfNone}
use Rattle.std.proofs.lemmas.Bool.{cases_lt}
use Rattle.ghost_model.specs.forms.Runs.{Run, Stores}
use Rattle.ghost_model.specs.laws.RunLaws.{AgreeOn}
use Rattle.edge_traits.specs.Devices.{Device, Counts, ChangesOnly, is_name, pages_under}
use Rattle.edge_traits.proofs.DeviceFrames.{kept_same, changes_kept, changes_wider, changes_joined, counts_none, counts_more}
use Rattle.flash_pages.specs.Filling.{CanFill}
use Rattle.flash_pages.proofs.RunFrames.{can_fill_part, can_fill_kept}
use Rattle.flash_build.specs.declared.faults.BuildFault.{BuildFault}
use Rattle.flash_build.specs.declared.faults.BuildFault.TheVariants as fault
use Rattle.flash_build.specs.Faults.{BuildCause}
use Rattle.flash_build.specs.Building.{Wrote}

-- so many pages were written
pub record Written (low high pages : ℕ) (before now : Device) : Type 0 where
  pub others : ChangesOnly low high before now
  pub exact : Counts pages before.calls now.calls
  pub deep_reads : now.deep_reads ≡ before.deep_reads
  pub faults : now.faults ≡ before.faults

pub changes_same : (low high : ℕ) (device : Device) → ChangesOnly low high device device
changes_same low high device = changes_kept (kept_same device) low high

pub none_written : (low high : ℕ) (device : Device) → Written low high 0 device device
none_written low high device = record {
  others = changes_same low high device;
  exact = counts_none device.calls;
  deep_reads = refl;
  faults = refl;
}

pub written : {T : Type 0} {low high pages : ℕ} {a b : Device} {x : T} → Wrote {T = T} low high pages a b (Ok x) → Written low high pages a b
written wrote = record { others = wrote.others; exact = wrote.exact; deep_reads = wrote.deep_reads; faults = wrote.cause.tells }

pub wrote_ok : {T : Type 0} {low high pages : ℕ} {a b : Device} {x : T} → Written low high pages a b → Wrote {T = T} low high pages a b (Ok x)
wrote_ok now = record {
  others = now.others;
  exact = now.exact;
  at_most = now.exact.most;
  deep_reads = now.deep_reads;
  cause = record { never_falls = omega (arith, now.faults); tells = now.faults };
  last = tt;
  large_enough = tt;
}

pub no_memory : {T : Type 0} {low high pages : ℕ} {a b : Device} → Written low high pages a b → (lower higher more : ℕ) → lower ≤ low → high ≤ higher → pages ≤ more
    → Wrote {T = T} lower higher more a b (Err fault.NoMemory)
no_memory now lower higher more down up few = record {
  others = changes_wider now.others lower higher down up;
  exact = tt;
  at_most = omega (arith, now.exact.most);
  deep_reads = now.deep_reads;
  cause = record { never_falls = omega (arith, now.faults); tells = now.faults };
  last = tt;
  large_enough = tt;
}

-- one write after others
pub written_more :
    {low middle high first second : ℕ} {a b c : Device} → low ≤ middle → middle ≤ high → Written low middle first a b
    → Written middle high second b c → Written low high (first + second) a c
written_more down up ab bc = record {
  others = changes_joined down up ab.others bc.others;
  exact = counts_more ab.exact bc.exact;
  deep_reads = bc.deep_reads ∙ ab.deep_reads;
  faults = bc.faults ∙ ab.faults;
}

cause_after : {T : Type 0} {a b c : ℕ} (result : Result T BuildFault) → b ≡ a → BuildCause b c result → BuildCause a c result
cause_after {c = c} result same cause = subst (λ n. BuildCause n c result) same cause

exact_after : {T : Type 0} {first a b : ℕ} (second c : ℕ) (result : Result T BuildFault) → Counts first a b → OnOk result (Counts second b c) → OnOk result (Counts (first + second) a c)
exact_after second c (Ok x) ab bc = counts_more ab bc
exact_after second c (Err e) ab bc = tt

pub wrote_after :
    {T : Type 0} {low middle high first second : ℕ} {a b c : Device} (result : Result T BuildFault) → low ≤ middle → middle ≤ high
    → Written low middle first a b → Wrote middle high second b c result → Wrote low high (first + second) a c result
wrote_after {second = second} {c = c} result down up ab bc = record {
  others = changes_joined down up ab.others bc.others;
  exact = exact_after second c.calls result ab.exact bc.exact;
  at_most = omega (arith, ab.exact.most, bc.at_most);
  deep_reads = bc.deep_reads ∙ ab.deep_reads;
  cause = cause_after result ab.faults bc.cause;
  last = bc.last;
  large_enough = bc.large_enough;
}

-- a failure leaves what was written before, among more pages that were to be written
pub fails :
    {T U : Type 0} {low high pages : ℕ} {a b : Device} (e : BuildFault) → Wrote {T = T} low high pages a b (Err e)
    → (lower higher more : ℕ) → lower ≤ low → high ≤ higher → pages ≤ more → Wrote {T = U} lower higher more a b (Err e)
fails fault.NoMemory wrote lower higher more down up few = record {
  others = changes_wider wrote.others lower higher down up;
  exact = tt;
  at_most = omega (arith, wrote.at_most);
  deep_reads = wrote.deep_reads;
  cause = record { never_falls = wrote.cause.never_falls; tells = wrote.cause.tells };
  last = wrote.last;
  large_enough = wrote.large_enough;
}
fails fault.Flash wrote lower higher more down up few = record {
  others = changes_wider wrote.others lower higher down up;
  exact = tt;
  at_most = omega (arith, wrote.at_most);
  deep_reads = wrote.deep_reads;
  cause = record { never_falls = wrote.cause.never_falls; tells = wrote.cause.tells };
  last = wrote.last;
  large_enough = wrote.large_enough;
}
fails (fault.TooSmall need have) wrote lower higher more down up few = absurd wrote.large_enough

-- the same as a part of more
pub wrote_within :
    {T : Type 0} {low high pages : ℕ} {a b : Device} (result : Result T BuildFault) → Wrote low high pages a b result
    → (lower higher : ℕ) → lower ≤ low → high ≤ higher → Wrote lower higher pages a b result
wrote_within result wrote lower higher down up = record {
  others = changes_wider wrote.others lower higher down up;
  exact = wrote.exact;
  at_most = wrote.at_most;
  deep_reads = wrote.deep_reads;
  cause = wrote.cause;
  last = wrote.last;
  large_enough = wrote.large_enough;
}

-- the pages under any other name stay where only pages of the device that is open changed
pub others_stay : {low high : ℕ} {a b : Device} (name other : List ℕ) → ChangesOnly low high a b → a.name ≡ Some name → bytes_eq name other ≡ false
    → pages_under b other ≡ pages_under a other
others_stay {a = a} {b = b} name other changes named apart =
    closed b (changes.name ∙ named) ∙ ((λ i. changes.others i other) ∙ sym (closed a named))
  where
    closed : (device : Device) → device.name ≡ Some name → pages_under device other ≡ device.others other
    closed device is =
        ap (λ under. if is_name under other then device.page else device.others other) is
        ∙ ap (λ same. if same then device.page else device.others other) apart

-- under equations
pub wrote_as :
    {T : Type 0} {low high pages begin end count : ℕ} {a b : Device} (result : Result T BuildFault) → low ≡ begin → high ≡ end → pages ≡ count
    → Wrote low high pages a b result → Wrote begin end count a b result
wrote_as {high = high} {pages = pages} {begin = begin} {end = end} {a = a} {b = b} result l h p wrote =
    subst (λ n. Wrote begin end n a b result) p (subst (λ n. Wrote begin n pages a b result) h (subst (λ n. Wrote n high pages a b result) l wrote))

pub written_as :
    {low high pages begin end count : ℕ} {a b : Device} → low ≡ begin → high ≡ end → pages ≡ count
    → Written low high pages a b → Written begin end count a b
written_as {high = high} {pages = pages} {begin = begin} {end = end} {a = a} {b = b} l h p now =
    subst (λ n. Written begin end n a b) p (subst (λ n. Written begin n pages a b) h (subst (λ n. Written n high pages a b) l now))

-- pages that stay, before those that are written and behind them
pub agree_below : {low high : ℕ} {a b : Device} → ChangesOnly low high a b → (from to : ℕ) → to ≤ low → AgreeOn a.page b.page from to
agree_below changes from to apart = λ at up down. (changes.below at (omega arith)).bytes

-- what is left to fill
pub can_fill_rest :
    {a b : Device} {low middle from more begin size : ℕ} → CanFill a begin size → ChangesOnly low middle a b → middle ≤ from → begin ≤ from → from + more ≤ begin + size
    → CanFill b from more
can_fill_rest can changes apart low high = can_fill_kept changes apart (can_fill_part can _ _ low high)

-- a statement on the numbers below one more
pub below_next : (P : ℕ → Type 0) (n : ℕ) → ((k : ℕ) → k < n → P k) → P n → (k : ℕ) → k < n + 1 → P k
below_next P n before here k less =
    elim (cases_lt k n) [
      | inl lower ↦ before k lower
      | inr upper ↦ let same : n ≡ k = omega arith in subst P same here
    ]

-- runs that are the same
pub runs_same : {run file : Run} → run.first ≡ file.first → run.count ≡ file.count → run.width ≡ file.width → run ≡ file
runs_same first count width = λ i. record { first = first i; count = count i; width = width i }

pub stores_as :
    {page : ℕ → List ℕ} {run file : Run} {cells kept : List (List ℕ)} → run ≡ file → cells ≡ kept → Stores page run cells → Stores page file kept
stores_as {page = page} {run = run} {kept = kept} is same stores =
    subst (λ r. Stores page r kept) is (subst (λ cs. Stores page run cs) same stores)

-- what follows from what an answer is
pub if_ok : {T E : Type 0} {P Q : T → Type 0} (result : Result T E) → ((x : T) → P x → Q x) → IfOk result P → IfOk result Q
if_ok (Ok x) more is = more x is
if_ok (Err e) more is = tt

-- counts under an equation
pub counts_as : {first second sum a b c : ℕ} → sum ≡ first + second → Counts first a b → Counts second b c → Counts sum a c
counts_as {a = a} {c = c} is ab bc = subst (λ n. Counts n a c) (sym is) (counts_more ab bc)

pub can_as : {device : Device} {first pages begin size : ℕ} → first ≡ begin → pages ≡ size → CanFill device first pages → CanFill device begin size
can_as {device = device} {pages = pages} {begin = begin} is same can =
    subst (λ n. CanFill device begin n) same (subst (λ f. CanFill device f pages) is can)

pub on_ok : {T E P Q : Type 0} (result : Result T E) → (P → Q) → OnOk result P → OnOk result Q
on_ok (Ok x) more is = more is
on_ok (Err e) more is = tt

pub none_of : {X P : Type 0} (found : Option X) → IfNone found P → ((x : X) → found ≡ Some x → ⊥) → P
none_of None here never = here
none_of (Some x) here never = absurd (never x refl)
