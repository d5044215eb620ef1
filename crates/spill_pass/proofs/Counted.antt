-- What a turn came to, and calls counted over several of them.
use Rattle.std.proofs.Common.{◌≡◌, ℕ, ◌+◌, ◌-◌, ◌<◌, ◌≤◌, inl, inr, Bool, true, false, List, [], Option, Some, None, subst, Ok, arith}
use Rattle.std.specs.Prelude.{Err}
use Rattle.std.proofs.lemmas.Bool.{cases_lt}
use Rattle.ghost_model.specs.core.Causes.{Rose, last_count}
use Rattle.ghost_base.specs.declared.runs.Run.{Run}
use Rattle.edge_traits.specs.Devices.{Counts, Device}
use Rattle.edge_traits.proofs.DeviceFrames.{counts_more}
use Rattle.flash_pages.specs.declared.fault.PageFault.{PageFault}
use Rattle.flash_pages.specs.declared.fault.PageFault.TheVariants.{Flash, Damaged}
use Rattle.spill_pass.specs.Causes.{CallsAtFault}
use Rattle.page_pool.specs.Pools.{Pool}
use Rattle.id_merge.specs.declared.merge.Merge.{Merge}
use Rattle.spill_pass.specs.declared.merging.MergeInto.{MergeInto}
use Rattle.spill_pass.specs.Merging.{Gathers, GathersAll, GivesList, IsListOf, AdvanceGives, AdvanceTells, TurnTells, WentOn, WentByPages, DoneByPages, ListDone, CameToEnd}

pub went_gives :
    {told : Bool} {right page : ℕ → List ℕ} {merge : Merge} {pool : Pool} {into : MergeInto} {answer : Option Run} → answer ≡ None
    → GivesList told right merge page pool into (Ok answer) → Gathers told right merge [] page pool into
went_gives {told = told} {right = right} {page = page} {merge = merge} {pool = pool} {into = into} is gives =
    let P : Option Run → Type 0 = λ answer. GivesList told right merge page pool into (Ok answer) in subst P is gives

pub done_gives :
    (told : Bool) {right page : ℕ → List ℕ} {merge : Merge} (pool : Pool) (into : MergeInto) {answer : Option Run} {run : Run} → answer ≡ Some run
    → GivesList told right merge page pool into (Ok answer) → IsListOf right merge page run
done_gives told {right = right} {page = page} {merge = merge} pool into is gives =
    let P : Option Run → Type 0 = λ answer. GivesList told right merge page pool into (Ok answer) in subst P is gives

pub went_tells :
    {told : Bool} {device : Device} {before now : ℕ} {pool later : Pool} {old new : MergeInto} {answer : Option Run} → answer ≡ None
    → TurnTells told device before now pool later old new answer → WentOn told device before now pool later old new
went_tells {told = told} {device = device} {before = before} {now = now} {pool = pool} {later = later} {old = old} {new = new} is tells =
    let P : Option Run → Type 0 = λ answer. TurnTells told device before now pool later old new answer in subst P is tells

pub done_tells :
    (told : Bool) (device : Device) {before now : ℕ} {pool : Pool} (later : Pool) {old : MergeInto} (new : MergeInto) {answer : Option Run} {run : Run}
    → answer ≡ Some run → TurnTells told device before now pool later old new answer → ListDone before now pool old run
done_tells told device {before = before} {now = now} {pool = pool} later {old = old} new is tells =
    let P : Option Run → Type 0 = λ answer. TurnTells told device before now pool later old new answer in subst P is tells

-- the calls by pages of one turn after another
pub pages_again :
    {a b c : ℕ} {pool then later : Pool} {old mid new : MergeInto} → WentByPages a b pool then old mid → WentByPages b c then later mid new
    → WentByPages a c pool later old new
pages_again one two = record { further = omega (arith, one.further, two.further); calls = omega (arith, one.calls, two.calls, one.further, two.further) }

pub pages_done :
    {a b c : ℕ} {pool then : Pool} {old mid : MergeInto} {run : Run} → WentByPages a b pool then old mid → DoneByPages b c then mid run
    → DoneByPages a c pool old run
pages_done one two = record { further = omega (arith, one.further, two.further); calls = omega (arith, one.calls, two.calls, one.further, two.further) }

pub some_gives :
    {told : Bool} {right page : ℕ → List ℕ} {merge : Merge} {earlier : List ℕ} {pool : Pool} {into : MergeInto} {answer : Bool}
    → answer ≡ true → AdvanceGives told right merge earlier page pool into (Ok answer) → Gathers told right merge earlier page pool into
some_gives {told = told} {right = right} {page = page} {merge = merge} {earlier = earlier} {pool = pool} {into = into} is gives =
    let P : Bool → Type 0 = λ answer. AdvanceGives told right merge earlier page pool into (Ok answer) in subst P is gives

pub none_gives :
    {told : Bool} {right page : ℕ → List ℕ} {merge : Merge} {earlier : List ℕ} {pool : Pool} {into : MergeInto} {answer : Bool}
    → answer ≡ false → AdvanceGives told right merge earlier page pool into (Ok answer) → GathersAll told right merge earlier page pool into
none_gives {told = told} {right = right} {page = page} {merge = merge} {earlier = earlier} {pool = pool} {into = into} is gives =
    let P : Bool → Type 0 = λ answer. AdvanceGives told right merge earlier page pool into (Ok answer) in subst P is gives

pub some_tells :
    {told : Bool} (device : Device) {later_device : Device} {before now : ℕ} {pool later : Pool} {old new : MergeInto} {answer : Bool} → answer ≡ true
    → AdvanceTells told device later_device before now pool later old new answer → WentOn told later_device before now pool later old new
some_tells {told = told} device {later_device = later_device} {before = before} {now = now} {pool = pool} {later = later} {old = old} {new = new} is tells =
    let P : Bool → Type 0 = λ answer. AdvanceTells told device later_device before now pool later old new answer in subst P is tells

pub none_tells :
    {told : Bool} {device later_device : Device} {before now : ℕ} {pool later : Pool} {old new : MergeInto} {answer : Bool} → answer ≡ false
    → AdvanceTells told device later_device before now pool later old new answer → CameToEnd told device later_device before now pool later old new
none_tells {told = told} {device = device} {later_device = later_device} {before = before} {now = now} {pool = pool} {later = later} {old = old} {new = new} is tells =
    let P : Bool → Type 0 = λ answer. AdvanceTells told device later_device before now pool later old new answer in subst P is tells

-- a count that rose in one of two parts rose in both together
pub rose_again :
    (spent calls before mid now : ℕ) → before ≤ mid → mid ≤ now → (0 < spent → Rose before mid) → (0 < calls → Rose mid now)
    → 0 < spent + calls → Rose before now
rose_again spent calls before mid now one two first second some =
    elim (cases_lt 0 spent) [
      | inl earlier ↦ omega (arith, first earlier, one, two)
      | inr none ↦ omega (arith, second (omega (arith, none, some)), one, two)
    ]

-- calls that were made after others
pub counts_again : {a b c : ℕ} (old mid new : ℕ) → old ≤ mid → mid ≤ new → Counts (mid - old) a b → Counts (new - mid) b c → Counts (new - old) a c
counts_again {a = a} {c = c} old mid new one two first second =
    let P : ℕ → Type 0 = λ n. Counts n a c in
    let sum : (mid - old) + (new - mid) ≡ new - old = omega (arith, one, two) in
    subst P sum (counts_more first second)

-- a count that rose after some calls rose from before them
pub rose_after : {calls before mid now : ℕ} → Counts calls before mid → Rose mid now → Rose before now
rose_after {mid = mid} counts rose =
    elim (cases_lt mid last_count) [
      | inl below ↦ omega (arith, counts.exact below, rose)
      | inr last ↦ omega (arith, last, rose)
    ]

-- a count that rose by some calls rose
pub counts_rose : {calls before now : ℕ} → 0 < calls → Counts calls before now → Rose before now
counts_rose {now = now} some counts =
    elim (cases_lt now last_count) [
      | inl below ↦ omega (arith, counts.exact below, some)
      | inr last ↦ omega (arith, last)
    ]

-- calls at a failure that was met after others
pub failed_again :
    (T : Type 0) {calls : ℕ} (a b c : ℕ) (fault : PageFault) → Counts calls a b → CallsAtFault {T = T} b c (Err fault)
    → CallsAtFault {T = T} a c (Err fault)
failed_again T a b c Flash counts failed = rose_after counts failed
failed_again T a b c (Damaged page slot found) counts failed = failed
