-- A flash device: its pages by their numbers, which of them are blank, and what was counted of the calls on it. A block is
-- 64 pages, a page 2,048 bytes. The bytes of pages are a function of the page's number: a clause claims something of them
-- only where they are told.
use Rattle.std.specs.Prelude.{◌≡◌, ℕ, ◌+◌, ◌<◌, ◌≤◌, min, Bool, true, false, nat_le, if◌then◌else◌, List, replicate, bytes_eq, Option, Some, None, Result, Ok, Err}
use Rattle.std.proofs.lemmas.Bool.{leb-true}
use Rattle.ghost_model.specs.core.Causes.{Rose, last_count}
use Rattle.edge_traits.specs.declared.flash.AttachFault.{AttachFault}
use Rattle.edge_traits.specs.declared.flash.AttachFault.TheVariants.{Failed, NoMemory}

pub record Device : Type 0 where
  -- the name under which it is open: none before it was made or attached, and after such a call that failed
  pub name : Option (List ℕ)
  -- how many pages there are: none before the device was made or attached
  pub page_count : ℕ
  pub page : ℕ → List ℕ
  -- the pages of the devices of all other names, by name
  pub others : List ℕ → ℕ → List ℕ
  pub blank : ℕ → Bool
  -- the calls so far, that for the number of pages aside
  pub calls : ℕ
  -- the reads so far of a deep page
  pub deep_reads : ℕ
  -- the failed calls so far
  pub faults : ℕ
  -- the calls since the last failed one
  pub since_fault : ℕ
  -- after so many calls, and before now, a read of that page gave these bytes
  pub gave : ℕ → ℕ → List ℕ → Bool

-- Pages from this one on are deep: with version 2 of the format all public pages lie before it
abbrev pub first_deep_page : ℕ
first_deep_page = 256

abbrev pub is_name : Option (List ℕ) → List ℕ → Bool
is_name None name = false
is_name (Some opened) name = bytes_eq opened name

-- the pages of the device of a name, whether it is the one that is open or not
abbrev pub pages_under : Device → List ℕ → ℕ → List ℕ
pages_under device name = if is_name device.name name then device.page else device.others name

-- a count one higher, which stays at its last value
abbrev pub next : ℕ → ℕ
next n = min (n + 1) last_count

-- a call that was made after so many others is among these calls
abbrev pub is_made : (calls at : ℕ) → Bool
is_made calls at = nat_le (next at) calls

pub made_before : (calls at : ℕ) → is_made calls at ≡ true → next at ≤ calls
made_before calls at is = leb-true (next at) calls is

-- a count that is one higher under a condition
abbrev pub next_if : Bool → ℕ → ℕ
next_if counts n = if counts then next n else n

-- a count of calls after some more of them: exact as long as it did not come to its last value
pub record Counts (more before now : ℕ) : Type 0 where
  pub most : now ≤ before + more
  pub exact : now < last_count → now ≡ before + more

-- the calls since the last failed one, after a call with that answer
abbrev pub since_call : {T E : Type 0} → ℕ → Result T E → ℕ
since_call before (Ok value) = next before
since_call before (Err fault) = 0

-- the same for a call that also answers that there is no memory, which is no failure of the device
abbrev pub since_attach : {T : Type 0} → ℕ → Result T AttachFault → ℕ
since_attach before (Ok value) = next before
since_attach before (Err NoMemory) = next before
since_attach before (Err Failed) = 0

-- the count of faults rose where the call failed, and it is as it was after any other answer
abbrev pub AttachTells : {T : Type 0} → ℕ → ℕ → Result T AttachFault → Type 0
AttachTells before now (Ok value) = now ≡ before
AttachTells before now (Err NoMemory) = now ≡ before
AttachTells before now (Err Failed) = Rose before now

pub record AttachCause {T : Type 0} (before now : ℕ) (result : Result T AttachFault) : Type 0 where
  pub never_falls : before ≤ now
  pub tells : AttachTells before now result

-- the device is open as before, and no page changed. What reads gave they gave
pub record KeepsPages (before now : Device) : Type 0 where
  pub name : now.name ≡ before.name
  pub page_count : now.page_count ≡ before.page_count
  pub page : now.page ≡ before.page
  pub others : now.others ≡ before.others
  pub blank : now.blank ≡ before.blank
  pub never_falls : before.calls ≤ now.calls
  pub gave : (at page : ℕ) (bytes : List ℕ) → before.gave at page bytes ≡ true → now.gave at page bytes ≡ true

-- that page is as it was
pub record SamePage (before now : Device) (page : ℕ) : Type 0 where
  pub bytes : now.page page ≡ before.page page
  pub blank : now.blank page ≡ before.blank page

-- the device is open as before, and only pages from `low` on and below `high` changed. What reads gave they gave, of a page
-- that changed as well
pub record ChangesOnly (low high : ℕ) (before now : Device) : Type 0 where
  pub name : now.name ≡ before.name
  pub page_count : now.page_count ≡ before.page_count
  pub below : (page : ℕ) → page < low → SamePage before now page
  pub above : (page : ℕ) → high ≤ page → SamePage before now page
  pub others : now.others ≡ before.others
  pub never_falls : before.calls ≤ now.calls
  pub gave : (at page : ℕ) (bytes : List ℕ) → before.gave at page bytes ≡ true → now.gave at page bytes ≡ true

-- a read from that count of calls on gave these bytes of a page
pub record GaveSince (since : ℕ) (device : Device) (bytes : List ℕ) (number : ℕ) : Type 0 where
  pub at : ℕ
  pub from : since ≤ at
  pub gave : device.gave at number bytes ≡ true

-- the pages from `low` on and below `high` are blank, and where pages are told they are bytes 0xFF
pub record IsErased (told : Bool) (low high : ℕ) (device : Device) : Type 0 where
  pub blank : (page : ℕ) → low ≤ page → page < high → device.blank page ≡ true
  pub bytes : told ≡ true → (page : ℕ) → low ≤ page → page < high → device.page page ≡ replicate 2048 255

-- none of the pages from `low` on and below `high` is blank
abbrev pub NotBlank : ℕ → ℕ → Device → Type 0
NotBlank low high device = (page : ℕ) → low ≤ page → page < high → device.blank page ≡ false
