-- How what one call leaves of a device goes on over several of them.
use Rattle.std.proofs.Common.{◌≡◌, ℕ, ◌+◌, ◌≤◌, ◌∙◌, ap, refl, List, Bool, arith}
use Rattle.edge_traits.specs.Devices.{Device, next, Counts, KeepsPages, SamePage, ChangesOnly, IsErased, GaveSince}

-- a device keeps what it is
pub kept_same : (a : Device) → KeepsPages a a
kept_same a = record { name = refl; page_count = refl; page = refl; others = refl; blank = refl; never_falls = omega arith; gave = λ at page bytes gave. gave }

pub kept_trans : {a b c : Device} → KeepsPages a b → KeepsPages b c → KeepsPages a c
kept_trans first second = record {
  name = second.name ∙ first.name;
  page_count = second.page_count ∙ first.page_count;
  page = second.page ∙ first.page;
  others = second.others ∙ first.others;
  blank = second.blank ∙ first.blank;
  never_falls = omega (arith, first.never_falls, second.never_falls);
  gave = λ at page bytes gave. second.gave at page bytes (first.gave at page bytes gave);
}

pub same_trans : {a b c : Device} {page : ℕ} → SamePage a b page → SamePage b c page → SamePage a c page
same_trans first second = record { bytes = second.bytes ∙ first.bytes; blank = second.blank ∙ first.blank }

pub same_kept : {a b : Device} → KeepsPages a b → (page : ℕ) → SamePage a b page
same_kept kept page = record { bytes = ap (λ f. f page) kept.page; blank = ap (λ f. f page) kept.blank }

pub changes_trans : {a b c : Device} {low high : ℕ} → ChangesOnly low high a b → ChangesOnly low high b c → ChangesOnly low high a c
changes_trans first second = record {
  name = second.name ∙ first.name;
  page_count = second.page_count ∙ first.page_count;
  below = λ page before. same_trans (first.below page before) (second.below page before);
  above = λ page behind. same_trans (first.above page behind) (second.above page behind);
  others = second.others ∙ first.others;
  never_falls = omega (arith, first.never_falls, second.never_falls);
  gave = λ at page bytes gave. second.gave at page bytes (first.gave at page bytes gave);
}

-- what changed lies in a wider part as well
pub changes_wider :
    {a b : Device} {low high : ℕ} → ChangesOnly low high a b → (lower higher : ℕ) → lower ≤ low → high ≤ higher
    → ChangesOnly lower higher a b
changes_wider changes lower higher down up = record {
  name = changes.name;
  page_count = changes.page_count;
  below = λ page before. changes.below page (omega arith);
  above = λ page behind. changes.above page (omega arith);
  others = changes.others;
  never_falls = changes.never_falls;
  gave = changes.gave;
}

pub changes_kept : {a b : Device} → KeepsPages a b → (low high : ℕ) → ChangesOnly low high a b
changes_kept kept low high = record {
  name = kept.name;
  page_count = kept.page_count;
  below = λ page before. same_kept kept page;
  above = λ page behind. same_kept kept page;
  others = kept.others;
  never_falls = kept.never_falls;
  gave = kept.gave;
}

-- what a read gave it gave, and it did so after fewer calls as well
pub gave_kept :
    {since : ℕ} {a b : Device} {bytes : List ℕ} {page : ℕ} → KeepsPages a b → GaveSince since a bytes page → GaveSince since b bytes page
gave_kept {bytes = bytes} {page = page} kept read =
    record { at = read.at; from = read.from; gave = kept.gave read.at page bytes read.gave }

pub gave_changed :
    {since low high : ℕ} {a b : Device} {bytes : List ℕ} {page : ℕ} → ChangesOnly low high a b → GaveSince since a bytes page
    → GaveSince since b bytes page
gave_changed {bytes = bytes} {page = page} changes read =
    record { at = read.at; from = read.from; gave = changes.gave read.at page bytes read.gave }

pub gave_earlier :
    {since earlier : ℕ} {device : Device} {bytes : List ℕ} {page : ℕ} → earlier ≤ since → GaveSince since device bytes page
    → GaveSince earlier device bytes page
gave_earlier down read = record { at = read.at; from = omega (arith, read.from); gave = read.gave }

-- two changes next to each other are one of both parts
pub changes_joined :
    {a b c : Device} {low middle high : ℕ} → low ≤ middle → middle ≤ high
    → ChangesOnly low middle a b → ChangesOnly middle high b c → ChangesOnly low high a c
changes_joined {low = low} {middle = middle} {high = high} down up first second =
    changes_trans (changes_wider first low high (omega arith) up) (changes_wider second low high down (omega arith))

-- a part of what is erased is erased, and it stays so where nothing of it changed
pub erased_part :
    {told : Bool} {low high : ℕ} {device : Device} → IsErased told low high device → (lower higher : ℕ) → low ≤ lower → higher ≤ high
    → IsErased told lower higher device
erased_part erased lower higher up down = record {
  blank = λ page from to. erased.blank page (omega arith) (omega arith);
  bytes = λ told page from to. erased.bytes told page (omega arith) (omega arith);
}

pub erased_above :
    {told : Bool} {low high from to : ℕ} {a b : Device} → ChangesOnly low high a b → high ≤ from → IsErased told from to a
    → IsErased told from to b
erased_above changes apart erased = record {
  blank = λ page up down. (changes.above page (omega arith)).blank ∙ erased.blank page up down;
  bytes = λ told page up down. (changes.above page (omega arith)).bytes ∙ erased.bytes told page up down;
}

pub erased_below :
    {told : Bool} {low high from to : ℕ} {a b : Device} → ChangesOnly low high a b → to ≤ low → IsErased told from to a
    → IsErased told from to b
erased_below changes apart erased = record {
  blank = λ page up down. (changes.below page (omega arith)).blank ∙ erased.blank page up down;
  bytes = λ told page up down. (changes.below page (omega arith)).bytes ∙ erased.bytes told page up down;
}

-- counts of calls add up
pub counts_none : (n : ℕ) → Counts 0 n n
counts_none n = record { most = omega arith; exact = λ below. omega arith }

pub counts_next : {before now : ℕ} → now ≡ next before → Counts 1 before now
counts_next is = record { most = omega arith; exact = λ below. omega arith }

pub counts_more : {first second a b c : ℕ} → Counts first a b → Counts second b c → Counts (first + second) a c
counts_more ab bc = record {
  most = omega arith;
  exact = λ below. omega (arith, ab.exact, bc.exact);
}
