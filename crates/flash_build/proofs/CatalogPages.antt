-- The public pages: their bytes, those that hold none of the catalog's, and what is written so far.
use Rattle.std.proofs.Common.{◌≡◌, ap, sym, ◌∙◌, subst, ℕ, ◌+◌, ◌-◌, ◌*◌, ◌<◌, ◌≤◌, min, Bool, true, zero, suc, inl, inr, List, [], ◌++◌, length, take, drop, replicate, get_or, flat_map, arith, Result, Ok, Err, OnOk}
use Rattle.std.proofs.lemmas.Bool.{cases_lt}
use Rattle.std.proofs.lemmas.List.{take-append-drop, take_min, drop_all, drop-replicate, length-drop, length-take}
use Rattle.ghost_model.specs.core.Channel.{Catalog}
use Rattle.ghost_model.specs.forms.Catalog.{catalog_bytes}
use Rattle.ghost_model.specs.forms.Flash.{catalog_page}
use Rattle.ghost_model.specs.forms.Layout as layout
use Rattle.ghost_model.specs.forms.Layout.{below}
use Rattle.ghost_model.specs.laws.ShortWords.{catalog_pages}
use Rattle.edge_traits.specs.Devices.{Device, Counts, ChangesOnly}
use Rattle.edge_traits.proofs.DeviceFrames.{changes_trans, changes_wider}
use Rattle.flash_build.specs.Sealing.{HoldsFrom, SpellsNoCatalog, public_bytes}

-- a page of some bytes at its front and 0xFF after them
front_and_rest :
    (left out : List ℕ) (n : ℕ) → n ≡ min 2048 (length left) → take n out ≡ take n left → drop n out ≡ drop n (replicate 2048 255)
    → out ≡ take 2048 left ++ replicate (2048 - length (take 2048 left)) 255
front_and_rest left out n is front rest =
    let same : take n left ≡ take 2048 left = ap (λ k. take k left) is ∙ take_min 2048 left in
    let count : n ≡ length (take 2048 left) = is ∙ sym (length-take 2048 left) in
    sym (take-append-drop n out)
    ∙ (ap (λ xs. xs ++ drop n out) (front ∙ same)
    ∙ ap (λ xs. take 2048 left ++ xs) (rest ∙ (drop-replicate n 2048 255 ∙ ap (λ k. replicate (2048 - k) 255) count)))

pub whole_page :
    (bytes out : List ℕ) (at n : ℕ) → n ≡ min 2048 (length bytes - at)
    → take n out ≡ take n (drop at bytes) → drop n out ≡ drop n (replicate 2048 255)
    → out ≡ take 2048 (drop at bytes) ++ replicate (2048 - length (take 2048 (drop at bytes))) 255
whole_page bytes out at n is front rest =
    front_and_rest (drop at bytes) out n (is ∙ ap (λ k. min 2048 k) (sym (length-drop at bytes))) front rest

-- behind the catalog's bytes
pub blank_place : (cat : Catalog) (place : ℕ) → catalog_pages cat ≤ place → replicate 2048 255 ≡ catalog_page cat place
blank_place cat place behind =
    let none : drop (place * 2048) (catalog_bytes cat) ≡ [] = drop_all (place * 2048) (catalog_bytes cat) (omega (arith, behind)) in
    sym (ap (λ xs. take 2048 xs ++ replicate (2048 - length (take 2048 xs)) 255) none)

-- page 0 as it was erased
pub spells_none : (page : ℕ → List ℕ) → page 0 ≡ replicate 2048 255 → SpellsNoCatalog page
unfolding public_bytes
spells_none page blank = λ cat begins.
    let first : get_or (page 0 ++ flat_map page (drop 1 (below layout.catalog_pages))) 0 0 ≡ 71 = ap (λ xs. get_or xs 0 0) begins.begins in
    let other : 255 ≡ 71 = sym (ap (λ xs. get_or (xs ++ flat_map page (drop 1 (below layout.catalog_pages))) 0 0) blank) ∙ first in
    absurd (omega (arith, other))

-- the pages from one on are written
pub record LaterPages (told : Bool) (cat : Catalog) (before now : Device) (left : ℕ) : Type 0 where
  pub holds : told ≡ true → HoldsFrom left now.page cat
  pub others : ChangesOnly left (catalog_pages cat) before now
  pub exact : Counts (catalog_pages cat - left) before.calls now.calls
  pub deep_reads : now.deep_reads ≡ before.deep_reads
  pub faults : now.faults ≡ before.faults
  pub some : 0 < left
  pub few : left ≤ 9
  pub most : left ≤ catalog_pages cat

-- one page more, before them
pub holds_more :
    {told : Bool} (cat : Catalog) {b c : Device} (left : ℕ) → 0 < left → (told ≡ true → HoldsFrom left b.page cat)
    → ChangesOnly (left - 1) (left - 1 + 1) b c → (told ≡ true → c.page (left - 1) ≡ catalog_page cat (left - 1))
    → told ≡ true → HoldsFrom (left - 1) c.page cat
holds_more cat {b = b} {c = c} left some were changes last told = λ place from within.
    elim (cases_lt (left - 1) place) [
      | inl later ↦ (changes.above place (omega arith)).bytes ∙ were told place (omega arith) within
      | inr here ↦
          let e : left - 1 ≡ place = omega arith in
          subst (λ k. c.page k ≡ catalog_page cat k) e (last told)
    ]

pub changes_down :
    {a b c : Device} (left pages : ℕ) → 0 < left → left ≤ pages → ChangesOnly left pages a b → ChangesOnly (left - 1) (left - 1 + 1) b c
    → ChangesOnly (left - 1) pages a c
changes_down left pages some most first second =
    changes_trans (changes_wider first (left - 1) pages (omega arith) (omega arith))
    (changes_wider second (left - 1) pages (omega arith) (omega arith))

-- page 0 after the others
from_first :
    (cat : Catalog) {page : ℕ → List ℕ} → HoldsFrom 1 page cat → page 0 ≡ catalog_page cat 0
    → (place : ℕ) → place < layout.catalog_pages → page place ≡ catalog_page cat place
from_first cat later first zero within = first
from_first cat later first (suc place) within = later (suc place) (omega arith) within

pub holds_all :
    {T E : Type 0} {told : Bool} (cat : Catalog) {b c : Device} (result : Result T E) → (told ≡ true → HoldsFrom 1 b.page cat)
    → ChangesOnly 0 1 b c → OnOk result (told ≡ true → c.page 0 ≡ catalog_page cat 0)
    → OnOk result (told ≡ true → (place : ℕ) → place < layout.catalog_pages → c.page place ≡ catalog_page cat place)
holds_all cat (Ok value) later changes first = λ told. from_first cat (λ place from within. (changes.above place from).bytes ∙ later told place from within) (first told)
holds_all cat (Err fault) later changes first = tt

-- a page that was written as it was to be
pub written_as :
    {T E : Type 0} (told : Bool) (page : List ℕ) {bytes other : List ℕ} (result : Result T E) → OnOk result (told ≡ true → page ≡ bytes) → bytes ≡ other
    → OnOk result (told ≡ true → page ≡ other)
written_as told page (Ok value) written same = λ is. written is ∙ same
written_as told page (Err fault) written same = tt
