-- Areas one behind another are those of a reduction.
use Rattle.std.proofs.Common.{◌≡◌, ◌≢◌, ◌∙◌, ℕ, ◌+◌, ◌*◌, ◌/◌, ◌%◌, ◌^◌, ◌<◌, ◌≤◌, ◌⊎◌, inl, inr, ◌||◌, Bool, true, false, [], ◌∷◌, ap, sym, refl, subst, arith}
use Rattle.std.specs.Prelude.{Option, None, IfSome}
use Rattle.std.proofs.lemmas.Bool.Decides.{nat_tests}
use Rattle.ghost_model.specs.forms.Runs.{pages_of}
use Rattle.ghost_base.specs.declared.runs.Run.{Run}
use Rattle.ghost_base.specs.Runs.{run_of}
use Rattle.edge_traits.specs.Devices.{Device}
use Rattle.page_pool.specs.Pools.{Pool, AreOut, bytes_at, free_count, page_at}
use Rattle.flash_pages.specs.Cursors.{IsPageOf}
use Rattle.flash_pages.specs.Reads.{CanRead}
use Rattle.flash_pages.specs.Runs.{HasRun}
use Rattle.spill_pass.specs.declared.groups.PlacedLists.{PlacedLists}
use Rattle.spill_pass.specs.declared.places.PlaceReader.{PlaceReader}
use Rattle.spill_pass.specs.declared.reduce.Areas.{Areas}
use Rattle.spill_pass.specs.Grouping.{AreApart}
use Rattle.spill_pass.specs.Merging.{IsArea, area_pages}
use Rattle.spill_pass.specs.Places.{CanGive, CanReadPlaces, is_of, source_of}
use Rattle.spill_pass.specs.Reducing.{CanReduce, HasAreas, IsForLists, IsForPlaces}
use Rattle.spill_pass.specs.Sources.{UsesOutside}
use Rattle.merge_tests.specs.Laying.{LiesFrom, IsBefore, HasRoomFor}

-- a reader at the first of some places
pub record ReadsPlaced (placed : PlacedLists) (reader : PlaceReader) : Type 0 where
  pub places : reader.places ≡ placed.places
  pub lists : reader.lists ≡ placed.lists
  pub at : reader.at ≡ 0
  pub next : reader.next ≡ 0

or_true : (a b : Bool) → (a || b) ≡ true → (a ≡ true) ⊎ (b ≡ true)
or_true true b is = inl refl
or_true false b is = inr is

before_end : (run : Run) (width page : ℕ) → is_of run width page ≡ true → page < run.first + pages_of run.count width
before_end run width page is = grind (arith, nat_tests)

fewer : (n : ℕ) → area_pages n ≤ area_pages (n + 1)
fewer n = omega arith

some : (n : ℕ) → 64 ≤ area_pages (n + 1)
some n = omega arith

whole : (n : ℕ) → area_pages n % 64 ≡ 0
whole n = omega arith

-- pages in units, so that places of areas are sums
one_area : (device : Device) (first at rows most : ℕ) → first ≡ at → at % 64 ≡ 0 → area_pages rows ≤ most → at + most ≤ device.page_count → device.page_count < 2 ^ 32 → IsArea device first rows
one_area device first at rows most is block few there small = record {
  block = omega (arith, is, block);
  there = omega (arith, is, few, there);
  small = small;
}

aligned : (first a : ℕ) → first % 64 ≡ 0 → a % 64 ≡ 0 → (first + a) % 64 ≡ 0
aligned first a one two = omega (arith, one, two)

-- of two areas one lies behind the other
in_order : (a b p q A B : ℕ) → a ≡ p → b ≡ q → p + A ≤ q → AreApart a (a + A) b (b + B)
in_order a b p q A B first second less = inl (omega (arith, first, second, less))

swapped : (a b p q A B : ℕ) → a ≡ p → b ≡ q → q + B ≤ p → AreApart a (a + A) b (b + B)
swapped a b p q A B first second less = inr (omega (arith, first, second, less))

same_place : {A : Type 0} (a b p : ℕ) → a ≡ p → b ≡ p → a ≢ b → A
same_place a b p first second differs = absurd (differs (first ∙ sym second))

pub has_areas :
    {device : Device} (first rows size : ℕ) (areas : Areas) → LiesFrom first rows size areas → HasRoomFor device first rows size → HasAreas device areas rows size
has_areas {device = device} first rows size areas lies room =
    let A = area_pages (rows + 1) in
    let B = area_pages (size + 1) in
    let a = fewer rows in
    let b = fewer size in
    let wa = whole (rows + 1) in
    let wb = whole (size + 1) in
    let there : first + 3 * A + 2 * B ≤ device.page_count = room.pages in
    record {
      lists = λ at is. elim is [
        | inl e ↦ one_area device at first rows A (e ∙ lies.to) room.block a (omega (arith, there)) room.small
        | inr rest ↦ elim rest [
          | inl e ↦ one_area device at (first + A) rows A (e ∙ lies.lists) (aligned first A room.block wa) a (omega (arith, there)) room.small
          | inr e ↦ one_area device at (first + 2 * A) rows A (e ∙ lies.other_lists) (aligned first (2 * A) room.block (omega (arith, wa))) a (omega (arith, there)) room.small
        ]
      ];
      places = λ at is. elim is [
        | inl e ↦ one_area device at (first + 3 * A) size B (e ∙ lies.places) (aligned first (3 * A) room.block (omega (arith, wa))) b (omega (arith, there)) room.small
        | inr e ↦ one_area device at (first + 3 * A + B) size B (e ∙ lies.other_places) (aligned (first + 3 * A) B (aligned first (3 * A) room.block (omega (arith, wa))) wb) b (omega (arith, there)) room.small
      ];
      lists_apart = λ at other is is_other differs. elim is [
        | inl e ↦ elim is_other [
          | inl f ↦ same_place at other first (e ∙ lies.to) (f ∙ lies.to) differs
          | inr rest ↦ elim rest [
            | inl f ↦ in_order at other first (first + A) (area_pages rows) (area_pages rows) (e ∙ lies.to) (f ∙ lies.lists) (omega (arith, a))
            | inr f ↦ in_order at other first (first + 2 * A) (area_pages rows) (area_pages rows) (e ∙ lies.to) (f ∙ lies.other_lists) (omega (arith, a))
          ]
        ]
        | inr here ↦ elim here [
          | inl e ↦ elim is_other [
            | inl f ↦ swapped at other (first + A) first (area_pages rows) (area_pages rows) (e ∙ lies.lists) (f ∙ lies.to) (omega (arith, a))
            | inr rest ↦ elim rest [
              | inl f ↦ same_place at other (first + A) (e ∙ lies.lists) (f ∙ lies.lists) differs
              | inr f ↦ in_order at other (first + A) (first + 2 * A) (area_pages rows) (area_pages rows) (e ∙ lies.lists) (f ∙ lies.other_lists) (omega (arith, a))
            ]
          ]
          | inr e ↦ elim is_other [
            | inl f ↦ swapped at other (first + 2 * A) first (area_pages rows) (area_pages rows) (e ∙ lies.other_lists) (f ∙ lies.to) (omega (arith, a))
            | inr rest ↦ elim rest [
              | inl f ↦ swapped at other (first + 2 * A) (first + A) (area_pages rows) (area_pages rows) (e ∙ lies.other_lists) (f ∙ lies.lists) (omega (arith, a))
              | inr f ↦ same_place at other (first + 2 * A) (e ∙ lies.other_lists) (f ∙ lies.other_lists) differs
            ]
          ]
        ]
      ];
      places_apart = λ at other is is_other differs. elim is [
        | inl e ↦ elim is_other [
          | inl f ↦ same_place at other (first + 3 * A) (e ∙ lies.places) (f ∙ lies.places) differs
          | inr f ↦ in_order at other (first + 3 * A) (first + 3 * A + B) (area_pages size) (area_pages size) (e ∙ lies.places) (f ∙ lies.other_places) (omega (arith, b))
        ]
        | inr e ↦ elim is_other [
          | inl f ↦ swapped at other (first + 3 * A + B) (first + 3 * A) (area_pages size) (area_pages size) (e ∙ lies.other_places) (f ∙ lies.places) (omega (arith, b))
          | inr f ↦ same_place at other (first + 3 * A + B) (e ∙ lies.other_places) (f ∙ lies.other_places) differs
        ]
      ];
      apart = λ at other is is_other.
          let behind : first + 3 * A ≤ other = elim is_other [ inl f ↦ omega (arith, f, lies.places) | inr f ↦ omega (arith, f, lies.other_places) ] in
          let before : at + area_pages rows ≤ first + 3 * A = elim is [
            | inl e ↦ omega (arith, e, lies.to, a)
            | inr rest ↦ elim rest [ inl e ↦ omega (arith, e, lies.lists, a) | inr e ↦ omega (arith, e, lies.other_lists, a) ]
          ] in
          inl (omega (arith, behind, before));
      two_lists = λ same. absurd (omega (arith, same, lies.lists, lies.other_lists, some rows));
      two_places = λ same. absurd (omega (arith, same, lies.places, lies.other_places, some size));
    }

behind_lists : (first rows size at : ℕ) (areas : Areas) → LiesFrom first rows size areas → IsForLists areas at → first ≤ at
behind_lists first rows size at areas lies is =
    elim is [
      | inl e ↦ omega (arith, e, lies.to)
      | inr rest ↦ elim rest [ inl e ↦ omega (arith, e, lies.lists) | inr e ↦ omega (arith, e, lies.other_lists) ]
    ]

behind_places : (first rows size at : ℕ) (areas : Areas) → LiesFrom first rows size areas → IsForPlaces areas at → first ≤ at
behind_places first rows size at areas lies is = elim is [ inl e ↦ omega (arith, e, lies.places) | inr e ↦ omega (arith, e, lies.other_places) ]

pub uses_in_front :
    (first at high : ℕ) (reader : PlaceReader) → IsBefore first reader.lists 4 → IsBefore first reader.places 8 → first ≤ at
    → UsesOutside at high (source_of reader)
uses_in_front first at high reader lists places behind =
    λ page is. elim (or_true (is_of reader.places 8 page) (is_of reader.lists 4 page) is) [
      | inl of_places ↦ inl (omega (arith, before_end reader.places 8 page of_places, places.pages, behind))
      | inr of_lists ↦ inl (omega (arith, before_end reader.lists 4 page of_lists, lists.pages, behind))
    ]

uses_before :
    (first at high : ℕ) (placed : PlacedLists) (reader : PlaceReader) → ReadsPlaced placed reader → IsBefore first placed.lists 4 → IsBefore first placed.places 8
    → first ≤ at → UsesOutside at high (source_of reader)
uses_before first at high placed reader reads lists places behind =
    let L : Run → Type 0 = λ run. IsBefore first run 4 in
    let P : Run → Type 0 = λ run. IsBefore first run 8 in
    uses_in_front first at high reader (subst L (sym reads.lists) lists) (subst P (sym reads.places) places) behind

-- the first of lists one behind another
pub fewer_before : (first count width : ℕ) (run : Run) → (count ≤ run.count → pages_of count width ≤ pages_of run.count width) → count ≤ run.count → IsBefore first run width → IsBefore first (record run { count = count }) width
fewer_before first count width run less few is = record { width_is = is.width_is; pages = omega (arith, is.pages, less few) }

pub fewer_fours : (few many : ℕ) → few ≤ many → pages_of few 4 ≤ pages_of many 4
fewer_fours few many less = omega (arith, less)

pub fewer_eights : (few many : ℕ) → few ≤ many → pages_of few 8 ≤ pages_of many 8
fewer_eights few many less = omega (arith, less)

pub fewer_there : {device : Device} (run : Run) (count : ℕ) → count ≤ run.count → HasRun device (run_of run) → HasRun device (run_of (record run { count = count }))
fewer_there run count few is = record {
  some = is.some;
  fits = is.fits;
  pages = λ i within. is.pages i (omega (arith, within, few));
  small = is.small;
}

pub can_reduce :
    {device : Device} {pool : Pool} (first rows room lists_lease places_lease : ℕ) (areas : Areas) (placed : PlacedLists) (reader : PlaceReader)
    → LiesFrom first rows placed.places.count areas → HasRoomFor device first rows placed.places.count → ReadsPlaced placed reader
    → IsBefore first placed.lists 4 → IsBefore first placed.places 8 → placed.lists.count ≤ rows → rows < 2000000
    → AreOut pool (reader.lease ∷ places_lease ∷ lists_lease ∷ []) → room ≤ free_count pool + 3
    → CanReduce device pool (source_of reader) areas rows room lists_lease places_lease
can_reduce {device = device} first rows room lists_lease places_lease areas placed reader lies has reads lists places few small are buffers =
    let count = ap (λ (r : Run). r.count) reads.places in
    let ids = ap (λ (r : Run). r.count) reads.lists in
    let H : ℕ → Type 0 = λ n. HasAreas device areas rows n in
    let left : (source_of reader).lists_left ≡ placed.places.count = omega (arith, count, reads.at) in
    record {
      leases = are;
      buffers = buffers;
      areas_are = subst H (sym left) (has_areas first rows placed.places.count areas lies has);
      few = omega (arith, small);
      lists_outside = λ at is. uses_before first at (at + area_pages rows) placed reader reads lists places (behind_lists first rows placed.places.count at areas lies is);
      places_outside = λ at is.
          uses_before first at (at + area_pages (source_of reader).lists_left) placed reader reads lists places
          (behind_places first rows placed.places.count at areas lies is);
      ids = omega (arith, ids, few);
    }

run_there : {device : Device} (run : Run) (width first : ℕ) → run.width ≡ width → (0 < width) × (width ≤ 2048) → ((i : ℕ) → i < run.count → run.first + i / (2048 / width) < first) → first ≤ device.page_count → device.page_count < 2 ^ 32 → HasRun device (run_of run)
run_there {device = device} run width first is fits pages there small = record {
  some = omega (arith, is, fits.0);
  fits = omega (arith, is, fits.1);
  pages = let P : ℕ → Type 0 = λ w. (i : ℕ) → i < run.count → run.first + i / (2048 / w) < device.page_count in subst P (sym is) (λ i within. omega (arith, pages i within, there));
  small = small;
}

eighth : (at count first i : ℕ) → at + pages_of count 8 ≤ first → i < count → at + i / 256 < first
eighth at count first i few within = omega (arith, few, within)

fourth : (at count first i : ℕ) → at + pages_of count 4 ≤ first → i < count → at + i / 512 < first
fourth at count first i few within = omega (arith, few, within)

pub can_give_from :
    {device : Device} {pool : Pool} (first rows : ℕ) (placed : PlacedLists) (reader : PlaceReader) → HasRoomFor device first rows placed.places.count
    → ReadsPlaced placed reader → IsBefore first placed.lists 4 → IsBefore first placed.places 8 → placed.lists.count ≤ rows → rows < 2000000
    → page_at pool reader.lease ≡ None → AreOut pool (reader.lease ∷ [])
    → (HasRun device (run_of placed.places) → placed.places.width ≡ 8 → CanRead true device pool reader.lease → CanReadPlaces true device pool reader)
    → CanGive true device pool reader
can_give_from {device = device} {pool = pool} first rows placed reader has reads lists places few small none out ready =
    let P : Option ℕ → Type 0 = λ page. IfSome page (λ number. true ≡ true → bytes_at pool reader.lease ≡ device.page number) in
    let Q : Option ℕ → Type 0 = λ page. IfSome page (IsPageOf (run_of reader.places)) in
    let R : Run → Type 0 = λ r. HasRun device (run_of r) in
    record {
      places =
          ready
          (run_there placed.places 8 first places.width_is (omega arith, omega arith) (λ i within. eighth placed.places.first placed.places.count first i places.pages within)
          (omega (arith, has.pages)) has.small)
          places.width_is (record { out = out.0; filled = subst P (sym none) tt });
      lists =
          subst R (sym reads.lists)
          (run_there placed.lists 4 first lists.width_is (omega arith, omega arith) (λ i within. fourth placed.lists.first placed.lists.count first i lists.pages within)
          (omega (arith, has.pages)) has.small);
      width = ap (λ (r : Run). r.width) reads.lists ∙ lists.width_is;
      few = omega (arith, ap (λ (r : Run). r.count) reads.lists, few, small);
      holds = subst Q (sym none) tt;
    }
