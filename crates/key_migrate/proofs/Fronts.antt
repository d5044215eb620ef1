-- The front of the public pages, read page by page, and the catalog that stands there.
use Rattle.std.proofs.Common.{◌≡◌, ap, sym, ◌∙◌, ℕ, ◌+◌, ◌-◌, ◌≤◌, zero, suc, List, [], ◌∷◌, ◌++◌, length, take, drop, flat_map, arith, append_assoc, append-nil, refl, Bool, true, Option, Some, None}
use Rattle.std.specs.List.{range_with_len}
use Rattle.std.specs.Prelude.{IfSome, IfNone}
use Rattle.std.proofs.lemmas.List.{length-append, length-take-le}
use Rattle.std.proofs.lemmas.List.Concat.{flat_map-append}
use Rattle.std.proofs.Math.Seq.{take-append_seam, take-append-add}
use Rattle.ghost_model.specs.core.Channel.{Catalog}
use Rattle.ghost_model.specs.forms.Catalog.{BeginsWithCatalog, catalog_bytes}
use Rattle.ghost_model.specs.laws.CatalogLaws.{NoCatalogIsLong}
use Rattle.ghost_model.specs.forms.Layout.{below, catalog_pages}
use Rattle.edge_traits.specs.Devices.{Device}
use Rattle.flash_build.specs.Sealing.{public_bytes}
use Rattle.key_migrate.specs.PublicPages.{HasCatalog, HasNoCatalog, bytes_before, front_bytes}

-- a page that was put behind those before it
pub with_page : (old new page : List ℕ) (at : ℕ) → at ≤ length old → length page ≡ 2048
    → new ≡ take at old ++ (page ++ drop (at + 2048) old) → take (at + 2048) new ≡ take at old ++ page
with_page old new page at within size is =
    let front = take at old in
    let rest = drop (at + 2048) old in
    let count : at + 2048 ≡ length (front ++ page) =
    omega (arith, length-append front page, length-take-le at old within, size) in
    ap (λ xs. take (at + 2048) xs) (is ∙ sym (append_assoc front page rest))
    ∙ (ap (λ n. take n ((front ++ page) ++ rest)) count ∙ take-append_seam (front ++ page) rest)

range_more : (a n : ℕ) → range_with_len a (suc n) ≡ range_with_len a n ++ (a + n) ∷ []
range_more a zero = let e : a ≡ a + 0 = omega arith in ap (λ k. k ∷ []) e
range_more a (suc n) =
    let e : a + 1 + n ≡ a + suc n = omega arith in
    ap (λ ks. a ∷ ks) (range_more (a + 1) n ∙ ap (λ k. range_with_len (a + 1) n ++ k ∷ []) e)

below_more : (n : ℕ) → below (n + 1) ≡ below n ++ n ∷ []
below_more n =
    let e : n + 1 ≡ suc n = omega arith in
    let same : 0 + n ≡ n = omega arith in
    ap below e ∙ (range_more 0 n ∙ ap (λ k. below n ++ k ∷ []) same)

pub bytes_next : (page : ℕ → List ℕ) (place : ℕ) → bytes_before page place ++ page place ≡ bytes_before page (place + 1)
unfolding bytes_before
bytes_next page place =
    sym (ap (λ places. flat_map page places) (below_more place)
    ∙ (flat_map-append page (below place) (place ∷ []) ∙ ap (λ xs. flat_map page (below place) ++ xs) (append-nil (page place))))

pub none_before : (page : ℕ → List ℕ) → [] ≡ bytes_before page 0
unfolding bytes_before
none_before page = refl

later_bytes : (page : ℕ → List ℕ) → List ℕ
later_bytes page = flat_map page (range_with_len 9 55)

in_two : (page : ℕ → List ℕ) → public_bytes page ≡ front_bytes page ++ later_bytes page
unfolding public_bytes bytes_before later_bytes
in_two page = flat_map-append page (below 9) (range_with_len 9 55)

-- a catalog at the front of the front
pub begins_all : (page : ℕ → List ℕ) (bytes : List ℕ) (cat : Catalog) → bytes ≡ front_bytes page → BeginsWithCatalog bytes cat
    → BeginsWithCatalog (public_bytes page) cat
begins_all page bytes cat are begins = record {
  proper = begins.proper;
  rest = begins.rest ++ later_bytes page;
  begins =
      in_two page
      ∙ (ap (λ xs. xs ++ later_bytes page) (sym are ∙ begins.begins)
      ∙ append_assoc (catalog_bytes cat) begins.rest (later_bytes page));
}

-- none stands past it
pub begins_front : NoCatalogIsLong → (page : ℕ → List ℕ) (bytes : List ℕ) (cat : Catalog) → bytes ≡ front_bytes page → length bytes ≡ 18432
    → BeginsWithCatalog (public_bytes page) cat → BeginsWithCatalog bytes cat
begins_front short page bytes cat are size begins =
    let most = short cat begins.proper in
    let written = catalog_bytes cat in
    let more = 18432 - length written in
    let count : 18432 ≡ length written + more = omega (arith, most) in
    let whole : bytes ++ later_bytes page ≡ written ++ begins.rest =
    ap (λ xs. xs ++ later_bytes page) are ∙ (sym (in_two page) ∙ begins.begins) in
    record {
      proper = begins.proper;
      rest = take more begins.rest;
      begins =
          sym (take-append_seam bytes (later_bytes page))
          ∙ (ap (λ n. take n (bytes ++ later_bytes page)) (size ∙ count)
          ∙ (ap (λ xs. take (length written + more) xs) whole ∙ take-append-add written begins.rest more));
    }

-- what was read of the catalog
pub catalog_there :
    (found : Option Catalog) (device : Device) (bytes : List ℕ) (told : Bool) → catalog_pages ≤ device.page_count
    → (told ≡ true → bytes ≡ front_bytes device.page) → IfSome found (λ cat. BeginsWithCatalog bytes cat)
    → IfSome found (λ cat. told ≡ true → HasCatalog device cat)
catalog_there None device bytes told enough are begins = tt
catalog_there (Some cat) device bytes told enough are begins =
    λ is. record { pages = enough; begins = begins_all device.page bytes cat (are is) begins }

pub none_there :
    NoCatalogIsLong → (found : Option Catalog) (device : Device) (bytes : List ℕ) (told : Bool) → length bytes ≡ 18432
    → (told ≡ true → bytes ≡ front_bytes device.page) → IfNone found ((cat : Catalog) → BeginsWithCatalog bytes cat → ⊥)
    → IfNone found (told ≡ true → HasNoCatalog device)
none_there short (Some cat) device bytes told size are none = tt
none_there short None device bytes told size are none =
    λ is cat has. none cat (begins_front short device.page bytes cat (are is) size has.begins)
