-- Rows of a reply by their bytes.
use Rattle.std.proofs.Common.{◌≡◌, ℕ, zero, suc, ◌+◌, ◌*◌, ◌/◌, ◌<◌, ◌≤◌, List, [], ◌∷◌, ◌++◌, length, map, take, drop, sym, ◌∙◌, ap, refl, arith, length-append}
use Rattle.std.proofs.Math.Nat.{mul-div_cancel, suc-mul}
use Rattle.std.proofs.lemmas.List.{length-drop, take-append-le, drop-append-le, map-append}
use Rattle.ghost_model.specs.core.Asks.{RowCells, row_in, rows_from}
use Rattle.key_session.specs.Rows.{cut, rows_at, cells_at}

pub cells_cut : (width count : ℕ) (bytes : List ℕ) → rows_from width count bytes ≡ map row_in (cut width count bytes)
unfolding rows_from cut
cells_cut width zero bytes = refl
cells_cut width (suc count) bytes = ap (λ (rows : List RowCells). row_in (take width bytes) ∷ rows) (cells_cut width count (drop width bytes))

-- rows after whole rows
pub cut_joined : (width count more : ℕ) (bytes others : List ℕ) → length bytes ≡ count * width
    → cut width (count + more) (bytes ++ others) ≡ cut width count bytes ++ cut width more others
unfolding cut
cut_joined width zero more [] others size = let none : 0 + more ≡ more = omega arith in ap (λ n. cut width n others) none
cut_joined width zero more (byte ∷ bytes) others size = let bad : ⊥ = omega (arith, size) in absurd bad
cut_joined width (suc count) more bytes others size =
    let next : suc count + more ≡ suc (count + more) = omega arith in
    let product = suc-mul count width in
    let enough : width ≤ length bytes = omega (arith, size, product) in
    let dropped = length-drop width bytes in
    let rest : length (drop width bytes) ≡ count * width = omega (arith, size, product, dropped) in
    ap (λ n. cut width n (bytes ++ others)) next
    ∙ ap (λ (taken : List ℕ). taken ∷ cut width (count + more) (drop width (bytes ++ others))) (take-append-le width bytes others enough)
    ∙ ap (λ (left : List ℕ). take width bytes ∷ cut width (count + more) left) (drop-append-le width bytes others enough)
    ∙ ap (λ (rows : List (List ℕ)). take width bytes ∷ rows) (cut_joined width count more (drop width bytes) others rest)

-- how many rows stand in whole rows, and then in more of them
pub how_many : (width count : ℕ) (bytes : List ℕ) → 0 < width → length bytes ≡ count * width → length bytes / width ≡ count
how_many width count bytes some size = ap (λ n. n / width) size ∙ mul-div_cancel count some

pub sizes_joined : (width count more : ℕ) (bytes others : List ℕ) → length bytes ≡ count * width → length others ≡ more * width
    → length (bytes ++ others) ≡ (count + more) * width
sizes_joined width count more bytes others size rest =
    length-append bytes others ∙ ap (λ n. n + length others) size ∙ ap (λ n. count * width + n) rest ∙ sym (spread count more width)
  where
    spread : (a b c : ℕ) → (a + b) * c ≡ a * c + b * c
    spread a b c = grind arith

pub all_cut : (width count more : ℕ) (bytes others : List ℕ) → 0 < width → length bytes ≡ count * width → length others ≡ more * width
    → cut width (length (bytes ++ others) / width) (bytes ++ others) ≡ cut width (length bytes / width) bytes ++ cut width (length others / width) others
all_cut width count more bytes others some size rest =
    ap (λ n. cut width n (bytes ++ others)) (how_many width (count + more) (bytes ++ others) some (sizes_joined width count more bytes others size rest))
    ∙ (cut_joined width count more bytes others size
    ∙ (ap (λ n. cut width n bytes ++ cut width more others) (sym (how_many width count bytes some size))
    ∙ ap (λ n. cut width (length bytes / width) bytes ++ cut width n others) (sym (how_many width more others some rest))))

-- the same of their identifiers and cells
pub cells_behind : (width count more : ℕ) (bytes others : List ℕ) → 0 < width → length bytes ≡ count * width → length others ≡ more * width
    → cells_at width (bytes ++ others) ≡ cells_at width bytes ++ cells_at width others
cells_behind width count more bytes others some size rest =
    cells_cut width (length (bytes ++ others) / width) (bytes ++ others)
    ∙ (ap (λ (rows : List (List ℕ)). map row_in rows) (all_cut width count more bytes others some size rest)
    ∙ (map-append row_in (rows_at width bytes) (rows_at width others)
    ∙ sym (both (cells_cut width (length bytes / width) bytes) (cells_cut width (length others / width) others))))
  where
    both : {a b c d : List RowCells} → a ≡ b → c ≡ d → a ++ c ≡ b ++ d
    both e f = cc (e, f)
