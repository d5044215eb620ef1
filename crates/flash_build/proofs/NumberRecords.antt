-- Records of numbers: a number of each column.
use Rattle.std.proofs.Common.{◌≡◌, refl, ap, sym, ◌∙◌, ℕ, zero, suc, ◌+◌, ◌*◌, ◌<◌, List, [], ◌∷◌, ◌++◌, length, map, take, flat_map, get_or, slice_index, Vec, arith}
use Rattle.std.specs.Global.{Global}
use Rattle.std.specs.Vec.{vec_len}
use Rattle.std.specs.List.{range_with_len}
use Rattle.std.proofs.lemmas.List.{length-map, get_or-map, take_more, append-nil, append_assoc, length-append}
use Rattle.std.proofs.lemmas.List.FromFn.{length-range_with_len}
use Rattle.ghost_model.specs.forms.Runs.{number_cell}
use Rattle.ghost_model.specs.forms.Layout.{below}
use Rattle.flash_build.specs.Levels.{items_of, numbers_record, numbers_records}

default_same : {X : Type 0} (xs : List X) (k : ℕ) (d e : X) → k < length xs → get_or xs k d ≡ get_or xs k e
default_same [] k d e low = absurd (omega (arith, low))
default_same (x ∷ xs) zero d e low = refl
default_same (x ∷ xs) (suc k) d e low = default_same xs k d e (omega (arith, low))

-- a column by its place
column_at :
    (columns : List (Vec ℕ Global)) (k : ℕ) (column : Vec ℕ Global) → column ≡ get_or columns k column → k < length columns
    → column.items ≡ get_or (map items_of columns) k []
column_at columns k column is low = ap items_of is ∙ sym (get_or-map items_of columns k column [] low)

pub row_within :
    (columns : List (Vec ℕ Global)) (k row : ℕ) (column : Vec ℕ Global) → column ≡ get_or columns k column → k < length columns
    → row < length (get_or (map items_of columns) k []) → row < vec_len column
row_within columns k row column is low within =
    let same = ap length (column_at columns k column is low) in omega (arith, within, same, column.ok)

flat_more : (f : List ℕ → List ℕ) (xs : List (List ℕ)) (y : List ℕ) → flat_map f (xs ++ y ∷ []) ≡ flat_map f xs ++ f y
flat_more f [] y = append-nil (f y)
flat_more f (x ∷ xs) y = ap (λ zs. f x ++ zs) (flat_more f xs y) ∙ sym (append_assoc (f x) (flat_map f xs) (f y))

pub row_more :
    (columns : List (Vec ℕ Global)) (k row : ℕ) (column : Vec ℕ Global) → column ≡ get_or columns k column → k < length columns
    → row < length (get_or (map items_of columns) k []) → (number : ℕ) → number ≡ get_or column.items row number
    → (old new : List ℕ) → take (4 * k) old ≡ numbers_record (take k (map items_of columns)) row
    → take (4 * k + 4) new ≡ take (4 * k) old ++ number_cell number
    → take (4 * (k + 1)) new ≡ numbers_record (take (k + 1) (map items_of columns)) row
row_more columns k row column is low within number number_is old new was put =
    let all = map items_of columns in
    let many = length-map columns items_of in
    let e : 4 * (k + 1) ≡ 4 * k + 4 = omega arith in
    let here = column_at columns k column is low in
    let there : row < length column.items = (let same = ap length here in omega (arith, within, same)) in
    let value : number ≡ slice_index (get_or all k []) row =
    number_is ∙ (default_same column.items row number 0 there ∙ ap (λ xs. slice_index xs row) here) in
    ap (λ n. take n new) e
    ∙ (put
    ∙ (ap (λ b. b ++ number_cell number) was
    ∙ (ap (λ n. numbers_record (take k all) row ++ number_cell n) value
    ∙ (sym (flat_more (λ c. number_cell (slice_index c row)) (take k all) (get_or all k []))
    ∙ ap (λ xs. numbers_record xs row) (sym (take_more all k [] (omega (arith, low, many))))))))

-- how many records there are, and each by its number
pub records_count : (columns : List (List ℕ)) (rows : ℕ) → length (numbers_records columns rows) ≡ rows
records_count columns rows = length-map (below rows) (numbers_record columns) ∙ length-range_with_len 0 rows

range_get : (a n k : ℕ) → k < n → get_or (range_with_len a n) k 0 ≡ a + k
range_get a zero k low = absurd (omega (arith, low))
range_get a (suc n) zero low = omega arith
range_get a (suc n) (suc k) low = let rest = range_get (a + 1) n k (omega (arith, low)) in omega (arith, rest)

pub records_get : (columns : List (List ℕ)) (rows i : ℕ) → i < rows → get_or (numbers_records columns rows) i [] ≡ numbers_record columns i
records_get columns rows i low =
    let size = length-range_with_len 0 rows in
    let at : get_or (below rows) i 0 ≡ i = (let k = range_get 0 rows i low in omega (arith, k)) in
    get_or-map (numbers_record columns) (below rows) i 0 [] (omega (arith, low, size)) ∙ ap (numbers_record columns) at

cell_length : (number : ℕ) → length (number_cell number) ≡ 4
cell_length number = refl

pub record_width : (columns : List (List ℕ)) (row : ℕ) → length (numbers_record columns row) ≡ 4 * length columns
record_width [] row = refl
record_width (column ∷ columns) row =
    let more = length-append (number_cell (slice_index column row)) (numbers_record columns row) in
    let rest = record_width columns row in
    let one = cell_length (slice_index column row) in
    omega (arith, more, rest, one)
