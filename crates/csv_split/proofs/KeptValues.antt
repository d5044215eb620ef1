-- Values in cells of one width: how many there are, the one at a place, and one more.
use Rattle.std.proofs.Common.{◌≡◌, ◌≤◌, ◌<◌, ◌+◌, ◌*◌, ◌∙◌, ℕ, zero, suc, pos, List, [], ◌∷◌, ◌++◌, length, take, drop, get_or, Some, refl, sym, ap, subst, arith, length-append}
use Rattle.std.proofs.lemmas.List.{drop-append-le, take-append-le, take_all, drop_all, drop-drop, length-drop}
use Rattle.std.specs.Prelude.{IsTrue, slice_get, option_map, unwrap_or}
use Rattle.std.proofs.lemmas.Nat.{mul-le}
use Rattle.std.proofs.lemmas.Option.{slice_get-get_or}
use Rattle.ghost_model.specs.core.Schema.{Kind, Integer, Chars, IntegerOrNull, CharsOrNull, plain_of}
use Rattle.ghost_model.specs.core.Values.{Value, Null, Number}
use Rattle.ghost_model.specs.core.Database.{is_of_kind}
use Rattle.ghost_model.specs.forms.Cells.{cell_width, encode_cell}
use Rattle.ghost_model.specs.readings.CellReading.{decode_cell}
use Rattle.ghost_model.proofs.ChannelLemmas.Asks.{cell_length}
use Rattle.ghost_base.specs.CellLaws.{IsCellOf}
use Rattle.ghost_base.specs.Views.{kind_of}
use Rattle.ghost_base.proofs.CellSpelling.{reads_back}
use Rattle.csv_split.specs.declared.flat_cells.FlatCells.TheInside.{Inside}
use Rattle.csv_split.specs.FlatCells.{AreValueCells, KeepsValues, ValueList, list_of, value_in, values_of_cells}

pub how_many : (kind : Kind) (width count : ℕ) (cells : List ℕ) → length (values_of_cells kind width count cells) ≡ count
unfolding values_of_cells
how_many kind width zero cells = refl
how_many kind width (suc count) cells = ap suc (how_many kind width count (drop width cells))

-- a cell is at most one byte wider than that of the same values without NULL
pub one_wider_at_most : (kind : Kind) → cell_width (plain_of kind) ≤ 64 → cell_width kind ≤ 65
one_wider_at_most Integer few = omega arith
one_wider_at_most (Chars most) few = omega (arith, few)
one_wider_at_most IntegerOrNull few = omega arith
one_wider_at_most (CharsOrNull most) few = omega (arith, few)

-- the cell at a place
abbrev pub cell_of : (width place : ℕ) → (cells : List ℕ) → List ℕ
cell_of width place cells = take width (drop (place * width) cells)

pub record IsValueAt (kind : Kind) (width place : ℕ) (cells : List ℕ) (values : List Value) : Type 0 where
  pub value : slice_get values place ≡ Some (value_in kind (cell_of width place cells))
  pub cell : IsCellOf kind (value_in kind (cell_of width place cells)) (cell_of width place cells)

pub at_place : (kind : Kind) (width count place : ℕ) (cells : List ℕ) → place < count → AreValueCells kind width count cells
    → IsValueAt kind width place cells (values_of_cells kind width count cells)
unfolding values_of_cells AreValueCells
at_place kind width zero place cells less h = absurd (omega arith)
at_place kind width (suc count) zero cells less h =
    let none : 0 * width ≡ 0 = omega arith in
    let e : take width cells ≡ take width (drop (0 * width) cells) = ap (λ n. take width (drop n cells)) (sym none) in
    record {
      value = ap (λ cell. Some (value_in kind cell)) e;
      cell = let P : List ℕ → Type 0 = λ cell. IsCellOf kind (value_in kind cell) cell in subst P e h.0;
    }
at_place kind width (suc count) (suc place) cells less h =
    let more = at_place kind width count place (drop width cells) (omega arith) h.1 in
    let e : width + place * width ≡ suc place * width = omega arith in
    let d : take width (drop (place * width) (drop width cells)) ≡ take width (drop (suc place * width) cells) =
    ap (take width) (drop-drop (place * width) width cells ∙ ap (λ n. drop n cells) e) in
    record {
      value = more.value ∙ ap (λ cell. Some (value_in kind cell)) d;
      cell = let P : List ℕ → Type 0 = λ cell. IsCellOf kind (value_in kind cell) cell in subst P d more.cell;
    }

-- the same, of the list that is kept
pub placed : (inside : Inside) (list : ValueList) (place : ℕ) → KeepsValues inside → list_of inside ≡ list → place < length list.values
    → IsValueAt (kind_of inside.kind) (cell_width (kind_of inside.kind)) place inside.bytes.items list.values
placed inside list place kept is less =
    let P : ValueList → Type 0 = λ list. place < length list.values → IsValueAt (kind_of inside.kind) (cell_width (kind_of inside.kind)) place inside.bytes.items list.values in
    subst P is (λ less. at_place (kind_of inside.kind) (cell_width (kind_of inside.kind)) inside.count place inside.bytes.items
    (let many = how_many (kind_of inside.kind) (cell_width (kind_of inside.kind)) inside.count inside.bytes.items in omega arith) kept.cells) less

-- there are bytes for the cell at a place
pub room : (inside : Inside) (list : ValueList) (place : ℕ) → KeepsValues inside → list_of inside ≡ list → place < length list.values
    → place * cell_width (kind_of inside.kind) + cell_width (kind_of inside.kind) ≤ length inside.bytes.items
room inside list place kept is less =
    let width = cell_width (kind_of inside.kind) in
    let P : ValueList → Type 0 = λ list. length list.values ≡ inside.count in
    let many : length list.values ≡ inside.count = subst P is (how_many (kind_of inside.kind) width inside.count inside.bytes.items) in
    fits place width inside.count (length inside.bytes.items) (omega arith) kept.size
  where
    fits : (place width count size : ℕ) → place < count → size ≡ count * width → place * width + width ≤ size
    fits place width count size less is = let most = mul-le (place + 1) width count width (omega arith) (omega arith) in omega arith

-- a value comes back from its cell
pub value_back : (kind : Kind) (value : Value) → IsTrue (is_of_kind kind value) → value_in kind (encode_cell kind value) ≡ value
value_back kind value held = ap (λ found. unwrap_or found Null) (reads_back kind value held)

own_cell : (kind : Kind) (value : Value) → IsTrue (is_of_kind kind value) → IsCellOf kind (value_in kind (encode_cell kind value)) (encode_cell kind value)
own_cell kind value held =
    subst (λ found. IsCellOf kind found (encode_cell kind value)) (sym (value_back kind value held)) (record { held = held; cell = refl })

-- a cell of a value is read as that value
pub was_read : (kind : Kind) (cell : List ℕ) → IsCellOf kind (value_in kind cell) cell → decode_cell kind cell ≡ Some (value_in kind cell)
was_read kind cell is = ap (decode_cell kind) is.cell ∙ reads_back kind (value_in kind cell) is.held

-- one more value
pub one_more : (kind : Kind) (value : Value) (width count : ℕ) (cells cell : List ℕ) → cell ≡ encode_cell kind value → length cell ≡ width
    → length cells ≡ count * width → IsTrue (is_of_kind kind value) → AreValueCells kind width count cells
    → AreValueCells kind width (suc count) (cells ++ cell)
unfolding AreValueCells
one_more kind value width zero cells cell is wide size held h =
    let front : take width cell ≡ cell = take_all width cell (omega arith) in
    let P : List ℕ → Type 0 = λ cell. IsCellOf kind (value_in kind cell) cell in
    rw (h, front) (subst P (sym is) (own_cell kind value held), drop_all width cell (omega arith))
one_more kind value width (suc count) cells cell is wide size held h =
    let most : width ≤ length cells = omega arith in
    rw (take-append-le width cells cell most, drop-append-le width cells cell most)
    (h.0, one_more kind value width count (drop width cells) cell is wide (let left = length-drop width cells in omega arith) held h.1)

pub values_more : (kind : Kind) (value : Value) (width count : ℕ) (cells cell : List ℕ) → cell ≡ encode_cell kind value → length cell ≡ width
    → length cells ≡ count * width → IsTrue (is_of_kind kind value) → AreValueCells kind width count cells
    → values_of_cells kind width (suc count) (cells ++ cell) ≡ values_of_cells kind width count cells ++ value ∷ []
unfolding AreValueCells values_of_cells
values_more kind value width zero cells cell is wide size held h =
    let front : take width cell ≡ cell = take_all width cell (omega arith) in
    rw (h, front) (ap (λ found. found ∷ []) (ap (value_in kind) is ∙ value_back kind value held))
values_more kind value width (suc count) cells cell is wide size held h =
    let most : width ≤ length cells = omega arith in
    rw (take-append-le width cells cell most, drop-append-le width cells cell most)
    (ap (λ later. value_in kind (take width cells) ∷ later)
    (values_more kind value width count (drop width cells) cell is wide (let left = length-drop width cells in omega arith) held h.1))

-- one more value is kept
pub record IsKeptMore (kind : Kind) (value : Value) (count : ℕ) (cells later : List ℕ) : Type 0 where
  pub size : length later ≡ (count + 1) * cell_width kind
  pub kept : AreValueCells kind (cell_width kind) (count + 1) later
  pub values : values_of_cells kind (cell_width kind) (count + 1) later ≡ values_of_cells kind (cell_width kind) count cells ++ value ∷ []

pub kept_more : (kind : Kind) (value : Value) (count : ℕ) (cells later : List ℕ) → later ≡ cells ++ encode_cell kind value
    → length cells ≡ count * cell_width kind → IsTrue (is_of_kind kind value) → AreValueCells kind (cell_width kind) count cells
    → IsKeptMore kind value count cells later
kept_more kind value count cells later is size held h =
    let width = cell_width kind in
    let cell = encode_cell kind value in
    let wide : length cell ≡ width = cell_length kind value held in
    let e : count + 1 ≡ suc count = omega arith in
    let more = length-append cells cell in
    let long : length later ≡ length cells + length cell = ap length is ∙ more in
    record {
      size = sum count width (length cells) (length cell) (length later) size wide long;
      kept = rw (is, e) (one_more kind value width count cells cell refl wide size held h);
      values = rw (is, e) (values_more kind value width count cells cell refl wide size held h);
    }
  where
    sum : (count width size more all : ℕ) → size ≡ count * width → more ≡ width → all ≡ size + more → all ≡ (count + 1) * width
    sum count width size more all is wide both = omega arith

-- the cell as it stands is that of the value at its place
pub as_stored : (values : List Value) (place : ℕ) (kind other : Kind) (cell : List ℕ) → place < length values → kind ≡ other
    → option_map (encode_cell kind) (slice_get values place) ≡ Some cell → cell ≡ encode_cell other (get_or values place (Number (pos 0)))
as_stored values place kind other cell less same is =
    let there = slice_get-get_or values place (Number (pos 0)) less in
    let e : Some (encode_cell other (get_or values place (Number (pos 0)))) ≡ Some cell =
    ap (λ kind. Some (encode_cell kind (get_or values place (Number (pos 0))))) (sym same) ∙ sym (ap (option_map (encode_cell kind)) there) ∙ is in
    cc e

pub value_got : (values : List Value) (place : ℕ) (value : Value) → place < length values → Some value ≡ slice_get values place
    → value ≡ get_or values place (Number (pos 0))
value_got values place value less is = cc (is ∙ slice_get-get_or values place (Number (pos 0)) less)
