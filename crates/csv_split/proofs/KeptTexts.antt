-- Texts in cells of one width: how many there are, the one at a place, and one more.
use Rattle.std.proofs.Common.{◌≡◌, ◌≤◌, ◌<◌, ◌+◌, ◌-◌, ◌*◌, ◌∙◌, ℕ, zero, suc, true, List, [], ◌∷◌, ◌++◌, length, take, drop, replicate, Some, refl, sym, ap, subst, arith, length-append, nat_le}
use Rattle.std.proofs.lemmas.List.{length-replicate, drop-append-le, take-append-le, take_all, drop_all, drop-drop, length-drop}
use Rattle.std.specs.Prelude.{slice_get}
use Rattle.std.proofs.lemmas.Bool.Decides.{nat_tests}
use Rattle.std.specs.Cmp.{first_so, second_so}
use Rattle.ghost_base.proofs.TextCells.{text_of_padded}
use Rattle.std.proofs.lemmas.List.Folds.{length-prefix_len}
use Rattle.ghost_model.specs.forms.Cells.{padded}
use Rattle.ghost_model.specs.readings.CellReading.{is_not_zero, text_in}
use Rattle.ghost_model.specs.core.Database.{is_text}
use Rattle.std.proofs.lemmas.Nat.{mul-le}
use Rattle.csv_split.specs.declared.texts.Texts.TheInside.{Inside}
use Rattle.csv_split.specs.Texts.{AreCells, IsCell, KeepsTexts, TextList, list_of, texts_in}

pub how_many : (width count : ℕ) (cells : List ℕ) → length (texts_in width count cells) ≡ count
unfolding texts_in
how_many width zero cells = refl
how_many width (suc count) cells = ap suc (how_many width count (drop width cells))

-- the cell at a place
pub record IsAt (width place : ℕ) (cells : List ℕ) (texts : List (List ℕ)) : Type 0 where
  pub text : slice_get texts place ≡ Some (text_in (take width (drop (place * width) cells)))
  pub cell : IsCell width (take width (drop (place * width) cells))

pub at_place : (width count place : ℕ) (cells : List ℕ) → place < count → AreCells width count cells → IsAt width place cells (texts_in width count cells)
unfolding texts_in AreCells
at_place width zero place cells less h = absurd (omega arith)
at_place width (suc count) zero cells less h =
    let none : 0 * width ≡ 0 = omega arith in
    let e : take width cells ≡ take width (drop (0 * width) cells) = ap (λ n. take width (drop n cells)) (sym none) in
    record { text = ap (λ cell. Some (text_in cell)) e; cell = let P : List ℕ → Type 0 = IsCell width in subst P e h.0 }
at_place width (suc count) (suc place) cells less h =
    let more = at_place width count place (drop width cells) (omega arith) h.1 in
    let e : width + place * width ≡ suc place * width = omega arith in
    let d : take width (drop (place * width) (drop width cells)) ≡ take width (drop (suc place * width) cells) =
    ap (take width) (drop-drop (place * width) width cells ∙ ap (λ n. drop n cells) e) in
    record { text = more.text ∙ ap (λ cell. Some (text_in cell)) d; cell = let P : List ℕ → Type 0 = IsCell width in subst P d more.cell }

-- the same, of the list that is kept
pub placed : (inside : Inside) (list : TextList) (place : ℕ) → KeepsTexts inside → list_of inside ≡ list → place < length list.texts
    → IsAt inside.width place inside.bytes.items list.texts
placed inside list place kept is less =
    let P : TextList → Type 0 = λ list. place < length list.texts → IsAt inside.width place inside.bytes.items list.texts in
    subst P is (λ less. at_place inside.width inside.count place inside.bytes.items
    (let many = how_many inside.width inside.count inside.bytes.items in omega arith) kept.cells) less

-- there are bytes for the cell at a place
pub room : (inside : Inside) (list : TextList) (place : ℕ) → KeepsTexts inside → list_of inside ≡ list → place < length list.texts
    → place * inside.width + inside.width ≤ length inside.bytes.items
room inside list place kept is less =
    let P : TextList → Type 0 = λ list. length list.texts ≡ inside.count in
    let many : length list.texts ≡ inside.count = subst P is (how_many inside.width inside.count inside.bytes.items) in
    let most = mul-le (place + 1) inside.width inside.count inside.width (omega arith) (omega arith) in
    let size = kept.size in
    omega arith

padded_length : (width : ℕ) (text : List ℕ) → length text ≤ width → length (padded width text) ≡ width
padded_length width text fits =
    let whole = length-append text (replicate (width - length text) 0) in
    let more : length (replicate {A = ℕ} (width - length text) 0) ≡ width - length text = length-replicate (width - length text) 0 in
    omega arith

pub is_cell : (width : ℕ) (text : List ℕ) → is_text width text ≡ true → text_in (padded width text) ≡ text
is_cell width text held = text_of_padded text (width - length text) (second_so _ _ held)

pub fits_width : (width : ℕ) (text : List ℕ) → is_text width text ≡ true → length text ≤ width
fits_width width text held = let h : nat_le (length text) width ≡ true = first_so _ _ held in grind (arith, nat_tests)

-- one more text
pub one_more : (width count : ℕ) (cells text : List ℕ) → length cells ≡ count * width → is_text width text ≡ true → AreCells width count cells
    → AreCells width (suc count) (cells ++ padded width text)
unfolding AreCells
one_more width zero cells text size held h =
    let whole = padded_length width text (fits_width width text held) in
    let front : take width (padded width text) ≡ padded width text = take_all width (padded width text) (omega arith) in
    let e = is_cell width text held in
    rw (h, front) (record { text = rw e held; padding = ap (padded width) (sym e) }, drop_all width (padded width text) (omega arith))
one_more width (suc count) cells text size held h =
    let wide : width ≤ length cells = omega arith in
    rw (take-append-le width cells (padded width text) wide, drop-append-le width cells (padded width text) wide)
    (h.0, one_more width count (drop width cells) text (let left = length-drop width cells in omega arith) held h.1)

pub texts_more : (width count : ℕ) (cells text : List ℕ) → length cells ≡ count * width → is_text width text ≡ true → AreCells width count cells
    → texts_in width (suc count) (cells ++ padded width text) ≡ texts_in width count cells ++ text ∷ []
unfolding AreCells texts_in
texts_more width zero cells text size held h =
    let whole = padded_length width text (fits_width width text held) in
    let front : take width (padded width text) ≡ padded width text = take_all width (padded width text) (omega arith) in
    rw (h, front) (ap (λ t. t ∷ []) (is_cell width text held))
texts_more width (suc count) cells text size held h =
    let wide : width ≤ length cells = omega arith in
    rw (take-append-le width cells (padded width text) wide, drop-append-le width cells (padded width text) wide)
    (ap (λ later. text_in (take width cells) ∷ later) (texts_more width count (drop width cells) text (let left = length-drop width cells in omega arith) held h.1))

-- one more text is kept
pub kept_more : (width count : ℕ) (cells text later : List ℕ) → later ≡ cells ++ padded width text → length cells ≡ count * width → is_text width text ≡ true
    → AreCells width count cells → (length later ≡ (count + 1) * width) × AreCells width (count + 1) later
kept_more width count cells text later is size held h =
    let whole = padded_length width text (fits_width width text held) in
    let more = length-append cells (padded width text) in
    let e : count + 1 ≡ suc count = omega arith in
    let sum : length (cells ++ padded width text) ≡ (count + 1) * width = omega arith in
    rw is (sum, rw e (one_more width count cells text size held h))

-- the bytes of a cell before its first zero byte
pub text_front : (cell : List ℕ) → take (length (text_in cell)) cell ≡ text_in cell
text_front cell = rw (length-prefix_len is_not_zero cell) refl
