-- A text and the zero bytes after it spell that text and no other.
use Rattle.std.proofs.Common.{◌≡◌, ◌-◌, ℕ, suc, zero, ◌≤◌, true, ◌==◌, List, [], ◌∷◌, ◌++◌, length, drop, replicate, IsTrue, refl, sym, ap, ◌∙◌, arith, eqb-true, take-append-drop, length-append, length-drop}
use Rattle.std.specs.List.{list_all, prefix_len}
use Rattle.std.specs.Cmp.{first_so, second_so}
use Rattle.std.proofs.lemmas.List.{drop-replicate}
use Rattle.std.proofs.lemmas.List.Sums.{take_while-cons}
use Rattle.std.proofs.lemmas.List.Folds.{length-prefix_len}
use Rattle.std.proofs.lemmas.Bool.Decides.{nat_tests}
use Rattle.ghost_model.specs.refusals.Tokens.{is_printable}
use Rattle.ghost_model.specs.forms.Cells.{padded}
use Rattle.ghost_model.specs.readings.CellReading.{is_not_zero, text_in, is_text_cell}

printable_is_not_zero : (x : ℕ) → is_printable x ≡ true → is_not_zero x ≡ true
printable_is_not_zero x h = grind (arith, nat_tests)

text_of_padding : (n : ℕ) → text_in (replicate n 0) ≡ []
text_of_padding zero = refl
text_of_padding (suc n) = refl

-- the text of a padded text
pub text_of_padded : (text : List ℕ) (n : ℕ) → IsTrue (list_all is_printable text) → text_in (text ++ replicate n 0) ≡ text
text_of_padded [] n h = text_of_padding n
text_of_padded (x ∷ xs) n h =
    take_while-cons is_not_zero x (xs ++ replicate n 0)
    ∙ rw (printable_is_not_zero x (first_so _ _ h)) (ap (λ t. x ∷ t) (text_of_padded xs n (second_so _ _ h)))

pub padding_is_zero : (n : ℕ) → list_all (λ byte. byte == 0) (replicate n 0) ≡ true
padding_is_zero zero = refl
padding_is_zero (suc n) = padding_is_zero n

drop_front : (xs ys : List ℕ) → drop (length xs) (xs ++ ys) ≡ ys
drop_front [] ys = refl
drop_front (x ∷ xs) ys = drop_front xs ys

pub padded_is_text_cell : (text : List ℕ) (n : ℕ) → IsTrue (list_all is_printable text) → is_text_cell (text ++ replicate n 0) ≡ true
padded_is_text_cell text n h = rw (text_of_padded text n h, h, drop_front text (replicate n 0), padding_is_zero n) refl

-- behind some of 64 zero bytes the others are zero
pub zeros_behind : (n : ℕ) → drop {A = ℕ} n (replicate 64 0) ≡ replicate (64 - n) 0
zeros_behind n = drop-replicate n 64 0

pub zeros : (xs : List ℕ) → list_all (λ byte. byte == 0) xs ≡ true → xs ≡ replicate (length xs) 0
zeros [] h = refl
zeros (x ∷ xs) h = let e : x ≡ 0 = eqb-true x 0 (first_so _ _ h) in rw e (ap (λ t. 0 ∷ t) (zeros xs (second_so _ _ h)))

pub text_and_rest : (cell : List ℕ) → text_in cell ++ drop (length (text_in cell)) cell ≡ cell
text_and_rest cell = rw (length-prefix_len is_not_zero cell) (take-append-drop (prefix_len is_not_zero cell) cell)

pub text_is_short : (cell : List ℕ) → length (text_in cell) ≤ length cell
text_is_short cell = omega (arith, ap length (text_and_rest cell), length-append (text_in cell) (drop (length (text_in cell)) cell))

pub text_spelled : (cell : List ℕ) → is_text_cell cell ≡ true → cell ≡ padded (length cell) (text_in cell)
text_spelled cell h =
    let rest : drop (length (text_in cell)) cell ≡ replicate (length (drop (length (text_in cell)) cell)) 0 =
    zeros (drop (length (text_in cell)) cell) (second_so _ _ h) in
    let e : text_in cell ++ replicate (length (drop (length (text_in cell)) cell)) 0 ≡ cell =
    ap (λ t. text_in cell ++ t) (sym rest) ∙ text_and_rest cell in
    sym e ∙ ap (λ n. text_in cell ++ replicate n 0) (length-drop (length (text_in cell)) cell)
