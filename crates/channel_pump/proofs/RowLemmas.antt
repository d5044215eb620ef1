-- Rows at the front of some bytes, one by one.
use Rattle.std.proofs.Common.{◌≡◌, ℕ, zero, suc, ◌+◌, ◌-◌, ◌<◌, ◌≤◌, ◌*◌, subst, Bool, true, false, ◌&&◌, nat_lt, nat_le, List, [], ◌∷◌, length, take, drop, refl, ap, sym, ◌∙◌, arith}
use Rattle.std.proofs.lemmas.List.{length-drop}
use Rattle.std.proofs.lemmas.Bool.Decides.{nat_tests}
use Rattle.ghost_model.specs.core.Schema.{Kind}
use Rattle.ghost_model.specs.core.Asks.{RowCells, row_in, rows_from}
use Rattle.ghost_model.specs.core.NextMove.{rows_fit, are_cells, last_identifier}

pub rows_more : (width left : ℕ) (bytes : List ℕ) → 0 < left
    → rows_from width left bytes ≡ row_in (take width bytes) ∷ rows_from width (left - 1) (drop width bytes)
unfolding rows_from
rows_more width zero bytes h = absurd (omega (arith, h))
rows_more width (suc left) bytes h =
    let e : suc left - 1 ≡ left = omega arith in
    ap (λ (n : ℕ). row_in (take width bytes) ∷ rows_from width n (drop width bytes)) (sym e)

pub rows_none : (width : ℕ) (bytes : List ℕ) → rows_from width 0 bytes ≡ []
unfolding rows_from
rows_none width bytes = refl

pub rows_count : (width left : ℕ) (bytes : List ℕ) → length (rows_from width left bytes) ≡ left
unfolding rows_from
rows_count width zero bytes = refl
rows_count width (suc left) bytes = ap suc (rows_count width left (drop width bytes))

abbrev pub row_test : (rows last : ℕ) → List Kind → RowCells → Bool
row_test rows last kinds row = nat_lt last row.identifier && nat_le row.identifier rows && are_cells kinds row.cells

and_true : (b c : Bool) → b ≡ true → (b && c) ≡ c
and_true true c e = refl
and_true false c e = cc

and_false : (b c : Bool) → b ≡ false → (b && c) ≡ false
and_false true c e = cc
and_false false c e = refl

pub fits_none : (rows last : ℕ) (kinds : List Kind) → rows_fit rows last kinds [] ≡ true
unfolding rows_fit
fits_none rows last kinds = refl

fits_next : (rows last : ℕ) (kinds : List Kind) (row : RowCells) (later : List RowCells)
    → rows_fit rows last kinds (row ∷ later) ≡ (row_test rows last kinds row && rows_fit rows row.identifier kinds later)
unfolding rows_fit
fits_next rows last kinds row later = refl

pub fits_more : (rows last width left : ℕ) (kinds : List Kind) (bytes : List ℕ) → 0 < left
    → row_test rows last kinds (row_in (take width bytes)) ≡ true
    → rows_fit rows last kinds (rows_from width left bytes)
    ≡ rows_fit rows (row_in (take width bytes)).identifier kinds (rows_from width (left - 1) (drop width bytes))
fits_more rows last width left kinds bytes h t =
    ap (λ (all : List RowCells). rows_fit rows last kinds all) (rows_more width left bytes h)
    ∙ (fits_next rows last kinds (row_in (take width bytes)) (rows_from width (left - 1) (drop width bytes))
    ∙ and_true _ _ t)

pub fits_not : (rows last width left : ℕ) (kinds : List Kind) (bytes : List ℕ) → 0 < left
    → row_test rows last kinds (row_in (take width bytes)) ≡ false
    → rows_fit rows last kinds (rows_from width left bytes) ≡ false
fits_not rows last width left kinds bytes h t =
    ap (λ (all : List RowCells). rows_fit rows last kinds all) (rows_more width left bytes h)
    ∙ (fits_next rows last kinds (row_in (take width bytes)) (rows_from width (left - 1) (drop width bytes))
    ∙ and_false _ _ t)

pub last_more : (last width left : ℕ) (bytes : List ℕ) → 0 < left
    → last_identifier last (rows_from width left bytes)
    ≡ last_identifier (row_in (take width bytes)).identifier (rows_from width (left - 1) (drop width bytes))
last_more last width left bytes h =
    ap (λ (all : List RowCells). last_identifier last all) (rows_more width left bytes h)

-- between two rows: what the rows so far leave of the tests and of the last identifier
pub record RowsLeft (most last : ℕ) (kinds : List Kind) (all : List RowCells) (width left before count : ℕ) (rest : List ℕ) : Type 0 where
  pub same : rows_fit most before kinds (rows_from width left rest) ≡ rows_fit most last kinds all
  pub final : last_identifier before (rows_from width left rest) ≡ last_identifier last all
  pub above : last + count ≤ before
  pub within : 0 < count → before ≤ most

record IsAbove (most last identifier : ℕ) : Type 0 where
  above : last < identifier
  within : identifier ≤ most

is_above : (most last identifier : ℕ) (cells : Bool) → (nat_lt last identifier && nat_le identifier most && cells) ≡ true → IsAbove most last identifier
is_above most last identifier cells e = record { above = grind (arith, nat_tests); within = grind (arith, nat_tests) }

pub row_read : (most last : ℕ) (kinds : List Kind) (all : List RowCells) (width left before count identifier : ℕ) (rest row later : List ℕ)
    → RowsLeft most last kinds all width left before count rest → 0 < left → row ≡ take width rest → later ≡ drop width rest
    → row_test most before kinds (row_in row) ≡ true → identifier ≡ (row_in row).identifier
    → RowsLeft most last kinds all width (left - 1) identifier (count + 1) later
row_read most last kinds all width left before count identifier rest row later inv some r l t i =
    let test : row_test most before kinds (row_in (take width rest)) ≡ true =
    subst (λ (x : List ℕ). row_test most before kinds (row_in x) ≡ true) r t in
    let named : identifier ≡ (row_in (take width rest)).identifier =
    subst (λ (x : List ℕ). identifier ≡ (row_in x).identifier) r i in
    let higher : IsAbove most before (row_in (take width rest)).identifier = is_above most before (row_in (take width rest)).identifier (are_cells kinds (row_in (take width rest)).cells) test in
    let up : before < (row_in (take width rest)).identifier = higher.above in
    let low : (row_in (take width rest)).identifier ≤ most = higher.within in
    record {
      same = ap (λ (x : List ℕ). rows_fit most identifier kinds (rows_from width (left - 1) x)) l
          ∙ (ap (λ (n : ℕ). rows_fit most n kinds (rows_from width (left - 1) (drop width rest))) named
          ∙ (sym (fits_more most before width left kinds rest some test) ∙ inv.same));
      final = ap (λ (x : List ℕ). last_identifier identifier (rows_from width (left - 1) x)) l
          ∙ (ap (λ (n : ℕ). last_identifier n (rows_from width (left - 1) (drop width rest))) named
          ∙ (sym (last_more before width left rest some) ∙ inv.final));
      above = omega (arith, named, up, inv.above);
      within = λ _. omega (arith, named, low);
    }

pub width_step : (left width : ℕ) (rest later : List ℕ) → 0 < left → left * width ≤ length rest → later ≡ drop width rest
    → (left - 1) * width ≤ length later
width_step zero width rest later h room e = absurd (omega (arith, h))
width_step (suc left) width rest later h room e =
    let step : suc left - 1 ≡ left = omega arith in
    let size : length later ≡ length rest - width = ap length e ∙ length-drop width rest in
    subst (λ (n : ℕ). n * width ≤ length later) (sym step) (omega (arith, size, room))
