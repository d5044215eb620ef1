-- Rows of the file that were read ahead.
use Rattle.std.proofs.Common.{◌≡◌, ℕ, ◌+◌, ◌-◌, ◌*◌, ◌≤◌, List, take, drop, ap, sym, ◌∙◌, arith}
use Rattle.std.proofs.lemmas.List.{drop-drop, drop-take}
use Rattle.host_exec.specs.RowBytes.{window}
use Rattle.host_exec.specs.Pieces.{IsAhead}
use Rattle.host_exec.specs.declared.piece.Piece.{Piece}
use Rattle.host_exec.proofs.Windows.{window_back, window_nothing}

-- where none were, they stand anywhere
pub none_ahead : (width : ℕ) (piece : Piece) (file : List ℕ) (start place : ℕ) → piece.rows ≡ 0 → IsAhead width piece file start place
none_ahead width piece file start place none =
    let size : piece.rows * width ≡ 0 = ap (λ (n : ℕ). n * width) none ∙ (let e : 0 * width ≡ 0 = omega arith in e) in
    ap (λ (n : ℕ). take n (drop piece.at piece.bytes)) size
    ∙ sym (ap (window file (start + place * width)) size ∙ window_nothing file (start + place * width))

-- behind some of them stand the others
pub left_ahead : (width at rows passed : ℕ) (bytes file : List ℕ) (start place : ℕ) → passed ≤ rows
    → take (rows * width) (drop at bytes) ≡ window file (start + place * width) (rows * width)
    → take ((rows - passed) * width) (drop (at + passed * width) bytes) ≡ window file (start + (place + passed) * width) ((rows - passed) * width)
left_ahead width at rows passed bytes file start place within is =
    let gone : ℕ = passed * width in
    let left : ℕ = (rows - passed) * width in
    let parts : rows ≡ passed + (rows - passed) = omega (arith, within) in
    let size : rows * width ≡ gone + left = ap (λ (n : ℕ). n * width) parts ∙ (let e : (passed + (rows - passed)) * width ≡ passed * width + (rows - passed) * width = omega arith in e) in
    let further : start + place * width + gone ≡ start + (place + passed) * width = omega arith in
    let whole : take (gone + left) (drop at bytes) ≡ window file (start + place * width) (gone + left) =
    ap (λ (n : ℕ). take n (drop at bytes)) (sym size) ∙ (is ∙ ap (window file (start + place * width)) size) in
    ap (take left) (sym (drop-drop gone at bytes))
    ∙ (sym (drop-take gone left (drop at bytes))
    ∙ (ap (drop gone) whole ∙ (window_back file (start + place * width) gone left ∙ ap (λ (n : ℕ). window file n left) further)))
