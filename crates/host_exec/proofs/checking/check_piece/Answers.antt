use Rattle.std.proofs.Common.{◌≡◌, ◌+◌, ◌-◌, ◌*◌, ℕ, List, take, drop, map, ap, sym, subst, ◌∙◌, arith}
use Rattle.ghost_base.specs.Views.{kind_of}
use Rattle.host_exec.specs.RowBytes.{window}
use Rattle.host_exec.specs.Checked.{SpellsRow}
use Rattle.host_exec.proofs.Windows.{row_of_piece}
use Rattle.host_exec.proofs.checking.check_piece.Goals as goal

pub returns-then-are_rows-clause-checked : goal.returns-then-are_rows-clause-checked
returns-then-are_rows-clause-checked g c file is row low high =
    let piece = c.in_ok-fill.ensures.filled file is ∙ ap (window file (c.args.start + c.args.next * c.args.width)) c.split_at_mut-piece.ensures.front_len in
    let same = ap (λ (bs : List ℕ). take c.args.width (drop ((row - c.args.next) * c.args.width) bs)) piece ∙ row_of_piece file c.args.start c.args.next c.args.width c.rows_of_piece-count.result row low high in
    subst (SpellsRow (map kind_of c.args.kinds.now)) same (c.are_rows.ensures.good c.if-are_rows.true (row - c.args.next) (omega (arith, low, high)))

pub returns-else-are_rows-clause-checked : goal.returns-else-are_rows-clause-checked
returns-else-are_rows-clause-checked g c file is =
    let bad = c.are_rows.ensures.bad c.if-are_rows.false in
    let row : ℕ = c.args.next + bad.0 in
    let back : row - c.args.next ≡ bad.0 = omega arith in
    let piece = c.in_ok-fill.ensures.filled file is ∙ ap (window file (c.args.start + c.args.next * c.args.width)) c.split_at_mut-piece.ensures.front_len in
    let same = ap (λ (n : ℕ). take c.args.width (drop (n * c.args.width) c.fill.new.buf)) (sym back)
    ∙ (ap (λ (bs : List ℕ). take c.args.width (drop ((row - c.args.next) * c.args.width) bs)) piece ∙ row_of_piece file c.args.start c.args.next c.args.width c.rows_of_piece-count.result row (omega arith) (omega (arith, bad.1))) in
    (row, omega (arith, bad.1, c.rows_of_piece-count.ensures.within), λ s. bad.2 (subst (SpellsRow (map kind_of c.args.kinds.now)) (sym same) s))
