use Rattle.std.proofs.Common.{◌<◌, ◌*◌, ℕ, Bool, MatchBool, map, take, drop, subst}
use Rattle.ghost_base.specs.Views.{kind_of}
use Rattle.host_exec.specs.Checked.{SpellsRow}
use Rattle.host_exec.specs.Columns.{AddsRows}
use Rattle.host_exec.proofs.ReadTables.{bad_piece}
use Rattle.host_exec.proofs.reading.read_piece.Goals as goal

pub returns-else-branch-clause-bad : goal.returns-else-branch-clause-bad
returns-else-branch-clause-bad g c e file is =
    let bad = subst (λ (b : Bool). MatchBool b (AddsRows (map kind_of c.args.kinds.now) c.rows_of_piece-count.result c.fill.new.buf c.args.columns.now c.take_rows.new.columns)
    ((row : ℕ) × (row < c.rows_of_piece-count.result) × (SpellsRow (map kind_of c.args.kinds.now) (take c.args.width (drop (row * c.args.width) c.fill.new.buf)) → ⊥)))
    c.if-branch.false c.in_ok-take_rows.ensures.taken in
    bad_piece (map kind_of c.args.kinds.now) file c.args.start c.args.columns.now.rows c.args.width c.rows_of_piece-count.result c.args.rows _ c.fill.new.buf
    c.rows_of_piece-count.ensures.within c.split_at_mut-piece.ensures.front_len (c.in_ok-fill.ensures.filled file is) bad
