use Rattle.std.proofs.Common.{◌≡◌, ◌+◌, ◌∙◌, false, true, length, sym, arith}
use Rattle.csv.specs.Records.{fields_of}
use Rattle.tree_schema.specs.Views.{column_of}
use Rattle.csv_split.proofs.Headers.{held_there, name_next}
use Rattle.csv_split.proofs.header.is_header.Goals as goal

pub names-requires-in-loop-i : goal.names-requires-in-loop-i
names-requires-in-loop-i c =
    rw c.deref.ensures.0
    (c.requires.lower c.loop-i.i (column_of c.index-declared-i.result) (held_there c.args.declared.now c.loop-i.i c.index-declared-i.result c.loop-i-test.true c.index-declared-i.is))

pub returns-then-not-names-2 : goal.returns-then-not-names-2
returns-then-not-names-2 c =
    let many : length (fields_of c.args.row.now) ≡ length c.args.declared.now + 1 = omega (arith, c.if-len-declared.false, c.len.ensures) in
    sym (c.loop-i.invariant
    ∙ name_next c.args.declared.now (fields_of c.args.row.now) c.loop-i.i c.index-declared-i.result false c.loop-i-test.true many c.index-declared-i.is
    (sym c.if-not-names-2.true ∙ rw (c.field_of-in-loop-i.ensures, c.deref.ensures.0) at c.names-in-loop-i.ensures))

pub loop-i-preserved : goal.loop-i-preserved
loop-i-preserved c =
    let many : length (fields_of c.args.row.now) ≡ length c.args.declared.now + 1 = omega (arith, c.if-len-declared.false, c.len.ensures) in
    c.loop-i.invariant
    ∙ name_next c.args.declared.now (fields_of c.args.row.now) c.loop-i.i c.index-declared-i.result true c.loop-i-test.true many c.index-declared-i.is
    (sym c.if-not-names-2.false ∙ rw (c.field_of-in-loop-i.ensures, c.deref.ensures.0) at c.names-in-loop-i.ensures)
