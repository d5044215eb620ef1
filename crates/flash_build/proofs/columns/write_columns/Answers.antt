use Rattle.std.proofs.Common.{◌≡◌, ap, sym, subst, refl, Err, arith, rules}
use Rattle.ghost_model.specs.laws.ShortWords as short
use Rattle.ghost_model.specs.forms.Layout as layout
use Rattle.ghost_model.specs.laws.LayoutSums as sums
use Rattle.flash_build.specs.Building.{Wrote}
use Rattle.flash_build.proofs.Writes.{written, written_more, written_as, wrote_after, wrote_ok, fails}
use Rattle.flash_build.proofs.TableFiles.{can_fill_column, column_ends, columns_more}
use Rattle.flash_build.proofs.columns.write_columns.Goals as goal

pub write_column-requires-clause-can : goal.write_column-requires-clause-can
write_column-requires-clause-can g c =
    can_fill_column c.args.laid.now c.args.table c.loop-column.column
    (omega (arith, c.loop-column-test.true, c.columns-column-end.ensures.count)) c.requires.can c.loop-column.invariant.wrote.others

pub returns-in_err-write_column-clause-wrote : goal.returns-in_err-write_column-clause-wrote
returns-in_err-write_column-clause-wrote g c =
    let cat = c.args.laid.now in
    let column = c.loop-column.column in
    let same : c.from_residual.result ≡ Err c.in_err-write_column.field-0.0 = search rules in
    let ends =
    column_ends cat c.args.table column (short.column_count cat.schema c.args.table)
    (omega (arith, c.loop-column-test.true, c.columns-column-end.ensures.count)) in
    let step = wrote_after (Err c.in_err-write_column.field-0.0) (omega arith) (omega arith) c.loop-column.invariant.wrote c.in_err-write_column.ensures.wrote in
    subst (λ r. Wrote (sums.table_begin cat c.args.table) (sums.subtree_begin cat c.args.table) (sums.columns_pages cat c.args.table)
    (g.F.Flash.state c.args.flash.now) (g.F.Flash.state c.write_column.new.flash) r) (sym same)
    (fails c.in_err-write_column.field-0.0 step (sums.table_begin cat c.args.table) (sums.subtree_begin cat c.args.table) (sums.columns_pages cat c.args.table) (omega arith) (omega (arith, ends)) (omega (arith, ends)))

pub loop-column-preserved : goal.loop-column-preserved
loop-column-preserved g c =
    let cat = c.args.laid.now in
    let column = c.loop-column.column in
    let was = c.loop-column.invariant in
    let step = c.in_ok-write_column.ensures in
    let next = c.layout_laws.ensures.layout.order.next_column c.args.table column in
    record {
      stores = columns_more cat c.args.hidden.now c.args.table column c.layout_laws.ensures.layout.tree was.stores step.wrote.others step.stores;
      wrote =
          written_as refl (omega (arith, next)) (sym next)
          (written_more (omega arith) (omega arith) was.wrote (written step.wrote));
    }

pub returns-clause-wrote : goal.returns-clause-wrote
returns-clause-wrote g c =
    let cat = c.args.laid.now in
    let table = c.args.table in
    let all : c.loop-column.column ≡ short.column_count cat.schema table =
    omega (arith, c.columns-column-end.ensures.count, c.loop-column.auto.column-end, c.loop-column-test.false) in
    wrote_ok
    (written_as refl (ap (sums.column_begin cat table) all) (ap (sums.column_pages_before cat table) all) c.loop-column.invariant.wrote)

pub returns-clause-stores : goal.returns-clause-stores
returns-clause-stores g c = λ told column h.
    let there = c.layout_laws.ensures.layout.order.there_are c.args.table column h in
    c.loop-column.invariant.stores told column
    (omega (arith, there.1, c.columns-column-end.ensures.count, c.loop-column.auto.column-end, c.loop-column-test.false)) h
