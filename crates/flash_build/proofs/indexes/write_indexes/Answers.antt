use Rattle.std.proofs.Common.{◌≡◌, ◌<◌, ℕ, sym, subst, refl, Err, arith, rules}
use Rattle.ghost_model.specs.laws.ShortWords as short
use Rattle.ghost_model.specs.forms.Layout as layout
use Rattle.ghost_model.specs.laws.LayoutSums as sums
use Rattle.ghost_model.specs.laws.WorkLaws.{indexes_written}
use Rattle.flash_build.specs.Building.{Wrote}
use Rattle.flash_build.proofs.Writes.{Written, written, written_more, written_as, wrote_after, wrote_ok, fails}
use Rattle.flash_build.proofs.TableFiles.{can_fill_index, index_ends, indexes_more, written_next, written_rise}
use Rattle.flash_build.proofs.indexes.write_indexes.Goals as goal

pub write_any-requires-clause-can : goal.write_any-requires-clause-can
write_any-requires-clause-can g c =
    can_fill_index c.args.laid.now c.args.table c.loop-column.column
    (omega (arith, c.loop-column-test.true, c.columns-column-end.ensures.count)) c.requires.can c.loop-column.invariant.wrote.others

pub returns-in_err-write_any-clause-wrote : goal.returns-in_err-write_any-clause-wrote
returns-in_err-write_any-clause-wrote g c =
    let cat = c.args.laid.now in
    let table = c.args.table in
    let column = c.loop-column.column in
    let e = c.in_err-write_any.field-0.0 in
    let same : c.from_residual.result ≡ Err e = search rules in
    let less : column < short.column_count cat.schema table = omega (arith, c.loop-column-test.true, c.columns-column-end.ensures.count) in
    let ends = index_ends cat table column (short.column_count cat.schema table) less in
    let rise = written_rise cat c.args.hidden.now table column (short.column_count cat.schema table) less in
    let step = wrote_after (Err e) (omega arith) (omega arith) c.loop-column.invariant.wrote c.in_err-write_any.ensures.wrote in
    subst (λ r. Wrote (sums.indexes_begin cat table) (sums.id_index_begin cat table) (indexes_written cat c.args.hidden.now table (short.column_count cat.schema table))
    (g.F.Flash.state c.args.flash.now) (g.F.Flash.state c.write_any.new.flash) r) (sym same)
    (fails e step (sums.indexes_begin cat table) (sums.id_index_begin cat table) (indexes_written cat c.args.hidden.now table (short.column_count cat.schema table)) (omega arith) (omega (arith, ends)) (omega (arith, rise)))

pub loop-column-preserved : goal.loop-column-preserved
loop-column-preserved g c =
    let cat = c.args.laid.now in
    let column = c.loop-column.column in
    let was = c.loop-column.invariant in
    let step = c.in_ok-write_any.ensures in
    let next = c.layout_laws.ensures.layout.order.next_index c.args.table column in
    record {
      holds = indexes_more cat c.args.hidden.now c.args.table column c.layout_laws.ensures.layout.tree was.holds step.wrote.others step.holds;
      wrote =
          written_as refl (omega (arith, next)) (sym (written_next cat c.args.hidden.now c.args.table column))
          (written_more (omega arith) (omega arith) was.wrote (written step.wrote));
    }

pub returns-clause-holds : goal.returns-clause-holds
returns-clause-holds g c = λ told column h.
    let there = c.layout_laws.ensures.layout.order.there_are c.args.table column h in
    c.loop-column.invariant.holds told column
    (omega (arith, there.1, c.columns-column-end.ensures.count, c.loop-column.auto.column-end, c.loop-column-test.false)) h

pub returns-clause-wrote : goal.returns-clause-wrote
returns-clause-wrote g c =
    let cat = c.args.laid.now in
    let table = c.args.table in
    let last : c.loop-column.column ≡ short.column_count cat.schema table =
    omega (arith, c.columns-column-end.ensures.count, c.loop-column.auto.column-end, c.loop-column-test.false) in
    let W : ℕ → Type 0 = λ done. Written (sums.indexes_begin cat table) (sums.index_begin cat table done) (indexes_written cat c.args.hidden.now table done) (g.F.Flash.state c.args.flash.now) (g.F.Flash.state c.loop-column.flash) in
    wrote_ok (subst W last c.loop-column.invariant.wrote)
