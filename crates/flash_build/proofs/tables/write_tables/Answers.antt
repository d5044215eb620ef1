use Rattle.std.proofs.Common.{◌≡◌, ◌<◌, ◌∙◌, ◌+◌, ap, sym, subst, refl, Err, length, arith, rules}
use Rattle.ghost_model.specs.forms.Layout as layout
use Rattle.ghost_model.specs.forms.Work as work
use Rattle.ghost_model.specs.laws.LayoutSums as sums
use Rattle.flash_build.specs.Building.{Wrote}
use Rattle.flash_build.proofs.Writes.{written, written_more, written_as, wrote_after, fails, wrote_ok}
use Rattle.flash_build.proofs.TableFiles.{can_fill_table, tables_more, all_tables, sizes_are, sizes_rise, size_next, table_sizes}
use Rattle.flash_build.proofs.tables.write_tables.Goals as goal

pub write_table-requires-clause-can : goal.write_table-requires-clause-can
write_table-requires-clause-can g c =
    let laid = c.layout_laws.ensures.layout in
    can_fill_table c.args.laid.now c.loop-table.table laid.sums laid.order
    (omega (arith, c.loop-table-test.true, c.tables-table-end.ensures.count)) c.requires.can c.loop-table.invariant.wrote.others

pub returns-in_err-write_table-clause-wrote : goal.returns-in_err-write_table-clause-wrote
returns-in_err-write_table-clause-wrote g c =
    let cat = c.args.laid.now in
    let laid = c.layout_laws.ensures.layout in
    let table = c.loop-table.table in
    let same : c.from_residual.result ≡ Err c.in_err-write_table.field-0.0 = search rules in
    let less : table < length cat.schema = omega (arith, c.loop-table-test.true, c.tables-table-end.ensures.count) in
    let next = laid.order.next_table table in
    let later = laid.order.tables (table + 1) (length cat.schema) (omega (arith, less)) in
    let end = laid.sums.files_end in
    let rise = sizes_rise cat c.args.hidden.now table less in
    let all = sizes_are c.pages_add_up.ensures cat c.args.hidden.now in
    let step = wrote_after (Err c.in_err-write_table.field-0.0) (omega arith) (omega arith) c.loop-table.invariant.wrote c.in_err-write_table.ensures.wrote in
    subst (λ r. Wrote (layout.public_pages cat) (layout.files_end cat) (work.file_pages cat c.args.hidden.now)
    (g.F.Flash.state c.args.flash.now) (g.F.Flash.state c.write_table.new.flash) r) (sym same)
    (fails c.in_err-write_table.field-0.0 step (layout.public_pages cat) (layout.files_end cat) (work.file_pages cat c.args.hidden.now)
    (omega arith) (omega (arith, next, later, end)) (omega (arith, rise, all)))

pub loop-table-preserved : goal.loop-table-preserved
loop-table-preserved g c =
    let cat = c.args.laid.now in
    let laid = c.layout_laws.ensures.layout in
    let table = c.loop-table.table in
    let was = c.loop-table.invariant in
    let step = c.in_ok-write_table.ensures in
    let less : table < length cat.schema = omega (arith, c.loop-table-test.true, c.tables-table-end.ensures.count) in
    record {
      stores = tables_more cat c.args.hidden.now table laid.tree laid.order less was.stores step.wrote.others step.stores;
      wrote =
          written_as refl (sym (laid.order.next_table table)) (sym (size_next cat c.args.hidden.now table))
          (written_more (omega arith) (omega arith) was.wrote (written step.wrote));
    }

pub returns-clause-stores : goal.returns-clause-stores
returns-clause-stores g c = λ told.
    all_tables c.layout_laws.ensures.layout.order
    (λ table low. c.loop-table.invariant.stores told table
    (omega (arith, low, c.tables-table-end.ensures.count, c.loop-table.auto.table-end, c.loop-table-test.false)))

pub returns-clause-wrote : goal.returns-clause-wrote
returns-clause-wrote g c =
    let cat = c.args.laid.now in
    let laid = c.layout_laws.ensures.layout in
    let all : c.loop-table.table ≡ length cat.schema =
    omega (arith, c.tables-table-end.ensures.count, c.loop-table.auto.table-end, c.loop-table-test.false) in
    wrote_ok
    (written_as refl (ap (sums.table_begin cat) all ∙ sym laid.sums.files_end)
    (ap (table_sizes cat c.args.hidden.now) all ∙ sizes_are c.pages_add_up.ensures cat c.args.hidden.now) c.loop-table.invariant.wrote)
