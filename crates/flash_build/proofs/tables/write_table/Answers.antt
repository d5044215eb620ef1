use Rattle.std.proofs.Common.{◌≡◌, ◌+◌, refl, sym, subst, Err, arith, rules}
use Rattle.ghost_model.specs.laws.LayoutSums as sums
use Rattle.ghost_model.specs.laws.WorkLaws.{table_written}
use Rattle.flash_build.specs.Building.{Wrote}
use Rattle.flash_build.proofs.Writes.{on_ok, written, written_more, wrote_after, wrote_as, fails, can_fill_rest}
use Rattle.flash_build.proofs.TableFiles.{table_holds}
use Rattle.flash_build.proofs.tables.write_table.Goals as goal

pub write_indexes-requires-clause-can : goal.write_indexes-requires-clause-can
write_indexes-requires-clause-can g c =
    let subtree = written_more (omega arith) (omega arith) (written c.in_ok-write_columns.ensures.wrote) (written c.in_ok-write_subtree.ensures.wrote) in
    can_fill_rest c.requires.can subtree.others (omega arith) (omega arith) (omega arith)

pub write_id_index-requires-clause-can : goal.write_id_index-requires-clause-can
write_id_index-requires-clause-can g c =
    let subtree = written_more (omega arith) (omega arith) (written c.in_ok-write_columns.ensures.wrote) (written c.in_ok-write_subtree.ensures.wrote) in
    let indexes = written_more (omega arith) (omega arith) subtree (written c.in_ok-write_indexes.ensures.wrote) in
    can_fill_rest c.requires.can indexes.others (omega arith) (omega arith) (omega arith)

pub returns-clause-stores : goal.returns-clause-stores
returns-clause-stores g c =
    let laid = c.layout_laws.ensures.layout in
    on_ok c.write_id_index.result
    (λ id told.
    table_holds c.args.laid.now c.args.hidden.now c.args.table laid.tree laid.order c.requires.there
    (c.in_ok-write_columns.ensures.stores told) c.in_ok-write_subtree.ensures.wrote.others (c.in_ok-write_subtree.ensures.stores told)
    c.in_ok-write_indexes.ensures.wrote.others (c.in_ok-write_indexes.ensures.holds told) c.write_id_index.ensures.wrote.others (id told))
    c.write_id_index.ensures.holds

pub returns-clause-wrote : goal.returns-clause-wrote
returns-clause-wrote g c =
    let cat = c.args.laid.now in
    let columns = written c.in_ok-write_columns.ensures.wrote in
    let subtree = written_more (omega arith) (omega arith) columns (written c.in_ok-write_subtree.ensures.wrote) in
    let indexes = written_more (omega arith) (omega arith) subtree (written c.in_ok-write_indexes.ensures.wrote) in
    wrote_as c.write_id_index.result refl (omega arith) (omega arith)
    (wrote_after c.write_id_index.result (omega arith) (omega arith) indexes c.write_id_index.ensures.wrote)

pub returns-in_err-write_subtree-clause-wrote : goal.returns-in_err-write_subtree-clause-wrote
returns-in_err-write_subtree-clause-wrote g c =
    let cat = c.args.laid.now in
    let table = c.args.table in
    let e = c.in_err-write_subtree.field-0.0 in
    let same : c.from_residual-in_err-write_subtree.result ≡ Err e = search rules in
    let columns = written c.in_ok-write_columns.ensures.wrote in
    let step = wrote_after (Err e) (omega arith) (omega arith) columns c.in_err-write_subtree.ensures.wrote in
    subst (λ r. Wrote (sums.table_begin cat table) (sums.table_begin cat table + sums.table_pages cat table) (table_written cat c.args.hidden.now table)
    (g.F.Flash.state c.args.flash.now) (g.F.Flash.state c.write_subtree.new.flash) r) (sym same)
    (fails e step (sums.table_begin cat table) (sums.table_begin cat table + sums.table_pages cat table) (table_written cat c.args.hidden.now table) (omega arith) (omega arith) (omega arith))

pub returns-in_err-write_indexes-clause-wrote : goal.returns-in_err-write_indexes-clause-wrote
returns-in_err-write_indexes-clause-wrote g c =
    let cat = c.args.laid.now in
    let table = c.args.table in
    let e = c.in_err-write_indexes.field-0.0 in
    let same : c.from_residual-in_err-write_indexes.result ≡ Err e = search rules in
    let columns = written c.in_ok-write_columns.ensures.wrote in
    let subtree = written_more (omega arith) (omega arith) columns (written c.in_ok-write_subtree.ensures.wrote) in
    let step = wrote_after (Err e) (omega arith) (omega arith) subtree c.in_err-write_indexes.ensures.wrote in
    subst (λ r. Wrote (sums.table_begin cat table) (sums.table_begin cat table + sums.table_pages cat table) (table_written cat c.args.hidden.now table)
    (g.F.Flash.state c.args.flash.now) (g.F.Flash.state c.write_indexes.new.flash) r) (sym same)
    (fails e step (sums.table_begin cat table) (sums.table_begin cat table + sums.table_pages cat table) (table_written cat c.args.hidden.now table) (omega arith) (omega arith) (omega arith))

pub write_subtree-requires-clause-can : goal.write_subtree-requires-clause-can
write_subtree-requires-clause-can g c =
    can_fill_rest c.requires.can (written c.in_ok-write_columns.ensures.wrote).others (omega arith) (omega arith) (omega arith)

pub returns-in_err-write_columns-clause-wrote : goal.returns-in_err-write_columns-clause-wrote
returns-in_err-write_columns-clause-wrote g c =
    let cat = c.args.laid.now in
    let table = c.args.table in
    let e = c.in_err-write_columns.field-0.0 in
    let same : c.from_residual.result ≡ Err e = search rules in
    subst (λ r. Wrote (sums.table_begin cat table) (sums.table_begin cat table + sums.table_pages cat table) (table_written cat c.args.hidden.now table)
    (g.F.Flash.state c.args.flash.now) (g.F.Flash.state c.write_columns.new.flash) r) (sym same)
    (fails e c.in_err-write_columns.ensures.wrote (sums.table_begin cat table) (sums.table_begin cat table + sums.table_pages cat table) (table_written cat c.args.hidden.now table) (omega arith) (omega arith) (omega arith))
