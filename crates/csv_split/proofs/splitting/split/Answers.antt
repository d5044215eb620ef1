use Rattle.std.proofs.Common.{◌∙◌, List, map, length, sym, ap, arith}
use Rattle.std.specs.Vec.Iter.{into_iter_items}
use Rattle.ghost_model.specs.core.Values.{Rows}
use Rattle.csv_split.specs.Parts.{public_with, hidden_with}
use Rattle.csv_split.specs.Reading.{columns_of, with_identifier}
use Rattle.csv_split.proofs.SplitParts.{all_tables_parted, one_table_parted, same_counts}
use Rattle.csv_split.proofs.splitting.split.Goals as goal

pub loop-table-preserved : goal.loop-table-preserved
loop-table-preserved c =
    let many = c.tables-table-end.ensures.count in
    one_table_parted c.args.schema.now c.loop-table.table (with_identifier (columns_of c.declared_columns-declared.result.now)) c.args.tables (into_iter_items c.loop-table.left) (into_iter_items c.split_next.new.left)
    c.loop-table.public.visible c.split_next.new.public.visible c.loop-table.hidden.hidden c.split_next.new.hidden.hidden
    c.loop-table.invariant (omega arith) c.declared_columns-declared.ensures.columns c.in_ok-split_next.ensures.visible c.in_ok-split_next.ensures.kept c.in_ok-split_next.ensures.left

pub returns-clause-public : goal.returns-clause-public
returns-clause-public c =
    let many = c.tables-table-end.ensures.count in
    let all = all_tables_parted c.args.schema.now c.loop-table.table c.args.tables (into_iter_items c.loop-table.left) c.loop-table.public.visible c.loop-table.hidden.hidden
    c.loop-table.invariant (omega (arith, c.loop-table-test.false)) in
    ap public_with (all.0 ∙ sym (c.parts_by_flags.ensures.visible c.args.schema.now c.args.tables))

pub returns-clause-hidden : goal.returns-clause-hidden
returns-clause-hidden c =
    let many = c.tables-table-end.ensures.count in
    let all = all_tables_parted c.args.schema.now c.loop-table.table c.args.tables (into_iter_items c.loop-table.left) c.loop-table.public.visible c.loop-table.hidden.hidden
    c.loop-table.invariant (omega (arith, c.loop-table-test.false)) in
    ap hidden_with (all.1 ∙ sym (c.parts_by_flags.ensures.hidden c.args.schema.now c.args.tables))

pub returns-clause-counts : goal.returns-clause-counts
returns-clause-counts c =
    let many = c.tables-table-end.ensures.count in
    let all = all_tables_parted c.args.schema.now c.loop-table.table c.args.tables (into_iter_items c.loop-table.left) c.loop-table.public.visible c.loop-table.hidden.hidden
    c.loop-table.invariant (omega (arith, c.loop-table-test.false)) in
    ap (λ (rows : List Rows). map length rows) all.0 ∙ same_counts c.args.schema.now c.args.tables ∙ sym (ap (λ (rows : List Rows). map length rows) all.1)
