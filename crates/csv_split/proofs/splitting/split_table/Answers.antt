use Rattle.std.proofs.Common.{◌∙◌, length}
use Rattle.csv_split.proofs.SplitParts.{flags_of, hidden_all, hidden_rows, visible_all, visible_rows}
use Rattle.csv_split.proofs.splitting.split_table.Goals as goal

pub of-requires-clause-all : goal.of-requires-clause-all
of-requires-clause-all c =
    rw c.rows-rows.ensures.count
    (visible_all (length c.args.table) (flags_of c.args.declared.now) c.into_columns.result.items c.in_ok-visible.visible.items c.in_ok-visible.ensures.visible c.into_columns.ensures.all)

pub of-requires-2-clause-all : goal.of-requires-2-clause-all
of-requires-2-clause-all c =
    rw c.rows-rows.ensures.count
    (hidden_all (length c.args.table) (flags_of c.args.declared.now) c.into_columns.result.items c.in_ok-visible.kept.items c.in_ok-visible.ensures.kept c.into_columns.ensures.all)

pub returns-clause-visible : goal.returns-clause-visible
returns-clause-visible c =
    c.of.ensures
    ∙ rw c.rows-rows.ensures.count
    (visible_rows (length c.args.table) c.args.declared.now c.into_columns.result.items c.in_ok-visible.visible.items c.args.table c.in_ok-visible.ensures.visible c.into_columns.ensures.rows)

pub returns-clause-kept : goal.returns-clause-kept
returns-clause-kept c =
    c.of-2.ensures
    ∙ rw c.rows-rows.ensures.count
    (hidden_rows (length c.args.table) c.args.declared.now c.into_columns.result.items c.in_ok-visible.kept.items c.args.table c.in_ok-visible.ensures.kept c.into_columns.ensures.rows)
