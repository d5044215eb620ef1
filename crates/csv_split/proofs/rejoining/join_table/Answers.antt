use Rattle.std.proofs.Common.{◌∙◌, ℕ, length, sym, ap, subst}
use Rattle.csv_split.specs.Parts.{part_in}
use Rattle.csv_split.specs.Reading.{HaveAll}
use Rattle.csv_split.specs.Tables.{column_values}
use Rattle.csv_split.proofs.RejoinedParts.{merged_all, rows_merged}
use Rattle.csv_split.proofs.SplitParts.{flags_of}
use Rattle.csv_split.proofs.rejoining.join_table.Goals as goal

pub of-requires-clause-all : goal.of-requires-clause-all
of-requires-clause-all c =
    let P : ℕ → Type 0 = λ n. HaveAll n (column_values c.into_columns-2.result.items) in
    rw c.rows-rows.ensures.count
    (merged_all (length c.args.one) (flags_of c.args.declared.now) c.into_columns.result.items c.into_columns-2.result.items c.in_ok-columns.columns.items
    c.in_ok-columns.ensures c.into_columns.ensures.all (subst P (sym c.requires) c.into_columns-2.ensures.all))

pub returns : goal.returns
returns c =
    c.of.ensures
    ∙ rw c.rows-rows.ensures.count
    (rows_merged (length c.args.one) c.args.declared.now c.into_columns.result.items c.into_columns-2.result.items c.in_ok-columns.columns.items c.args.one c.args.other
    c.in_ok-columns.ensures c.into_columns.ensures.rows
    (c.into_columns-2.ensures.rows ∙ ap (λ n. part_in n (column_values c.into_columns-2.result.items)) (sym c.requires)))
