use Rattle.std.proofs.Common.{◌≡◌, ◌-◌, length, ap, ◌∙◌, arith}
use Rattle.std.proofs.lemmas.List.{length-drop}
use Rattle.ghost_model.specs.core.Schema.{columns_of}
use Rattle.host_exec.specs.RowBytes.{data_columns, width_before}
use Rattle.host_exec.proofs.form.row_width.Goals as goal

pub width_before-requires : goal.width_before-requires
width_before-requires c =
    let tree = c.schemas_are_trees.ensures c.args.schema.now c.tables.ensures.declared in
    omega (arith, tree.few_columns c.args.table, c.columns.ensures)

pub returns-clause-width : goal.returns-clause-width
returns-clause-width c =
    let long : c.columns.result - 1 ≡ length (data_columns c.args.schema.now c.args.table) =
    omega (arith, c.columns.ensures, length-drop 1 (columns_of c.args.schema.now c.args.table)) in
    c.width_before.ensures.width ∙ ap (width_before (data_columns c.args.schema.now c.args.table)) long

pub returns-clause-narrow : goal.returns-clause-narrow
returns-clause-narrow c =
    let tree = c.schemas_are_trees.ensures c.args.schema.now c.tables.ensures.declared in
    omega (arith, tree.few_columns c.args.table, c.columns.ensures, c.width_before.ensures.narrow)
