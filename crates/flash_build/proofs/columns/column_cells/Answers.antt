use Rattle.std.proofs.Common.{◌≡◌, ◌∙◌, ◌≤◌, [], ap, sym, subst, length, map, arith}
use Rattle.ghost_model.specs.core.Schema.{plain_of}
use Rattle.ghost_model.specs.forms.Cells.{cell_width, encode_cell}
use Rattle.ghost_model.specs.forms.Flash.{hidden_cells}
use Rattle.csv_split.specs.Cells.{values_in}
use Rattle.flash_build.specs.Cells.{AreHeld}
use Rattle.flash_build.specs.Sources.{cells_of}
use Rattle.flash_build.proofs.HiddenCells.{part_fits, plain_cells_fit, cell_widths}
use Rattle.flash_build.proofs.HiddenValues.{values_are, none_are}
use Rattle.flash_build.proofs.columns.column_cells.Goals as goal

pub cells_of_kind-requires-clause-narrow : goal.cells_of_kind-requires-clause-narrow
cells_of_kind-requires-clause-narrow c =
    let cat = c.args.laid.now in
    let hidden = c.args.hidden.now in
    let table = c.args.table in
    let column = c.args.column in
    let laid = c.layout_laws.ensures.layout in
    subst (λ kind. cell_width (plain_of kind) ≤ 64) (sym c.kind_of_column-kind.ensures.kind) (plain_cells_fit cat.schema laid.cells table column c.requires.hidden)

pub cells_of_kind-requires-clause-held : goal.cells_of_kind-requires-clause-held
cells_of_kind-requires-clause-held c =
    let cat = c.args.laid.now in
    let hidden = c.args.hidden.now in
    let table = c.args.table in
    let column = c.args.column in
    let laid = c.layout_laws.ensures.layout in
    let values = values_in c.in-Some.values.now in
    let are = values_are cat hidden laid.tree laid.narrow c.hidden_values_by_place.ensures c.hidden_values_of_databases.ensures c.hidden_parts_go_with_catalogs.ensures c.hidden_cells_fit.ensures
    c.requires.part table column c.requires.hidden c.hidden_before.result c.hidden_before.ensures.count values c.in-Some.ensures.held in
    subst (λ kind. AreHeld kind values) (sym c.kind_of_column-kind.ensures.kind) are.kinds

pub cells_of_kind-requires-clause-few : goal.cells_of_kind-requires-clause-few
cells_of_kind-requires-clause-few c =
    let cat = c.args.laid.now in
    let hidden = c.args.hidden.now in
    let table = c.args.table in
    let column = c.args.column in
    let laid = c.layout_laws.ensures.layout in
    let values = values_in c.in-Some.values.now in
    let are = values_are cat hidden laid.tree laid.narrow c.hidden_values_by_place.ensures c.hidden_values_of_databases.ensures c.hidden_parts_go_with_catalogs.ensures c.hidden_cells_fit.ensures
    c.requires.part table column c.requires.hidden c.hidden_before.result c.hidden_before.ensures.count values c.in-Some.ensures.held in
    let few = laid.few.rows table in
    omega (arith, few, are.long)

pub returns-in-None-clause-cells : goal.returns-in-None-clause-cells
returns-in-None-clause-cells c =
    let cat = c.args.laid.now in
    let hidden = c.args.hidden.now in
    let table = c.args.table in
    let column = c.args.column in
    let laid = c.layout_laws.ensures.layout in
    let same : [] ≡ hidden_cells cat.schema hidden table column = sym (none_are cat hidden laid.tree laid.narrow c.hidden_values_by_place.ensures c.hidden_values_of_databases.ensures c.hidden_parts_go_with_catalogs.ensures c.hidden_cells_fit.ensures
    c.requires.part table column c.requires.hidden c.hidden_before.result c.hidden_before.ensures.count c.in-None.ensures.none) in
    same

pub returns-in-None-clause-count : goal.returns-in-None-clause-count
returns-in-None-clause-count c =
    let cat = c.args.laid.now in
    let hidden = c.args.hidden.now in
    let table = c.args.table in
    let column = c.args.column in
    let laid = c.layout_laws.ensures.layout in
    let same : [] ≡ hidden_cells cat.schema hidden table column = sym (none_are cat hidden laid.tree laid.narrow c.hidden_values_by_place.ensures c.hidden_values_of_databases.ensures c.hidden_parts_go_with_catalogs.ensures c.hidden_cells_fit.ensures
    c.requires.part table column c.requires.hidden c.hidden_before.result c.hidden_before.ensures.count c.in-None.ensures.none) in
    let fits = part_fits cat hidden laid.tree c.hidden_parts_go_with_catalogs.ensures c.hidden_cells_fit.ensures c.requires.part in
    ap length same ∙ fits.count table column c.requires.hidden

pub returns-in-Some-clause-cells : goal.returns-in-Some-clause-cells
returns-in-Some-clause-cells c =
    let cat = c.args.laid.now in
    let hidden = c.args.hidden.now in
    let table = c.args.table in
    let column = c.args.column in
    let laid = c.layout_laws.ensures.layout in
    let values = values_in c.in-Some.values.now in
    let are = values_are cat hidden laid.tree laid.narrow c.hidden_values_by_place.ensures c.hidden_values_of_databases.ensures c.hidden_parts_go_with_catalogs.ensures c.hidden_cells_fit.ensures
    c.requires.part table column c.requires.hidden c.hidden_before.result c.hidden_before.ensures.count values c.in-Some.ensures.held in
    let same : cells_of c.cells_of_kind.result ≡ hidden_cells cat.schema hidden table column =
    c.cells_of_kind.ensures.cells ∙ ap (λ kind. map (encode_cell kind) values) c.kind_of_column-kind.ensures.kind ∙ are.cells in
    same

pub returns-in-Some-clause-count : goal.returns-in-Some-clause-count
returns-in-Some-clause-count c =
    let cat = c.args.laid.now in
    let hidden = c.args.hidden.now in
    let table = c.args.table in
    let column = c.args.column in
    let laid = c.layout_laws.ensures.layout in
    let values = values_in c.in-Some.values.now in
    let are = values_are cat hidden laid.tree laid.narrow c.hidden_values_by_place.ensures c.hidden_values_of_databases.ensures c.hidden_parts_go_with_catalogs.ensures c.hidden_cells_fit.ensures
    c.requires.part table column c.requires.hidden c.hidden_before.result c.hidden_before.ensures.count values c.in-Some.ensures.held in
    let same : cells_of c.cells_of_kind.result ≡ hidden_cells cat.schema hidden table column =
    c.cells_of_kind.ensures.cells ∙ ap (λ kind. map (encode_cell kind) values) c.kind_of_column-kind.ensures.kind ∙ are.cells in
    let fits = part_fits cat hidden laid.tree c.hidden_parts_go_with_catalogs.ensures c.hidden_cells_fit.ensures c.requires.part in
    ap length same ∙ fits.count table column c.requires.hidden

pub returns-in-Some-clause-widths : goal.returns-in-Some-clause-widths
returns-in-Some-clause-widths c =
    let cat = c.args.laid.now in
    let hidden = c.args.hidden.now in
    let table = c.args.table in
    let column = c.args.column in
    let laid = c.layout_laws.ensures.layout in
    let values = values_in c.in-Some.values.now in
    let are = values_are cat hidden laid.tree laid.narrow c.hidden_values_by_place.ensures c.hidden_values_of_databases.ensures c.hidden_parts_go_with_catalogs.ensures c.hidden_cells_fit.ensures
    c.requires.part table column c.requires.hidden c.hidden_before.result c.hidden_before.ensures.count values c.in-Some.ensures.held in
    let same : cells_of c.cells_of_kind.result ≡ hidden_cells cat.schema hidden table column =
    c.cells_of_kind.ensures.cells ∙ ap (λ kind. map (encode_cell kind) values) c.kind_of_column-kind.ensures.kind ∙ are.cells in
    let fits = part_fits cat hidden laid.tree c.hidden_parts_go_with_catalogs.ensures c.hidden_cells_fit.ensures c.requires.part in
    cell_widths _ _ _ same (λ i cell there. fits.width table column i cell c.requires.hidden there)
