use Rattle.std.proofs.Common.{ap, sym, ◌∙◌, ◌+◌}
use Rattle.ghost_model.specs.forms.Runs.{Run}
use Rattle.flash_build.proofs.Writes.{wrote_as, can_as}
use Rattle.flash_build.proofs.TableFiles.{pages_of_run}
use Rattle.flash_build.proofs.columns.write_file.Goals as goal

pub write_records-requires-clause-can : goal.write_records-requires-clause-can
write_records-requires-clause-can g c =
    let run = c.column_file-run.ensures.run in
    let pages = pages_of_run c.args.laid.now c.args.table c.args.column c.requires.hidden run c.column_cells-cells.ensures.count in
    let first = ap (λ (r : Run). r.first) run ∙ c.layout_laws.ensures.layout.sums.column_file c.args.table c.args.column c.requires.hidden in
    can_as (sym first) (sym pages) c.requires.can

pub returns-clause-wrote : goal.returns-clause-wrote
returns-clause-wrote g c =
    let run = c.column_file-run.ensures.run in
    let pages = pages_of_run c.args.laid.now c.args.table c.args.column c.requires.hidden run c.column_cells-cells.ensures.count in
    let first = ap (λ (r : Run). r.first) run ∙ c.layout_laws.ensures.layout.sums.column_file c.args.table c.args.column c.requires.hidden in
    wrote_as c.write_records.result first (λ i. first i + pages i) pages c.write_records.ensures.wrote
