use Rattle.std.proofs.Common.{◌∙◌, ◌-◌, option_map, sym, ap}
use Rattle.ghost_base.specs.Views.{value_of}
use Rattle.ghost_base.specs.Runs.{run_of}
use Rattle.ghost_model.specs.forms.Runs.{found_in}
use Rattle.flash_pages.proofs.RecordLemmas.{record_read}
use Rattle.hidden_columns.specs.Files.{value_spelled}
use Rattle.hidden_columns.proofs.file.ColumnFile.get_counted.Goals as goal

pub returns-in-Some-clause-gives : goal.returns-in-Some-clause-gives
returns-in-Some-clause-gives g c = λ told.
    let file = c.args.self.now in
    let cell = record_read (g.F.Flash.state c.args.flash.now).page (run_of file.run) (c.args.identifier - 1) c.per_page-records.result _ _
    c.per_page-records.ensures.value c.cell_of-cell.ensures.cell (c.page.ensures.bytes ∙ c.in-Ok.ensures.bytes told) in
    sym (ap (value_spelled file) cell) ∙ sym c.value_in.ensures.value ∙ ap (option_map value_of) c.in-Some.is

pub returns-in-None-clause-gives : goal.returns-in-None-clause-gives
returns-in-None-clause-gives g c = λ told.
    let file = c.args.self.now in
    let cell = record_read (g.F.Flash.state c.args.flash.now).page (run_of file.run) (c.args.identifier - 1) c.per_page-records.result _ _
    c.per_page-records.ensures.value c.cell_of-cell.ensures.cell (c.page.ensures.bytes ∙ c.in-Ok.ensures.bytes told) in
    record {
      no_value = sym (ap (value_spelled file) cell) ∙ sym c.value_in.ensures.value ∙ ap (option_map value_of) c.in-None.is;
      found_is = c.found_of.ensures.found ∙ ap found_in cell;
    }
