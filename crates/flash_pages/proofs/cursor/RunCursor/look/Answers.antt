use Rattle.std.proofs.Common.{◌≡◌, ◌+◌, ◌∙◌, ap, sym, arith}
use Rattle.std.specs.Prelude.{Some}
use Rattle.ghost_model.specs.forms.Runs.{number_in, found_in}
use Rattle.ghost_base.specs.Runs.{run_of}
use Rattle.flash_pages.specs.Cursors.{id_in}
use Rattle.flash_pages.proofs.RecordLemmas.{record_in_page}
use Rattle.flash_pages.proofs.ListFrames.{bytes_at_record, listed_by_width, records_by_width, told_by_record}
use Rattle.flash_pages.proofs.CursorSteps.{listed_read, record_listed}
use Rattle.flash_pages.proofs.cursor.RunCursor.look.Goals as goal
use Rattle.flash_pages.proofs.cursor.RunCursor.look.Goals.{then-id-self-via-then-id-self, then-id-self-via-else-id-self+then-id-self-2}

pub returns-then-id-self-clause-damage : goal.returns-then-id-self-clause-damage
returns-then-id-self-clause-damage g c = λ told.
    let self = c.args.self.now in
    let run = run_of self.list.run in
    let at = self.list.first + c.args.at in
    let page = (g.F.Flash.state c.args.flash.now).page in
    let cell = record_in_page page run at c.slot_in_page-slot.result c.pages_before.result _ _ c.slot_in_page-slot.ensures.slot c.pages_before.ensures.pages c.cell_of-cell.ensures.cell (c.page.ensures.bytes ∙ c.in_ok-load.ensures.bytes told) in
    let id : c.number_at-id.result ≡ id_in page self c.args.at =
    c.number_at-id.ensures ∙ ap (λ r. number_in r 0) cell ∙ sym (listed_by_width page run self.list.first c.args.at c.requires.records) in
    record {
      within = c.requires.here.within;
      found_is = c.found_of-found.ensures.found ∙ ap (λ r. found_in r) (cell ∙ sym (bytes_at_record page run at (records_by_width run c.requires.records)));
      not_next = λ n. elim c.then-id-self.branch [
        | then-id-self-via-then-id-self w ↦ omega (arith, id)
        | then-id-self-via-else-id-self+then-id-self-2 w ↦ omega (arith, id)
      ];
    }

pub returns-then-id-self-clause-blames : goal.returns-then-id-self-clause-blames
returns-then-id-self-clause-blames g c = λ since from given.
    let self = c.args.self.now in
    let run = run_of self.list.run in
    let at = self.list.first + c.args.at in
    let records = records_by_width run c.requires.records in
    let id = c.number_at-id.ensures ∙ sym (told_by_record run at self.last c.cell_of-cell.result.now records) in
    record {
      within = c.requires.here.within;
      page = ap (λ q. self.list.run.first + q) c.pages_before.ensures.pages;
      slot_is = c.slot_in_page-slot.ensures.slot;
      bytes = c.cell_of-cell.result.now;
      read =
          listed_read c.load.new.pool self.lease
          (c.in_ok-load.ensures.read.holds ∙ ap (λ q. Some (self.list.run.first + q)) c.pages_before.ensures.pages)
          (c.in_ok-load.ensures.read.given since from given)
          (record_listed run at c.slot_in_page-slot.result _ _ _ records c.slot_in_page-slot.ensures.slot c.cell_of-cell.ensures.cell c.page.ensures.bytes);
      found_is = c.found_of-found.ensures.found;
      not_next = λ n. elim c.then-id-self.branch [
        | then-id-self-via-then-id-self w ↦ omega (arith, id)
        | then-id-self-via-else-id-self+then-id-self-2 w ↦ omega (arith, id)
      ];
    }

pub returns-clause-id : goal.returns-clause-id
returns-clause-id g c = λ told.
    let self = c.args.self.now in
    let run = run_of self.list.run in
    let page = (g.F.Flash.state c.args.flash.now).page in
    c.number_at-id.ensures
    ∙ ap (λ r. number_in r 0)
    (record_in_page page run (self.list.first + c.args.at) c.slot_in_page-slot.result c.pages_before.result _ _ c.slot_in_page-slot.ensures.slot c.pages_before.ensures.pages c.cell_of-cell.ensures.cell (c.page.ensures.bytes ∙ c.in_ok-load.ensures.bytes told))
    ∙ sym (listed_by_width page run self.list.first c.args.at c.requires.records)
