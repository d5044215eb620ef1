use Rattle.std.proofs.Common.{◌≡◌, ◌+◌, ◌-◌, ◌∷◌, ◌∙◌, ap, sym, refl, rules, arith}
use Rattle.ghost_model.specs.forms.Runs.{page_of}
use Rattle.ghost_model.specs.forms.Gaps.{listed_from}
use Rattle.ghost_base.specs.Runs.{run_of}
use Rattle.flash_pages.specs.Cursors.{page_next}
use Rattle.flash_pages.proofs.CursorSteps.{ready_on, some_records, stands_at_record, wide_of}
use Rattle.flash_pages.proofs.ListFrames.{listed_end, listed_step, records_by_width}
use Rattle.flash_pages.proofs.Unread.{leaves_behind, unread_on}
use Rattle.flash_pages.proofs.cursor.RunCursor.next.Goals as goal

pub returns-then-self-clause-gives : goal.returns-then-self-clause-gives
returns-then-self-clause-gives g c = λ told.
    let cursor = c.args.self.now in
    listed_end (g.F.Flash.state c.args.flash.now).page (run_of cursor.list.run) cursor.list.first cursor.at cursor.list.count (omega arith)

pub returns-clause-gives : goal.returns-clause-gives
returns-clause-gives g c = λ told.
    let cursor = c.args.self.now in
    let page = (g.F.Flash.state c.args.flash.now).page in
    record {
      left =
          listed_step page (run_of cursor.list.run) cursor.list.first cursor.at cursor.list.count (omega arith)
          ∙ ap (λ n. n ∷ listed_from page (run_of cursor.list.run) cursor.list.first (cursor.at + 1) (cursor.list.count - (cursor.at + 1))) (sym (c.in_ok-id.ensures.id told));
      is_next = c.in_ok-id.ensures.in_order;
      last = refl;
    }

pub returns-clause-always : goal.returns-clause-always
returns-clause-always g c =
    let self = c.args.self.now in
    let ready = c.requires.ready in
    let wide = wide_of ready.width c.if-self-eq1.false in
    let here = ready.stands.record_is wide in
    let read = c.in_ok-id.ensures.read in
    record {
      step = search rules;
      in_order = search rules;
      fault = search rules;
      ready =
          ready_on self (self.at + 1) (self.place + 1) c.in_ok-id.id read.kept read.holds (omega arith) read.ready (omega arith)
          (stands_at_record self self.at (self.at + 1) (self.place + 1) c.in_ok-id.id wide refl (omega (arith, here)) ready.list c.in_ok-id.ensures.id)
          ready;
      same = search rules;
    }

pub returns-clause-unread : goal.returns-clause-unread
returns-clause-unread g c =
    let self = c.args.self.now in
    let run = run_of self.list.run in
    let ready = c.requires.ready in
    let wide = wide_of ready.width c.if-self-eq1.false in
    let here = ready.stands.record_is wide in
    let later = c.look.new.pool in
    let page : page_of run (self.list.first + (self.at + 1 - 1)) ≡ page_next self = ap (page_of run) (omega (arith, here)) in
    leaves_behind c.args.pool.now later self (record self { at = self.at + 1; place = self.place + 1; last = c.in_ok-id.id })
    (omega (
      arith,
      unread_on later self (self.at + 1) (self.place + 1) c.in_ok-id.id (records_by_width run wide) (some_records ready) (omega arith)
          (omega arith) (omega (arith, here)) page c.in_ok-id.ensures.read.holds,
    ))
