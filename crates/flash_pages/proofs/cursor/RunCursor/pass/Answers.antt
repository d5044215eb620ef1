use Rattle.std.proofs.Common.{◌≡◌, inr, refl, rules, ◌+◌, ◌-◌, ◌∙◌, ap, arith}
use Rattle.ghost_model.specs.forms.Runs.{page_of}
use Rattle.ghost_base.specs.Runs.{run_of}
use Rattle.flash_pages.proofs.CursorSteps.{ready_on, stands_at_record, wide_of}
use Rattle.flash_pages.proofs.ListFrames.{listed_by_width, records_by_width}
use Rattle.flash_pages.proofs.Passing.{last_in_page}
use Rattle.flash_pages.proofs.Unread.{leaves_behind, unread_on}
use Rattle.flash_pages.proofs.cursor.RunCursor.pass.Goals as goal

pub returns-then-id-bound-clause-gives : goal.returns-then-id-bound-clause-gives
returns-then-id-bound-clause-gives g c = λ told.
    let self = c.args.self.now in
    let ready = c.requires.ready in
    let wide = wide_of ready.width c.if-self-eq1.false in
    let at = self.at + c.min.result in
    let page = (g.F.Flash.state c.args.flash.now).page in
    let id = c.in_ok-id.ensures.id told ∙ listed_by_width page (run_of self.list.run) self.list.first at wide in
    record {
      gives = search rules;
      ends = λ _ _.
          inr (record {
            at = at;
            last = last_in_page self c.left_in_page.result c.min.result _ c.left_in_page.ensures.some (ready.stands.record_is wide) c.if-self.false c.left_in_page.ensures.left c.min.ensures refl;
            reaches = omega (arith, c.if-id-bound.true, id);
          });
      stops = λ codes. absurd (c.if-self-eq1.false codes);
      damage = search rules;
    }

pub returns-clause-always : goal.returns-clause-always
returns-clause-always g c =
    let self = c.args.self.now in
    let ready = c.requires.ready in
    let wide = wide_of ready.width c.if-self-eq1.false in
    let at = self.at + c.min.result in
    let read = c.in_ok-id.ensures.read in
    record {
      passes = search rules;
      whole = λ _ _.
          last_in_page self c.left_in_page.result c.min.result _ c.left_in_page.ensures.some (ready.stands.record_is wide) c.if-self.false c.left_in_page.ensures.left c.min.ensures (omega arith);
      stays = search rules;
      fault = search rules;
      blames_none = λ _. tt;
      ready =
          ready_on self (at + 1) (self.list.first + (at + 1)) c.in_ok-id.id read.kept read.holds (omega arith) read.ready (omega (arith, c.min.ensures))
          (stands_at_record self at (at + 1) (self.list.first + (at + 1)) c.in_ok-id.id wide refl refl ready.list c.in_ok-id.ensures.id)
          ready;
      same = search rules;
    }

pub returns-clause-unread : goal.returns-clause-unread
returns-clause-unread g c =
    let self = c.args.self.now in
    let run = run_of self.list.run in
    let ready = c.requires.ready in
    let wide = wide_of ready.width c.if-self-eq1.false in
    let at = self.at + c.min.result in
    let later = c.look.new.pool in
    let last = last_in_page self c.left_in_page.result c.min.result at c.left_in_page.ensures.some (ready.stands.record_is wide) c.if-self.false c.left_in_page.ensures.left c.min.ensures refl in
    let same : self.list.first + (at + 1 - 1) ≡ self.list.first + at = omega arith in
    leaves_behind c.args.pool.now later self (record self { at = at + 1; place = self.list.first + (at + 1); last = c.in_ok-id.id })
    (omega (
      arith,
      unread_on later self (at + 1) (self.list.first + (at + 1)) c.in_ok-id.id (records_by_width run wide) c.left_in_page.ensures.some (omega arith)
          (omega (arith, last.within)) refl (ap (page_of run) same ∙ last.same_page) c.in_ok-id.ensures.read.holds,
    ))
