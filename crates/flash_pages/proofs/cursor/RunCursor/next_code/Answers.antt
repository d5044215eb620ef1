use Rattle.std.proofs.Common.{◌≡◌, ◌%◌, ◌∙◌, ap, sym, refl, subst, drop, List, ℕ, arith}
use Rattle.ghost_model.specs.forms.Runs.{found_in}
use Rattle.ghost_model.specs.forms.Gaps.{reading_at}
use Rattle.ghost_base.specs.Runs.{run_of}
use Rattle.flash_pages.specs.declared.standing.Stand.{Stand}
use Rattle.flash_pages.specs.Codes.{StopsAt, TakesCode, stand_of}
use Rattle.flash_pages.specs.Cursors.{page_next}
use Rattle.flash_pages.proofs.ListFrames.{bytes_at_codes, codes_by_width}
use Rattle.flash_pages.proofs.CodeSteps.{left_step, suc_of}
use Rattle.flash_pages.proofs.CursorSteps.{gives_code, page_of_code, reads_next, ready_on, stands_at_code, sum_is_next}
use Rattle.flash_pages.proofs.Unread.{behind_is, leaves_behind, unread_codes}
use Rattle.flash_pages.proofs.cursor.RunCursor.next_code.Goals as goal

pub returns-in_default-clause-gives : goal.returns-in_default-clause-gives
returns-in_default-clause-gives g c = λ told.
    let self = c.args.self.now in
    let run = run_of self.list.run in
    let codes = c.requires.codes in
    let page = (g.F.Flash.state c.args.flash.now).page in
    let bytes = c.page-bytes.result.now in
    let held : bytes ≡ page (page_next self) = c.page-bytes.ensures.bytes ∙ c.in_ok-load_codes.ensures.bytes told in
    let P : Stand → Type 0 = λ stand. StopsAt bytes run.count self.rows stand in
    let stops = subst P c.stand.ensures c.in_default.ensures.stops in
    let sum = sum_is_next self bytes codes c.requires.ready.stands told (sym held) in
    record {
      within = c.requires.more;
      found_is =
          c.found_from.ensures
          ∙ ap (λ (b : List ℕ). found_in (drop (self.place % 2048) b)) (held ∙ ap page (page_of_code run self.place codes))
          ∙ ap found_in (sym (bytes_at_codes page run self.place (codes_by_width run codes)));
      not_next = λ n. stops (omega (arith, sum, n.above)) (omega (arith, sum, n.within));
    }

pub returns-clause-gives : goal.returns-clause-gives
returns-clause-gives g c = λ told.
    let self = c.args.self.now in
    let bytes = c.page-bytes.result.now in
    let P : Stand → Type 0 = λ stand. TakesCode bytes self.list.run.count self.rows stand c.in-Some.next in
    gives_code self bytes c.in-Some.next c.requires.codes c.requires.ready.stands told c.requires.more
    (sym (c.page-bytes.ensures.bytes ∙ c.in_ok-load_codes.ensures.bytes told))
    (subst P c.stand.ensures c.in-Some.ensures.takes)

pub returns-clause-always : goal.returns-clause-always
returns-clause-always g c =
    let self = c.args.self.now in
    let bytes = c.page-bytes.result.now in
    let next = c.in-Some.next in
    let page = (g.F.Flash.state c.args.flash.now).page in
    let P : Stand → Type 0 = λ stand. TakesCode bytes self.list.run.count self.rows stand next in
    let takes = subst P c.stand.ensures c.in-Some.ensures.takes in
    let ready = c.requires.ready in
    let read = c.in_ok-load_codes.ensures.read in
    record {
      step = (c.requires.more, takes.at);
      in_order = (record { above = takes.above; within = takes.below }, refl);
      fault = tt;
      ready =
          ready_on self next.at next.place next.last read.kept (read.holds c.requires.more) c.requires.more read.ready (omega (arith, takes.at, c.requires.more))
          (stands_at_code self next c.requires.codes takes.inside
          (λ told.
          ap (λ n. reading_at page self.list.run.first self.list.run.count self.list.first n) (suc_of takes.at)
          ∙ reads_next self bytes self.rows next c.requires.codes ready.stands told
          (sym (c.page-bytes.ensures.bytes ∙ c.in_ok-load_codes.ensures.bytes told)) takes))
          ready;
      same = record { list = refl; rows = refl; lease = refl };
    }

pub returns-clause-unread : goal.returns-clause-unread
returns-clause-unread g c =
    let self = c.args.self.now in
    let next = c.in-Some.next in
    let later = c.load_codes.new.pool in
    let P : Stand → Type 0 = λ stand. TakesCode c.page-bytes.result.now self.list.run.count self.rows stand next in
    let takes = subst P c.stand.ensures c.in-Some.ensures.takes in
    let held = c.in_ok-load_codes.ensures.read.holds c.requires.more in
    let left = left_step self.place self.list.count (stand_of self) next refl c.requires.more takes.at takes.behind in
    leaves_behind c.args.pool.now later self (record self { at = next.at; place = next.place; last = next.last })
    (omega (arith, left, unread_codes later self next c.requires.codes held, behind_is self c.requires.codes))
