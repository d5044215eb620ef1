use Rattle.std.proofs.Common.{◌≡◌, ◌∙◌, ap, sym, refl, subst, arith}
use Rattle.std.proofs.lemmas.Bool.{ltb-true, ltb-false}
use Rattle.flash_pages.specs.declared.cursor.RunCursor.{RunCursor}
use Rattle.flash_pages.specs.declared.standing.Stand.{Stand}
use Rattle.flash_pages.specs.Codes.{TakesCodes}
use Rattle.flash_pages.specs.Cursors.{page_next}
use Rattle.flash_pages.proofs.CursorSteps.{passes_to, ready_on, stands_behind, stops_at}
use Rattle.flash_pages.proofs.cursor.RunCursor.pass_codes.Goals as goal

pub returns-clause-gives : goal.returns-clause-gives
returns-clause-gives g c = λ told.
    let self = c.args.self.now in
    let bytes = c.page-bytes.result.now in
    let next = c.take_codes-next.result in
    let limit = c.min-limit.result in
    let page = (g.F.Flash.state c.args.flash.now).page in
    let codes = c.requires.codes in
    let now : RunCursor = record self { at = next.at; place = next.place; last = next.last } in
    let P : Stand → Type 0 = λ stand. TakesCodes bytes self.list.count self.list.run.count limit stand next in
    let takes = subst P c.stand.ensures c.take_codes-next.ensures.takes in
    let here = ap (λ (stand : Stand). stand.place) c.stand.ensures in
    let held : page (page_next self) ≡ bytes = sym (c.page-bytes.ensures.bytes ∙ c.in_ok-load_codes.ensures.bytes told) in
    let stands = stands_behind self bytes limit next codes c.requires.ready.stands (λ _. held) takes in
    record {
      gives = λ passed. passes_to now codes stands told (omega (arith, ltb-true self.at next.at passed));
      ends = λ wide. absurd (omega (arith, wide, codes));
      stops = λ _.
          stops_at self bytes c.args.bound c.saturating_sub.result limit next codes stands told held takes.within c.min-limit.ensures c.saturating_sub.ensures
          (λ more same. c.take_codes-next.ensures.stops more (omega (arith, same, here)));
      damage = tt;
    }

pub returns-clause-always : goal.returns-clause-always
returns-clause-always g c =
    let self = c.args.self.now in
    let bytes = c.page-bytes.result.now in
    let next = c.take_codes-next.result in
    let limit = c.min-limit.result in
    let codes = c.requires.codes in
    let P : Stand → Type 0 = λ stand. TakesCodes bytes self.list.count self.list.run.count limit stand next in
    let takes = subst P c.stand.ensures c.take_codes-next.ensures.takes in
    let read = c.in_ok-load_codes.ensures.read in
    record {
      passes = λ passed.
          let further = ltb-true self.at next.at passed in
          record {
            further = further;
            within = takes.within;
            above = takes.above further;
            below = omega (arith, takes.above further, takes.below further, c.min-limit.ensures, c.saturating_sub.ensures);
            rows = omega (arith, takes.below further, c.min-limit.ensures);
          };
      whole = λ wide. absurd (omega (arith, wide, codes));
      stays = λ none.
          let at : next.at ≡ self.at = omega (arith, takes.from, ltb-false self.at next.at none) in
          ap (λ (stand : Stand). record self { at = stand.at; place = stand.place; last = stand.last }) (takes.stays at);
      fault = tt;
      blames_none = λ _. tt;
      ready =
          ready_on self next.at next.place next.last read.kept (read.holds c.requires.more) c.requires.more read.ready takes.within
          (stands_behind self bytes limit next codes c.requires.ready.stands
          (λ told. sym (c.page-bytes.ensures.bytes ∙ c.in_ok-load_codes.ensures.bytes told)) takes)
          c.requires.ready;
      same = record { list = refl; rows = refl; lease = refl };
    }
