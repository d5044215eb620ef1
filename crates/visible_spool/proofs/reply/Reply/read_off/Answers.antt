use Rattle.std.proofs.Common.{ap, sym, subst, refl, ◌+◌, ◌*◌, Some, arith}
use Rattle.edge_traits.specs.Devices.{GaveSince}
use Rattle.visible_spool.specs.Replies.{Blames}
use Rattle.visible_spool.specs.Searches.{BlamedHere, row_at}
use Rattle.visible_spool.proofs.Readable.{IsPage, page_of_rows, its_page}
use Rattle.visible_spool.proofs.HeldPage.{held_between}
use Rattle.visible_spool.proofs.RowsHere.{rows_from, rows_to, nowhere, row_found, not_wrong}
use Rattle.visible_spool.proofs.reply.Reply.read_off.Goals as goal

pub returns-in-Before-clause-finds : goal.returns-in-Before-clause-finds
returns-in-Before-clause-finds c = λ pages rows holds is was.
    let high = c.requires.high in
    let within = c.requires.within in
    let p : IsPage c.args.self.now c.args.page (c.args.page * c.per_page-each.result) c.min-last.result =
    page_of_rows c.args.self.now c.requires.readable c.args.page c.per_page-each.result c.min-last.result c.per_page-each.ensures.value (omega (arith, high, within)) c.min-last.ensures in
    let told = c.in-Before.ensures.verdict in
    let low = told.0 in
    let less = told.1 in
    record {
      below = was.below;
      above = λ place there from.
          rows_from pages c.args.self.now rows holds c.args.bytes.now c.args.page is (c.args.page * c.per_page-each.result) c.min-last.result p.some p.low p.order p.within p.high p.whole
          c.args.id (omega (arith, low, less)) place there from;
    }

pub returns-in-After-clause-finds : goal.returns-in-After-clause-finds
returns-in-After-clause-finds c = λ pages rows holds is was.
    let high = c.requires.high in
    let within = c.requires.within in
    let p : IsPage c.args.self.now c.args.page (c.args.page * c.per_page-each.result) c.min-last.result =
    page_of_rows c.args.self.now c.requires.readable c.args.page c.per_page-each.result c.min-last.result c.per_page-each.ensures.value (omega (arith, high, within)) c.min-last.ensures in
    let told = c.in-After.ensures.verdict in
    let top = told.0 in
    let less = told.1 in
    record {
      below = λ place there to.
          rows_to pages c.args.self.now rows holds c.args.bytes.now c.args.page is (c.args.page * c.per_page-each.result) c.min-last.result p.some p.low p.order p.within p.high p.whole
          c.args.id (omega (arith, top, less)) place there to;
      above = was.above;
    }

pub returns-in-At-clause-finds : goal.returns-in-At-clause-finds
returns-in-At-clause-finds c = λ pages rows holds is was.
    let high = c.requires.high in
    let within = c.requires.within in
    let p : IsPage c.args.self.now c.args.page (c.args.page * c.per_page-each.result) c.min-last.result =
    page_of_rows c.args.self.now c.requires.readable c.args.page c.per_page-each.result c.min-last.result c.per_page-each.ensures.value (omega (arith, high, within)) c.min-last.ensures in
    let told = c.in-At.ensures.verdict in
    row_found pages c.args.self.now rows holds c.args.bytes.now c.args.page is (c.args.page * c.per_page-each.result) c.min-last.result p.some p.low p.order p.within p.high p.whole
    c.args.id c.in-At.place told.0 told.1 told.2

pub returns-in-At-clause-stands : goal.returns-in-At-clause-stands
returns-in-At-clause-stands c = λ since device gave.
    let high = c.requires.high in
    let within = c.requires.within in
    let p : IsPage c.args.self.now c.args.page (c.args.page * c.per_page-each.result) c.min-last.result =
    page_of_rows c.args.self.now c.requires.readable c.args.page c.per_page-each.result c.min-last.result c.per_page-each.ensures.value (omega (arith, high, within)) c.min-last.ensures in
    let told = c.in-At.ensures.verdict in
    let at = its_page c.args.self.now c.args.page (c.args.page * c.per_page-each.result) c.min-last.result c.in-At.place p told.0 told.1 in
    record {
      bytes = c.args.bytes.now;
      gave = subst (λ q. GaveSince since device c.args.bytes.now (c.args.self.now.run.first + q)) (sym at) gave;
      record_is = refl;
    }

pub returns-in-At-clause-lies : goal.returns-in-At-clause-lies
returns-in-At-clause-lies c =
    let high = c.requires.high in
    let within = c.requires.within in
    let p : IsPage c.args.self.now c.args.page (c.args.page * c.per_page-each.result) c.min-last.result =
    page_of_rows c.args.self.now c.requires.readable c.args.page c.per_page-each.result c.min-last.result c.per_page-each.ensures.value (omega (arith, high, within)) c.min-last.ensures in
    let told = c.in-At.ensures.verdict in
    let to = told.1 in
    let end = p.within in
    let at = its_page c.args.self.now c.args.page (c.args.page * c.per_page-each.result) c.min-last.result c.in-At.place p told.0 told.1 in
    record {
      within = omega (arith, to, end);
      here = ap (λ q. Some (c.args.self.now.run.first + q)) (sym at);
      size = c.told-bytes;
      number = told.2;
      may = told.3;
    }

pub returns-in-Nowhere-clause-finds : goal.returns-in-Nowhere-clause-finds
returns-in-Nowhere-clause-finds c = λ pages rows holds is was.
    let high = c.requires.high in
    let within = c.requires.within in
    let p : IsPage c.args.self.now c.args.page (c.args.page * c.per_page-each.result) c.min-last.result =
    page_of_rows c.args.self.now c.requires.readable c.args.page c.per_page-each.result c.min-last.result c.per_page-each.ensures.value (omega (arith, high, within)) c.min-last.ensures in
    let told = c.in-Nowhere.ensures.verdict in
    nowhere pages c.args.self.now rows holds c.args.bytes.now c.args.page is (c.args.page * c.per_page-each.result) c.min-last.result p.some p.low p.order p.within p.high p.whole
    c.args.id told.0 told.1 told.2

pub damage-requires-clause-page : goal.damage-requires-clause-page
damage-requires-clause-page c =
    let high = c.requires.high in
    let within = c.requires.within in
    let small = c.requires.small in
    let p : IsPage c.args.self.now c.args.page (c.args.page * c.per_page-each.result) c.min-last.result =
    page_of_rows c.args.self.now c.requires.readable c.args.page c.per_page-each.result c.min-last.result c.per_page-each.ensures.value (omega (arith, high, within)) c.min-last.ensures in
    let told = c.in-Wrong.ensures.verdict in
    let at = its_page c.args.self.now c.args.page (c.args.page * c.per_page-each.result) c.min-last.result c.in-Wrong.place p told.0 told.1 in
    omega (arith, at, small)

pub returns-in-Wrong-clause-whole : goal.returns-in-Wrong-clause-whole
returns-in-Wrong-clause-whole c = λ pages rows holds is.
    let high = c.requires.high in
    let within = c.requires.within in
    let p : IsPage c.args.self.now c.args.page (c.args.page * c.per_page-each.result) c.min-last.result =
    page_of_rows c.args.self.now c.requires.readable c.args.page c.per_page-each.result c.min-last.result c.per_page-each.ensures.value (omega (arith, high, within)) c.min-last.ensures in
    let told = c.in-Wrong.ensures.verdict in
    let to = told.1 in
    let end = p.within in
    absurd (not_wrong pages c.args.self.now rows holds c.args.bytes.now c.args.page is c.in-Wrong.place (omega (arith, to, end))
    (its_page c.args.self.now c.args.page (c.args.page * c.per_page-each.result) c.min-last.result c.in-Wrong.place p told.0 told.1) told.2)

pub returns-in-Wrong-clause-blames : goal.returns-in-Wrong-clause-blames
returns-in-Wrong-clause-blames c = λ since device gave.
    let high = c.requires.high in
    let within = c.requires.within in
    let p : IsPage c.args.self.now c.args.page (c.args.page * c.per_page-each.result) c.min-last.result =
    page_of_rows c.args.self.now c.requires.readable c.args.page c.per_page-each.result c.min-last.result c.per_page-each.ensures.value (omega (arith, high, within)) c.min-last.ensures in
    let told = c.in-Wrong.ensures.verdict in
    let to = told.1 in
    let end = p.within in
    let at = its_page c.args.self.now c.args.page (c.args.page * c.per_page-each.result) c.min-last.result c.in-Wrong.place p told.0 told.1 in
    subst (Blames since device c.args.self.now) (sym c.damage.ensures.fault)
    (record {
      place = c.in-Wrong.place;
      within = omega (arith, to, end);
      page_is = refl;
      slot_is = refl;
      bytes = row_at c.args.self.now c.args.bytes.now c.in-Wrong.place;
      read = record {
        bytes = c.args.bytes.now;
        gave = subst (λ q. GaveSince since device c.args.bytes.now (c.args.self.now.run.first + q)) (sym at) gave;
        record_is = refl;
      };
      wide = c.damage.ensures.wide;
      wrong = told.2;
      found_is = refl;
    })

pub returns-in-Wrong-clause-blamed : goal.returns-in-Wrong-clause-blamed
returns-in-Wrong-clause-blamed c =
    let high = c.requires.high in
    let within = c.requires.within in
    let p : IsPage c.args.self.now c.args.page (c.args.page * c.per_page-each.result) c.min-last.result =
    page_of_rows c.args.self.now c.requires.readable c.args.page c.per_page-each.result c.min-last.result c.per_page-each.ensures.value (omega (arith, high, within)) c.min-last.ensures in
    let told = c.in-Wrong.ensures.verdict in
    let at = its_page c.args.self.now c.args.page (c.args.page * c.per_page-each.result) c.min-last.result c.in-Wrong.place p told.0 told.1 in
    subst (BlamedHere (Some (c.args.self.now.run.first + c.args.page))) (sym c.damage.ensures.fault) (ap (λ q. Some (c.args.self.now.run.first + q)) (sym at))

pub returns-in-At-clause-inside : goal.returns-in-At-clause-inside
returns-in-At-clause-inside c = λ pages rows holds is.
    let high = c.requires.high in
    let within = c.requires.within in
    let p : IsPage c.args.self.now c.args.page (c.args.page * c.per_page-each.result) c.min-last.result =
    page_of_rows c.args.self.now c.requires.readable c.args.page c.per_page-each.result c.min-last.result c.per_page-each.ensures.value (omega (arith, high, within)) c.min-last.ensures in
    let told = c.in-At.ensures.verdict in
    let to = told.1 in
    let end = p.within in
    let number = told.2 in
    let at = its_page c.args.self.now c.args.page (c.args.page * c.per_page-each.result) c.min-last.result c.in-At.place p told.0 told.1 in
    held_between pages c.args.self.now rows holds c.args.bytes.now c.args.page is c.in-At.place c.in-At.place c.args.id (omega arith) (omega (arith, to, end)) at at
    (omega (arith, number)) (omega (arith, number))

pub returns-in-Nowhere-clause-inside : goal.returns-in-Nowhere-clause-inside
returns-in-Nowhere-clause-inside c = λ pages rows holds is.
    let high = c.requires.high in
    let within = c.requires.within in
    let p : IsPage c.args.self.now c.args.page (c.args.page * c.per_page-each.result) c.min-last.result =
    page_of_rows c.args.self.now c.requires.readable c.args.page c.per_page-each.result c.min-last.result c.per_page-each.ensures.value (omega (arith, high, within)) c.min-last.ensures in
    let told = c.in-Nowhere.ensures.verdict in
    let first = c.args.page * c.per_page-each.result in
    held_between pages c.args.self.now rows holds c.args.bytes.now c.args.page is first c.min-last.result c.args.id p.order p.within
    (its_page c.args.self.now c.args.page first c.min-last.result first p (omega arith) p.order)
    (its_page c.args.self.now c.args.page first c.min-last.result c.min-last.result p p.order (omega arith))
    told.0 told.1
