use Rattle.std.proofs.Common.{◌∙◌, arith}
use Rattle.ghost_model.specs.forms.Layout as layout
use Rattle.ghost_model.specs.laws.ShortWords.{catalog_pages}
use Rattle.edge_traits.specs.Devices.{Counts}
use Rattle.edge_traits.proofs.DeviceFrames.{changes_trans, changes_wider, counts_more, counts_next, erased_part, erased_below}
use Rattle.flash_build.proofs.CatalogPages.{spells_none, holds_all}
use Rattle.flash_build.proofs.Writes.{counts_as}
use Rattle.flash_build.proofs.SealSteps.{not_begun, not_pages, not_gate, on_ok, told_of}
use Rattle.flash_build.proofs.sealing.seal.Goals as goal

pub write_later_pages-requires-clause-there : goal.write_later_pages-requires-clause-there
write_later_pages-requires-clause-there g c =
    let order = c.a_catalog_has_a_layout.ensures.layout.order in
    omega (arith, order.catalog, c.requires.there, c.write_gate.ensures.others.page_count)

pub write_later_pages-requires-clause-erased : goal.write_later_pages-requires-clause-erased
write_later_pages-requires-clause-erased g c =
    let order = c.a_catalog_has_a_layout.ensures.layout.order in
    erased_below c.write_gate.ensures.others (omega arith) (erased_part c.requires.erased 0 layout.catalog_pages (omega arith) order.catalog)

pub write_catalog_page-requires-clause-blank : goal.write_catalog_page-requires-clause-blank
write_catalog_page-requires-clause-blank g c =
    let order = c.a_catalog_has_a_layout.ensures.layout.order in
    (c.write_later_pages.ensures.others.below 0 (omega arith)).blank
    ∙ ((c.write_gate.ensures.others.below 0 (omega arith)).blank ∙ c.requires.erased.blank 0 (omega arith) (omega (arith, order.catalog)))

pub returns-in_err-write_gate-clause-unsealed : goal.returns-in_err-write_gate-clause-unsealed
returns-in_err-write_gate-clause-unsealed g c = λ told blank.
    let order = c.a_catalog_has_a_layout.ensures.layout.order in
    spells_none (g.F.Flash.state c.write_gate.new.flash).page
    ((c.write_gate.ensures.others.below 0 (omega arith)).bytes ∙ c.requires.erased.bytes told 0 (omega arith) (omega (arith, order.catalog)))

pub returns-in_err-write_gate-clause-page_0_last : goal.returns-in_err-write_gate-clause-page_0_last
returns-in_err-write_gate-clause-page_0_last g c = λ told begun.
    let order = c.a_catalog_has_a_layout.ensures.layout.order in
    absurd
    (not_begun
    ((c.write_gate.ensures.others.below 0 (omega arith)).blank ∙ c.requires.erased.blank 0 (omega arith) (omega (arith, order.catalog)))
    begun)

pub returns-in_err-write_gate-clause-files : goal.returns-in_err-write_gate-clause-files
returns-in_err-write_gate-clause-files g c = λ hidden holds.
    c.holdings_are_kept.ensures.files (g.F.Flash.state c.args.flash.now).page (g.F.Flash.state c.write_gate.new.flash).page
    c.args.cat.now hidden c.a_catalog_has_a_layout.ensures.layout.tree
    (λ at from before. (c.write_gate.ensures.others.above at from).bytes) holds

pub returns-in_err-write_gate-clause-others : goal.returns-in_err-write_gate-clause-others
returns-in_err-write_gate-clause-others g c = changes_wider c.write_gate.ensures.others 0 (layout.public_pages c.args.cat.now) (omega arith) (omega arith)

pub returns-in_err-write_gate-clause-blank : goal.returns-in_err-write_gate-clause-blank
returns-in_err-write_gate-clause-blank g c = λ place other. c.write_gate.ensures.blank place (not_gate c.args.cat.now place other)

pub returns-in_err-write_later_pages-clause-unsealed : goal.returns-in_err-write_later_pages-clause-unsealed
returns-in_err-write_later_pages-clause-unsealed g c = λ told blank.
    let order = c.a_catalog_has_a_layout.ensures.layout.order in
    spells_none (g.F.Flash.state c.write_later_pages.new.flash).page
    ((c.write_later_pages.ensures.others.below 0 (omega arith)).bytes
    ∙ ((c.write_gate.ensures.others.below 0 (omega arith)).bytes ∙ c.requires.erased.bytes told 0 (omega arith) (omega (arith, order.catalog))))

pub returns-in_err-write_later_pages-clause-page_0_last : goal.returns-in_err-write_later_pages-clause-page_0_last
returns-in_err-write_later_pages-clause-page_0_last g c = λ told begun.
    let order = c.a_catalog_has_a_layout.ensures.layout.order in
    absurd
    (not_begun
    ((c.write_later_pages.ensures.others.below 0 (omega arith)).blank
    ∙ ((c.write_gate.ensures.others.below 0 (omega arith)).blank ∙ c.requires.erased.blank 0 (omega arith) (omega (arith, order.catalog))))
    begun)

pub returns-in_err-write_later_pages-clause-files : goal.returns-in_err-write_later_pages-clause-files
returns-in_err-write_later_pages-clause-files g c = λ hidden holds.
    let later = c.write_later_pages.ensures in
    let order = c.a_catalog_has_a_layout.ensures.layout.order in
    c.holdings_are_kept.ensures.files (g.F.Flash.state c.args.flash.now).page (g.F.Flash.state c.write_later_pages.new.flash).page
    c.args.cat.now hidden c.a_catalog_has_a_layout.ensures.layout.tree
    (λ at from before.
    (later.others.above at (omega (arith, later.few, from, order.catalog))).bytes ∙ (c.write_gate.ensures.others.above at from).bytes) holds

pub returns-in_err-write_later_pages-clause-others : goal.returns-in_err-write_later_pages-clause-others
returns-in_err-write_later_pages-clause-others g c =
    let later = c.write_later_pages.ensures in
    let order = c.a_catalog_has_a_layout.ensures.layout.order in
    changes_trans (changes_wider c.write_gate.ensures.others 0 (layout.public_pages c.args.cat.now) (omega arith) (omega arith))
    (changes_wider later.others 0 (layout.public_pages c.args.cat.now) (omega arith) (omega (arith, later.few, order.catalog)))

pub returns-in_err-write_later_pages-clause-blank : goal.returns-in_err-write_later_pages-clause-blank
returns-in_err-write_later_pages-clause-blank g c = λ place other.
    let later = c.write_later_pages.ensures in
    (later.others.above place (not_pages c.args.cat.now place other)).blank ∙ c.write_gate.ensures.blank place (not_gate c.args.cat.now place other)

pub returns-clause-holds : goal.returns-clause-holds
returns-clause-holds g c =
    holds_all c.args.cat.now c.write_catalog_page.result c.in_ok-write_later_pages.ensures.holds c.write_catalog_page.ensures.others c.write_catalog_page.ensures.holds

pub returns-clause-fresh : goal.returns-clause-fresh
returns-clause-fresh g c =
    let later = c.write_later_pages.ensures in
    told_of c.write_catalog_page.result
    (λ told current.
    c.holdings_are_kept.ensures.fresh (g.F.Flash.state c.write_gate.new.flash).page (g.F.Flash.state c.write_catalog_page.new.flash).page c.args.cat.now current
    (λ at from before.
    (c.write_catalog_page.ensures.others.above at (omega (arith, from))).bytes ∙ (later.others.above at (omega (arith, later.few, from))).bytes)
    (c.in_ok-write_gate.ensures.fresh told current))

pub returns-clause-unsealed : goal.returns-clause-unsealed
returns-clause-unsealed g c = λ told blank. absurd (not_begun blank c.write_catalog_page.ensures.not_blank)

pub returns-clause-page_0_last : goal.returns-clause-page_0_last
returns-clause-page_0_last g c = λ told begun.
    let later = c.write_later_pages.ensures in
    record {
      later = λ place from within. (c.write_catalog_page.ensures.others.above place from).bytes ∙ c.in_ok-write_later_pages.ensures.holds told place from within;
      fresh = λ current.
          c.holdings_are_kept.ensures.fresh (g.F.Flash.state c.write_gate.new.flash).page (g.F.Flash.state c.write_catalog_page.new.flash).page c.args.cat.now current
          (λ at from before.
          (c.write_catalog_page.ensures.others.above at (omega (arith, from))).bytes ∙ (later.others.above at (omega (arith, later.few, from))).bytes)
          (c.in_ok-write_gate.ensures.fresh told current);
    }

pub returns-clause-files : goal.returns-clause-files
returns-clause-files g c = λ hidden holds.
    let later = c.write_later_pages.ensures in
    let order = c.a_catalog_has_a_layout.ensures.layout.order in
    c.holdings_are_kept.ensures.files (g.F.Flash.state c.args.flash.now).page (g.F.Flash.state c.write_catalog_page.new.flash).page
    c.args.cat.now hidden c.a_catalog_has_a_layout.ensures.layout.tree
    (λ at from before.
    (c.write_catalog_page.ensures.others.above at (omega (arith, from, order.catalog))).bytes
    ∙ ((later.others.above at (omega (arith, later.few, from, order.catalog))).bytes ∙ (c.write_gate.ensures.others.above at from).bytes)) holds

pub returns-clause-others : goal.returns-clause-others
returns-clause-others g c =
    let later = c.write_later_pages.ensures in
    let order = c.a_catalog_has_a_layout.ensures.layout.order in
    changes_trans (changes_wider c.write_gate.ensures.others 0 (layout.public_pages c.args.cat.now) (omega arith) (omega arith))
    (changes_trans (changes_wider later.others 0 (layout.public_pages c.args.cat.now) (omega arith) (omega (arith, later.few, order.catalog)))
    (changes_wider c.write_catalog_page.ensures.others 0 (layout.public_pages c.args.cat.now) (omega arith) (omega (arith, order.catalog))))

pub returns-clause-blank : goal.returns-clause-blank
returns-clause-blank g c = λ place other.
    let later = c.write_later_pages.ensures in
    let behind = not_pages c.args.cat.now place other in
    (c.write_catalog_page.ensures.others.above place (omega (arith, behind, later.some))).blank
    ∙ ((later.others.above place behind).blank ∙ c.write_gate.ensures.blank place (not_gate c.args.cat.now place other))

pub returns-clause-exact : goal.returns-clause-exact
returns-clause-exact g c =
    let later = c.write_later_pages.ensures in
    let pages : Counts (catalog_pages c.args.cat.now) (g.F.Flash.state c.write_gate.new.flash).calls (g.F.Flash.state c.write_catalog_page.new.flash).calls =
    counts_as (omega (arith, later.some)) c.in_ok-write_later_pages.ensures.exact (counts_next c.write_catalog_page.ensures.calls) in
    on_ok c.write_catalog_page.result (counts_more c.in_ok-write_gate.ensures.exact pages)
