use Rattle.std.proofs.Common.{◌≤◌, ◌∙◌, Result, Ok, Err, OnOk, arith}
use Rattle.ghost_model.specs.forms.Layout as layout
use Rattle.edge_traits.specs.Devices.{IsErased}
use Rattle.edge_traits.proofs.DeviceFrames.{erased_part, erased_below}
use Rattle.flash_build.proofs.Writes.{others_stay}
use Rattle.flash_build.proofs.CatalogPages.{spells_none}
use Rattle.flash_build.proofs.loading.make_and_build.Goals as goal

on_ok : {T E P : Type 0} (result : Result T E) → P → OnOk result P
on_ok (Ok x) given = given
on_ok (Err e) given = search

pub returns-in-Ok-clause-erased : goal.returns-in-Ok-clause-erased
returns-in-Ok-clause-erased g c =
    let order = c.a_catalog_has_a_layout.ensures.layout.order in
    let within : layout.public_pages c.args.cat.now ≤ layout.need c.args.cat.now = omega (arith, order.some, order.static, order.spool, order.scratch, order.appended) in
    let made = c.in-Ok.ensures.erased in
    let part : IsErased g.F.Flash.told 0 (layout.public_pages c.args.cat.now) (g.F.Flash.state c.make.new.self) = erased_part made 0 (layout.public_pages c.args.cat.now) (omega arith) (omega (arith, within, c.if-have-need.false, c.need-need.ensures.pages)) in
    let kept : IsErased g.F.Flash.told 0 (layout.public_pages c.args.cat.now) (g.F.Flash.state c.build.new.flash) = erased_below c.build.ensures.others (omega arith) part in
    on_ok c.build.result kept

pub returns-in-Ok-clause-unsealed : goal.returns-in-Ok-clause-unsealed
returns-in-Ok-clause-unsealed g c = λ enough some told.
    let made = c.in-Ok.ensures in
    let order = c.a_catalog_has_a_layout.ensures.layout.order in
    spells_none (g.F.Flash.state c.build.new.flash).page
    ((c.build.ensures.others.below 0 (omega (arith, order.catalog))).bytes
    ∙ made.erased.bytes told 0 (omega arith) (omega (arith, some, made.pages, c.build.ensures.others.page_count)))

pub returns-in-Ok-clause-page_0 : goal.returns-in-Ok-clause-page_0
returns-in-Ok-clause-page_0 g c = λ enough some.
    let made = c.in-Ok.ensures in
    let order = c.a_catalog_has_a_layout.ensures.layout.order in
    (c.build.ensures.others.below 0 (omega (arith, order.catalog))).blank
    ∙ made.erased.blank 0 (omega arith) (omega (arith, some, made.pages, c.build.ensures.others.page_count))

pub returns-in-Ok-clause-others : goal.returns-in-Ok-clause-others
returns-in-Ok-clause-others g c = λ told other apart.
    others_stay c.args.name.now other c.build.ensures.others c.in-Ok.ensures.open apart ∙ c.make.ensures.others told other apart
