use Rattle.std.proofs.Common.{rules, ◌≤◌, ◌<◌, ◌-◌, ◌^◌, OnOk, sym, ap, subst, arith}
use Rattle.ghost_model.specs.core.Channel.{Catalog}
use Rattle.ghost_model.specs.forms.Layout as layout
use Rattle.ghost_model.specs.forms.Work as work
use Rattle.edge_traits.specs.Devices.{Counts}
use Rattle.flash_pages.specs.Filling.{CanFill}
use Rattle.flash_build.proofs.TableFiles.{can_fill_files}
use Rattle.flash_build.proofs.building.build.Goals as goal

pub write_tables-requires-clause-can : goal.write_tables-requires-clause-can
write_tables-requires-clause-can g c =
    let same = c.of-laid.ensures.catalog in
    let needed = ap layout.need same in
    let enough : layout.need c.args.cat.now ≤ (g.F.Flash.state c.args.flash.now).page_count =
    omega (arith, c.if-have-need.false, c.need-need.ensures.pages, c.pages-have.ensures, needed) in
    let small : (g.F.Flash.state c.args.flash.now).page_count < 2 ^ 32 = search rules in
    subst (λ (cat : Catalog). CanFill (g.F.Flash.state c.args.flash.now) (layout.public_pages cat) (layout.files_end cat - layout.public_pages cat)) (sym same)
    (can_fill_files c.a_catalog_has_a_layout.ensures.layout.order c.requires.blank enough small)

pub returns-clause-exact : goal.returns-clause-exact
returns-clause-exact g c =
    subst (λ (cat : Catalog). OnOk c.write_tables.result (Counts (work.file_pages cat c.args.hidden.now) (g.F.Flash.state c.args.flash.now).calls (g.F.Flash.state c.write_tables.new.flash).calls))
    c.of-laid.ensures.catalog c.write_tables.ensures.wrote.exact
