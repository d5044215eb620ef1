use Rattle.std.proofs.Common.{◌≡◌, ◌≤◌, ◌+◌, ap, sym, ◌∙◌, subst, length, arith}
use Rattle.ghost_model.specs.core.Channel.{Catalog}
use Rattle.ghost_model.specs.core.Split.{Hidden}
use Rattle.ghost_model.specs.laws.LayoutSums.{columns_pages}
use Rattle.ghost_model.proofs.LayoutLemmas.Order.{sum_next, sums_rise}
use Rattle.flash_build.specs.ReadColumns.{AreTablesRead, DamagesTable, IsTableRead}
use Rattle.flash_build.proofs.CellReads.{after, ok_as}
use Rattle.flash_build.proofs.PartReads.{table_more, gives_damaged, blames_damaged, held_undamaged, has_part, legal, gives_held, ok_of}
use Rattle.flash_build.proofs.reading.read_hidden.Goals as goal

pub returns-in-Err-clause-held : goal.returns-in-Err-clause-held
returns-in-Err-clause-held g c = λ is_told.
    let was = c.loop-table.invariant in
    let calls = (g.F.Flash.state c.args.flash.now).calls in
    let rises = was.read.kept.never_falls in
    held_undamaged calls (g.F.Flash.state c.read_table.new.flash) c.loop-table.table c.in-Err.fault c.a_catalog_has_a_layout.ensures.layout.tree c.columns_give_values.ensures.values was.read.kept.page
    (subst (λ (cat : Catalog). DamagesTable g.F.Flash.told calls (g.F.Flash.state c.loop-table.flash).page (g.F.Flash.state c.read_table.new.flash) cat c.loop-table.table c.in-Err.fault) c.of-laid.ensures.catalog
    (c.in-Err.ensures.damaged calls rises was.given)) is_told

pub returns-in-Err-clause-gives : goal.returns-in-Err-clause-gives
returns-in-Err-clause-gives g c = λ is_told.
    let was = c.loop-table.invariant in
    let calls = (g.F.Flash.state c.args.flash.now).calls in
    let rises = was.read.kept.never_falls in
    gives_damaged calls (g.F.Flash.state c.read_table.new.flash) c.in-Err.fault c.a_catalog_has_a_layout.ensures.layout.order was.read.kept.page was.tables
    (subst (λ (cat : Catalog). DamagesTable g.F.Flash.told calls (g.F.Flash.state c.loop-table.flash).page (g.F.Flash.state c.read_table.new.flash) cat c.loop-table.table c.in-Err.fault) c.of-laid.ensures.catalog
    (c.in-Err.ensures.damaged calls rises was.given)) is_told

pub returns-in-Err-clause-blames : goal.returns-in-Err-clause-blames
returns-in-Err-clause-blames g c =
    let was = c.loop-table.invariant in
    let calls = (g.F.Flash.state c.args.flash.now).calls in
    let rises = was.read.kept.never_falls in
    blames_damaged g.F.Flash.told calls (g.F.Flash.state c.loop-table.flash).page (g.F.Flash.state c.read_table.new.flash) c.args.cat.now c.loop-table.table c.in-Err.fault
    (subst (λ (cat : Catalog). DamagesTable g.F.Flash.told calls (g.F.Flash.state c.loop-table.flash).page (g.F.Flash.state c.read_table.new.flash) cat c.loop-table.table c.in-Err.fault) c.of-laid.ensures.catalog
    (c.in-Err.ensures.damaged calls rises was.given))

pub loop-table-preserved : goal.loop-table-preserved
loop-table-preserved g c =
    let was = c.loop-table.invariant in
    let pushed = ok_of c.push.result (sym c.is_err.ensures.value ∙ c.if-is_err.false) c.push.ensures in
    record {
      tables =
          table_more was.read.kept.page (ap (λ (part : Hidden). part.hidden) pushed) was.tables
          (subst (λ (cat : Catalog). IsTableRead g.F.Flash.told (g.F.Flash.state c.loop-table.flash).page cat c.loop-table.table c.in-Ok.part) c.of-laid.ensures.catalog c.in-Ok.ensures.part);
      calls =
          let next = sum_next (columns_pages c.args.cat.now) c.loop-table.table in
          let more = subst (λ (cat : Catalog). (g.F.Flash.state c.read_table.new.flash).calls ≤ (g.F.Flash.state c.loop-table.flash).calls + columns_pages cat c.loop-table.table) c.of-laid.ensures.catalog c.in-Ok.ensures.at_most in
          omega (arith, was.calls, next, more);
      given = c.in-Ok.ensures.read.given (g.F.Flash.state c.args.flash.now).calls was.read.kept.never_falls was.given;
      read = ok_as tt (after was.read c.in-Ok.ensures.read);
    }

pub returns-clause-held : goal.returns-clause-held
returns-clause-held g c = λ is_told.
    let cat = c.args.cat.now in
    let laid = c.a_catalog_has_a_layout.ensures.layout in
    let tables = ap (λ (cat : Catalog). length cat.schema) c.of-laid.ensures.catalog in
    let all : c.loop-table.table ≡ length cat.schema = omega (arith, tables, c.tables-table-end.ensures.count, c.loop-table.auto.table-end, c.loop-table-test.false) in
    gives_held cat c.loop-table.hidden g.F.Flash.told (g.F.Flash.state c.args.flash.now).page laid.tree laid.order c.a_catalog_is_short.ensures.catalog.counted c.hidden_values_by_place.ensures
    (subst (λ n. AreTablesRead g.F.Flash.told (g.F.Flash.state c.args.flash.now).page cat n c.loop-table.hidden.hidden) all c.loop-table.invariant.tables)
    is_told c.hidden_parts_go_with_catalogs.ensures c.columns_give_values.ensures.values

pub returns-clause-gives : goal.returns-clause-gives
returns-clause-gives g c = λ is_told.
    let cat = c.args.cat.now in
    let laid = c.a_catalog_has_a_layout.ensures.layout in
    let tables = ap (λ (cat : Catalog). length cat.schema) c.of-laid.ensures.catalog in
    let all : c.loop-table.table ≡ length cat.schema = omega (arith, tables, c.tables-table-end.ensures.count, c.loop-table.auto.table-end, c.loop-table-test.false) in
    has_part cat c.loop-table.hidden g.F.Flash.told (g.F.Flash.state c.args.flash.now).page laid.tree laid.order c.a_catalog_is_short.ensures.catalog.counted c.hidden_values_by_place.ensures
    (subst (λ n. AreTablesRead g.F.Flash.told (g.F.Flash.state c.args.flash.now).page cat n c.loop-table.hidden.hidden) all c.loop-table.invariant.tables)
    is_told

pub returns-clause-legal : goal.returns-clause-legal
returns-clause-legal g c =
    let cat = c.args.cat.now in
    let laid = c.a_catalog_has_a_layout.ensures.layout in
    let tables = ap (λ (cat : Catalog). length cat.schema) c.of-laid.ensures.catalog in
    let all : c.loop-table.table ≡ length cat.schema = omega (arith, tables, c.tables-table-end.ensures.count, c.loop-table.auto.table-end, c.loop-table-test.false) in
    legal cat c.loop-table.hidden g.F.Flash.told (g.F.Flash.state c.args.flash.now).page laid.tree laid.order c.a_catalog_is_short.ensures.catalog.counted c.hidden_values_by_place.ensures
    (subst (λ n. AreTablesRead g.F.Flash.told (g.F.Flash.state c.args.flash.now).page cat n c.loop-table.hidden.hidden) all c.loop-table.invariant.tables)

pub returns-in-Err-clause-at_most : goal.returns-in-Err-clause-at_most
returns-in-Err-clause-at_most g c =
    let was = c.loop-table.invariant in
    let cat = c.args.cat.now in
    let tables = ap (λ (cat : Catalog). length cat.schema) c.of-laid.ensures.catalog in
    let next = sum_next (columns_pages cat) c.loop-table.table in
    let low = c.loop-table-test.true in
    let rise = sums_rise (columns_pages cat) (c.loop-table.table + 1) (length cat.schema) (omega (arith, low, tables, c.tables-table-end.ensures.count)) in
    let more = subst (λ (cat : Catalog). (g.F.Flash.state c.read_table.new.flash).calls ≤ (g.F.Flash.state c.loop-table.flash).calls + columns_pages cat c.loop-table.table) c.of-laid.ensures.catalog c.in-Err.ensures.at_most in
    omega (arith, was.calls, next, rise, more)

pub returns-then-is_err-clause-at_most : goal.returns-then-is_err-clause-at_most
returns-then-is_err-clause-at_most g c =
    let was = c.loop-table.invariant in
    let cat = c.args.cat.now in
    let tables = ap (λ (cat : Catalog). length cat.schema) c.of-laid.ensures.catalog in
    let next = sum_next (columns_pages cat) c.loop-table.table in
    let low = c.loop-table-test.true in
    let rise = sums_rise (columns_pages cat) (c.loop-table.table + 1) (length cat.schema) (omega (arith, low, tables, c.tables-table-end.ensures.count)) in
    let more = subst (λ (cat : Catalog). (g.F.Flash.state c.read_table.new.flash).calls ≤ (g.F.Flash.state c.loop-table.flash).calls + columns_pages cat c.loop-table.table) c.of-laid.ensures.catalog c.in-Ok.ensures.at_most in
    omega (arith, was.calls, next, rise, more)

pub returns-clause-at_most : goal.returns-clause-at_most
returns-clause-at_most g c =
    let was = c.loop-table.invariant in
    let cat = c.args.cat.now in
    let tables = ap (λ (cat : Catalog). length cat.schema) c.of-laid.ensures.catalog in
    let rise = sums_rise (columns_pages cat) c.loop-table.table (length cat.schema) (omega (arith, tables, c.tables-table-end.ensures.count, c.loop-table.auto.table-end)) in
    omega (arith, was.calls, rise)
