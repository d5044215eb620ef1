use Rattle.std.proofs.Common.{◌∙◌, ◌<◌, ap, sym, subst, length, arith}
use Rattle.std.specs.List.{All}
use Rattle.ghost_model.specs.forms.Layout as layout
use Rattle.ghost_model.proofs.LayoutLemmas.Small.{some_in}
use Rattle.index_lists.specs.Lists.{AreListed}
use Rattle.flash_build.proofs.FirstLevels.{above_few, above_ranked, above_is}
use Rattle.flash_build.proofs.id_indexes.id_rows.Goals as goal

pub rows_by_rank-requires-clause-few : goal.rows_by_rank-requires-clause-few
rows_by_rank-requires-clause-few c =
    let cat = c.args.laid.now in
    let some = some_in (layout.above_of cat.schema c.args.table) c.requires.some in
    let few = above_few cat c.args.hidden.now c.args.table c.layout_laws.ensures.layout some c.in_ok-all.all.items c.in_ok-all.ensures.ranked c.index.result.now c.index.ensures in
    omega (arith, few, ap length c.deref.ensures.value)

pub rows_by_rank-requires-clause-ranked : goal.rows_by_rank-requires-clause-ranked
rows_by_rank-requires-clause-ranked c =
    let cat = c.args.laid.now in
    let some = some_in (layout.above_of cat.schema c.args.table) c.requires.some in
    let ranked = above_ranked cat c.args.hidden.now c.args.table c.layout_laws.ensures.layout some c.in_ok-all.all.items c.in_ok-all.ensures.ranked c.index.result.now c.index.ensures in
    subst (λ n. All (λ rank. rank < n) c.deref.result.now) (sym c.rows.ensures.value)
    (subst (All (λ rank. rank < layout.count_of cat c.args.table)) (sym c.deref.ensures.value) ranked)

pub returns-clause-rows : goal.returns-clause-rows
returns-clause-rows c =
    let cat = c.args.laid.now in
    let some = some_in (layout.above_of cat.schema c.args.table) c.requires.some in
    let is = above_is cat c.args.hidden.now c.args.table c.layout_laws.ensures.layout some c.in_ok-all.all.items c.in_ok-all.ensures.ranked c.index.result.now c.index.ensures in
    subst (λ ranks. AreListed ranks (layout.count_of cat c.args.table) c.in_ok-rows.rows.items) (c.deref.ensures.value ∙ sym is)
    (subst (λ n. AreListed c.deref.result.now n c.in_ok-rows.rows.items) c.rows.ensures.value c.in_ok-rows.ensures.lists)
