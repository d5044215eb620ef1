use Rattle.std.proofs.Common.{◌≡◌, ◌<◌, ◌∙◌, ◌+◌, ◌*◌, ℕ, [], List, Vec, ap, sym, subst, length, map, get_or, arith}
use Rattle.std.specs.Global.{Global}
use Rattle.std.specs.List.{All}
use Rattle.std.proofs.lemmas.List.{length-map}
use Rattle.ghost_model.specs.forms.Layout as layout
use Rattle.ghost_model.specs.forms.Flash.{HoldsLists, hidden_cells}
use Rattle.index_lists.specs.Ranks.{cells_of_rows}
use Rattle.index_lists.specs.Lists.{AreListed}
use Rattle.flash_build.specs.Sources.{cells_of}
use Rattle.flash_build.specs.Levels.{AreRankedAbove, items_of}
use Rattle.flash_build.proofs.HiddenCells.{part_fits}
use Rattle.flash_build.proofs.Writes.{on_ok}
use Rattle.flash_build.proofs.Entries.{own_there}
use Rattle.flash_build.proofs.FirstLevels.{own_ranks}
use Rattle.flash_build.proofs.ValueEntries as entries
use Rattle.flash_build.proofs.indexes.write_ranked.Goals as goal

pub index_level-own-requires-clause-level : goal.index_level-own-requires-clause-level
index_level-own-requires-clause-level g c =
    let laid = c.layout_laws.ensures.layout in
    own_there c.args.laid.now.schema c.levels_are_ancestors.ensures laid.tree c.args.table (laid.order.there_are c.args.table c.args.column c.requires.hidden).0

pub invariant_of-heads : goal.invariant_of-heads
invariant_of-heads g c =
    let rows = entries.rows_there (cells_of c.column_cells-cells.result) (hidden_cells c.args.laid.now.schema c.args.hidden.now c.args.table c.args.column)
    c.args.ranking.ranks.items c.args.ranking.shown.items c.column_cells-cells.ensures.cells c.requires.ranks in
    let few = c.layout_laws.ensures.layout.few.rows c.args.table in
    let size = ap length c.deref.ensures.value in
    record {
      there = subst (λ (xs : List ℕ). All (λ row. row < length (cells_of c.column_cells-cells.result)) xs) (sym c.deref.ensures.value) rows;
      few = omega (arith, c.requires.few, few, size);
    }

pub level_ranks-requires-clause-long : goal.level_ranks-requires-clause-long
level_ranks-requires-clause-long g c =
    let cat = c.args.laid.now in
    let fit = part_fits cat c.args.hidden.now c.layout_laws.ensures.layout.tree c.hidden_parts_go_with_catalogs.ensures c.hidden_cells_fit.ensures c.requires.part in
    entries.ranks_long cat c.args.hidden.now c.args.table c.args.column c.args.ranking.ranks.items c.args.ranking.shown.items fit c.requires.hidden c.requires.ranks

pub write_entries-requires-clause-some : goal.write_entries-requires-clause-some
write_entries-requires-clause-some g c =
    let cat = c.args.laid.now in
    let table = c.args.table in
    let laid = c.layout_laws.ensures.layout in
    let there = (laid.order.there_are table c.args.column c.requires.hidden).0 in
    let own = own_there cat.schema c.levels_are_ancestors.ensures laid.tree table there in
    let fit = part_fits cat c.args.hidden.now laid.tree c.hidden_parts_go_with_catalogs.ensures c.hidden_cells_fit.ensures c.requires.part in
    let levels = subst (λ (vs : List (Vec ℕ Global)). AreRankedAbove cat c.args.hidden.now table c.args.ranking.ranks.items (layout.levels_of cat.schema table) (map items_of vs)) (sym c.deref-in-Ok.ensures.value) c.in-Ok.ensures.ranked in
    let at = entries.at cat c.args.hidden.now table c.args.column laid c.requires.hidden own fit c.args.ranking.ranks.items c.args.ranking.shown.items c.requires.ranks c.requires.below c.requires.few _ _ c.index_directory-room.ensures.run c.index_level-own.ensures.run c.deref-in-Ok.result.now levels in
    omega (arith, at.width, at.some)

pub write_entries-requires-clause-fits : goal.write_entries-requires-clause-fits
write_entries-requires-clause-fits g c =
    let cat = c.args.laid.now in
    let table = c.args.table in
    let laid = c.layout_laws.ensures.layout in
    let there = (laid.order.there_are table c.args.column c.requires.hidden).0 in
    let own = own_there cat.schema c.levels_are_ancestors.ensures laid.tree table there in
    let fit = part_fits cat c.args.hidden.now laid.tree c.hidden_parts_go_with_catalogs.ensures c.hidden_cells_fit.ensures c.requires.part in
    let levels = subst (λ (vs : List (Vec ℕ Global)). AreRankedAbove cat c.args.hidden.now table c.args.ranking.ranks.items (layout.levels_of cat.schema table) (map items_of vs)) (sym c.deref-in-Ok.ensures.value) c.in-Ok.ensures.ranked in
    let at = entries.at cat c.args.hidden.now table c.args.column laid c.requires.hidden own fit c.args.ranking.ranks.items c.args.ranking.shown.items c.requires.ranks c.requires.below c.requires.few _ _ c.index_directory-room.ensures.run c.index_level-own.ensures.run c.deref-in-Ok.result.now levels in
    omega (arith, at.width, at.narrow)

pub write_entries-requires-clause-entries : goal.write_entries-requires-clause-entries
write_entries-requires-clause-entries g c =
    c.len-values.ensures ∙ (c.args.ranking.shown.ok.0 ∙ (sym (ap length c.deref.ensures.value)
    ∙ sym (length-map c.deref.result.now (λ row. get_or (cells_of c.column_cells-cells.result) row []))))

pub write_entries-requires-clause-widths : goal.write_entries-requires-clause-widths
write_entries-requires-clause-widths g c =
    let cat = c.args.laid.now in
    let table = c.args.table in
    let laid = c.layout_laws.ensures.layout in
    let there = (laid.order.there_are table c.args.column c.requires.hidden).0 in
    let own = own_there cat.schema c.levels_are_ancestors.ensures laid.tree table there in
    let fit = part_fits cat c.args.hidden.now laid.tree c.hidden_parts_go_with_catalogs.ensures c.hidden_cells_fit.ensures c.requires.part in
    let levels = subst (λ (vs : List (Vec ℕ Global)). AreRankedAbove cat c.args.hidden.now table c.args.ranking.ranks.items (layout.levels_of cat.schema table) (map items_of vs)) (sym c.deref-in-Ok.ensures.value) c.in-Ok.ensures.ranked in
    let shown = c.deref.ensures.value in
    subst (λ (xs : List ℕ). (entry : ℕ) → entry < length (cells_of_rows (cells_of c.column_cells-cells.result) xs) → length (get_or (cells_of_rows (cells_of c.column_cells-cells.result) xs) entry []) + 8 * length c.deref-in-Ok.result.now ≡ c.index_directory-room.result.width) (sym shown)
    (entries.widths cat c.args.hidden.now table c.args.column laid c.requires.hidden own fit c.args.ranking.ranks.items c.args.ranking.shown.items c.requires.ranks c.requires.below c.requires.few _ _ c.index_directory-room.ensures.run c.index_level-own.ensures.run c.deref-in-Ok.result.now levels (cells_of c.column_cells-cells.result) c.column_cells-cells.ensures.cells c.column_cells-cells.ensures.widths)

pub write_entries-requires-clause-small : goal.write_entries-requires-clause-small
write_entries-requires-clause-small g c =
    let cat = c.args.laid.now in
    let table = c.args.table in
    let laid = c.layout_laws.ensures.layout in
    let there = (laid.order.there_are table c.args.column c.requires.hidden).0 in
    let own = own_there cat.schema c.levels_are_ancestors.ensures laid.tree table there in
    let fit = part_fits cat c.args.hidden.now laid.tree c.hidden_parts_go_with_catalogs.ensures c.hidden_cells_fit.ensures c.requires.part in
    let levels = subst (λ (vs : List (Vec ℕ Global)). AreRankedAbove cat c.args.hidden.now table c.args.ranking.ranks.items (layout.levels_of cat.schema table) (map items_of vs)) (sym c.deref-in-Ok.ensures.value) c.in-Ok.ensures.ranked in
    entries.small cat c.args.hidden.now table c.args.column laid c.requires.hidden own fit c.args.ranking.ranks.items c.args.ranking.shown.items c.requires.ranks c.requires.below c.requires.few _ _ c.index_directory-room.ensures.run c.index_level-own.ensures.run c.deref-in-Ok.result.now levels

pub write_entries-requires-clause-ranked : goal.write_entries-requires-clause-ranked
write_entries-requires-clause-ranked g c =
    let cat = c.args.laid.now in
    let table = c.args.table in
    let laid = c.layout_laws.ensures.layout in
    let there = (laid.order.there_are table c.args.column c.requires.hidden).0 in
    let own = own_there cat.schema c.levels_are_ancestors.ensures laid.tree table there in
    let fit = part_fits cat c.args.hidden.now laid.tree c.hidden_parts_go_with_catalogs.ensures c.hidden_cells_fit.ensures c.requires.part in
    let levels = subst (λ (vs : List (Vec ℕ Global)). AreRankedAbove cat c.args.hidden.now table c.args.ranking.ranks.items (layout.levels_of cat.schema table) (map items_of vs)) (sym c.deref-in-Ok.ensures.value) c.in-Ok.ensures.ranked in
    let count : c.len-values.result ≡ length c.args.ranking.shown.items = c.len-values.ensures ∙ c.args.ranking.shown.ok.0 in
    entries.each_ranked cat c.args.hidden.now table c.args.column laid c.requires.hidden own fit c.args.ranking.ranks.items c.args.ranking.shown.items c.requires.ranks c.requires.below c.requires.few _ _ c.index_directory-room.ensures.run c.index_level-own.ensures.run c.deref-in-Ok.result.now levels c.len-values.result count

pub write_entries-requires-clause-rows : goal.write_entries-requires-clause-rows
write_entries-requires-clause-rows g c = λ some.
    let cat = c.args.laid.now in
    let hidden = c.args.hidden.now in
    let table = c.args.table in
    let laid = c.layout_laws.ensures.layout in
    let there = (laid.order.there_are table c.args.column c.requires.hidden).0 in
    let own = own_there cat.schema c.levels_are_ancestors.ensures laid.tree table there in
    let fit = part_fits cat hidden laid.tree c.hidden_parts_go_with_catalogs.ensures c.hidden_cells_fit.ensures c.requires.part in
    let ranks = c.args.ranking.ranks.items in
    let long = entries.ranks_long cat hidden table c.args.column ranks c.args.ranking.shown.items fit c.requires.hidden c.requires.ranks in
    let first = own_ranks cat hidden c.levels_are_ancestors.ensures laid.tree c.requires.part table there own ranks long (map items_of c.in-Ok.all.items) c.in-Ok.ensures.ranked in
    let all = ap (λ (vs : List (Vec ℕ Global)). get_or (map items_of vs) 0 []) c.deref-in-Ok.ensures.value in
    let count : c.len-values.result ≡ length c.args.ranking.shown.items = c.len-values.ensures ∙ c.args.ranking.shown.ok.0 in
    subst (λ (rs : List ℕ). AreListed rs c.len-values.result c.deref-in-Ok-2.result.now) (sym (all ∙ first))
    (subst (λ n. AreListed ranks n c.deref-in-Ok-2.result.now) (sym count)
    (subst (λ (xs : List ℕ). AreListed ranks (length c.args.ranking.shown.items) xs) (sym c.deref-in-Ok-2.ensures.value) c.requires.lists))

pub write_entries-requires-clause-order : goal.write_entries-requires-clause-order
write_entries-requires-clause-order g c =
    let cat = c.args.laid.now in
    let table = c.args.table in
    let laid = c.layout_laws.ensures.layout in
    let there = (laid.order.there_are table c.args.column c.requires.hidden).0 in
    let own = own_there cat.schema c.levels_are_ancestors.ensures laid.tree table there in
    let fit = part_fits cat c.args.hidden.now laid.tree c.hidden_parts_go_with_catalogs.ensures c.hidden_cells_fit.ensures c.requires.part in
    let levels = subst (λ (vs : List (Vec ℕ Global)). AreRankedAbove cat c.args.hidden.now table c.args.ranking.ranks.items (layout.levels_of cat.schema table) (map items_of vs)) (sym c.deref-in-Ok.ensures.value) c.in-Ok.ensures.ranked in
    let count : c.len-values.result ≡ length c.args.ranking.shown.items = c.len-values.ensures ∙ c.args.ranking.shown.ok.0 in
    entries.order cat c.args.hidden.now table c.args.column laid c.requires.hidden own fit c.args.ranking.ranks.items c.args.ranking.shown.items c.requires.ranks c.requires.below c.requires.few _ _ c.index_directory-room.ensures.run c.index_level-own.ensures.run c.deref-in-Ok.result.now levels c.len-values.result count

pub write_entries-requires-clause-can : goal.write_entries-requires-clause-can
write_entries-requires-clause-can g c =
    let cat = c.args.laid.now in
    let table = c.args.table in
    let laid = c.layout_laws.ensures.layout in
    let there = (laid.order.there_are table c.args.column c.requires.hidden).0 in
    let own = own_there cat.schema c.levels_are_ancestors.ensures laid.tree table there in
    let fit = part_fits cat c.args.hidden.now laid.tree c.hidden_parts_go_with_catalogs.ensures c.hidden_cells_fit.ensures c.requires.part in
    let levels = subst (λ (vs : List (Vec ℕ Global)). AreRankedAbove cat c.args.hidden.now table c.args.ranking.ranks.items (layout.levels_of cat.schema table) (map items_of vs)) (sym c.deref-in-Ok.ensures.value) c.in-Ok.ensures.ranked in
    let count : c.len-values.result ≡ length c.args.ranking.shown.items = c.len-values.ensures ∙ c.args.ranking.shown.ok.0 in
    entries.can cat c.args.hidden.now table c.args.column laid c.requires.hidden own fit c.args.ranking.ranks.items c.args.ranking.shown.items c.requires.ranks c.requires.below c.requires.few _ _ c.index_directory-room.ensures.run c.index_level-own.ensures.run c.deref-in-Ok.result.now levels c.level_files_of_tables.ensures.tables c.len-values.result count c.requires.can

pub write_entries-requires-clause-can_levels : goal.write_entries-requires-clause-can_levels
write_entries-requires-clause-can_levels g c =
    let cat = c.args.laid.now in
    let table = c.args.table in
    let laid = c.layout_laws.ensures.layout in
    let there = (laid.order.there_are table c.args.column c.requires.hidden).0 in
    let own = own_there cat.schema c.levels_are_ancestors.ensures laid.tree table there in
    let fit = part_fits cat c.args.hidden.now laid.tree c.hidden_parts_go_with_catalogs.ensures c.hidden_cells_fit.ensures c.requires.part in
    let levels = subst (λ (vs : List (Vec ℕ Global)). AreRankedAbove cat c.args.hidden.now table c.args.ranking.ranks.items (layout.levels_of cat.schema table) (map items_of vs)) (sym c.deref-in-Ok.ensures.value) c.in-Ok.ensures.ranked in
    let count : c.len-values.result ≡ length c.args.ranking.shown.items = c.len-values.ensures ∙ c.args.ranking.shown.ok.0 in
    entries.can_levels cat c.args.hidden.now table c.args.column laid c.requires.hidden own fit c.args.ranking.ranks.items c.args.ranking.shown.items c.requires.ranks c.requires.below c.requires.few _ _ c.index_directory-room.ensures.run c.index_level-own.ensures.run c.deref-in-Ok.result.now levels c.level_files_of_tables.ensures.tables c.len-values.result count c.requires.can

pub returns-clause-holds : goal.returns-clause-holds
returns-clause-holds g c =
    let cat = c.args.laid.now in
    let table = c.args.table in
    let laid = c.layout_laws.ensures.layout in
    let there = (laid.order.there_are table c.args.column c.requires.hidden).0 in
    let own = own_there cat.schema c.levels_are_ancestors.ensures laid.tree table there in
    let fit = part_fits cat c.args.hidden.now laid.tree c.hidden_parts_go_with_catalogs.ensures c.hidden_cells_fit.ensures c.requires.part in
    let levels = subst (λ (vs : List (Vec ℕ Global)). AreRankedAbove cat c.args.hidden.now table c.args.ranking.ranks.items (layout.levels_of cat.schema table) (map items_of vs)) (sym c.deref-in-Ok.ensures.value) c.in-Ok.ensures.ranked in
    let count : c.len-values.result ≡ length c.args.ranking.shown.items = c.len-values.ensures ∙ c.args.ranking.shown.ok.0 in
    let shown = c.deref.ensures.value in
    on_ok c.write_entries.result
    (λ stand told.
    entries.holds cat c.args.hidden.now table c.args.column laid c.requires.hidden own fit c.args.ranking.ranks.items c.args.ranking.shown.items c.requires.ranks c.requires.below c.requires.few _ _ c.index_directory-room.ensures.run c.index_level-own.ensures.run c.deref-in-Ok.result.now levels c.level_files_of_tables.ensures.tables c.len-values.result count (cells_of c.column_cells-cells.result) c.column_cells-cells.ensures.cells c.value_lists_by_ranks.ensures
    (λ tables lists file are.
    subst (λ (xs : List ℕ). HoldsLists (g.F.Flash.state c.write_entries.new.flash).page (record { first = c.index_directory-room.result.first; count = c.len-values.result; width = c.index_directory-room.result.width }) file (cells_of_rows (cells_of c.column_cells-cells.result) xs) tables lists) shown
    (stand told tables lists file are)))
    c.write_entries.ensures.holds

pub returns-clause-wrote : goal.returns-clause-wrote
returns-clause-wrote g c =
    let cat = c.args.laid.now in
    let table = c.args.table in
    let laid = c.layout_laws.ensures.layout in
    let there = (laid.order.there_are table c.args.column c.requires.hidden).0 in
    let own = own_there cat.schema c.levels_are_ancestors.ensures laid.tree table there in
    let fit = part_fits cat c.args.hidden.now laid.tree c.hidden_parts_go_with_catalogs.ensures c.hidden_cells_fit.ensures c.requires.part in
    let levels = subst (λ (vs : List (Vec ℕ Global)). AreRankedAbove cat c.args.hidden.now table c.args.ranking.ranks.items (layout.levels_of cat.schema table) (map items_of vs)) (sym c.deref-in-Ok.ensures.value) c.in-Ok.ensures.ranked in
    let count : c.len-values.result ≡ length c.args.ranking.shown.items = c.len-values.ensures ∙ c.args.ranking.shown.ok.0 in
    entries.wrote cat c.args.hidden.now table c.args.column laid c.requires.hidden own fit c.args.ranking.ranks.items c.args.ranking.shown.items c.requires.ranks c.requires.below c.requires.few _ _ c.index_directory-room.ensures.run c.index_level-own.ensures.run c.deref-in-Ok.result.now levels c.level_files_of_tables.ensures.tables c.len-values.result count c.write_entries.result c.value_lists_by_ranks.ensures c.write_entries.ensures.wrote
