use Rattle.std.proofs.Common.{◌∙◌, ap, sym, drop, arith}
use Rattle.std.proofs.lemmas.List.{length-replicate}
use Rattle.ghost_model.proofs.LayoutLemmas.Small.{some_in}
use Rattle.ghost_model.specs.forms.Layout as layout
use Rattle.flash_build.proofs.Writes.{on_ok}
use Rattle.flash_build.proofs.IdEntries as entries
use Rattle.flash_build.proofs.IndexPlaces.{no_bytes}
use Rattle.flash_build.proofs.id_indexes.write_some.Goals as goal

pub id_level-lowest-requires-clause-level : goal.id_level-lowest-requires-clause-level
id_level-lowest-requires-clause-level g c = some_in (layout.above_of c.args.laid.now.schema c.args.table) c.requires.some

pub write_entries-requires-clause-some : goal.write_entries-requires-clause-some
write_entries-requires-clause-some g c =
    let at = entries.at c.args.laid.now c.args.hidden.now c.args.table c.layout_laws.ensures.layout c.requires.there c.requires.some _ _ c.id_directory-directory.ensures.run c.id_level-lowest.ensures.run
    c.in-Ok.all.items c.but_first-levels.result.now c.in-Ok.ensures.ranked (c.but_first-levels.ensures.levels ∙ ap (drop 1) c.deref.ensures.value) in
    omega (arith, at.width, at.some)

pub write_entries-requires-clause-fits : goal.write_entries-requires-clause-fits
write_entries-requires-clause-fits g c =
    let at = entries.at c.args.laid.now c.args.hidden.now c.args.table c.layout_laws.ensures.layout c.requires.there c.requires.some _ _ c.id_directory-directory.ensures.run c.id_level-lowest.ensures.run
    c.in-Ok.all.items c.but_first-levels.result.now c.in-Ok.ensures.ranked (c.but_first-levels.ensures.levels ∙ ap (drop 1) c.deref.ensures.value) in
    omega (arith, at.width, at.narrow)

pub write_entries-requires-clause-entries : goal.write_entries-requires-clause-entries
write_entries-requires-clause-entries g c = sym (length-replicate c.id_directory-directory.result.count no_bytes)

pub write_entries-requires-clause-widths : goal.write_entries-requires-clause-widths
write_entries-requires-clause-widths g c =
    entries.widths c.args.laid.now c.args.hidden.now c.args.table c.layout_laws.ensures.layout c.requires.there c.requires.some _ _ c.id_directory-directory.ensures.run c.id_level-lowest.ensures.run
    c.in-Ok.all.items c.but_first-levels.result.now c.in-Ok.ensures.ranked (c.but_first-levels.ensures.levels ∙ ap (drop 1) c.deref.ensures.value)

pub write_entries-requires-clause-small : goal.write_entries-requires-clause-small
write_entries-requires-clause-small g c =
    entries.small c.args.laid.now c.args.hidden.now c.args.table c.layout_laws.ensures.layout c.requires.there c.requires.some _ _ c.id_directory-directory.ensures.run c.id_level-lowest.ensures.run
    c.in-Ok.all.items c.but_first-levels.result.now c.in-Ok.ensures.ranked (c.but_first-levels.ensures.levels ∙ ap (drop 1) c.deref.ensures.value)

pub write_entries-requires-clause-ranked : goal.write_entries-requires-clause-ranked
write_entries-requires-clause-ranked g c =
    entries.each_ranked c.args.laid.now c.args.hidden.now c.args.table c.layout_laws.ensures.layout c.requires.there c.requires.some _ _ c.id_directory-directory.ensures.run c.id_level-lowest.ensures.run
    c.in-Ok.all.items c.but_first-levels.result.now c.in-Ok.ensures.ranked (c.but_first-levels.ensures.levels ∙ ap (drop 1) c.deref.ensures.value)

pub write_entries-requires-clause-order : goal.write_entries-requires-clause-order
write_entries-requires-clause-order g c =
    entries.order c.args.laid.now c.args.hidden.now c.args.table c.layout_laws.ensures.layout c.requires.there c.requires.some _ _ c.id_directory-directory.ensures.run c.id_level-lowest.ensures.run
    c.in-Ok.all.items c.but_first-levels.result.now c.in-Ok.ensures.ranked (c.but_first-levels.ensures.levels ∙ ap (drop 1) c.deref.ensures.value)

pub write_entries-requires-clause-can : goal.write_entries-requires-clause-can
write_entries-requires-clause-can g c =
    entries.can c.args.laid.now c.args.hidden.now c.args.table c.layout_laws.ensures.layout c.requires.there c.requires.some _ _ c.id_directory-directory.ensures.run c.id_level-lowest.ensures.run
    c.in-Ok.all.items c.but_first-levels.result.now c.in-Ok.ensures.ranked (c.but_first-levels.ensures.levels ∙ ap (drop 1) c.deref.ensures.value)
    c.level_files_of_tables.ensures.tables c.requires.can

pub write_entries-requires-clause-can_levels : goal.write_entries-requires-clause-can_levels
write_entries-requires-clause-can_levels g c =
    entries.can_levels c.args.laid.now c.args.hidden.now c.args.table c.layout_laws.ensures.layout c.requires.there c.requires.some _ _ c.id_directory-directory.ensures.run c.id_level-lowest.ensures.run
    c.in-Ok.all.items c.but_first-levels.result.now c.in-Ok.ensures.ranked (c.but_first-levels.ensures.levels ∙ ap (drop 1) c.deref.ensures.value)
    c.level_files_of_tables.ensures.tables c.requires.can

pub returns-in-Ok-clause-holds : goal.returns-in-Ok-clause-holds
returns-in-Ok-clause-holds g c =
    on_ok c.write_entries.result
    (λ stand told.
    entries.holds c.args.laid.now c.args.hidden.now c.args.table c.layout_laws.ensures.layout c.requires.there c.requires.some _ _ c.id_directory-directory.ensures.run c.id_level-lowest.ensures.run
    c.in-Ok.all.items c.but_first-levels.result.now c.in-Ok.ensures.ranked (c.but_first-levels.ensures.levels ∙ ap (drop 1) c.deref.ensures.value)
    c.level_files_of_tables.ensures.tables c.id_lists_by_ranks.ensures (stand told))
    c.write_entries.ensures.holds

pub returns-in-Ok-clause-wrote : goal.returns-in-Ok-clause-wrote
returns-in-Ok-clause-wrote g c =
    entries.wrote c.args.laid.now c.args.hidden.now c.args.table c.layout_laws.ensures.layout c.requires.there c.requires.some _ _ c.id_directory-directory.ensures.run c.id_level-lowest.ensures.run
    c.in-Ok.all.items c.but_first-levels.result.now c.in-Ok.ensures.ranked (c.but_first-levels.ensures.levels ∙ ap (drop 1) c.deref.ensures.value)
    c.level_files_of_tables.ensures.tables c.write_entries.result c.id_lists_by_ranks.ensures c.write_entries.ensures.wrote
