use Rattle.std.proofs.Common.{◌∙◌, sym, subst, ◌<◌, length, rules}
use Rattle.std.proofs.lemmas.Option.{slice_get_within}
use Rattle.ghost_model.specs.forms.Layout as layout
use Rattle.flash_layout.proofs.PlaceLemmas.{ways_count, way_at, first_ancestor}
use Rattle.flash_layout.proofs.tables.levels_among.Goals as goal

pub unreachable-requires : goal.unreachable-requires
unreachable-requires c =
    let count = ways_count c.args.cat.now.schema c.args.ways.now c.requires.ways in
    search rules

pub returns-clause-tables : goal.returns-clause-tables
returns-clause-tables c =
    c.deref.ensures.0 ∙ way_at c.args.cat.now.schema c.args.ways.now c.args.table c.in-Some.way.now _ c.requires.ways c.requires.there c.in-Some.ensures.lookup.1

pub returns-clause-own : goal.returns-clause-own
returns-clause-own c =
    let schema = c.args.cat.now.schema in
    let table = c.args.table in
    let first = c.levels_are_ancestors.ensures schema c.a_catalog_has_a_layout.ensures.layout.tree table 0 c.requires.there ∙ first_ancestor schema table in
    let same = c.deref.ensures.0 ∙ way_at schema c.args.ways.now table c.in-Some.way.now _ c.requires.ways c.requires.there c.in-Some.ensures.lookup.1 in
    subst (λ tables. 0 < length tables) (sym same) (slice_get_within (layout.levels_of schema table) 0 table first)
