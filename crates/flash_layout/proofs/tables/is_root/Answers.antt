use Rattle.std.proofs.Common.{◌≡◌, ◌∙◌, ap, sym, None, length, slice_get}
use Rattle.std.specs.Prelude.{is_none}
use Rattle.std.proofs.lemmas.Bool.{ltb-true}
use Rattle.std.proofs.lemmas.Option.{slice_get-get_or}
use Rattle.ghost_model.specs.core.Schema as schema
use Rattle.flash_layout.proofs.PlaceLemmas.{above_first, none_at}
use Rattle.flash_layout.proofs.tables.is_root.Goals as goal

pub returns-in-None : goal.returns-in-None
returns-in-None c =
    let cat = c.args.cat.now in
    let table = c.args.table in
    let levels = c.levels_among.result.now in
    let up : slice_get levels 1 ≡ schema.parent cat.schema table =
    ap (λ tables. slice_get tables 1) c.levels_among.ensures.tables
    ∙ above_first cat.schema table _ (c.levels_are_ancestors.ensures cat.schema c.a_catalog_has_a_layout.ensures.layout.tree table 1 c.requires.there) in
    let none : slice_get levels 1 ≡ None = none_at levels 1 c.in-None.ensures.lookup.3 in
    record { root = ap is_none (sym none ∙ up) }

pub returns-in-Some : goal.returns-in-Some
returns-in-Some c =
    let cat = c.args.cat.now in
    let table = c.args.table in
    let levels = c.levels_among.result.now in
    let up : slice_get levels 1 ≡ schema.parent cat.schema table =
    ap (λ tables. slice_get tables 1) c.levels_among.ensures.tables
    ∙ above_first cat.schema table _ (c.levels_are_ancestors.ensures cat.schema c.a_catalog_has_a_layout.ensures.layout.tree table 1 c.requires.there) in
    let some = slice_get-get_or levels 1 0 (ltb-true 1 (length levels) (sym c.in-Some.ensures.lookup.0)) in
    record { root = ap is_none (sym some ∙ up) }
