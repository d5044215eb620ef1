use Rattle.std.proofs.Common.{ℕ, sym, ap, subst, ◌∙◌}
use Rattle.ghost_model.specs.core.Schema.{ancestor}
use Rattle.ghost_model.specs.forms.Layout as layout
use Rattle.tree_schema.specs.Schemas.{AreParents}
use Rattle.flash_layout.proofs.PlaceLemmas.{same_by_place}
use Rattle.flash_layout.proofs.tables.way_of.Goals as goal

pub returns : goal.returns
returns c =
    let schema = c.args.cat.now.schema in
    let table = c.args.table in
    let laid = c.a_catalog_has_a_layout.ensures.layout in
    let way = λ (steps : ℕ). c.path_by.ensures.way steps ∙ ap (λ schema. ancestor schema steps table) c.schema.ensures.value in
    record {
      tables = same_by_place c.path_by.result.items (layout.levels_of schema table) (λ steps. way steps ∙ sym (c.levels_are_ancestors.ensures schema laid.tree table steps c.requires.there));
    }

pub path_by-requires-clause-parents : goal.path_by-requires-clause-parents
path_by-requires-clause-parents c = subst (λ schema. AreParents schema c.args.parents.now) (sym c.schema.ensures.value) c.requires.parents
