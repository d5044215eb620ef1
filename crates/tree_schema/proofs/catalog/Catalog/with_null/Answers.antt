use Rattle.std.proofs.Common.{◌≡◌, refl, rules, sym, subst, true}
use Rattle.ghost_model.specs.core.Schema.{Schema}
use Rattle.tree_schema.specs.Catalogs.{IsCatalog, catalog_of_version}
use Rattle.tree_schema.specs.Nulls.{may_be_null}
use Rattle.tree_schema.specs.Views.{version_of}
use Rattle.tree_schema.proofs.NullLemmas.{still_catalog}
use Rattle.tree_schema.proofs.catalog.Catalog.with_null.Goals as goal

pub invariant_of-result : goal.invariant_of-result
invariant_of-result c =
    still_catalog c.self.inside.schema c.with_null-schema.result c.args.table c.args.column c.self.inside.counts.items c.self.inside.generation (version_of c.self.inside.version)
    c.self.invariant c.with_null-schema.ensures.schema c.tables.ensures.declared

pub returns : goal.returns
returns c =
    let may : may_be_null c.self.inside.schema c.args.table c.args.column ≡ true = search rules in
    rw (← c.self.view_is, may, c.with_null-schema.ensures.schema) refl
