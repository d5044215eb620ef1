use Rattle.std.proofs.Common.{◌∙◌, ap}
use Rattle.ghost_model.specs.core.Schema as schema
use Rattle.tree_schema.specs.Views.{schema_of}
use Rattle.tree_schema.proofs.schema.Schema.parent.Goals as goal

pub returns : goal.returns
returns c =
    c.parent_in.ensures.parent
    ∙ ap (λ tables. schema.parent (schema_of tables) c.args.table) c.deref.ensures.0
    ∙ ap (λ tables. schema.parent tables c.args.table) c.self.view_is
