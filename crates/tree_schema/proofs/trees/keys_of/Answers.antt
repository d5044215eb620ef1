use Rattle.std.proofs.Common.{◌∙◌, sym, ap, count_by}
use Rattle.ghost_model.specs.core.Schema as schema
use Rattle.tree_schema.specs.declared.schema.Column as declared
use Rattle.tree_schema.specs.Views.{column_of}
use Rattle.tree_schema.proofs.RuleSteps.{counted_mapped, places_counted}
use Rattle.tree_schema.proofs.trees.keys_of.Goals as goal

pub returns-clause-keys : goal.returns-clause-keys
returns-clause-keys c =
    c.keys_in.ensures.keys
    ∙ ap (count_by (λ (column : declared.Column). schema.is_table c.args.child column.child)) c.deref.ensures.0
    ∙ sym (counted_mapped column_of (λ (column : schema.Column). schema.is_table c.args.child column.child) c.args.table.now.columns.items)
    ∙ sym (places_counted (λ (column : schema.Column). schema.is_table c.args.child column.child) _ 0)
