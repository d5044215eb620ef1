use Rattle.std.proofs.Common.{◌∙◌, sym, ap, not}
use Rattle.std.specs.List.{list_any}
use Rattle.ghost_model.specs.refusals.SchemaFaults as faults
use Rattle.tree_schema.specs.Drafts.{column_of}
use Rattle.tree_schema.proofs.RuleSteps.{any_mapped, or_right}
use Rattle.tree_schema.proofs.rules.lacks_id.Goals as goal

pub returns-else-not-is_identifier : goal.returns-else-not-is_identifier
returns-else-not-is_identifier c =
    record {
      lacks = or_right _ _ _ (c.is_one_primary.ensures.primary ∙ ap (λ columns. list_any (λ column. faults.is_primary (column_of column)) columns) c.deref.ensures.0 ∙ any_mapped column_of faults.is_primary c.args.table.now.others.items)
          (ap not (sym c.is_identifier.ensures.identifier ∙ c.if-not-is_identifier.false));
    }
