use Rattle.std.proofs.Common.{◌≡◌, ◌||◌, Some, map, slice_get, ◌∙◌, sym, ap}
use Rattle.ghost_model.specs.refusals.SchemaMeaning.{columns_written}
use Rattle.ghost_model.specs.refusals.SchemaFaults as faults
use Rattle.tree_schema.specs.Drafts.{table_of}
use Rattle.tree_schema.proofs.RuleSteps.{item_at, no_item, mapped_item, duplicate_nowhere, duplicate_at}
use Rattle.tree_schema.proofs.rules.is_duplicate.Goals as goal

pub returns-in-None : goal.returns-in-None
returns-in-None c =
    record { duplicate = sym (duplicate_nowhere _ c.args.table c.args.column (mapped_item table_of c.args.tables.now c.args.table _ (no_item _ _ c.in-None.ensures.lookup))) }

pub returns-then-name_repeats : goal.returns-then-name_repeats
returns-then-name_repeats c =
    let there : slice_get (map table_of c.args.tables.now) c.args.table ≡ Some (table_of c.in-Some.found.now) = mapped_item table_of c.args.tables.now c.args.table _ (item_at _ _ c.in-Some.found c.in-Some.ensures.lookup) in
    record {
      duplicate = sym (duplicate_at _ c.args.table c.args.column (table_of c.in-Some.found.now) there
          ∙ ap (λ b. b || faults.repeats (map faults.declared_name (columns_written (table_of c.in-Some.found.now))) c.args.column) (sym c.name_repeats.ensures.repeats ∙ c.if-name_repeats.true));
    }

pub returns-else-name_repeats : goal.returns-else-name_repeats
returns-else-name_repeats c =
    let there : slice_get (map table_of c.args.tables.now) c.args.table ≡ Some (table_of c.in-Some.found.now) = mapped_item table_of c.args.tables.now c.args.table _ (item_at _ _ c.in-Some.found c.in-Some.ensures.lookup) in
    record {
      duplicate = c.column_repeats.ensures.repeats
          ∙ sym (duplicate_at _ c.args.table c.args.column (table_of c.in-Some.found.now) there
          ∙ ap (λ b. b || faults.repeats (map faults.declared_name (columns_written (table_of c.in-Some.found.now))) c.args.column) (sym c.name_repeats.ensures.repeats ∙ c.if-name_repeats.false));
    }
