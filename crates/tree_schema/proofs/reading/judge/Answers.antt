use Rattle.std.proofs.Common.{◌≡◌, rules, Ok, None, map, sym, ap, ◌∙◌}
use Rattle.ghost_model.specs.refusals.SchemaMeaning as meaning
use Rattle.ghost_model.specs.refusals.Rules.{first_broken}
use Rattle.ghost_model.specs.refusals.SchemaFaults as faults
use Rattle.ghost_model.specs.readings.SchemaReading.{schema_judged, schema_or}
use Rattle.tree_schema.specs.Drafts.{table_of}
use Rattle.tree_schema.specs.Faults.{fault_of_tree}
use Rattle.tree_schema.specs.Views as views
use Rattle.tree_schema.proofs.BuildingSteps.{tree_decides}
use Rattle.tree_schema.proofs.reading.judge.Goals as goal

pub returns-in_err-check_tree : goal.returns-in_err-check_tree
returns-in_err-check_tree c =
    let decided : first_broken (faults.rules_of_schemas (map table_of c.args.drafts.now)) ≡ fault_of_tree (views.schema_of c.deref.result.now) = tree_decides _ (sym c.in_ok-check_texts.ensures.refused)
    ∙ ap fault_of_tree (sym c.tables_of-tables.ensures.tables ∙ ap views.schema_of (sym c.deref.ensures.0)) in
    record { reading = rw decided (search rules) }

pub of-requires : goal.of-requires
of-requires c =
    let decided : first_broken (faults.rules_of_schemas (map table_of c.args.drafts.now)) ≡ None = tree_decides _ (sym c.in_ok-check_texts.ensures.refused)
    ∙ ap fault_of_tree (sym c.tables_of-tables.ensures.tables ∙ ap views.schema_of (sym c.deref.ensures.0)) ∙ sym c.in_ok-check_tree.ensures.refused in
    record {
      declared = record {
        text = c.requires.spelled.text;
        means = ap schema_judged c.requires.spelled.reads ∙ ap (schema_or (meaning.schema_of (map table_of c.args.drafts.now))) decided ∙ ap Ok (sym c.tables_of-tables.ensures.tables);
      };
    }

pub returns : goal.returns
returns c =
    let decided : first_broken (faults.rules_of_schemas (map table_of c.args.drafts.now)) ≡ None = tree_decides _ (sym c.in_ok-check_texts.ensures.refused)
    ∙ ap fault_of_tree (sym c.tables_of-tables.ensures.tables ∙ ap views.schema_of (sym c.deref.ensures.0)) ∙ sym c.in_ok-check_tree.ensures.refused in
    record {
      reading = ap Ok (c.of.ensures.schema ∙ c.tables_of-tables.ensures.tables) ∙ sym (ap (schema_or (meaning.schema_of (map table_of c.args.drafts.now))) decided);
    }
