use Rattle.std.proofs.Common.{◌∙◌, sym, ap}
use Rattle.ghost_model.specs.refusals.SchemaGrammar.{TableText}
use Rattle.ghost_model.specs.refusals.SchemaFaults as faults
use Rattle.ghost_model.specs.refusals.Tokens as tokens
use Rattle.tree_schema.specs.declared.syntax.TableDraft.{TableDraft}
use Rattle.tree_schema.specs.Drafts.{table_of}
use Rattle.tree_schema.proofs.RuleSteps.{item_at, no_item, mapped_item, map_twice, repeats_at, repeats_past}
use Rattle.tree_schema.proofs.rules.table_repeats.Goals as goal

pub returns-in-None : goal.returns-in-None
returns-in-None c =
    record { repeats = sym (repeats_past (λ (table : TableText). table.name) _ c.args.place (mapped_item table_of c.args.tables.now c.args.place _ (no_item _ _ c.in-None.ensures.lookup))) }

pub returns-in-Some : goal.returns-in-Some
returns-in-Some c =
    record {
      repeats = c.has_table.ensures.has
          ∙ repeats_at (λ (table : TableDraft). tokens.in_lower_case table.name.now) c.args.tables.now c.args.place c.in-Some.table.now (item_at c.args.tables.now c.args.place c.in-Some.table c.in-Some.ensures.lookup)
          ∙ ap (λ names. faults.repeats names c.args.place) (sym (map_twice (λ (table : TableText). table.name) table_of c.args.tables.now));
    }
