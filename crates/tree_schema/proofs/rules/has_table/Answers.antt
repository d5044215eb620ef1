use Rattle.std.proofs.Common.{bytes_eq, ap, sym, ◌∙◌}
use Rattle.ghost_model.specs.refusals.Tokens as tokens
use Rattle.tree_schema.specs.declared.syntax.TableDraft.{TableDraft}
use Rattle.tree_schema.proofs.AnySteps.{none_yet, fails_here, passes_here, none_passes}
use Rattle.tree_schema.proofs.rules.has_table.Goals as goal

pub loop-table-init : goal.loop-table-init
loop-table-init c = none_yet _ _

pub returns-then-is_word : goal.returns-then-is_word
returns-then-is_word c =
    record {
      has = sym (passes_here _ _ _ c.table-item.result c.loop-table.invariant c.loop-table-test.true
          (ap (λ (table : TableDraft). bytes_eq (tokens.in_lower_case c.args.name.now) (tokens.in_lower_case table.name.now)) (sym c.table-item.is) ∙ sym c.is_word.ensures ∙ c.if-is_word.true));
    }

pub loop-table-preserved : goal.loop-table-preserved
loop-table-preserved c =
    fails_here _ _ _ c.table-item.result c.loop-table.invariant c.loop-table-test.true
    (ap (λ (table : TableDraft). bytes_eq (tokens.in_lower_case c.args.name.now) (tokens.in_lower_case table.name.now)) (sym c.table-item.is) ∙ sym c.is_word.ensures ∙ c.if-is_word.false)

pub returns : goal.returns
returns c = record { has = sym (none_passes _ _ _ c.loop-table.invariant c.loop-table-test.false) }
