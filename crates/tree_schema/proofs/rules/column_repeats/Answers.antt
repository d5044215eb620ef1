use Rattle.std.proofs.Common.{◌≡◌, ◌-◌, ◌||◌, suc, bytes_eq, map, take, slice_get, ◌∙◌, sym, ap, arith}
use Rattle.std.specs.List.{list_any}
use Rattle.ghost_model.specs.refusals.SchemaMeaning.{columns_written}
use Rattle.ghost_model.specs.refusals.SchemaFaults as faults
use Rattle.ghost_model.specs.refusals.Tokens as tokens
use Rattle.tree_schema.specs.Drafts.{column_of, table_of}
use Rattle.tree_schema.proofs.RuleSteps.{item_at, no_item, no_column_repeats, column_repeats_by}
use Rattle.tree_schema.proofs.rules.column_repeats.Goals as goal

pub returns-then-place-eq0 : goal.returns-then-place-eq0
returns-then-place-eq0 c =
    record { repeats = sym (ap (faults.repeats (map faults.declared_name (columns_written (table_of c.args.table.now)))) c.if-place-eq0.true) }

pub returns-in-None : goal.returns-in-None
returns-in-None c =
    let behind : c.args.place ≡ suc (c.args.place - 1) = omega (arith, c.if-place-eq0.false) in
    record {
      repeats = sym (no_column_repeats c.args.table.now.first c.args.table.now.others.items c.args.place (c.args.place - 1) behind
          (ap (λ columns. slice_get columns (c.args.place - 1)) (sym c.deref.ensures.0) ∙ no_item _ _ c.in-None.ensures.lookup));
    }

pub returns-then-is_word : goal.returns-then-is_word
returns-then-is_word c =
    let behind : c.args.place ≡ suc (c.args.place - 1) = omega (arith, c.if-place-eq0.false) in
    record {
      repeats = sym (column_repeats_by c.args.table.now.first c.args.table.now.others.items c.args.place (c.args.place - 1) c.in-Some.column.now behind
          (ap (λ columns. slice_get columns (c.args.place - 1)) (sym c.deref.ensures.0) ∙ item_at _ _ c.in-Some.column c.in-Some.ensures.lookup)
          ∙ ap (λ b. b || list_any (λ other. bytes_eq (faults.declared_name (column_of c.in-Some.column.now)) (faults.declared_name (column_of other))) (take (c.args.place - 1) c.args.table.now.others.items))
          (ap (λ name. bytes_eq name (faults.declared_name (column_of c.args.table.now.first))) (sym c.column_name-name.ensures.name)
          ∙ ap (bytes_eq (tokens.in_lower_case c.column_name-name.result.now)) (sym c.column_name.ensures.name) ∙ sym c.is_word.ensures ∙ c.if-is_word.true));
    }

pub returns-else-is_word : goal.returns-else-is_word
returns-else-is_word c =
    let behind : c.args.place ≡ suc (c.args.place - 1) = omega (arith, c.if-place-eq0.false) in
    record {
      repeats = c.has_column.ensures.has
          ∙ ap (λ columns. list_any (λ other. bytes_eq (tokens.in_lower_case c.column_name-name.result.now) (faults.declared_name (column_of other))) (take (c.args.place - 1) columns)) c.deref-in-Some.ensures.0
          ∙ ap (λ name. list_any (λ other. bytes_eq name (faults.declared_name (column_of other))) (take (c.args.place - 1) c.args.table.now.others.items)) c.column_name-name.ensures.name
          ∙ sym (column_repeats_by c.args.table.now.first c.args.table.now.others.items c.args.place (c.args.place - 1) c.in-Some.column.now behind
          (ap (λ columns. slice_get columns (c.args.place - 1)) (sym c.deref.ensures.0) ∙ item_at _ _ c.in-Some.column c.in-Some.ensures.lookup)
          ∙ ap (λ b. b || list_any (λ other. bytes_eq (faults.declared_name (column_of c.in-Some.column.now)) (faults.declared_name (column_of other))) (take (c.args.place - 1) c.args.table.now.others.items))
          (ap (λ name. bytes_eq name (faults.declared_name (column_of c.args.table.now.first))) (sym c.column_name-name.ensures.name)
          ∙ ap (bytes_eq (tokens.in_lower_case c.column_name-name.result.now)) (sym c.column_name.ensures.name) ∙ sym c.is_word.ensures ∙ c.if-is_word.false));
    }
