use Rattle.ghost_model.specs.core.Asks.{is_column}
use Rattle.script_asks.proofs.QueryLemmas.{some_then, some_else}
use Rattle.script_asks.proofs.queries.names_column.Goals as goal

pub returns-then-is_field : goal.returns-then-is_field
returns-then-is_field c = record {
  named = some_then (λ one. is_column c.args.table c.args.column one.field) c.args.first.now c.args.others.now c.is_field.result c.is_field.ensures c.if-is_field.true;
}

pub returns-else-is_field : goal.returns-else-is_field
returns-else-is_field c = record {
  named = some_else (λ one. is_column c.args.table c.args.column one.field) c.args.first.now c.args.others.now c.is_field.result c.any_names.result
      c.is_field.ensures c.if-is_field.false c.any_names.ensures.named;
}
