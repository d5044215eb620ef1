use Rattle.std.proofs.Common.{◌∙◌, ap}
use Rattle.std.specs.List.{list_any}
use Rattle.script_asks.specs.Shown.{mixes_column}
use Rattle.script_asks.proofs.QueryLemmas.{mixed_aside}
use Rattle.script_asks.proofs.queries.is_mixed.Goals as goal

pub returns : goal.returns
returns c = record {
  mixed = c.any_mixed_with.ensures.mixed
      ∙ (ap (list_any (mixes_column c.args.schema.now c.args.table c.args.column)) c.members.ensures.grouped
      ∙ mixed_aside c.args.schema.now c.args.table c.args.column c.args.query.now.conditions);
}
