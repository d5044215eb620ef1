use Rattle.std.proofs.Common.{◌∙◌, sym}
use Rattle.std.specs.List.{list_any}
use Rattle.script_asks.specs.Shown.{mixes_column}
use Rattle.script_asks.proofs.QueryLemmas.{no_group}
use Rattle.script_asks.proofs.queries.any_mixed_with.Goals as goal

pub returns : goal.returns
returns c = record {
  mixed = sym (no_group (list_any (mixes_column c.args.schema.now c.args.table c.args.column)) c.groups.left.now c.in_default.ensures.none) ∙ c.groups.invariant;
}
