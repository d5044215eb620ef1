use Rattle.std.proofs.Common.{◌∙◌, sym}
use Rattle.script_asks.proofs.ScriptLemmas.{read_asks}
use Rattle.script_asks.proofs.scripts.hand_of.Goals as goal

pub returns-in-Some : goal.returns-in-Some
returns-in-Some c = record {
  asks = sym c.in-Some.ensures.some ∙ read_asks c.args.schema.now c.args.text.now c.in-Ok.query c.joins_count_once.ensures c.in-Ok.ensures.meaning;
}

pub returns-in-None : goal.returns-in-None
returns-in-None c = record {
  asks = sym c.in-None.ensures.none ∙ read_asks c.args.schema.now c.args.text.now c.in-Ok.query c.joins_count_once.ensures c.in-Ok.ensures.meaning;
}
