use Rattle.std.proofs.Common.{◌*◌, ◌≤◌, length, map, ap, ◌∙◌, arith}
use Rattle.ghost_model.specs.core.Asks.{asked_from}
use Rattle.ghost_model.specs.readings.QueryReading.{reading}
use Rattle.script_asks.specs.Left.{are_numbered, are_proper}
use Rattle.script_asks.proofs.ScriptLemmas.{proper_from, numbered_from}
use Rattle.script_asks.proofs.scripts.ScriptAsks.new.Goals as goal

pub returns-clause-proper : goal.returns-clause-proper
returns-clause-proper c =
    ap (are_proper c.args.schema.now) c.fetch-hand.ensures.left ∙ proper_from c.args.schema.now 1 c.new-texts.result c.asks_are_proper.ensures

pub returns-clause-numbered : goal.returns-clause-numbered
returns-clause-numbered c =
    ap are_numbered c.fetch-hand.ensures.left
    ∙ numbered_from c.args.schema.now 1 c.new-texts.result (omega arith) (omega (arith, c.requires.few, ap length c.new-texts.ensures.all))

pub returns-clause-count : goal.returns-clause-count
returns-clause-count c =
    let few : length c.args.schema.now ≤ 12 = omega (arith, c.tables-tables.ensures.count, c.tables-tables.ensures.few) in
    let a : length (asked_from c.args.schema.now 1 (map (reading c.args.schema.now) c.new-texts.result)) ≤ 12 * length c.new-texts.result =
    c.asks_are_few.ensures c.args.schema.now c.new-texts.result few in
    let e = ap length c.fetch-hand.ensures.left in
    omega (arith, a, e, c.requires.few, ap length c.new-texts.ensures.all)
