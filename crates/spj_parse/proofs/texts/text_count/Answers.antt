use Rattle.std.proofs.Common.{◌≤◌, true, length, arith}
use Rattle.ghost_model.specs.core.Texts.{texts_of}
use Rattle.spj_parse.proofs.PartLemmas.{few_texts}
use Rattle.spj_parse.proofs.texts.text_count.Goals as goal

pub returns : goal.returns
returns c = record {
  count = let few : length (texts_of c.args.script.now) ≤ length c.args.script.now = few_texts true c.args.script.now in
      let total = c.loop-count.invariant in
      omega (arith, few, total, c.loop-count-test.false);
}
