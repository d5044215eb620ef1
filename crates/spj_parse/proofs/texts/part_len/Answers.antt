use Rattle.std.proofs.Common.{sym, ◌∙◌}
use Rattle.spj_parse.proofs.PartLemmas.{reads_on, cuts, ends}
use Rattle.spj_parse.proofs.texts.part_len.Goals as goal

pub returns-then-is_cut : goal.returns-then-is_cut
returns-then-is_cut c = record { cuts = cuts c.args.script.now c.loop-i.even c.loop-i.i c.loop-i.invariant c.loop-i-test.true (sym c.is_cut.ensures.cut ∙ c.if-is_cut.true) }

pub loop-i-preserved : goal.loop-i-preserved
loop-i-preserved c =
    reads_on c.args.script.now c.loop-i.even c.is_even_after-even.result c.loop-i.i c.loop-i.invariant c.loop-i-test.true (sym c.is_cut.ensures.cut ∙ c.if-is_cut.false) c.is_even_after-even.ensures.even

pub returns : goal.returns
returns c = record { cuts = ends c.args.script.now c.loop-i.even c.loop-i.i c.loop-i.invariant c.loop-i-test.false }
