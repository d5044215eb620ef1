use Rattle.std.proofs.Common.{true, false, ◌+◌, sym, subst}
use Rattle.spj_parse.proofs.LiteralLemmas.{Stands, closes, gives, whole, open_ended}
use Rattle.spj_parse.proofs.literals.text_behind.Goals as goal
use Rattle.spj_parse.proofs.literals.text_behind.Goals.{in-Closes, in-Gives}

pub loop-byte-preserved : goal.loop-byte-preserved
loop-byte-preserved c =
    elim c.match-step_in_text.branch [
      | in-Closes w ↦ subst (λ ended. Stands c.args.inside.now ended c.match-step_in_text.text (c.loop-byte.byte-index + 1)) (sym w.ended-is)
          (subst (λ text. Stands c.args.inside.now true text (c.loop-byte.byte-index + 1)) (sym w.text-is)
          (closes c.args.inside.now c.loop-byte.ended c.loop-byte.text c.loop-byte.byte-index c.loop-byte.invariant c.loop-byte-test.true w.in-Closes.ensures.step))
      | in-Gives w ↦ subst (λ ended. Stands c.args.inside.now ended c.match-step_in_text.text (c.loop-byte.byte-index + 1)) (sym w.ended-is)
          (subst (λ text. Stands c.args.inside.now false text (c.loop-byte.byte-index + 1)) (sym w.text-is)
          (gives c.args.inside.now c.loop-byte.ended c.loop-byte.text _ c.loop-byte.byte-index c.loop-byte.invariant c.loop-byte-test.true w.in-Gives.ensures.step w.push.ensures.text))
    ]

pub returns-then-ended : goal.returns-then-ended
returns-then-ended c = record { text = whole c.args.inside.now c.loop-byte.ended c.loop-byte.text c.loop-byte.byte-index c.loop-byte.invariant c.loop-byte-test.false c.if-ended.true }

pub returns-else-ended : goal.returns-else-ended
returns-else-ended c = record {
  text = open_ended c.args.inside.now c.loop-byte.ended c.loop-byte.text _ c.loop-byte.byte-index c.loop-byte.invariant c.loop-byte-test.false c.if-ended.false c.empty-else-ended.ensures.text;
}
