use Rattle.std.proofs.Common.{◌≡◌, false}
use Rattle.tree_schema.proofs.Literals.{flips, stays}
use Rattle.tree_schema.proofs.tokens.literal_len.Goals as goal
use Rattle.tree_schema.proofs.tokens.literal_len.Goals.{else-ended-via-then-ended+else-byte-ne39, else-ended-via-else-ended, then-byte-eq39, else-byte-eq39+else-byte-lt32+else-byte-gt126}

pub loop-i-preserved : goal.loop-i-preserved
loop-i-preserved c =
    elim c.if-byte-eq39.branch [
      | then-byte-eq39 w ↦ flips c.args.rest.now c.loop-i.ended _ c.loop-i.i c.loop-i.invariant c.loop-i-test.true w.if-byte-eq39.true w.ended-is
      | else-byte-eq39+else-byte-lt32+else-byte-gt126 w ↦
          let inside : c.loop-i.ended ≡ false = elim c.else-ended.branch [
            | else-ended-via-then-ended+else-byte-ne39 v ↦ absurd (w.if-byte-eq39.false v.if-byte-ne39.false)
            | else-ended-via-else-ended v ↦ v.if-ended.false
          ] in
          stays c.args.rest.now c.loop-i.ended _ c.loop-i.i c.loop-i.invariant c.loop-i-test.true inside w.if-byte-eq39.false w.if-byte-lt32.false w.if-byte-gt126.false w.ended-is
    ]
