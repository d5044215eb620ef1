use Rattle.std.proofs.Common.{◌∷◌, [], arith}
use Rattle.std.proofs.lemmas.List.{length-append}
use Rattle.merge_tests.proofs.Putting.{pushed_sum}
use Rattle.merge_tests.proofs.pieces.merge_of.Goals as goal

pub returns : goal.returns
returns c = record {
  can = λ device there width.
      let was = c.pieces.invariant in
      let us = c.pieces.together.unions.items in
      let last = c.pieces.together.last in
      rw (c.new-3.ensures.cursors, c.new-3.ensures.unions, c.push.ensures.items)
      (record {
        some = omega (arith, length-append us (last ∷ []));
        sums = omega (arith, pushed_sum us last, was.sums);
        cursors = was.ready device there width;
      });
}
