use Rattle.flash_build.proofs.KeyNumbers.{ArePutSoFar}
use Rattle.flash_build.proofs.keys.put_numbers.Given as goal

abbrev pub invariant-loop-place : goal.invariant-loop-place
invariant-loop-place l = ArePutSoFar l.stored.values l.initial.out.items l.place l.out.items
