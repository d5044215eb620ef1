use Rattle.merge_tests.proofs.Putting.{has_bytes}
use Rattle.merge_tests.proofs.codes.bytes_of.Goals as goal

pub returns-clause-run : goal.returns-clause-run
returns-clause-run c = λ device there. has_bytes device c.args.numbers.now c.requires.width there
