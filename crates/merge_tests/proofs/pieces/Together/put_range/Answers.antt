use Rattle.id_merge.proofs.Laws.{ready_range}
use Rattle.merge_tests.proofs.pieces.Together.put_range.Goals as goal

pub returns-clause-ready : goal.returns-clause-ready
returns-clause-ready c = λ device pool ready. rw (c.push.ensures.items) (ready_range c.args.self.now.cursors.items c.args.low c.args.high ready)
