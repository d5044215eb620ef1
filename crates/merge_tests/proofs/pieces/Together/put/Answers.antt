use Rattle.merge_tests.proofs.pieces.Together.put.Goals as goal

pub returns-in-Range-clause-ready : goal.returns-in-Range-clause-ready
returns-in-Range-clause-ready c = λ device there width ready. c.put_range.ensures.ready device c.args.pool.now ready
