use Rattle.std.proofs.lemmas.Result.{IfOk-weaker}
use Rattle.ghost_base.specs.Runs.{run_of}
use Rattle.index_tests.proofs.ListRuns.{listed}
use Rattle.index_tests.proofs.found.list_at.Goals as goal

pub returns-clause-run : goal.returns-clause-run
returns-clause-run c =
    IfOk-weaker c.list.result _ _ (λ list is. listed _ c.args.index.now.directory c.list.ensures.always.readable.directory c.args.level (run_of list.run) is)
    c.list.ensures.always.run
