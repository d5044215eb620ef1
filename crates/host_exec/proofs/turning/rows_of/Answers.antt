use Rattle.host_exec.proofs.Numbers.{none_at, some_at, few_at}
use Rattle.host_exec.proofs.turning.rows_of.Goals as goal

pub returns-in-None-clause-rows : goal.returns-in-None-clause-rows
returns-in-None-clause-rows c = none_at c.args.catalog.now.counts c.args.table c.in-None.ensures

pub returns-in-Some-clause-rows : goal.returns-in-Some-clause-rows
returns-in-Some-clause-rows c = some_at c.args.catalog.now.counts c.args.table c.in-Some.rows c.in-Some.ensures

pub returns-in-Some-clause-few : goal.returns-in-Some-clause-few
returns-in-Some-clause-few c = few_at 1000000 c.args.catalog.now.counts c.args.table c.in-Some.rows c.schema.ensures.catalog.within c.in-Some.ensures
