use Rattle.std.proofs.Common.{[]}
use Rattle.key_commands.proofs.local_lemmas.Begun.{on_replaced}
use Rattle.key_commands.proofs.local.making.begin_journal.Goals as goal

pub returns-in-Some-clause-begun : goal.returns-in-Some-clause-begun
returns-in-Some-clause-begun g c =
    rw c.in-Some.is (on_replaced c.replace.result (g.D.Depot.contents c.args.depot.now) (g.D.Depot.contents c.replace.new.self) c.in-Some.name.now [] c.replace.ensures.replaced)
