use Rattle.spill_pass.proofs.Reducing.{renewed}
use Rattle.spill_pass.proofs.reduce.renew.Goals as goal

pub returns-clause-renews : goal.returns-clause-renews
returns-clause-renews c = λ leases are.
    let n = c.in-Some.ensures in
    renewed c.args.pool.now c.args.lease c.in-Some.other leases c.give.ensures.given n.leased n.was_free are
