use Rattle.host_exec.proofs.GrownColumns.{one_made}
use Rattle.host_exec.proofs.columns.no_rows.Goals as goal

pub kinds-preserved : goal.kinds-preserved
kinds-preserved c =
    one_made c.args.kinds.now c.kinds.rest.now c.in-Some.later.now c.in-Some.kind.now c.kinds.cells.items c.push.new.self.items c.new.result
    c.kinds.invariant c.in-Some.ensures.cases.0 c.in-Ok.ensures.items c.new.ensures.kind c.new.ensures.values
