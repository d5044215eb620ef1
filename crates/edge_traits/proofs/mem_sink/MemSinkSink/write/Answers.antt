use Rattle.edge_traits.proofs.Growth.{took_nothing}
use Rattle.edge_traits.proofs.mem_sink.MemSinkSink.write.Goals as goal

pub returns-in_err-begin-clause-failed : goal.returns-in_err-begin-clause-failed
returns-in_err-begin-clause-failed c = took_nothing c.from_residual.result c.args.self.now.bytes.items c.args.bytes.now
