use Rattle.std.proofs.Common.{rules, length}
use Rattle.edge_traits.specs.declared.Failed.{Failed}
use Rattle.host_exec.proofs.Heard.{filled, not_filled, counted_well, counted_in_vain}
use Rattle.host_exec.proofs.session.fill_whole.Goals as goal

pub returns-in-Ok : goal.returns-in-Ok
returns-in-Ok g c = record {
  came = filled {E = Failed} _ (length c.args.buf.now) c.in-Ok.count c.fill.new.buf (search rules) c.in-Ok.ensures.within
      (counted_well _ (length c.args.buf.now) c.in-Ok.count _ _ c.fill.new.buf c.in-Ok.ensures.cause.other c.in-Ok.ensures.moved);
}

pub returns-in-Err : goal.returns-in-Err
returns-in-Err g c = record {
  came = not_filled {E = Failed} _ (length c.args.buf.now) c.in-Err.field-0 c.fill.new.buf
      (counted_in_vain _ (length c.args.buf.now) _ _ c.in-Err.field-0 c.fill.new.buf c.in-Err.ensures.cause.never_falls c.in-Err.ensures.cause.failed c.in-Err.ensures.moved);
}
