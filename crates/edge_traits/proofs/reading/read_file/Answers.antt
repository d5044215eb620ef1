use Rattle.std.proofs.Common.{rules, ◌∙◌}
use Rattle.edge_traits.proofs.WholeFile.{goes_on_along}
use Rattle.edge_traits.proofs.reading.read_file.Goals as goal

pub loop-bytes-preserved : goal.loop-bytes-preserved
loop-bytes-preserved g c = record {
  same = c.in_ok-count.ensures.same ∙ c.loop-bytes.invariant.same;
  faults = c.in_ok-count.ensures.cause.other ∙ c.loop-bytes.invariant.faults;
  appends = c.in_ok-count.ensures.appends ∙ c.loop-bytes.invariant.appends;
  stays_sure = λ other is. c.in_ok-count.ensures.stays_sure other (c.loop-bytes.invariant.stays_sure other is);
  within = c.in_ok-add_piece.ensures.still_within;
  starts = goes_on_along _ (g.D.Depot.contents c.loop-bytes.depot) c.args.name.now c.loop-bytes.bytes.items c.add_piece.new.bytes.items c.loop-bytes.piece c.read_at.new.buf c.len.result c.in_ok-count.count c.loop-bytes.invariant.same c.loop-bytes.invariant.starts c.in_ok-count.ensures.bytes (search rules) (search rules) c.in_ok-add_piece.ensures.added;
}
