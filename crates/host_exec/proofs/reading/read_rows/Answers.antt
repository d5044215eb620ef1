use Rattle.std.proofs.Common.{map, refl, ◌∙◌, arith}
use Rattle.ghost_base.specs.Views.{kind_of}
use Rattle.host_exec.proofs.ReadTables.{none_read, more_read}
use Rattle.host_exec.proofs.reading.read_rows.Goals as goal

pub pieces-init : goal.pieces-init
pieces-init g c = record {
  same = refl;
  faults = refl;
  appends = refl;
  sure = λ is. is;
  within = omega (arith, c.requires.none);
  columns = c.requires.columns;
  read = none_read (g.D.Depot.contents c.args.depot.now) c.args.name.now (map kind_of c.args.kinds.now) c.args.start c.args.width c.args.columns.now c.requires.none;
}

pub pieces-preserved : goal.pieces-preserved
pieces-preserved g c = record {
  same = c.in_ok-read_piece.ensures.same ∙ c.pieces.invariant.same;
  faults = c.in_ok-read_piece.ensures.cause.other ∙ c.pieces.invariant.faults;
  appends = c.in_ok-read_piece.ensures.appends ∙ c.pieces.invariant.appends;
  sure = λ is. c.in_ok-read_piece.ensures.stays_sure (c.pieces.invariant.sure is);
  within = c.in_ok-read_piece.ensures.within;
  columns = c.in_ok-read_piece.ensures.columns;
  read = more_read (g.D.Depot.contents c.args.depot.now) (g.D.Depot.contents c.pieces.depot) c.args.name.now (map kind_of c.args.kinds.now) c.args.start c.args.width
      c.args.columns.now c.pieces.columns c.read_piece.new.columns c.pieces.invariant.same c.in_ok-read_piece.ensures.goes_on c.pieces.invariant.read c.in_ok-read_piece.ensures.read;
}
