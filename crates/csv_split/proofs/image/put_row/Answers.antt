use Rattle.std.proofs.Common.{inr, arith}
use Rattle.ghost_base.specs.declared.kind.Kind.TheVariants as kind
use Rattle.csv_split.proofs.ImageCells.{all_cells, one_cell, row_reaches}
use Rattle.csv_split.proofs.image.put_row.Goals as goal

pub put_cell-requires : goal.put_cell-requires
put_cell-requires c =
    row_reaches c.args.columns.now c.loop-i.i c.args.place c.index-columns-i.result c.requires c.loop-i-test.true c.index-columns-i.is

pub loop-i-preserved : goal.loop-i-preserved
loop-i-preserved c =
    one_cell c.args.kinds.now c.args.columns.now c.args.place c.loop-i.i c.args.out.now.items c.loop-i.out.items c.put_cell.new.out.items kind.Integer c.index-columns-i.result
    c.loop-i.invariant (omega arith) c.loop-i-test.true c.index-columns-i.is c.in_ok-put_cell.ensures

pub returns : goal.returns
returns c =
    all_cells c.args.kinds.now c.args.columns.now c.args.place c.loop-i.i c.args.out.now.items c.loop-i.out.items c.loop-i.invariant (inr (omega (arith, c.loop-i-test.false)))
