use Rattle.std.proofs.Common.{arith}
use Rattle.csv_split.proofs.ImageCells.{all_rows, one_row}
use Rattle.csv_split.proofs.image.put_rows.Goals as goal

pub loop-place-preserved : goal.loop-place-preserved
loop-place-preserved c =
    one_row c.args.kinds.now c.args.columns.now c.args.rows c.loop-place.place c.args.out.now.items c.loop-place.out.items c.put_row.new.out.items
    c.loop-place.invariant c.loop-place-test.true c.in_ok-put_row.ensures

pub returns : goal.returns
returns c =
    all_rows c.args.kinds.now c.args.columns.now c.args.rows c.loop-place.place c.args.out.now.items c.loop-place.out.items
    c.loop-place.invariant (omega (arith, c.loop-place-test.false))
