use Rattle.std.proofs.Common.{◌<◌, ◌+◌, length, sym, arith}
use Rattle.spj_parse.proofs.Places.{place_below}
use Rattle.spj_parse.proofs.resolve.join_to.Goals as goal

pub overflow_cast-result : goal.overflow_cast-result
overflow_cast-result c =
    let below : c.in-Some.holder < 0 + length c.args.schema.now = place_below _ 0 c.in-Some.holder c.args.schema.now (sym c.in-Some.ensures) in
    omega (arith, below, c.tables.ensures.few, c.tables.ensures.count)
