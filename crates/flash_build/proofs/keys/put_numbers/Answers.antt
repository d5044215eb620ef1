use Rattle.std.proofs.Common.{sym}
use Rattle.ghost_base.specs.Views.{value_of}
use Rattle.flash_build.proofs.KeyNumbers.{one_put}
use Rattle.flash_build.proofs.keys.put_numbers.Goals as goal

pub loop-place-preserved : goal.loop-place-preserved
loop-place-preserved c =
    one_put c.args.stored.now.values c.args.out.now.items c.loop-place.place c.loop-place.out.items c.put_number.new.out.items (value_of c.in-Some.value)
    c.loop-place.invariant (sym c.in-Some.ensures) c.in_ok-put_number.ensures
