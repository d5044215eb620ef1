use Rattle.std.proofs.Common.{arith}
use Rattle.spill_pass.proofs.placed.PlaceReaderListSource.will_call.Goals as goal

pub will_read-requires : goal.will_read-requires
will_read-requires c =
    let can = c.requires.ready.1.1 in
    record {
      width = can.places.width;
      within = λ within. omega (arith, can.places.run.pages c.args.self.now.at within, can.places.run.small);
      out = can.places.buffer.out;
    }
