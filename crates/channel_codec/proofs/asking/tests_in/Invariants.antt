use Rattle.std.proofs.Common.{◌≡◌, ◌+◌, ◌≤◌, ◌++◌, map}
use Rattle.arrayvec.specs.ArrayVec.{array_vec_len}
use Rattle.ghost_model.specs.readings.AskReading as reading
use Rattle.channel_codec.specs.AskViews.{test_view}
use Rattle.channel_codec.proofs.asking.tests_in.Given as goal

abbrev pub invariant-tests : goal.invariant-tests
invariant-tests l = record {
  told : map test_view l.tests.items ++ reading.tests_in l.schema l.table l.left l.rest ≡ reading.tests_in l.schema l.table l.count l.bytes;
  room : array_vec_len l.tests + l.left ≤ 16;
}

abbrev pub decreases-tests : goal.decreases-tests
decreases-tests l = l.left
