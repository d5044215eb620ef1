use Rattle.std.proofs.Common.{◌≡◌, ◌≤◌, ◌+◌, ◌++◌, length, map}
use Rattle.arrayvec.specs.ArrayVec.{array_vec_len}
use Rattle.ghost_model.specs.laws.ShortWords.{tests_of}
use Rattle.spj_parse.specs.Views.{grouped, member_of}
use Rattle.channel_codec.specs.AskViews.{test_view}
use Rattle.script_asks.proofs.queries.tests_for.Given as goal

abbrev pub invariant-groups : goal.invariant-groups
invariant-groups l = record {
  told : map test_view l.tests.items ++ tests_of l.schema l.table (grouped (map member_of l.left)) ≡ tests_of l.schema l.table (grouped (map member_of l.members));
  room : array_vec_len l.tests + length l.left ≤ length l.members;
}

abbrev pub decreases-groups : goal.decreases-groups
decreases-groups l = length l.left
