use Rattle.std.proofs.Common.{◌≡◌, ◌+◌, ◌++◌, length, map}
use Rattle.arrayvec.specs.ArrayVec.{array_vec_len}
use Rattle.spj_parse.specs.Views.{member_of}
use Rattle.channel_codec.specs.AskViews.{test_view}
use Rattle.script_asks.specs.Shown.{group_tests}
use Rattle.script_asks.proofs.queries.push_group.Given as goal

abbrev pub invariant-members : goal.invariant-members
invariant-members l = record {
  told : map test_view l.tests.items ++ group_tests (member_of l.last).member (map (λ one. (member_of one).member) l.rest)
      ≡ map test_view l.fn.tests.items ++ group_tests (member_of l.first).member (map (λ one. (member_of one).member) l.others);
  room : array_vec_len l.tests + length l.rest ≡ array_vec_len l.fn.tests + length l.others;
}

abbrev pub decreases-members : goal.decreases-members
decreases-members l = length l.rest
