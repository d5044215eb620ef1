use Rattle.std.proofs.Common.{◌≡◌, ◌+◌, drop}
use Rattle.spj_parse.specs.Views.{others_after}
use Rattle.spj_parse.proofs.groups.others_after.Given as goal

abbrev pub invariant-loop-place : goal.invariant-loop-place
invariant-loop-place l = others_after l.first.more l.behind ≡ others_after l.more (drop l.place l.behind) + l.place
